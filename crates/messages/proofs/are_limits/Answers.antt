-- `messages::are_limits`: the tests are those of its definition, in turn.
use mathlib.Core.Bool.{and_assoc}
use Rattle.scope.specs.Queues.{are_limits}
use Rattle.messages.proofs.are_limits.Goals as goal

pub returns : goal.returns
unfolding are_limits
returns c = simp and_assoc
