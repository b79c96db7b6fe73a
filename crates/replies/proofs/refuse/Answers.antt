-- `replies::refuse`: the numbers of the refusal, nobody woken, no message.
use mathlib.Core.Path.{refl}
use Rattle.scope.specs.Choice.{pick}
use Rattle.scope.specs.Answers.{bit_of}
use Rattle.replies.specs.Steps.{bad_answer}
use Rattle.replies.proofs.refuse.Goals as goal

pub returns : goal.returns
unfolding bad_answer bit_of pick
returns c = (c.put_answer.ensures, refl)
