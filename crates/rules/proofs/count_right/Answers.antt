-- `rules::count_right`: the units by whether any task waits.
use Rattle.scope.proofs.Counts.{right_waiting, right_free}
use Rattle.rules.proofs.count_right.Goals as goal

pub returns-then-waiting-gt0 : goal.returns-then-waiting-gt0
returns-then-waiting-gt0 c = right_waiting _ _ c.if-waiting-gt0.true

pub returns : goal.returns
returns c = right_free _ _ c.if-waiting-gt0.false
