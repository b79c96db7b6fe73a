-- `rules::number_on`: how many of the tasks passed are on the seat.
use Rattle.scope.specs.Seats.{is_on}
use Rattle.rules.proofs.Laws.{Counting}
use Rattle.rules.proofs.number_on.Given as goal

abbrev pub invariant-loop-y : goal.invariant-loop-y
invariant-loop-y l = Counting 32 (is_on l.q l.x) l.n l.y-index
