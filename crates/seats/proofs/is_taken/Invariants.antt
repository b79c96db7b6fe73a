-- `seats::is_taken`: whether one of the tasks below the place is on the seat.
use Rattle.seats.proofs.Laws.{Noted}
use Rattle.seats.proofs.is_taken.Given as goal

abbrev pub invariant-loop-y : goal.invariant-loop-y
invariant-loop-y l = Noted l.y-items l.x l.taken l.y-index
