-- `orders::ready_seats`: before slot t those from it on are noted.
use Rattle.orders.proofs.Marking.{Marked}
use Rattle.orders.proofs.ready_seats.Given as goal

abbrev pub invariant-loop-t : goal.invariant-loop-t
invariant-loop-t l = Marked l.seat l.table l.t
