-- `orders::ready_places`: before ring p those above it have places.
use Rattle.orders.proofs.Ringing.{Rings}
use Rattle.orders.proofs.ready_places.Given as goal

abbrev pub invariant-loop-p : goal.invariant-loop-p
invariant-loop-p l = Rings l.seat l.order.places l.order.given l.p
