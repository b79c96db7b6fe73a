-- `orders::put_ring`: before seat k those of the ring before it have places.
use Rattle.std.proofs.Common.{ℕ, List}
use Rattle.orders.specs.Places.{Told, Placed}
use Rattle.orders.proofs.Ringing.{Ringing}
use Rattle.orders.proofs.put_ring.Given as goal

abbrev pub invariant-loop-k : goal.invariant-loop-k
invariant-loop-k l = (q ts : List ℕ) → Told q l.table → Placed ts l.initial.order.places l.initial.order.given → Ringing q l.p ts l.order.places l.order.given l.k
