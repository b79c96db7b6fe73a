-- `places::order_right`: without a buffer every place is 0; else the buffers from k on are gathered, and the words that come of it
-- are those of a right order.
use Rattle.scope.specs.Places.{row_of}
use Rattle.places.proofs.Gathering.{Gathering}
use Rattle.places.proofs.order_right.Given as goal

abbrev pub invariant-loop-k : goal.invariant-loop-k
invariant-loop-k l = Gathering (row_of l.places l.i) l.taken l.seen l.k
