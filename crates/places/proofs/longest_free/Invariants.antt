-- `places::longest_free`: what is found is the least of the buffers passed that is on the first place.
use Rattle.scope.specs.Seats.{is_on}
use Rattle.places.proofs.Rows.{Finding}
use Rattle.places.proofs.longest_free.Given as goal

abbrev pub invariant-loop-k : goal.invariant-loop-k
invariant-loop-k l = Finding 64 (is_on l.row 1) l.found l.k
