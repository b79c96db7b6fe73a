-- `places::none_above`: the test of all places passed.
use lib.ListN.{get_or}
use lib.Dec.{leb}
use Rattle.laws.proofs.Testing.{Testing}
use Rattle.places.proofs.none_above.Given as goal

abbrev pub invariant-loop-x : goal.invariant-loop-x
invariant-loop-x l = Testing 64 (λ j. leb (get_or l.x-items j 0) l.most) l.ok l.x-index
