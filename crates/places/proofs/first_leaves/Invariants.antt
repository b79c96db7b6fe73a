-- `places::first_leaves`: the loop maps the row in place.
use Prim.Native.Nat.{◌-◌}
use Rattle.laws.proofs.Arrays.{Changing}
use Rattle.places.proofs.first_leaves.Given as goal

abbrev pub invariant-loop-x : goal.invariant-loop-x
invariant-loop-x l = Changing 64 (λ j x. x - 1) l.fn.row l.x-items l.x-index
