-- `places::new_row`: the loop fills the row by buffers.
use Prim.Native.Nat.{◌+◌}
use lib.Dec.{ltb}
use lib.ListN.{replicate}
use Rattle.scope.specs.Choice.{pick}
use Rattle.laws.proofs.Arrays.{Changing}
use Rattle.places.proofs.new_row.Given as goal

abbrev pub invariant-loop-k : goal.invariant-loop-k
invariant-loop-k l = Changing 64 (λ j x. pick (ltb j l.n) (j + 1) 0) (replicate 64 0) l.row l.k
