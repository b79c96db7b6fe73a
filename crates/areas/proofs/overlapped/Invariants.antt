-- `areas::overlapped`: no pool below the slot shares a byte with the area.
use Rattle.std.proofs.Common.{◌≡◌, ℕ, ◌<◌, false}
use Rattle.scope.specs.Pools.{overlaps}
use Rattle.areas.proofs.overlapped.Given as goal

abbrev pub invariant-loop-k : goal.invariant-loop-k
invariant-loop-k l = (j : ℕ) → j < l.k → overlaps l.pools l.address l.length j ≡ false
