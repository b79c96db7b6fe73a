-- The records that are left, counted from this grid on, make the grid of all.
use Rattle.std.proofs.Common.{◌≡◌, drop}
use Rattle.grid.specs.Filling.{counted}
use Rattle.grid.proofs.fill.Given as goal

abbrev pub invariant-loop-grant : goal.invariant-loop-grant
invariant-loop-grant l = counted (drop l.grant-index l.list) l.filled ≡ counted l.list l.fn.g
