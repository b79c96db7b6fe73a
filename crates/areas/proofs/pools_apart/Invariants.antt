-- `areas::pools_apart`: no pair passed shares a byte.
use Rattle.std.proofs.Common.{◌≡◌, true}
use Rattle.scope.specs.Rules.{pair_shares}
use Rattle.areas.proofs.Pairs.{RowClear, RowsClear}
use Rattle.areas.proofs.pools_apart.Given as goal

abbrev pub invariant-loop-j : goal.invariant-loop-j
invariant-loop-j l = (l.apart ≡ true) × RowClear (pair_shares l.pools) l.i l.j

abbrev pub invariant-pairs : goal.invariant-pairs
invariant-pairs l = (l.apart ≡ true) × RowsClear (pair_shares l.pools) l.i
