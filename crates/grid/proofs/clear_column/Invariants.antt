-- The column's cell is 0 in the rows so far; the others are as they were.
use Rattle.std.proofs.Common.{◌≡◌, ℕ, List, ◌++◌, length, map, take, drop, set}
use Rattle.grid.proofs.clear_column.Given as goal

abbrev pub invariant-loop-row : goal.invariant-loop-row
invariant-loop-row l =
    (length l.fn.g ≡ 32) × (length l.row-items ≡ 32)
    × (l.row-items ≡ map (λ (row : List ℕ). set row l.semaphore 0) (take l.row-index l.fn.g) ++ drop l.row-index l.fn.g)
