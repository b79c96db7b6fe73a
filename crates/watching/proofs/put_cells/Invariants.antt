-- The rows so far stand in their cells; the cells past the grid are as they were.
use Rattle.watching.proofs.Laws.{Putting}
use Rattle.watching.proofs.put_cells.Given as goal

abbrev pub invariant-loop-t : goal.invariant-loop-t
invariant-loop-t l = Putting l.g l.initial.cells l.cells l.t
