-- `messages::in_form`: the test of all cells passed.
use Rattle.laws.proofs.Testing.{Testing}
use Rattle.scope.specs.Messages.{cells_of, cell_at, cell_right}
use Rattle.messages.proofs.in_form.Given as goal

abbrev pub invariant-loop-k : goal.invariant-loop-k
invariant-loop-k l = Testing l.h (λ j. cell_right l.longest (cell_at (cells_of l.cells l.i) j)) l.ok l.k
