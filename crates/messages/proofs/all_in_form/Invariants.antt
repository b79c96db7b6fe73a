-- `messages::all_in_form`: the test of all queues passed.
use Rattle.laws.proofs.Testing.{Testing}
use Rattle.scope.specs.Queues.{held_of, longest_of}
use Rattle.scope.specs.Messages.{cells_of, row_right}
use Rattle.messages.proofs.all_in_form.Given as goal

abbrev pub invariant-loop-i : goal.invariant-loop-i
invariant-loop-i l = Testing 8 (λ j. row_right (cells_of l.queues.cells j) (held_of l.queues j) (longest_of l.queues j)) l.ok l.i
