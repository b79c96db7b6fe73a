-- `seats::waiters`: how many of the tasks below the place stand in the queue.
use Rattle.std.proofs.Common.{◌≡◌}
use Rattle.scope.specs.Choice.{number}
use Rattle.scope.specs.Seats.{stands_in, queue_seats}
use Rattle.seats.proofs.waiters.Given as goal

abbrev pub invariant-loop-y : goal.invariant-loop-y
invariant-loop-y l = l.n ≡ number (stands_in l.y-items (queue_seats l.i)) l.y-index
