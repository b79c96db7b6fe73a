-- `seats::ring_mask`: before each turn the loop holds the mask of the rings passed.
use Rattle.std.proofs.Common.{◌≡◌}
use Rattle.scope.specs.Choice.{bits}
use Rattle.scope.specs.Seats.{holds_task}
use Rattle.seats.proofs.ring_mask.Given as goal

abbrev pub invariant-loop-p : goal.invariant-loop-p
invariant-loop-p l = l.mask ≡ bits (holds_task l.q) l.p
