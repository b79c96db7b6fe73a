-- `seats::make_room`: the loop maps the seats in place by `raise`.
use Rattle.std.proofs.Common.{◌+◌}
use Rattle.laws.proofs.Arrays.{Changing}
use Rattle.scope.specs.Seats.{raise}
use Rattle.seats.proofs.make_room.Given as goal

abbrev pub invariant-loop-y : goal.invariant-loop-y
invariant-loop-y l = Changing 32 (λ j. raise l.x (l.x + l.reach)) l.fn.q l.y-items l.y-index
