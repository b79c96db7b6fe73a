-- `seats::move_up`: the loop maps the seats in place by `lower`, and holds the least way to the queue's last of those that it has made.
use Rattle.std.proofs.Common.{map}
use Rattle.laws.proofs.Arrays.{Changing}
use Rattle.scope.specs.Seats.{lower, seats_end}
use Rattle.seats.proofs.Laws.{Nearest}
use Rattle.seats.proofs.move_up.Given as goal

abbrev pub invariant-loop-y : goal.invariant-loop-y
invariant-loop-y l =
    Changing 32 (λ j. lower l.x (seats_end l.x)) l.fn.q l.y-items l.y-index × Nearest (map (lower l.x (seats_end l.x)) l.fn.q) l.base l.least l.y-index
