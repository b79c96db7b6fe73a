-- `seats::close_up`: the loop maps the seats in place by `lower`, and notes whether one of those it has made is the first of the queue.
use Rattle.std.proofs.Common.{map}
use Rattle.laws.proofs.Arrays.{Changing}
use Rattle.scope.specs.Seats.{lower, seats_end}
use Rattle.seats.proofs.Laws.{Noted}
use Rattle.seats.proofs.close_up.Given as goal

abbrev pub invariant-loop-y : goal.invariant-loop-y
invariant-loop-y l =
    Changing 32 (λ j. lower l.x (seats_end l.x)) l.fn.q l.y-items l.y-index × Noted (map (lower l.x (seats_end l.x)) l.fn.q) l.first l.held l.y-index
