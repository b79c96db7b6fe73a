-- `seats::wake`: the seats and the seat behind the ring by `move_up`; who is suspended stands nowhere, as it does since it left.
use Rattle.scope.specs.Seats.{leaves}
use Rattle.std.proofs.Common.{rules}
use Rattle.seats.proofs.Laws.{woken}
use Rattle.seats.proofs.wake.Goals as goal

pub returns : goal.returns
unfolding leaves
returns c =
    let a = c.args in
    let u = c.move_up-behind in
    λ key. woken a.seat.now u.result.seats key a.t a.p _ c.seat_unless.result u.result.behind a.suspended (search rules) (search rules) c.from.ensures u.ensures.0 u.ensures.1 c.seat_unless.ensures
