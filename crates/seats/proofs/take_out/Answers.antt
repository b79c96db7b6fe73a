-- `seats::take_out`: the seats by `close_up`, which tells who is first since, and by that the one place of the rings.
use Rattle.scope.specs.Seats.{leaves, rings_left}
use Rattle.seats.proofs.Laws.{ring_left}
use Rattle.seats.proofs.take_out.Goals as goal

pub returns : goal.returns
unfolding leaves rings_left
returns c =
    let u = c.close_up-held in
    rw (u.ensures.0, c.mask_left.ensures, ring_left _ _ _ _ u.ensures.1)
