-- `seats::join_last`: the task takes the seat behind all, and no other seat changes.
use Rattle.seats.proofs.join_last.Goals as goal

pub returns : goal.returns
returns c = λ key. c.seat_behind-x.ensures key c.args.t
