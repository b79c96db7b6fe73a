-- `seats::make_ready`: it joins its ring behind all.
use Rattle.seats.proofs.make_ready.Goals as goal

pub returns : goal.returns
returns c = λ key. rw (← c.from.ensures) (c.join_last.ensures key)
