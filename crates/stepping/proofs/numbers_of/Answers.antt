-- `stepping::numbers_of`: each number is the outcome's.
use Rattle.stepping.proofs.numbers_of.Goals as goal

pub returns : goal.returns
returns c = rw (← c.bit.ensures, ← c.bit-2.ensures)
