-- `messages::zeros`: before byte j the loop holds the bits of all bytes passed.
use Rattle.laws.proofs.Messages.Forms.{Zeroing}
use Rattle.messages.proofs.zeros.Given as goal

abbrev pub invariant-loop-j : goal.invariant-loop-j
invariant-loop-j l = Zeroing l.cells l.from l.to l.some l.j
