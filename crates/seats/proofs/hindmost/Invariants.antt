-- `seats::hindmost`: the loop holds the least way from a seat to the queue's last.
use Rattle.seats.proofs.Laws.{Nearest}
use Rattle.seats.proofs.hindmost.Given as goal

abbrev pub invariant-loop-y : goal.invariant-loop-y
invariant-loop-y l = Nearest l.y-items l.base l.least l.y-index
