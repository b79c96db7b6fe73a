-- `columns::get`: the bytes from k on are read.
use Rattle.fields.proofs.Loops.{Reading}
use Rattle.columns.proofs.get.Given as goal

abbrev pub invariant-loop-k : goal.invariant-loop-k
invariant-loop-k l = Reading l.w l.s l.at l.x l.k
