-- `lines::put_line`: the numbers and the wake list are taken, and their line is the line of the bytes.
use Prim.Native.Nat.{ℕ}
use mathlib.Core.List.{[]}
use lib.ListN.{length-replicate}
use Rattle.image.proofs.Calls.{took}
use Rattle.lines.proofs.Laws.{few_in, line_put}
use borrow.Author.Rules.{rules}
use Rattle.lines.proofs.put_line.Goals as goal

pub put_line-requires : goal.put_line-requires
put_line-requires c = (search rules, few_in _ _ c.outcome_in-o.ensures)

pub returns : goal.returns
returns c = line_put _ _ _ _ _ (took 4 4 11 0 _ _ c.take_column.ensures (length-replicate {A = ℕ} 11 0)) (took 4 4 32 44 _ _ c.take_column-2.ensures (length-replicate {A = ℕ} 32 0)) c.outcome_in-o.ensures [] _ _ c.put_line.ensures
