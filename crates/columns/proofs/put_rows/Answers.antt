-- `columns::put_rows`: a row more.
use borrow.Author.Rules.{rules}
use Rattle.fields.proofs.Loops.{row_put}
use Rattle.columns.proofs.put_rows.Goals as goal

pub loop-i-preserved : goal.loop-i-preserved
loop-i-preserved c =
    let a = c.args in
    row_put a.many a.stride a.xs.now a.at a.s.now c.loop-i.s _ c.loop-i.i (search rules) c.loop-i.invariant c.copy.ensures
