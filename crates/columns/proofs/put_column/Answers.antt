-- `columns::put_column`: a slot more.
use borrow.Author.Rules.{rules}
use Rattle.fields.proofs.Loops.{value_put}
use Rattle.columns.proofs.put_column.Goals as goal

pub loop-i-preserved : goal.loop-i-preserved
loop-i-preserved g c =
    let a = c.args in
    value_put g.T.Entry.number g.T.Entry.BYTES a.stride a.xs.now a.at a.s.now c.loop-i.s _ c.loop-i.i _ c.index-xs-i.result
    (search rules) c.index-xs-i.is c.to_number.ensures c.loop-i.invariant (rw c.BYTES.ensures at c.put.ensures)
