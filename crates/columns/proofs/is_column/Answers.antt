-- `columns::is_column`: a slot more, and at the end the whole column.
use Rattle.std.proofs.Common.{◌≡◌, length, arith, refl}
use borrow.Author.Rules.{rules}
use Rattle.fields.proofs.Testing.{comparing_more, compared}
use Rattle.columns.proofs.is_column.Goals as goal

pub loop-i-preserved : goal.loop-i-preserved
loop-i-preserved g c =
    let a = c.args in
    comparing_more g.T.Entry.number g.T.Entry.BYTES a.stride a.s.now a.at a.xs.now c.loop-i.ok c.loop-i.i _ _ c.index-xs-i.result
    (search rules) c.index-xs-i.is c.to_number.ensures (rw c.BYTES.ensures at c.get.ensures.0) c.loop-i.invariant

pub returns : goal.returns
returns g c =
    let a = c.args in
    let e : c.loop-i.i ≡ length a.xs.now = omega arith in
    rw (← g.met.T.Entry.each_number a.xs.now)
    (compared g.T.Entry.number g.T.Entry.BYTES a.stride a.s.now a.at a.xs.now c.loop-i.ok _ refl (rw e at c.loop-i.invariant))
