-- `columns::take_rows`: a row more, and at the end all of them.
use Rattle.std.proofs.Common.{◌≡◌, arith}
use Rattle.fields.proofs.Loops.{row_taken, rows_taken}
use Rattle.columns.proofs.take_rows.Goals as goal

pub loop-i-preserved : goal.loop-i-preserved
loop-i-preserved c =
    let a = c.args in
    row_taken a.many a.stride a.s.now a.at a.xs.now c.loop-i.xs _ c.loop-i.i c.copy.ensures c.loop-i.invariant

pub returns : goal.returns
returns c =
    let a = c.args in
    let e : c.loop-i.i ≡ a.rows = omega arith in
    rows_taken a.many a.stride a.s.now a.at a.xs.now c.loop-i.xs _ c.requires.0 (rw e at c.loop-i.invariant)
