-- `columns::take_column`: a slot more, and at the end the whole column.
use Rattle.std.proofs.Common.{◌≡◌, length, arith, refl, ap, ◌∙◌}
use Rattle.fields.proofs.Loops.{value_taken, values_taken}
use Rattle.columns.proofs.take_column.Goals as goal

pub loop-i-preserved : goal.loop-i-preserved
loop-i-preserved g c =
    let a = c.args in
    value_taken g.T.Entry.value g.T.Entry.BYTES a.stride a.s.now a.at a.xs.now c.loop-i.xs c.loop-i.i _
    (c.from_number.ensures ∙ ap g.T.Entry.value (rw c.BYTES.ensures at c.get.ensures.0)) c.loop-i.invariant

pub returns : goal.returns
returns g c =
    let a = c.args in
    let e : c.loop-i.i ≡ length a.xs.now = omega arith in
    values_taken g.T.Entry.value g.T.Entry.BYTES a.stride a.s.now a.at a.xs.now c.loop-i.xs _ refl (rw e at c.loop-i.invariant)
    ∙ g.met.T.Entry.each_value _
