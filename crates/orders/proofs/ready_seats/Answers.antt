-- `orders::ready_seats`: a slot more is noted, and at the end all.
use borrow.Author.Rules.{rules}
use mathlib.Core.Path.{refl}
use Rattle.orders.proofs.Marking.{marked_start, marked_more, marked_done}
use Rattle.orders.proofs.ready_seats.Goals as goal

pub loop-t-init : goal.loop-t-init
loop-t-init c = marked_start c.args.seat.now

pub loop-t-preserved : goal.loop-t-preserved
loop-t-preserved c =
    let a = c.args in
    let l = c.loop-t in
    marked_more a.seat.now l.table _ l.t _ _ (search rules) (search rules) refl c.mark.ensures l.invariant

pub returns : goal.returns
returns c =
    let a = c.args in
    let l = c.loop-t in
    marked_done a.seat.now l.table l.t (search rules) l.invariant
