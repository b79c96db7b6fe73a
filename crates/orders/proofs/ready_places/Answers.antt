-- `orders::ready_places`: a ring more, and at the end all.
use mathlib.Core.Path.{refl}
use borrow.Author.Rules.{rules}
use Rattle.orders.proofs.Ringing.{rings_start, rings_more, rings_done}
use Rattle.orders.proofs.ready_places.Goals as goal

pub loop-p-init : goal.loop-p-init
loop-p-init c = rings_start c.args.seat.now 16 refl

pub loop-p-preserved : goal.loop-p-preserved
loop-p-preserved c =
    let q = c.args.seat.now in
    let l = c.loop-p in
    rings_more q l.order.places _ l.order.given _ l.p (search rules)
    (λ ts placed. c.put_ring.ensures q ts c.ready_seats-table.ensures placed) l.invariant

pub returns : goal.returns
returns c =
    let q = c.args.seat.now in
    let l = c.loop-p in
    rings_done q l.order.places l.order.given l.p (search rules) l.invariant
