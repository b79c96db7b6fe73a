-- `orders::put_ring`: a task more of the ring has its place, and at the end all have.
use mathlib.Core.Path.{refl}
use Rattle.orders.proofs.Ringing.{ringing_start, ringing_more, ringing_empty, ringing_done}
use Rattle.orders.proofs.put_ring.Goals as goal

pub loop-k-init : goal.loop-k-init
loop-k-init c =
    let a = c.args in
    λ q ts told placed. ringing_start q a.table.now a.p ts told c.requires a.order.now.places a.order.now.given placed

pub returns-then-task-eq0 : goal.returns-then-task-eq0
returns-then-task-eq0 c =
    let a = c.args in
    let l = c.loop-k in
    λ q ts told placed. ringing_empty q a.table.now a.p ts told c.requires l.order.places l.order.given l.k _
    c.loop-k-test.true refl c.if-task-eq0.true (l.invariant q ts told placed)

pub loop-k-preserved : goal.loop-k-preserved
loop-k-preserved c =
    let a = c.args in
    let l = c.loop-k in
    λ q ts told placed. ringing_more q a.table.now a.p ts told c.requires l.order.places _ l.order.given _ l.k _
    c.loop-k-test.true refl c.if-task-eq0.false c.push.ensures (l.invariant q ts told placed)

pub returns : goal.returns
returns c =
    let a = c.args in
    let l = c.loop-k in
    λ q ts told placed. ringing_done q a.table.now a.p ts told c.requires l.order.places l.order.given l.k c.loop-k-test.false (l.invariant q ts told placed)
