-- `seats::raised`: where the seat lies is told by the comparison of the ways.
use Rattle.std.proofs.Common.{refl, arith}
use Rattle.seats.proofs.Laws.{nearer, farther, raise_between, raise_apart}
use Rattle.seats.proofs.raised.Goals as goal

pub overflow_add-result : goal.overflow_add-result
overflow_add-result c =
    let s = c in
    let at = nearer s.args.x s.args.y _ s.args.reach _ c.way.ensures refl s.requires c.if-way-reach.true in
    omega (arith, at.1, s.requires)

pub returns-then-way-reach : goal.returns-then-way-reach
returns-then-way-reach c =
    let s = c in
    raise_between _ _ _ (nearer s.args.x s.args.y _ s.args.reach _ c.way.ensures refl s.requires c.if-way-reach.true)

pub returns : goal.returns
returns c =
    let s = c in
    raise_apart _ _ _ (farther s.args.x s.args.y _ s.args.reach _ c.way.ensures refl c.if-way-reach.false)
