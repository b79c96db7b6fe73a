-- `seats::lowered`: where the seat lies is told by the comparison of the ways.
use Rattle.std.proofs.Common.{refl, arith, rules, eq-eqb}
use Rattle.laws.proofs.Branches.{pick_yes}
use Rattle.scope.specs.Seats.{lower}
use Rattle.seats.proofs.Laws.{end_fits, nearer, farther, lower_between, lower_apart}
use Rattle.seats.proofs.lowered.Goals as goal

pub returns-then-y-x : goal.returns-then-y-x
unfolding lower
returns-then-y-x c = pick_yes _ _ _ (eq-eqb _ _ c.if-y-x.true) refl

pub overflow_sub-result : goal.overflow_sub-result
overflow_sub-result c =
    let s = c in
    let at = nearer s.args.x s.args.y _ s.args.reach _ c.way.ensures s.requires (end_fits s.args.x (search rules)) c.if-way-reach.true in
    omega (arith, at.0, c.if-y-x.false)

pub returns-then-way-reach : goal.returns-then-way-reach
returns-then-way-reach c =
    let s = c in
    lower_between _ _ _ c.if-y-x.false
    (nearer s.args.x s.args.y _ s.args.reach _ c.way.ensures s.requires (end_fits s.args.x (search rules)) c.if-way-reach.true)

pub returns : goal.returns
returns c =
    let s = c in
    lower_apart _ _ _ c.if-y-x.false
    (farther s.args.x s.args.y _ s.args.reach _ c.way.ensures s.requires c.if-way-reach.false)
