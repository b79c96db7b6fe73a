-- `seats::runner`: the seat asked for is the first of the ring that the leading zeros of the mask name.
use Rattle.std.proofs.Common.{refl, ap, ◌∙◌, arith, below_none, eq-eqb, ne_eqb}
use Rattle.laws.proofs.Branches.{pick_yes, pick_no}
use Rattle.laws.proofs.Searches.{least_hit}
use Rattle.scope.specs.Seats.{is_on, on_seat, runner_of}
use Rattle.seats.proofs.Laws.{told_or}
use Rattle.seats.proofs.runner.Goals as goal

pub returns-then-mask-eq0 : goal.returns-then-mask-eq0
unfolding runner_of
returns-then-mask-eq0 c = pick_yes _ _ _ (eq-eqb _ _ c.if-mask-eq0.true) refl

pub returns-then-line-x : goal.returns-then-line-x
unfolding runner_of on_seat
returns-then-line-x c =
    let q = c.args.line.now.seat in
    pick_no _ _ _ (ne_eqb _ _ c.if-mask-eq0.false)
    (least_hit (is_on q _) (omega arith) (below_none _) (eq-eqb _ _ c.if-line-x.true) ∙ ap (on_seat q) (omega arith))

pub returns : goal.returns
unfolding runner_of
returns c =
    pick_no _ _ _ (ne_eqb _ _ c.if-mask-eq0.false)
    (told_or c.args.line.now.seat _ c.on_seat.result c.on_seat.ensures c.unwrap_or.ensures ∙ ap (on_seat c.args.line.now.seat) (omega arith))
