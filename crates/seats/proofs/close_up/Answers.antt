-- `seats::close_up`: the loop maps the seats in place by `lower`, and notes whether one of those it has made is the first of the queue.
use Rattle.std.proofs.Common.{◌≡◌, ◌+◌, ◌*◌, ◌/◌, ◌<◌, map, length, sym, ap, ◌∙◌, arith, rules}
use Rattle.laws.proofs.Arrays.{changing_start, changing_more, mapping_done, get_or-map_lt}
use Rattle.scope.specs.Seats.{lower, seats_end}
use Rattle.seats.proofs.Laws.{noted_start, noted_more, noted_done}
use Rattle.seats.proofs.close_up.Goals as goal

pub loop-y-init : goal.loop-y-init
loop-y-init c = (
  changing_start 32 (λ j. lower c.args.x (seats_end c.args.x)) c.args.q (search rules),
  noted_start (map (lower c.args.x (seats_end c.args.x)) c.args.q) (c.args.x / 64 * 64 + 1),
)

pub loop-y-preserved : goal.loop-y-preserved
loop-y-preserved c =
    let a = c.args in
    let l = c.loop-y in
    let made = lower a.x (seats_end a.x) in
    let long : length a.q ≡ 32 = search rules in
    let lt : l.y-index < 32 = search rules in (
      changing_more 32 (λ j. made) a.q l.y-items l.y-index _ lt c.lowered.ensures l.invariant.0,
      noted_more (map made a.q) _ _ l.y-index l.held (c.lowered.ensures ∙ ap made (l.invariant.0.4 l.y-index (omega arith)) ∙ sym (get_or-map_lt made a.q l.y-index (omega arith))) l.invariant.1,
    )

pub returns : goal.returns
returns c =
    let a = c.args in
    let l = c.loop-y in (
      mapping_done 32 (lower a.x (seats_end a.x)) a.q l.y-items l.y-index (search rules) l.invariant.0,
      noted_done _ _ l.y-index l.held (search rules) l.invariant.1,
    )
