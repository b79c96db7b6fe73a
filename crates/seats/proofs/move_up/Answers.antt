-- `seats::move_up`: the loop maps the seats in place by `lower`, and holds the least way to the queue's last of those that it has made.
use Rattle.std.proofs.Common.{◌≡◌, ◌≤◌, ◌<◌, map, length, get_or, sym, ap, ◌∙◌, arith, rules}
use lib.ListN.{length-map}
use Rattle.laws.proofs.Arrays.{changing_start, changing_more, mapping_done, get_or-map_lt}
use Rattle.scope.specs.Seats.{lower, seats_end}
use Rattle.laws.proofs.Seats.Joining.{joins_end}
use Rattle.seats.proofs.Laws.{nearest_start, nearest_more}
use Rattle.seats.proofs.move_up.Goals as goal

pub loop-y-init : goal.loop-y-init
loop-y-init c = (
  changing_start 32 (λ j. lower c.args.x (seats_end c.args.x)) c.args.q (search rules),
  nearest_start (map (lower c.args.x (seats_end c.args.x)) c.args.q) c.args.base,
)

pub loop-y-preserved : goal.loop-y-preserved
loop-y-preserved c =
    let a = c.args in
    let l = c.loop-y in
    let y = c.lowered in
    let made = lower a.x (seats_end a.x) in
    let long : length a.q ≡ 32 = search rules in
    let lt : l.y-index < 32 = search rules in
    let is : y.result ≡ get_or (map made a.q) l.y-index 0 =
    y.ensures ∙ ap made (l.invariant.0.4 l.y-index (omega arith)) ∙ sym (get_or-map_lt made a.q l.y-index (omega arith)) in (
      changing_more 32 (λ j. made) a.q l.y-items l.y-index _ lt y.ensures l.invariant.0,
      nearest_more (map made a.q) a.base l.least l.y-index _ _ (rw is at c.way.ensures) c.min-least.ensures l.invariant.1,
    )

pub overflow_sub-result : goal.overflow_sub-result
overflow_sub-result c = let h : c.loop-y.least ≤ 62 = c.loop-y.invariant.1.0 in omega arith

pub returns : goal.returns
returns c =
    let a = c.args in
    let l = c.loop-y in
    let made = lower a.x (seats_end a.x) in
    let e : l.y-index ≡ 32 = search rules in
    let long : length (map made a.q) ≡ 32 = length-map a.q made ∙ l.invariant.0.1 in
    let closed : l.y-items ≡ map made a.q = mapping_done 32 made a.q l.y-items l.y-index (omega arith) l.invariant.0 in (
      closed,
      λ key t. rw (closed, rw e at (l.invariant.1.1 key)) (joins_end (map made a.q) key t a.base long),
    )
