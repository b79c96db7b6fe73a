-- `ticks::take_one`: one time_out more.
use Rattle.std.proofs.Common.{◌≡◌, ℕ, length, take, nat_eq, ap, ◌∙◌, arith, rules}
use lib.ListN.{get_or}
use Rattle.std.proofs.lemmas.List.{take_all}
use Rattle.std.specs.Int.{from_bool}
use Rattle.laws.proofs.Arrays.{changing_start, changing_more, mapping_done}
use Rattle.scope.specs.Ticks.{time_left, times_left}
use Rattle.ticks.proofs.Laws.{counted_more}
use Rattle.ticks.proofs.take_one.Goals as goal

pub loop-x-init : goal.loop-x-init
loop-x-init c = (changing_start 32 (λ j. time_left) c.args.left (search rules), search rules, omega arith)

pub loop-x-preserved : goal.loop-x-preserved
loop-x-preserved c =
    let l = c.loop-x in
    let left = c.args.left in
    let long : length left ≡ 32 = search rules in
    let here : get_or l.x-items l.x-index 0 ≡ get_or left l.x-index 0 = l.invariant.0.4 l.x-index (omega arith) in
    let more = counted_more left l.x-index l.last (omega arith) l.invariant.1 l.invariant.2 in
    let counts : c.from-last.result ≡ from_bool (nat_eq (get_or left l.x-index 0) 1) = c.from-last.ensures ∙ ap (λ (x : ℕ). from_bool (nat_eq x 1)) here in
    (changing_more 32 (λ j. time_left) left l.x-items l.x-index _ (search rules) c.time_left.ensures l.invariant.0, rw counts more.0, rw counts more.1)

pub returns : goal.returns
unfolding times_left
returns c =
    let l = c.loop-x in
    let long : length c.args.left ≡ 32 = search rules in
    let whole : take l.x-index c.args.left ≡ c.args.left = take_all l.x-index c.args.left (omega arith) in
    (mapping_done 32 time_left c.args.left l.x-items l.x-index (search rules) l.invariant.0, rw whole at l.invariant.1)
