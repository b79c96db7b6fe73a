-- A part is played from where the last one ended, and its length comes to those before it.
use Rattle.std.proofs.Common.{◌≤◌, ◌≡◌, ◌++◌, ◌+◌, List, ℕ, length, drop, take, sym, subst, ap, ◌∙◌, rules}
use Rattle.scope.specs.declared.State.{State}
use Rattle.scripts.specs.Place.{point_at, reached, Begun}
use Rattle.listings.proofs.Parts.{counted_first, counted_more, counted_done}
use Rattle.listings.proofs.measure.Goals as goal

pub loop-place-init : goal.loop-place-init
loop-place-init c =
    let script : List ℕ = c.args.script.now.bytes.now in
    let b = subst (λ (s : State). Begun script (point_at s c.begin-place.result)) (sym c.first_state-state.ensures) c.begin-place.ensures in
    counted_first script _ _ b.playing

pub loop-place-preserved : goal.loop-place-preserved
loop-place-preserved c =
    let played = c.play_part-played in
    counted_more _ _ _ _ _ _ c.loop-place.invariant _ (reached played.new.s played.result) played.ensures played.auto.lines

pub returns : goal.returns
returns c =
    let script : List ℕ = c.args.script.now.bytes.now in
    let b = subst (λ (s : State). Begun script (point_at s c.begin-place.result)) (sym c.first_state-state.ensures) c.begin-place.ensures in
    record {
      length = counted_done _ _ _ _ _ _ c.loop-place.invariant c.loop-place-test.false ∙ ap length b.whole;
      part = c.loop-place.invariant.same;
    }
