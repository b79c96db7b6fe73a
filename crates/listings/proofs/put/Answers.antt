-- A part is played from where the last one ended, and stands behind those before it.
use Rattle.std.proofs.Common.{◌≤◌, ◌≡◌, ◌++◌, ◌+◌, ◌-◌, List, ℕ, length, drop, take, sym, subst, ap, ◌∙◌, rules}
use native.Mathlib.Omega.{arith}
use borrow.Rule.Slice.PartMut.{put_mid}
use lib.Seq.{drop-drop}
use Rattle.scope.specs.declared.State.{State}
use Rattle.scripts.specs.Place.{point_at, reached, Begun}
use Rattle.listings.proofs.Parts.{copied_first, copied_more, copied_done, pasted}
use Rattle.listings.proofs.put.Goals as goal

pub loop-place-init : goal.loop-place-init
loop-place-init c =
    let script : List ℕ = c.args.script.now.bytes.now in
    let b = subst (λ (s : State). Begun script (point_at s c.begin-place.result)) (sym c.first_state-state.ensures) c.begin-place.ensures in
    copied_first script _ _ _ b.playing (subst (λ (l : List ℕ). length l ≤ length c.args.out.now) (sym b.whole) c.requires.1)

pub loop-place-preserved : goal.loop-place-preserved
loop-place-preserved c =
    let l = c.loop-place in
    let played = c.play_part-played in
    let n : ℕ = played.result.written in
    let few : l.end + n - l.end ≡ n = omega arith in
    let copied = ap (λ (m : ℕ). put_mid l.end m l.out c.copy_from_slice.new.self) few
    ∙ ap (λ (rest : List ℕ). take l.end l.out ++ (c.copy_from_slice.new.self ++ rest)) (drop-drop n l.end l.out)
    ∙ ap (λ (p : List ℕ). take l.end l.out ++ (p ++ drop (l.end + n) l.out)) c.copy_from_slice.ensures.after
    ∙ pasted l.out played.new.lines l.end n (search rules) played.ensures.room in
    copied_more _ _ _ _ _ _ _ _ l.invariant _ _ (reached played.new.s played.result) played.ensures played.auto.lines copied

pub returns : goal.returns
returns c =
    let script : List ℕ = c.args.script.now.bytes.now in
    let b = subst (λ (s : State). Begun script (point_at s c.begin-place.result)) (sym c.first_state-state.ensures) c.begin-place.ensures in
    let l = c.loop-place in
    subst (λ (x : List ℕ). (l.end ≡ length x) × (l.out ≡ x ++ drop l.end c.args.out.now)) b.whole
    (copied_done _ _ _ _ _ _ _ _ l.invariant c.loop-place-test.false)
