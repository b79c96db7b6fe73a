-- A record's step is the script's, its line stands behind those before it, and both are one record of those still to come.
use native.Mathlib.Omega.{arith}
use mathlib.Core.Path.{◌≡◌, refl, sym, ap, subst, ◌∙◌}
use mathlib.Core.List.{List}
use Prim.Native.Nat.{ℕ, ◌≤◌, ◌+◌, ◌-◌}
use borrow.Author.Rules.{rules}
use Rattle.scope.specs.declared.State.{State}
use Rattle.scope.specs.declared.Answer.{Answer}
use Rattle.scope.specs.Views.{running_task}
use Rattle.answers.specs.Outcomes.{answer_shown, now_runs}
use Rattle.scripts.specs.Place.{Point, Reached, point_at, LinePut}
use Rattle.scripts.proofs.Laws.{going_first, going_more, step_few, record_step, line_told, line_played}
use Rattle.player.proofs.play_part.Goals as goal

pub loop-place-init : goal.loop-place-init
loop-place-init c = (going_first c.args.script.now _ c.args.lines.now c.requires, refl)

pub line-requires : goal.line-requires
unfolding answer_shown
line-requires c =
    let script : List ℕ = c.args.script.now in
    let l = c.loop-place in
    let sound = l.invariant.0.playing.state in
    let step = record_step script l.place.at l.s sound c.read_record-request.result c.message_at-message.result c.read_record-request.ensures c.message_at-message.ensures c.perform-outcome.ensures.0 in
    (search rules, subst (λ (a : Answer). a.woken ≤ 32) (sym step) (step_few script l.place.at l.s sound))

pub loop-place-preserved : goal.loop-place-preserved
loop-place-preserved c =
    let script : List ℕ = c.args.script.now in
    let l = c.loop-place in
    let q : Point = point_at l.s l.place in
    let n : State = c.perform-outcome.new.s in
    let o = c.perform-outcome.result in
    let shown : List ℕ = c.perform-outcome.new.notices.shown in
    let before : List ℕ = l.out.bytes.now in
    let lines : List ℕ = c.line.new.self.bytes.now in
    let w = c.line.ensures shown in
    let runs : n ≡ now_runs n o.runs = ap (now_runs n) c.perform-outcome.ensures.1 in
    let step = record_step script l.place.at l.s l.invariant.0.playing.state c.read_record-request.result c.message_at-message.result c.read_record-request.ensures c.message_at-message.ensures c.perform-outcome.ensures.0 in
    let told = line_told script l.place.at l.place.number l.out.at c.running_of.result l.s n c.perform-outcome.new.notices.wakes shown o before lines c.line.new.self.at step (c.running_of.ensures ∙ ap running_task runs) (w.0, w.1) in
    let put = subst (λ (x : State). LinePut script l.place.at l.place.number l.s before l.out.at x lines c.line.new.self.at) (sym runs) told in
    let played = line_played script q n before lines l.out.at c.line.new.self.at l.invariant.0.playing (search rules) (search rules) w.2 put in (
      going_more script _ _ before lines q l.out.at _ l.invariant.0 played w.2,
      w.3 ∙ l.invariant.1,
    )
