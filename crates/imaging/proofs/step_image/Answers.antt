-- `imaging::step_image`: the state of the bytes is checked, the call is done on it, and its bytes are put back.
use Rattle.std.proofs.Common.{◌≡◌, ◌∙◌, ap, sym, subst}
use Rattle.scope.specs.declared.State.{State}
use Rattle.scope.specs.declared.Answer.{Answer}
use Rattle.scope.specs.Rules.{sound}
use Rattle.scope.specs.Step.{answered}
use Rattle.answers.specs.Outcomes.{answer_shown}
use Rattle.image.specs.Image.{image_of}
use Rattle.image.specs.Reading.{state_from}
use Rattle.imaging.proofs.Laws.{state_is, told_by}
use Rattle.imaging.proofs.step_image.Goals as goal

pub returns : goal.returns
returns c =
    let r = c.args.request.now in
    let m = c.args.message.now in
    let o = c.perform-outcome.result in
    let n = c.perform-outcome.new.notices in
    let a : Answer = answered (state_from c.args.image.now) r.call r.mark r.a r.b r.c r.d r.e m in
    let from = c.take.ensures.0 in
    let done : answer_shown c.perform-outcome.new.s n.wakes n.shown o ≡ a =
    c.perform-outcome.ensures.0 ∙ ap (λ (s : State). answered s r.call r.mark r.a r.b r.c r.d r.e m) from in
    let state : c.put.new.image ≡ image_of a.state =
    c.put.ensures.1 ∙ ap image_of (state_is _ _ _ _ done c.perform-outcome.ensures.1) in
    (c.is_sound-good.ensures ∙ ap sound c.take.ensures.0, (state, told_by _ _ _ _ done c.perform-outcome.ensures.1 c.running_of-running.ensures))
