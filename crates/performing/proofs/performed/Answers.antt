-- A caller that the test refuses.
use mathlib.Core.Path.{refl}
use Rattle.answers.proofs.Outcomes.{none_shown, plain_of}
use Rattle.chapters.proofs.Laws.{allowed_refused}
use Rattle.performing.proofs.performed.Goals as goal

pub returns-in-Err-clause-answer : goal.returns-in-Err-clause-answer
returns-in-Err-clause-answer c =
    let x = c.args.request.now in
    allowed_refused c.args.s.now x.call x.mark x.a x.b x.c x.d x.e c.args.message.now c.allowed.result c.allowed.ensures.refusal c.in-Err.refusal c.in-Err.is
    (rw c.new.ensures (none_shown _ _ _ refl (plain_of _ _ _ _ refl)))
