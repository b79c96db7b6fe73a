-- What the tick does holds whatever is asked beside it, so of this request and message.
use Rattle.std.proofs.Common.{arith, refl}
use Rattle.scope.specs.Step.{answered}
use Rattle.answers.specs.Outcomes.{answer_of}
use Rattle.tick_chapter.proofs.tick.Goals as goal

pub returns-in-Ok : goal.returns-in-Ok
unfolding answered answer_of
returns-in-Ok c = let x = c.args.request.now in (λ m. grind (arith, c.does-outcome.ensures.answer x.a x.b x.c x.d x.e m), refl)
