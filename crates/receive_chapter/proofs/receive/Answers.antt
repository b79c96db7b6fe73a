-- What the call does holds beside any message, so beside this one.
use Rattle.std.proofs.Common.{arith, refl}
use Rattle.scope.specs.Step.{answered}
use Rattle.answers.specs.Outcomes.{answer_shown}
use Rattle.receive_chapter.proofs.receive.Goals as goal

pub returns-in-Ok-Receive : goal.returns-in-Ok-Receive
unfolding answered answer_shown
returns-in-Ok-Receive c = (λ m. grind (arith, c.does.ensures.answer m), refl)
