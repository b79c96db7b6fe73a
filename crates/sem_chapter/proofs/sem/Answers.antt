-- What the call does holds beside any message, so beside this one.
use Rattle.std.proofs.Common.{arith, refl}
use Rattle.scope.specs.Step.{answered}
use Rattle.answers.specs.Outcomes.{answer_of}
use Rattle.sem_chapter.proofs.sem.Goals as goal

pub returns-in-Ok-Semaphore : goal.returns-in-Ok-Semaphore
unfolding answered answer_of
returns-in-Ok-Semaphore c = (λ m. grind (arith, c.does.ensures.answer m), refl)
