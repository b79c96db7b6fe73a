-- What the call does holds beside any message, so beside this one.
use Rattle.std.proofs.Common.{arith, refl}
use Rattle.scope.specs.Step.{answered}
use Rattle.answers.specs.Outcomes.{answer_of}
use Rattle.task_chapter.proofs.task.Goals as goal

pub returns-in-Ok-Task : goal.returns-in-Ok-Task
unfolding answered answer_of
returns-in-Ok-Task c = (λ m. grind (arith, c.does.ensures.answer m), refl)
