-- What the call does holds beside any message, so beside this one.
use Rattle.std.proofs.Common.{arith, refl}
use Rattle.scope.specs.Step.{answered}
use Rattle.answers.specs.Outcomes.{answer_of}
use Rattle.queue_chapter.proofs.queue.Goals as goal

pub returns-in-Ok-Queue : goal.returns-in-Ok-Queue
unfolding answered answer_of
returns-in-Ok-Queue c = (λ m. grind (arith, c.does.ensures.answer m), refl)
