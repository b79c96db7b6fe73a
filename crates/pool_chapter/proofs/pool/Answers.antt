-- What the call does holds beside any message, so beside this one.
use Rattle.std.proofs.Common.{arith, refl}
use Rattle.scope.specs.Step.{answered}
use Rattle.answers.specs.Outcomes.{answer_of}
use Rattle.pool_chapter.proofs.pool.Goals as goal

pub returns-in-Ok-Pool : goal.returns-in-Ok-Pool
unfolding answered answer_of
returns-in-Ok-Pool c = (λ m. grind (arith, c.does.ensures.answer m), refl)
