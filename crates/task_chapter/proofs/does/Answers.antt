-- The search finds every arm of `task_chapter::does` but this one.
use Rattle.task_chapter.proofs.does.Goals as goal

pub returns-in-Delete-clause-answer : goal.returns-in-Delete-clause-answer
returns-in-Delete-clause-answer c m = rw c.in-Delete.is c.task_delete.ensures.answer
