-- `semaphores::sem_delete`: all its waiters are woken.
use Rattle.answers.proofs.Outcomes.{woke_moved}
use Rattle.scope.specs.Semaphores.{sem_delete_at}
use Rattle.tables.proofs.Slots.{slot_found}
use Rattle.semaphores.proofs.sem_delete.Goals as goal

pub returns-clause-answer : goal.returns-clause-answer
unfolding sem_delete_at
returns-clause-answer c = let s = c.args.s.now in slot_found s (sem_delete_at s) _ c.find.ensures.value c.in_ok-i.was (woke_moved _ _ _ _ _ _ _ _ _ _ _ _ c.woke.ensures c.runner.ensures c.wake_all-woken.ensures)
