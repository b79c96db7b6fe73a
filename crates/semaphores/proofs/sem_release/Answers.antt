-- `semaphores::sem_release`: the first waiter is woken.
use Rattle.answers.proofs.Outcomes.{woke_moved}
use Rattle.scope.specs.Semaphores.{sem_release_at}
use Rattle.semaphores.proofs.Laws.{release_wakes}
use Rattle.tables.proofs.Slots.{slot_found}
use Rattle.semaphores.proofs.sem_release.Goals as goal

pub returns-in-Some-clause-answer : goal.returns-in-Some-clause-answer
returns-in-Some-clause-answer c = let s = c.args.s.now in slot_found s (sem_release_at s) _ c.find.ensures.value c.in_ok-i.was (release_wakes s _ c.in-Some.ensures (woke_moved _ _ _ _ _ _ _ _ _ _ _ _ c.woke.ensures c.runner.ensures c.wake_next.ensures))
