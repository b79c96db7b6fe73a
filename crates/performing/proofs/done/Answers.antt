-- What the call's chapter says. A chapter with no message to show leaves none shown.
use mathlib.Core.Path.{refl}
use Rattle.answers.proofs.Outcomes.{none_shown}
use Rattle.performing.proofs.done.Goals as goal

pub returns-in-Tick-clause-answer : goal.returns-in-Tick-clause-answer
returns-in-Tick-clause-answer c = rw c.in-Tick.is (none_shown _ _ _ refl (c.does.ensures.answer 0 0 0 0 0 c.args.message.now))

pub returns-in-Task-clause-answer : goal.returns-in-Task-clause-answer
returns-in-Task-clause-answer c = rw c.in-Task.is (none_shown _ _ _ refl (c.does-in-Task.ensures.answer c.args.message.now))

pub returns-in-Semaphore-clause-answer : goal.returns-in-Semaphore-clause-answer
returns-in-Semaphore-clause-answer c = rw c.in-Semaphore.is (none_shown _ _ _ refl (c.does-in-Semaphore.ensures.answer c.args.message.now))

pub returns-in-Pool-clause-answer : goal.returns-in-Pool-clause-answer
returns-in-Pool-clause-answer c = rw c.in-Pool.is (none_shown _ _ _ refl (c.does-in-Pool.ensures.answer c.args.message.now))

pub returns-in-Queue-clause-answer : goal.returns-in-Queue-clause-answer
returns-in-Queue-clause-answer c = rw c.in-Queue.is (none_shown _ _ _ refl (c.does-in-Queue.ensures.answer c.args.message.now))

pub returns-in-Receive-clause-answer : goal.returns-in-Receive-clause-answer
returns-in-Receive-clause-answer c = rw c.in-Receive.is (c.does-in-Receive.ensures.answer c.args.message.now)
