-- `queues::queue_delete`: all its waiters are woken, and what it held is dropped.
use Rattle.scope.specs.Queues.{queue_delete_at}
use Rattle.queues.proofs.Laws.{all_woken}
use Rattle.tables.proofs.Slots.{slot_found}
use Rattle.queues.proofs.queue_delete.Goals as goal

pub returns-clause-answer : goal.returns-clause-answer
returns-clause-answer c = let s = c.args.s.now in slot_found s (queue_delete_at s) _ c.find.ensures.value c.in_ok-i.was (all_woken s _ _ _ _ c.clear.ensures c.woke.ensures c.runner.ensures c.wake_all-woken.ensures)
