-- `taking::take`: each table is taken after those before it, out of the same image.
use Rattle.taking.proofs.Laws.{all_taken}
use Rattle.taking.proofs.take.Goals as goal

pub returns : goal.returns
returns c = (
  all_taken c.args.s.now c.args.image.now _ _ _ _ c.take_tasks.ensures.0 c.take_semaphores.ensures.0 c.take_pools.ensures.0 c.take_queues.ensures.0,
  c.take_queues.ensures.1,
)
