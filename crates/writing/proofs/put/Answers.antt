-- `writing::put`: each table is put after those before it.
use borrow.Author.Rules.{rules}
use Rattle.writing.proofs.Laws.{all_put}
use Rattle.writing.proofs.put.Goals as goal

pub returns : goal.returns
returns c =
    (c.put_queues.ensures.0, all_put c.args.s.now _ _ _ _ _ (search rules) c.put_tasks.ensures.1 c.put_semaphores.ensures.1 c.put_pools.ensures.1 c.put_queues.ensures.1)
