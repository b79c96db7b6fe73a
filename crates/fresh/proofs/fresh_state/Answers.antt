-- `fresh::fresh_state`: the five tables.
use Rattle.scope.specs.Fresh.{fresh_state}
use Rattle.fresh.proofs.fresh_state.Goals as goal

pub returns : goal.returns
unfolding fresh_state
returns c = rw (c.no_queues.ensures, c.no_pools.ensures, c.no_semaphores.ensures, c.fresh_tasks.ensures, c.fresh_line.ensures)
