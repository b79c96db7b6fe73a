-- "A fresh state holds one started task, identifier 64, name 0, of a given priority 0 to 15, and nothing else."
-- Assumes nothing.
use Rattle.std.specs.Prelude.{ℕ, ◌+◌, ◌^◌, true, false, [], ◌∷◌, replicate, ltb}
use Rattle.scope.specs.declared.State.{State}
use Rattle.scope.specs.declared.Line.{Line}
use Rattle.scope.specs.declared.Tasks.{Tasks}
use Rattle.scope.specs.declared.Semaphores.{Semaphores}
use Rattle.scope.specs.declared.Pools.{Pools}
use Rattle.scope.specs.declared.Queues.{Queues}
use Rattle.scope.specs.declared.Fresh.{Fresh}
use Rattle.scope.specs.Choice.{pick}
use Rattle.scope.specs.Seats.{ring_seats}
use Rattle.scope.specs.Statuses.{OK, INVALID_PRIORITY}
use Rattle.scope.specs.Tasks.{last_priority}

abbrev pub fresh_tasks : ℕ → Tasks
fresh_tasks p =
    record {
      name = replicate 32 0;
      serial = 1 ∷ replicate 31 0;
      live = true ∷ replicate 31 false;
      started = true ∷ replicate 31 false;
      suspended = replicate 32 false;
      priority = p ∷ replicate 31 0;
    }

abbrev pub fresh_line : ℕ → Line
fresh_line p =
    record { left = replicate 32 0; seat = (ring_seats p + 1) ∷ replicate 31 0; joined = replicate 32 0; rings = 2 ^ p ∷ [] }

abbrev pub no_semaphores : Semaphores
no_semaphores =
    record {
      name = replicate 16 0;
      serial = replicate 16 0;
      units = replicate 16 0;
      live = replicate 16 false;
      fifo = replicate 16 false;
    }

abbrev pub no_pools : Pools
no_pools =
    record {
      out = replicate 8 0;
      name = replicate 8 0;
      address = replicate 8 0;
      length = replicate 8 0;
      size = replicate 8 0;
      serial = replicate 8 0;
      live = replicate 8 false;
      forced = replicate 8 false;
      place = replicate 512 0;
    }

abbrev pub no_queues : Queues
no_queues =
    record {
      name = replicate 8 0;
      serial = replicate 8 0;
      live = replicate 8 false;
      fifo = replicate 8 false;
      limits = replicate 16 0;
      held = replicate 8 0;
      cells = replicate 8320 0;
    }

unfoldable pub fresh_state : ℕ → State
fresh_state p =
    record {
      line = fresh_line p;
      tasks = fresh_tasks p;
      semaphores = no_semaphores;
      pools = no_pools;
      queues = no_queues;
      running = 0;
    }

-- "Asked with a priority above 15, the answer is 19 and the fresh state of priority 0."
unfoldable pub fresh : ℕ → Fresh
fresh p =
    pick (ltb last_priority p) (record { state = fresh_state 0; status = INVALID_PRIORITY })
    (record { state = fresh_state p; status = OK })
