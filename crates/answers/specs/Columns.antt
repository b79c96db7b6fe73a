-- A state out of its parts, and the tasks woken so far.
-- Assumes nothing.
use Rattle.std.specs.Prelude.{ℕ, List}
use Rattle.scope.specs.declared.Line.{Line}
use Rattle.scope.specs.declared.Tasks.{Tasks}
use Rattle.scope.specs.declared.Semaphores.{Semaphores}
use Rattle.scope.specs.declared.Pools.{Pools}
use Rattle.scope.specs.declared.Queues.{Queues}
use Rattle.scope.specs.declared.State.{State}
use Rattle.scope.specs.declared.Waking.{Waking}

abbrev pub state_of : Line → Tasks → Semaphores → Pools → Queues → ℕ → State
state_of l k q p u running = record { line = l; tasks = k; semaphores = q; pools = p; queues = u; running = running }

-- the tasks woken so far, out of the line and the wake list
abbrev pub waking_from : Line → List ℕ → ℕ → Waking
waking_from line wakes woken = record { line = line; wakes = wakes; woken = woken }
