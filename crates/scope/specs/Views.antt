-- The state with one part changed, and the paper's words for what it holds.
-- Assumes nothing.
use Rattle.std.specs.Prelude.{ℕ, ◌-◌, Bool, false, not, ◌&&◌, List, get_or, set, ltb}
use Rattle.scope.specs.declared.Line.{Line}
use Rattle.scope.specs.declared.Tasks.{Tasks}
use Rattle.scope.specs.declared.Semaphores.{Semaphores}
use Rattle.scope.specs.declared.Pools.{Pools}
use Rattle.scope.specs.declared.Queues.{Queues}
use Rattle.scope.specs.declared.State.{State}
use Rattle.scope.specs.Choice.{pick}
use Rattle.scope.specs.Identifiers.{identifier}
use Rattle.scope.specs.Seats.{mask_of, runner_of, waits_on, queue_seats, standing}

-- the state with tasks standing elsewhere; who runs follows from where they stand
abbrev pub with_line : State → Line → State
with_line s l = record { line = l; tasks = s.tasks; semaphores = s.semaphores; pools = s.pools; queues = s.queues; running = runner_of l.seat (mask_of l.rings) }

abbrev pub with_tasks : State → Tasks → State
with_tasks s k = record { line = s.line; tasks = k; semaphores = s.semaphores; pools = s.pools; queues = s.queues; running = s.running }

abbrev pub with_semaphores : State → Semaphores → State
with_semaphores s m = record { line = s.line; tasks = s.tasks; semaphores = m; pools = s.pools; queues = s.queues; running = s.running }

abbrev pub with_pools : State → Pools → State
with_pools s p = record { line = s.line; tasks = s.tasks; semaphores = s.semaphores; pools = p; queues = s.queues; running = s.running }

abbrev pub with_queues : State → Queues → State
with_queues s u = record { line = s.line; tasks = s.tasks; semaphores = s.semaphores; pools = s.pools; queues = u; running = s.running }

-- the line with other seats and rings
abbrev pub with_seats : Line → List ℕ → List ℕ → Line
with_seats l q rings = record { left = l.left; seat = q; joined = l.joined; rings = rings }

-- task t with this time_out left and this joining priority, and other seats and rings
abbrev pub with_wait : Line → ℕ → ℕ → ℕ → List ℕ → List ℕ → Line
with_wait l t left joined q rings =
    record { left = set l.left t left; seat = q; joined = set l.joined t joined; rings = rings }

-- "A task is ready if started, not waiting and not suspended." (Here of a task on seat x.)
unfoldable pub ready_with : Bool → Bool → ℕ → Bool
ready_with started suspended x = started && (not suspended && not (waits_on x))

abbrev pub is_ready : Line → Tasks → ℕ → Bool
is_ready l k t = ready_with (get_or k.started t false) (get_or k.suspended t false) (get_or l.seat t 0)

-- the tasks waiting for object i (semaphore i is object i)
abbrev pub waiters_of : Line → ℕ → ℕ
waiters_of l i = standing l.seat (queue_seats i)

-- a number with a sign
pub record Signed : Type 0 where
  pub negative : Bool
  pub size : ℕ

-- x less y, with a sign
unfoldable pub less : ℕ → ℕ → Signed
less x y = record { negative = ltb x y; size = pick (ltb x y) (y - x) (x - y) }

-- The count of semaphore i: the units less the tasks waiting, with a sign. It stands here once: sem_info tells it, the rule tests
-- it and the books sum it up.
abbrev pub count : Line → Semaphores → ℕ → Signed
count l m i = less (get_or m.units i 0) (waiters_of l i)

-- "the running task after it, 0 if none"
unfoldable pub running_task : State → ℕ
running_task s = pick (ltb s.running 32) (identifier (get_or s.tasks.serial s.running 0) s.running) 0
