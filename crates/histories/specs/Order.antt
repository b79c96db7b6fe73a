-- "FIFO queues grow at the end. Others are by priority at the moment of joining, equals by arrival": which of two waiting tasks
-- precedes the other, told by a history alone: when each was last answered PENDING, and the priority that it had then.
-- Assumes nothing.
use Rattle.std.specs.Prelude.{ℕ, suc, ◌<◌, ◌≡◌, ◌⊎◌, Bool, true, false, List, [], ◌∷◌, get_or, set, replicate, eqb}
use Rattle.scope.specs.declared.State.{State}
use Rattle.scope.specs.declared.Answer.{Answer}
use Rattle.scope.specs.Choice.{pick}
use Rattle.scope.specs.Statuses.{PENDING}
use Rattle.scope.specs.Identifiers.{identifier}
use Rattle.scope.specs.Seats.{queue_seats}
use Rattle.scope.specs.Objects.{objects_end, objects_of}
use Rattle.laws.specs.Seating.{In}
use Rattle.histories.specs.History.{Event, answer_to}

-- for each task slot, the number of the event at which its task was last answered PENDING, and its priority at that moment
pub record Arrivals : Type 0 where
  pub time : List ℕ
  pub priority : List ℕ

-- the task in slot t arrives
abbrev pub arrival : Arrivals → ℕ → ℕ → ℕ → Arrivals
arrival told t n p = record { time = set told.time t n; priority = set told.priority t p }

-- event n, made in state s, was so answered: the caller is the task that ran
unfoldable pub arrives : Arrivals → ℕ → State → Answer → Arrivals
arrives told n s a =
    pick (eqb a.status PENDING) (arrival told s.running n (get_or s.tasks.priority s.running 0)) told

-- a history whose first event has number n
abbrev pub arrived_after : Arrivals → ℕ → State → List Event → Arrivals
arrived_after told n s [] = told
arrived_after told n s (x ∷ xs) = arrived_after (arrives told n s (answer_to s x)) (suc n) (answer_to s x).state xs

-- nobody has arrived; the first event of a history has number 1
abbrev pub no_arrivals : Arrivals
no_arrivals = record { time = replicate 32 0; priority = replicate 32 0 }

abbrev pub arrivals : State → List Event → Arrivals
arrivals s xs = arrived_after no_arrivals 1 s xs

-- of two tasks in one queue, FIFO or not, t precedes u
abbrev pub Ahead : Bool → Arrivals → ℕ → ℕ → Type 0
Ahead true told t u = get_or told.time t 0 < get_or told.time u 0
Ahead false told t u =
    (get_or told.priority u 0 < get_or told.priority t 0)
    ⊎ ((get_or told.priority t 0 ≡ get_or told.priority u 0) × (get_or told.time t 0 < get_or told.time u 0))

-- task t waits for object i
abbrev pub WaitsFor : State → ℕ → ℕ → Type 0
WaitsFor s i t = In s.line.seat (queue_seats i) t

-- of two tasks that wait for it, t precedes u
abbrev pub Precedes : State → Arrivals → ℕ → ℕ → ℕ → Type 0
Precedes s told i t u = Ahead ((objects_of s).fifo i) told t u

-- Each object's queue is in that order, and a waiting task's joining priority is the one that it had when it arrived.
pub record InOrder (s : State) (told : Arrivals) : Type 0 where
  pub joined : (i : ℕ) → i < objects_end → (t : ℕ) → WaitsFor s i t → get_or s.line.joined t 0 ≡ get_or told.priority t 0
  pub forward : (i : ℕ) → i < objects_end → (t u : ℕ) → WaitsFor s i t → WaitsFor s i u → get_or s.line.seat t 0 < get_or s.line.seat u 0
      → Precedes s told i t u
  pub back : (i : ℕ) → i < objects_end → (t u : ℕ) → WaitsFor s i t → WaitsFor s i u → Precedes s told i t u
      → get_or s.line.seat t 0 < get_or s.line.seat u 0

-- An answer that grants semaphore i, for which tasks waited: it wakes one of them, with status 0, and that one precedes all others.
pub record Grant (s : State) (told : Arrivals) (i : ℕ) (a : Answer) : Type 0 where
  pub task : ℕ
  pub waited : WaitsFor s i task
  pub woken : a.woken ≡ 1
  pub why : a.why ≡ 0
  pub named : get_or a.wakes 0 0 ≡ identifier (get_or s.tasks.serial task 0) task
  pub first : (u : ℕ) → WaitsFor s i u → (u ≡ task → ⊥) → Precedes s told i task u
