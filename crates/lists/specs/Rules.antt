-- Those of document 01's 'Rules of a state' that speak of orders and queues, over the paper's lists: `ready_order` and `queue`.
-- Assumes nothing.
use Rattle.std.specs.Prelude.{ℕ, zero, suc, ◌≤◌, ◌<◌, ◌≡◌, Bool, true, false, List, [], ◌++◌, length, get_or}
use Rattle.scope.specs.declared.State.{State}
use Rattle.scope.specs.Lists.{has}
use Rattle.scope.specs.Choice.{pick, has_bit}
use Rattle.scope.specs.Seats.{ring_seats, first_ring, waits_on, mask_of, queue, ready_order}
use Rattle.scope.specs.Objects.{objects_end, queue_object, objects_of}
use Rattle.scope.specs.Views.{is_ready, count}
use Rattle.scope.specs.Queues.{most_of}
use Rattle.scope.specs.Tasks.{last_priority}
use Rattle.scope.specs.Waiting.{is_time_out}
use Rattle.scope.specs.Semaphores.{last_count}
use Rattle.scope.specs.Rules.{seats_right, table_rules, keeps}
use Rattle.laws.specs.Seating.{In}
use Rattle.lists.specs.Along.{Once, NeverRising, queue_above, first_in}

-- the ready order and the queue of object i
abbrev pub ready_of : State → List ℕ
ready_of s = ready_order s.line.seat

abbrev pub queue_in : State → ℕ → List ℕ
queue_in s i = queue s.line.seat i

-- task t waits
abbrev pub waiting : State → ℕ → Bool
waiting s t = waits_on (get_or s.line.seat t 0)

-- "The ready order holds each ready task once and no other, .."
pub record HoldsTheReady (s : State) : Type 0 where
  pub each : (t : ℕ) → has (ready_of s) t ≡ is_ready s.line s.tasks t
  pub once : Once (ready_of s)

-- ".. priorities never rising along it."
abbrev pub PrioritiesFall : State → Type 0
PrioritiesFall s = NeverRising s.tasks.priority (ready_of s)

-- "its first runs"
abbrev pub FirstRuns : State → Type 0
FirstRuns s = s.running ≡ first_in (ready_of s)

-- "Each waiting task stands once in one live semaphore's queue, ..", which M-100 reads "one live semaphore's or queue's wait queue"
-- (These are objects, and no other object is live.)
pub record StandsInOne (s : State) : Type 0 where
  pub stands : (t : ℕ) → waiting s t ≡ true
      → (i : ℕ) × (i < objects_end) × ((objects_of s).live i ≡ true) × (has (queue_in s i) t ≡ true)
  pub one : (t i j : ℕ) → has (queue_in s i) t ≡ true → has (queue_in s j) t ≡ true → i ≡ j
  pub once : (i : ℕ) → Once (queue_in s i)

-- ".. with a time_out left of 1 to 65,535 or FOREVER, .."
abbrev pub TimeLeft : State → Type 0
TimeLeft s = (t : ℕ) → waiting s t ≡ true → is_time_out (get_or s.line.left t 0) ≡ true

-- ".. and its joining priority; .."
abbrev pub JoinedWith : State → Type 0
JoinedWith s = (t : ℕ) → waiting s t ≡ true → get_or s.line.joined t 0 ≤ last_priority

-- ".. queues hold no other task; .."
abbrev pub NoOther : State → Type 0
NoOther s = (i : ℕ) → i < objects_end → (t : ℕ) → has (queue_in s i) t ≡ true → waiting s t ≡ true

-- ".. those not FIFO never rise in joining priority."
abbrev pub JoinedFall : State → Type 0
JoinedFall s = (i : ℕ) → i < objects_end → (objects_of s).fifo i ≡ false → NeverRising s.line.joined (queue_in s i)

-- "A queue with n tasks, n above 0, has count −n; .."
abbrev pub CountBelow : State → Type 0
CountBelow s = (i n : ℕ) → i < 16 → length (queue_in s i) ≡ n → 0 < n
    → count s.line s.semaphores i ≡ record { negative = true; size = n }

-- ".. an empty queue has count 0 to 32,767."
abbrev pub CountEmpty : State → Type 0
CountEmpty s = (i : ℕ) → i < 16 → length (queue_in s i) ≡ 0
    → ((count s.line s.semaphores i).negative ≡ false) × ((count s.line s.semaphores i).size ≤ last_count)

-- M-100: "a queue with waiters holds nothing, .."
abbrev pub HoldsNothing : State → Type 0
HoldsNothing s = (i : ℕ) → i < 8 → 0 < length (queue_in s (queue_object i)) → get_or s.queues.held i 0 ≡ 0

-- ".. any other only what sends can leave"
abbrev pub HoldsLeft : State → Type 0
HoldsLeft s = (i : ℕ) → i < 8 → length (queue_in s (queue_object i)) ≡ 0 → get_or s.queues.held i 0 ≤ most_of s.queues i

-- "Tasks not started neither wait nor are suspended."
abbrev pub NotStarted : State → Type 0
NotStarted s = (t : ℕ) → t < 32 → get_or s.tasks.started t false ≡ false
    → (waiting s t ≡ false) × (get_or s.tasks.suspended t false ≡ false)

-- "otherwise zeros; so do .. the waiting fields of a task that doesn't wait"
abbrev pub NotWaiting : State → Type 0
NotWaiting s = (t : ℕ) → t < 32 → waiting s t ≡ false → (get_or s.line.left t 0 ≡ 0) × (get_or s.line.joined t 0 ≡ 0)

-- these rules together
pub record Ordered (s : State) : Type 0 where
  pub ready : HoldsTheReady s
  pub priorities : PrioritiesFall s
  pub running : FirstRuns s
  pub stands : StandsInOne s
  pub left : TimeLeft s
  pub joined : JoinedWith s
  pub others : NoOther s
  pub sorted : JoinedFall s
  pub below : CountBelow s
  pub empty : CountEmpty s
  pub nothing : HoldsNothing s
  pub within : HoldsLeft s
  pub idle : NotStarted s
  pub zeros : NotWaiting s

-- The form's own rule, beside `seats_right`: who sits above every object's queue sits in the ring of its priority. So one ready
-- order has one array of seats.
abbrev pub OwnRing : State → Type 0
OwnRing s = (t : ℕ) → first_ring ≤ get_or s.line.seat t 0 → In s.line.seat (ring_seats (get_or s.tasks.priority t 0)) t

-- "Serials, priorities and options are in range.": of priorities
abbrev pub PrioritiesInRange : State → Type 0
PrioritiesInRange s = (t : ℕ) → t < 32 → get_or s.tasks.priority t 0 ≤ last_priority

-- the rule of a state as it was before the mask was kept: no part of it reads the rings
abbrev pub OldRule : State → Type 0
OldRule s = (seats_right s.line.seat ≡ true) × OwnRing s × Ordered s × (keeps table_rules s ≡ true)

-- M-106: "Keep one ring for each priority": the ring of priority p, first first
abbrev pub ring : State → ℕ → List ℕ
ring s p = queue_above s.line.seat (ring_seats p)

-- "The rings, read from priority 15 down": those below n that the mask names, the highest first
abbrev pub rings_below : State → ℕ → List ℕ
rings_below s zero = []
rings_below s (suc p) = pick (has_bit (mask_of s.line.rings) p) (ring s p) [] ++ rings_below s p

abbrev pub rings_read : State → List ℕ
rings_read s = rings_below s 16
