-- A sound state, said without tests: what `sound` (scope's Rules.antt) asks, in the form that proofs use.
-- Each task stands nowhere, waits in one live object's queue, or stands among the ready tasks of its priority.
-- Assumes nothing.
use Rattle.std.specs.Prelude.{ℕ, ◌+◌, ◌≤◌, ◌<◌, ◌≡◌, ◌⊎◌, Bool, true, false, [], ◌∷◌, length, get_or}
use Rattle.scope.specs.declared.State.{State}
use Rattle.scope.specs.declared.Line.{Line}
use Rattle.scope.specs.declared.Tasks.{Tasks}
use Rattle.scope.specs.declared.Semaphores.{Semaphores}
use Rattle.scope.specs.declared.Pools.{Pools}
use Rattle.scope.specs.declared.Queues.{Queues}
use Rattle.scope.specs.Seats.{queue_seats, ring_seats, standing, ring_mask, mask_of, runner_of}
use Rattle.scope.specs.Objects.{objects_end, Objects, objects_of}
use Rattle.scope.specs.Waiting.{is_time_out}
use Rattle.scope.specs.Pools.{pool_buffers, pool_row}
use Rattle.scope.specs.Queues.{most_of}
use Rattle.scope.specs.Rules.{queue_right, messages_right, pool_right, pools_apart}
use Rattle.laws.specs.Order.{Ordered}
use Rattle.laws.specs.Seating.{In, Sorted, AllSeated}

-- The arrays have the sizes that document 01's room sets: true of every state that the code can hold.
-- ( Printed by tools/generate/run: sized
pub record LineSized (l : Line) : Type 0 where
  pub lefts : length l.left ≡ 32
  pub seats : length l.seat ≡ 32
  pub joineds : length l.joined ≡ 32
  pub rings : length l.rings ≡ 1

pub record TasksSized (k : Tasks) : Type 0 where
  pub names : length k.name ≡ 32
  pub serials : length k.serial ≡ 32
  pub lives : length k.live ≡ 32
  pub starteds : length k.started ≡ 32
  pub suspendeds : length k.suspended ≡ 32
  pub priorities : length k.priority ≡ 32

pub record SemsSized (m : Semaphores) : Type 0 where
  pub names : length m.name ≡ 16
  pub serials : length m.serial ≡ 16
  pub unitss : length m.units ≡ 16
  pub lives : length m.live ≡ 16
  pub fifos : length m.fifo ≡ 16

pub record PoolsSized (p : Pools) : Type 0 where
  pub outs : length p.out ≡ 8
  pub names : length p.name ≡ 8
  pub addresses : length p.address ≡ 8
  pub lengths : length p.length ≡ 8
  pub sizes : length p.size ≡ 8
  pub serials : length p.serial ≡ 8
  pub lives : length p.live ≡ 8
  pub forceds : length p.forced ≡ 8
  pub places : length p.place ≡ 512

pub record QueuesSized (u : Queues) : Type 0 where
  pub names : length u.name ≡ 8
  pub serials : length u.serial ≡ 8
  pub lives : length u.live ≡ 8
  pub fifos : length u.fifo ≡ 8
  pub limitss : length u.limits ≡ 16
  pub helds : length u.held ≡ 8
  pub cellss : length u.cells ≡ 8320

-- )

pub record Sized (s : State) : Type 0 where
  pub line : LineSized s.line
  pub tasks : TasksSized s.tasks
  pub semaphores : SemsSized s.semaphores
  pub pools : PoolsSized s.pools
  pub queues : QueuesSized s.queues

-- task t stands nowhere: it is not started, or suspended
pub record Nowhere (l : Line) (k : Tasks) (t : ℕ) : Type 0 where
  pub seat : get_or l.seat t 0 ≡ 0
  pub left : get_or l.left t 0 ≡ 0
  pub joined : get_or l.joined t 0 ≡ 0
  pub idle : (get_or k.started t false ≡ false) ⊎ (get_or k.suspended t false ≡ true)

-- task t waits for object `on`, suspended or not
pub record Waits (l : Line) (k : Tasks) (o : Objects) (t : ℕ) : Type 0 where
  pub on : ℕ
  pub within : on < objects_end
  pub alive : o.live on ≡ true
  pub stands : In l.seat (queue_seats on) t
  pub started : get_or k.started t false ≡ true
  pub time : is_time_out (get_or l.left t 0) ≡ true
  pub joined : get_or l.joined t 0 ≤ 15

-- task t is ready
pub record Ready (l : Line) (k : Tasks) (t : ℕ) : Type 0 where
  pub stands : In l.seat (ring_seats (get_or k.priority t 0)) t
  pub started : get_or k.started t false ≡ true
  pub awake : get_or k.suspended t false ≡ false
  pub left : get_or l.left t 0 ≡ 0
  pub joined : get_or l.joined t 0 ≡ 0

abbrev pub Stands : Line → Tasks → Objects → ℕ → Type 0
Stands l k o t = Nowhere l k t ⊎ (Waits l k o t ⊎ Ready l k t)

-- where tasks stand is sound: a queue that is not FIFO is by joining priority, and an object that tasks wait for has no stock
pub record LineSound (l : Line) (k : Tasks) (o : Objects) : Type 0 where
  pub lefts : length l.left ≡ 32
  pub joineds : length l.joined ≡ 32
  pub queues : AllSeated l.seat
  pub rings : l.rings ≡ ring_mask l.seat ∷ []
  pub stands : (t : ℕ) → t < 32 → Stands l k o t
  pub sorted : (i : ℕ) → i < objects_end → o.fifo i ≡ false → Sorted l.seat l.joined (queue_seats i)
  pub counts : (i : ℕ) → i < objects_end → 0 < standing l.seat (queue_seats i) → o.stock i ≡ 0

-- a live task's serial and priority are in range; a slot without one holds zeros; a task not started is not suspended
-- (of a slot with name n, started a, suspended b, priority p)
pub record TaskRow (n serial : ℕ) (live a b : Bool) (p : ℕ) : Type 0 where
  pub alive : live ≡ true → (1 ≤ serial) × (p ≤ 15)
  pub name : live ≡ false → n ≡ 0
  pub started : live ≡ false → a ≡ false
  pub priority : live ≡ false → p ≡ 0
  pub suspended : a ≡ false → b ≡ false

abbrev pub TaskSound : Tasks → ℕ → Type 0
TaskSound k t =
    TaskRow (get_or k.name t 0) (get_or k.serial t 0) (get_or k.live t false) (get_or k.started t false) (get_or k.suspended t false)
    (get_or k.priority t 0)

pub record TasksSound (k : Tasks) : Type 0 where
  pub sized : TasksSized k
  pub each : (t : ℕ) → t < 32 → TaskSound k t

-- a live semaphore's serial is in range, and its units; a slot without one holds zeros
-- (of a slot with name n, units u, FIFO f)
pub record SemRow (n serial u : ℕ) (live f : Bool) : Type 0 where
  pub alive : live ≡ true → 1 ≤ serial
  pub units : u ≤ 32767
  pub name : live ≡ false → n ≡ 0
  pub fifo : live ≡ false → f ≡ false
  pub none : live ≡ false → u ≡ 0

abbrev pub SemSound : Semaphores → ℕ → Type 0
SemSound m i = SemRow (get_or m.name i 0) (get_or m.serial i 0) (get_or m.units i 0) (get_or m.live i false) (get_or m.fifo i false)

pub record SemsSound (m : Semaphores) : Type 0 where
  pub sized : SemsSized m
  pub each : (i : ℕ) → i < 16 → SemSound m i

pub record PoolsSound (p : Pools) : Type 0 where
  pub sized : PoolsSized p
  pub each : (i : ℕ) → i < 8 → pool_right p i ≡ true
  pub orders : (i : ℕ) → i < 8 → Ordered (pool_row p i) (get_or p.out i 0) (pool_buffers p i)
  pub apart : pools_apart p ≡ true

-- each slot of the queues is right, no queue holds more than its most messages, and what they hold is in its one form
pub record QueuesSound (u : Queues) : Type 0 where
  pub sized : QueuesSized u
  pub each : (i : ℕ) → i < 8 → queue_right u i ≡ true
  pub held : (i : ℕ) → i < 8 → get_or u.held i 0 ≤ most_of u i
  pub messages : messages_right u ≡ true

pub record Sound (s : State) : Type 0 where
  pub line : LineSound s.line s.tasks (objects_of s)
  pub tasks : TasksSound s.tasks
  pub semaphores : SemsSound s.semaphores
  pub pools : PoolsSound s.pools
  pub queues : QueuesSound s.queues
  pub running : s.running ≡ runner_of s.line.seat (mask_of s.line.rings)
