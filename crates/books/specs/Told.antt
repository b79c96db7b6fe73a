-- What is proved of the answers: what the state says beside them, and what sem_info, a release, a send or jump, pool_info and a get
-- answer, told by the turns before.
-- Assumes nothing.
use Rattle.std.specs.Prelude.{ℕ, ◌+◌, ◌*◌, ◌<◌, ◌≡◌, Bool, true, false, List, [], ◌∷◌, length, get_or}
use Rattle.scope.specs.declared.State.{State}
use Rattle.scope.specs.Statuses.{OK}
use Rattle.scope.specs.declared.Found.TheVariants.{At}
use Rattle.scope.specs.Identifiers.{identifier, found}
use Rattle.scope.specs.Objects.{queue_object}
use Rattle.scope.specs.Lists.{has}
use Rattle.scope.specs.Views.{waiters_of, less, running_task}
use Rattle.scope.specs.Answers.{bit_of}
use Rattle.scope.specs.Messages.{shown_of}
use Rattle.scope.specs.Replies.{Wake, Reply}
use Rattle.histories.specs.Order.{WaitsFor}
use Rattle.books.specs.Past.{Turn, running_in}
use Rattle.books.specs.Waiting.{Kind, a_semaphore, a_queue, initial_count, fifo_of, is_fifo, priority_in, named_by, joined_as, waiters_for, waiting, receiving, releases, grants, PrecedesIn, Precedes}
use Rattle.books.specs.Held.{address_in, size_in, is_forced, buffers_in, pool_lives, held, free_longer}

-- how many semaphores there are, and queues; which object one is, by its slot; and the columns of its table
abbrev pub room_of : Kind → ℕ
room_of a_semaphore = 16
room_of a_queue = 8

abbrev pub object_of : Kind → ℕ → ℕ
object_of a_semaphore i = i
object_of a_queue i = queue_object i

abbrev pub serials_of : Kind → State → List ℕ
serials_of a_semaphore s = s.semaphores.serial
serials_of a_queue s = s.queues.serial

abbrev pub lives_of : Kind → State → List Bool
lives_of a_semaphore s = s.semaphores.live
lives_of a_queue s = s.queues.live

abbrev pub fifos_of : Kind → State → List Bool
fifos_of a_semaphore s = s.semaphores.fifo
fifos_of a_queue s = s.queues.fifo

-- a task's identifier, a semaphore's or a queue's, by its slot
abbrev pub task_id : State → ℕ → ℕ
task_id s t = identifier (get_or s.tasks.serial t 0) t

abbrev pub id_of : Kind → State → ℕ → ℕ
id_of kind s i = identifier (get_or (serials_of kind s) i 0) i

abbrev pub sem_id : State → ℕ → ℕ
sem_id = id_of a_semaphore

-- each stands on the list once
abbrev pub Once : List ℕ → Type 0
Once [] = Unit {0}
Once (x ∷ xs) = (has xs x ≡ false) × Once xs

-- id names the live semaphore, or queue, in slot i
abbrev pub ObjectAt : Kind → State → ℕ → ℕ → Type 0
ObjectAt kind s id i = found (serials_of kind s) (lives_of kind s) id ≡ At i

-- y is a task that waits for the object of this kind that id names
pub record StandsFor (kind : Kind) (s : State) (id y : ℕ) : Type 0 where
  pub slot : ℕ
  pub task : ℕ
  pub names : ObjectAt kind s id slot
  pub waits : WaitsFor s (object_of kind slot) task
  pub who : y ≡ task_id s task

abbrev pub StandsAt : State → ℕ → ℕ → Type 0
StandsAt = StandsFor a_semaphore

-- The state says what the answers tell, of the objects of a kind.
pub record QueuesTold (kind : Kind) (p : ℕ) (s : State) (past : List Turn) : Type 0 where
  pub running : running_in past ≡ running_task s
  pub priority : (t : ℕ) → t < 32 → get_or s.tasks.live t false ≡ true → priority_in p past (task_id s t) ≡ get_or s.tasks.priority t 0
  pub fifo : (i : ℕ) → i < room_of kind → get_or (lives_of kind s) i false ≡ true → fifo_of kind past (id_of kind s i) ≡ get_or (fifos_of kind s) i false
  -- who stands in a queue is on the object's list, and the other way round; each once
  pub listed : (i : ℕ) → i < room_of kind → (t : ℕ) → WaitsFor s (object_of kind i) t → has (waiters_for kind past (id_of kind s i)) (task_id s t) ≡ true
  pub stands : (i : ℕ) → i < room_of kind → (t : ℕ) → t < 32 → has (waiters_for kind past (id_of kind s i)) (task_id s t) ≡ true
      → WaitsFor s (object_of kind i) t
  pub others : (id y : ℕ) → has (waiters_for kind past id) y ≡ true → StandsFor kind s id y
  pub once : (id : ℕ) → Once (waiters_for kind past id)
  pub number : (i : ℕ) → i < room_of kind → length (waiters_for kind past (id_of kind s i)) ≡ waiters_of s.line (object_of kind i)
  -- what is told of who stands in a queue
  pub claims : (i : ℕ) → i < room_of kind → (t : ℕ) → WaitsFor s (object_of kind i) t → named_by kind past (task_id s t) ≡ id_of kind s i
  pub joined : (i : ℕ) → i < room_of kind → (t : ℕ) → WaitsFor s (object_of kind i) t → joined_as kind p past (task_id s t) ≡ get_or s.line.joined t 0
  -- the order
  pub forward : (i : ℕ) → i < room_of kind → (t u : ℕ) → WaitsFor s (object_of kind i) t → WaitsFor s (object_of kind i) u
      → get_or s.line.seat t 0 < get_or s.line.seat u 0 → PrecedesIn kind p past (id_of kind s i) (task_id s t) (task_id s u)
  pub back : (i : ℕ) → i < room_of kind → (t u : ℕ) → WaitsFor s (object_of kind i) t → WaitsFor s (object_of kind i) u
      → PrecedesIn kind p past (id_of kind s i) (task_id s t) (task_id s u) → get_or s.line.seat t 0 < get_or s.line.seat u 0

abbrev pub SeatsTold : ℕ → State → List Turn → Type 0
SeatsTold = QueuesTold a_semaphore

-- "sem_info gives options, count, tasks waiting": what it gives of semaphore id. A negative count's size is the second value.
pub record SemInfoTold (past : List Turn) (id : ℕ) (reply : Reply) : Type 0 where
  pub option : get_or reply.values 0 0 ≡ bit_of (is_fifo past id)
  pub counted : record { negative = reply.negative; size = get_or reply.values 1 0 }
      ≡ less (initial_count past id + releases past id) (grants past id + length (waiting past id))
  pub waiters : get_or reply.values 2 0 ≡ length (waiting past id)
  pub minus : 0 < length (waiting past id) → reply.negative ≡ true
  pub some : reply.negative ≡ true → 0 < length (waiting past id)
  pub size : reply.negative ≡ true → get_or reply.values 1 0 ≡ length (waiting past id)

-- one task is woken, with status 0: it waited for semaphore id, and precedes all others who do
pub record GrantTold (p : ℕ) (past : List Turn) (id : ℕ) (wakes : List Wake) : Type 0 where
  pub task : ℕ
  pub only : wakes ≡ record { task = task; status = OK } ∷ []
  pub waited : has (waiting past id) task ≡ true
  pub first : (u : ℕ) → has (waiting past id) u ≡ true → (u ≡ task → ⊥) → Precedes p past id task u

-- M-100, "A message goes to the first waiter": the reply to a send or jump of n bytes of the message lent wakes one task, with status 0,
-- and shows it the message: it waited for queue id, and precedes all others who do
pub record DeliveryTold (p : ℕ) (past : List Turn) (id n : ℕ) (message : List ℕ) (reply : Reply) : Type 0 where
  pub task : ℕ
  pub only : reply.wakes ≡ record { task = task; status = OK } ∷ []
  pub says : reply.delivers ≡ true
  pub long : reply.length ≡ n
  pub shown : reply.shown ≡ shown_of message n
  pub waited : has (receiving past id) task ≡ true
  pub first : (u : ℕ) → has (receiving past id) u ≡ true → (u ≡ task → ⊥) → PrecedesIn a_queue p past id task u

-- nobody on the wake list is woken with 0
abbrev pub NoGrant : List Wake → Type 0
NoGrant [] = Unit {0}
NoGrant (w ∷ ws) = (w.status ≡ OK → ⊥) × NoGrant ws

-- "pool_info gives buffers, free, size, options": these four values, and what is free or held are all
pub record PoolInfoTold (past : List Turn) (id : ℕ) (values : List ℕ) : Type 0 where
  pub lives : pool_lives past id ≡ true
  pub free : ℕ
  pub all : free + length (held past id) ≡ buffers_in past id
  pub four : values ≡ buffers_in past id ∷ free ∷ size_in past id ∷ bit_of (is_forced past id) ∷ []

-- v is the address of the buffer of pool id that, of those not held, "has been free longest"
pub record LongestFree (past : List Turn) (id v : ℕ) : Type 0 where
  pub lives : pool_lives past id ≡ true
  pub buffer : ℕ
  pub below : buffer < buffers_in past id
  pub starts : address_in past id + buffer * size_in past id ≡ v
  pub longest : (k : ℕ) → k < buffers_in past id → has (held past id) (address_in past id + k * size_in past id) ≡ false → (k ≡ buffer → ⊥)
      → free_longer past id v (address_in past id + k * size_in past id) ≡ true

-- What a get answers: "the buffer that has been free longest", an address that is held of no pool.
pub record GetTold (past : List Turn) (id v : ℕ) : Type 0 where
  pub first : LongestFree past id v
  pub unheld : (jd : ℕ) → has (held past jd) v ≡ false
