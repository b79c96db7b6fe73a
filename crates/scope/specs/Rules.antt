-- "Rules of a state", each a definition of its own; the list of them, a rule a row; and the test that none is broken.
-- Assumes nothing.
use Rattle.std.specs.Prelude.{ℕ, ◌+◌, ◌-◌, ◌%◌, ◌^◌, Bool, true, false, not, ◌&&◌, List, [], ◌∷◌, get_or, ltb, leb, eqb}
use Rattle.scope.specs.declared.State.{State}
use Rattle.scope.specs.declared.Line.{Line}
use Rattle.scope.specs.declared.Tasks.{Tasks}
use Rattle.scope.specs.declared.Semaphores.{Semaphores}
use Rattle.scope.specs.declared.Pools.{Pools}
use Rattle.scope.specs.declared.Queues.{Queues}
use Rattle.scope.specs.Choice.{pick, every, number}
use Rattle.scope.specs.Seats.{ring_seats, first_ring, waits_on, queue_of, is_on, on_seat, ring_mask, mask_of, runner_of}
use Rattle.scope.specs.Objects.{queue_object, objects_of}
use Rattle.scope.specs.Views.{ready_with, waiters_of, Signed, count}
use Rattle.scope.specs.Areas.{is_area, is_size, buffers_of, share_byte, is_free, free_of}
use Rattle.scope.specs.Places.{on_place}
use Rattle.scope.specs.Pools.{pool_buffers, pool_row}
use Rattle.scope.specs.Messages.{store_right}
use Rattle.scope.specs.Queues.{most_of, longest_of, held_of, store_of, are_limits}
use Rattle.scope.specs.Tasks.{last_priority}
use Rattle.scope.specs.Waiting.{is_time_out}
use Rattle.scope.specs.Semaphores.{last_count}

-- The seats say queues: a seat that is taken is taken by one task only, and is the first of its queue or directly behind
-- another that is taken. So the places of a queue of n are 1 to n, each once.
unfoldable pub seat_right : List ℕ → ℕ → Bool
seat_right q x =
    pick (eqb x 0) true
    (eqb (number (is_on q x) 32) 1 && pick (eqb (x % 64) 1) true (ltb 1 (x % 64) && ltb (on_seat q (x - 1)) 32))

unfoldable pub seats_right : List ℕ → Bool
seats_right q = every (λ t. seat_right q (get_or q t 0)) 32

-- "The ready order holds each ready task once and no other, priorities never rising along it.": a ready task stands among
-- those of its priority, and no other task stands among the ready
unfoldable pub ready_right : Bool → Bool → ℕ → ℕ → Bool
ready_right started suspended priority x =
    pick (ready_with started suspended x) (ltb (ring_seats priority) x && ltb x (ring_seats priority + 63)) (ltb x first_ring)

unfoldable pub ready_order_right : Line → Tasks → Bool
ready_order_right l k =
    every
    (λ t. ready_right (get_or k.started t false) (get_or k.suspended t false) (get_or k.priority t 0) (get_or l.seat t 0))
    32

-- M-106: the kept mask is that of "rings that hold a task"
unfoldable pub rings_right : Line → Bool
rings_right l = eqb (mask_of l.rings) (ring_mask l.seat)

-- "Each waiting task stands once in one live semaphore's queue, with a time_out left of 1 to 65,535 or FOREVER, and its joining
-- priority; queues hold no other task"; "the waiting fields of a task that doesn't wait" are zeros. M-100: "The state rules read
-- 'one live semaphore's or queue's wait queue'". (`live` says it of an object's number.)
unfoldable pub wait_right : (ℕ → Bool) → ℕ → ℕ → ℕ → Bool
wait_right live x left joined =
    pick (waits_on x)
    (leb 64 x && (live (queue_of x) && (is_time_out left && leb joined last_priority)))
    (eqb left 0 && eqb joined 0)

unfoldable pub waits_right : Line → (ℕ → Bool) → Bool
waits_right l live = every (λ t. wait_right live (get_or l.seat t 0) (get_or l.left t 0) (get_or l.joined t 0)) 32

-- "those not FIFO never rise in joining priority": nobody has a higher one than who stands directly ahead
unfoldable pub joined_right : List ℕ → List ℕ → (ℕ → Bool) → ℕ → ℕ → Bool
joined_right q joined fifo x priority =
    pick (waits_on x && ltb 1 (x % 64))
    (pick (fifo (queue_of x)) true (leb priority (get_or joined (on_seat q (x - 1)) 0)))
    true

unfoldable pub queues_sorted : Line → (ℕ → Bool) → Bool
queues_sorted l fifo = every (λ t. joined_right l.seat l.joined fifo (get_or l.seat t 0) (get_or l.joined t 0)) 32

-- "A queue with n tasks, n above 0, has count −n; an empty queue has count 0 to 32,767."
unfoldable pub count_right : ℕ → Signed → Bool
count_right n c = pick (ltb 0 n) (c.negative && eqb c.size n) (not c.negative && leb c.size last_count)

unfoldable pub counts_right : Line → Semaphores → Bool
counts_right l m = every (λ i. count_right (waiters_of l i) (count l m i)) 16

-- M-100: "a queue with waiters holds nothing, any other only what sends can leave": no more than its most messages (and, below, none
-- longer than its longest)
unfoldable pub holds_right : ℕ → ℕ → ℕ → Bool
holds_right n held most = pick (ltb 0 n) (eqb held 0) (leb held most)

unfoldable pub held_right : Line → Queues → Bool
held_right l u = every (λ i. holds_right (waiters_of l (queue_object i)) (held_of u i) (most_of u i)) 8

-- "Tasks not started neither wait nor are suspended."
unfoldable pub start_right : Bool → Bool → ℕ → Bool
start_right started suspended x = pick started true (not (waits_on x) && not suspended)

unfoldable pub starts_right : Line → Tasks → Bool
starts_right l k = every (λ t. start_right (get_or k.started t false) (get_or k.suspended t false) (get_or l.seat t 0)) 32

-- "Serials, priorities and options are in range." (A live object's serial is 1 or more; no number of 16 bits is above 65,535.)
-- "A slot without a live object holds its last serial (0 if none) and otherwise zeros"
unfoldable pub task_right : Tasks → ℕ → Bool
task_right k t =
    pick (get_or k.live t false)
    (leb 1 (get_or k.serial t 0) && leb (get_or k.priority t 0) last_priority)
    (eqb (get_or k.name t 0) 0
    && (not (get_or k.started t false) && (not (get_or k.suspended t false) && eqb (get_or k.priority t 0) 0)))

unfoldable pub tasks_right : Tasks → Bool
tasks_right k = every (task_right k) 32

unfoldable pub sem_right : Semaphores → ℕ → Bool
sem_right m i =
    pick (get_or m.live i false)
    (leb 1 (get_or m.serial i 0))
    (eqb (get_or m.name i 0) 0 && (not (get_or m.fifo i false) && eqb (get_or m.units i 0) 0))

unfoldable pub sems_right : Semaphores → Bool
sems_right m = every (sem_right m) 16

-- M-100: "most messages (1 to 16), longest message (1 to 64)"
unfoldable pub queue_right : Queues → ℕ → Bool
queue_right u i =
    pick (get_or u.live i false)
    (leb 1 (get_or u.serial i 0) && are_limits (most_of u i) (longest_of u i))
    (eqb (get_or u.name i 0) 0
    && (not (get_or u.fifo i false) && (eqb (most_of u i) 0 && (eqb (longest_of u i) 0 && eqb (held_of u i) 0))))

unfoldable pub queues_right : Queues → Bool
queues_right u = every (queue_right u) 8

-- M-100: "only what sends can leave": the messages held are in their one form
unfoldable pub messages_right : Queues → Bool
messages_right u = store_right (store_of u) u.limits

-- "Each live pool is one that creation admits"; "marks of buffers past a pool's number" are zeros
unfoldable pub admitted : ℕ → ℕ → ℕ → ℕ → Bool
admitted address length size out =
    is_area address length && (is_size length size && ltb out (2 ^ buffers_of length size))

unfoldable pub pool_right : Pools → ℕ → Bool
pool_right p i =
    pick (get_or p.live i false)
    (leb 1 (get_or p.serial i 0)
    && admitted (get_or p.address i 0) (get_or p.length i 0) (get_or p.size i 0) (get_or p.out i 0))
    (eqb (get_or p.out i 0) 0
    && (eqb (get_or p.name i 0) 0
    && (eqb (get_or p.address i 0) 0
    && (eqb (get_or p.length i 0) 0 && (eqb (get_or p.size i 0) 0 && not (get_or p.forced i false))))))

unfoldable pub pools_right : Pools → Bool
pools_right p = every (pool_right p) 8

-- "The order of free buffers joins the state, each free buffer once" (M-103): of n buffers, those that are free have the places 1 to
-- their number, each one place of its own; all other places are zeros
unfoldable pub place_right : List ℕ → ℕ → ℕ → ℕ → Bool
place_right row out n k =
    pick (ltb k n && is_free out k)
    (leb 1 (get_or row k 0) && (leb (get_or row k 0) (free_of out n) && eqb (on_place row (get_or row k 0)) k))
    (eqb (get_or row k 0) 0)

unfoldable pub order_right : List ℕ → ℕ → ℕ → Bool
order_right row out n = every (place_right row out n) 64 && every (λ x. ltb (on_place row (x + 1)) 64) (free_of out n)

unfoldable pub orders_right : Pools → Bool
orders_right p = every (λ i. order_right (pool_row p i) (get_or p.out i 0) (pool_buffers p i)) 8

-- "no two live pools share a byte"
unfoldable pub pair_shares : Pools → ℕ → ℕ → Bool
pair_shares p i j =
    get_or p.live i false && (get_or p.live j false
    && share_byte (get_or p.address i 0) (get_or p.length i 0) (get_or p.address j 0) (get_or p.length j 0))

unfoldable pub pools_apart : Pools → Bool
pools_apart p = every (λ i. every (λ j. pick (ltb i j) (not (pair_shares p i j)) true) 8) 8

-- the kept running task is the one that runs
unfoldable pub running_right : State → Bool
running_right s = eqb s.running (runner_of s.line.seat (mask_of s.line.rings))

-- The rules, a row each: those of orders and queues,
abbrev pub order_rules : List (State → Bool)
order_rules =
    (λ s. seats_right s.line.seat)
    ∷ (λ s. rings_right s.line)
    ∷ (λ s. ready_order_right s.line s.tasks)
    ∷ (λ s. waits_right s.line (objects_of s).live)
    ∷ (λ s. queues_sorted s.line (objects_of s).fifo)
    ∷ (λ s. counts_right s.line s.semaphores)
    ∷ (λ s. held_right s.line s.queues)
    ∷ (λ s. starts_right s.line s.tasks)
    ∷ (λ s. running_right s)
    ∷ []

-- and those of the tables
abbrev pub table_rules : List (State → Bool)
table_rules =
    (λ s. tasks_right s.tasks)
    ∷ (λ s. sems_right s.semaphores)
    ∷ (λ s. queues_right s.queues)
    ∷ (λ s. messages_right s.queues)
    ∷ (λ s. pools_right s.pools)
    ∷ (λ s. orders_right s.pools)
    ∷ (λ s. pools_apart s.pools)
    ∷ []

-- the state keeps each rule of a list
unfoldable pub keeps : List (State → Bool) → State → Bool
keeps [] s = true
keeps (rule ∷ rules) s = rule s && keeps rules s

-- no rule is broken
unfoldable pub sound : State → Bool
sound s = keeps order_rules s && keeps table_rules s
