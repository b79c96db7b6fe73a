-- The image: the bytes of a state, in edition 1. "a header (edition 1, total length, then count and offset for tasks,
-- semaphores, pools, queues), records by slot, the ready order, no gaps; docs/ fixes and numbers the fields": docs/IMAGE.md does.
-- Assumes nothing.
use Rattle.std.specs.Prelude.{ℕ, ◌+◌, ◌*◌, Bool, ◌≡◌, List, [], ◌∷◌, ◌++◌, map, length}
use Rattle.scope.specs.declared.State.{State}
use Rattle.scope.specs.declared.Line.{Line}
use Rattle.scope.specs.declared.Tasks.{Tasks}
use Rattle.scope.specs.declared.Semaphores.{Semaphores}
use Rattle.scope.specs.declared.Pools.{Pools}
use Rattle.scope.specs.declared.Queues.{Queues}
use Rattle.orders.specs.Places.{order_places}
use Rattle.fields.specs.Numbers.{bit}
use Rattle.fields.specs.Fields.{Field, Table, stride_of, size_of, bytes_of, AllFine}

-- a number of w bytes a slot; a yes or no a slot, as a byte; n bytes a slot
abbrev pub each : ℕ → List ℕ → Field
each w xs = record { width = w; many = 1; col = xs }

abbrev pub flags : List Bool → Field
flags xs = each 1 (map bit xs)

abbrev pub bytes : ℕ → List ℕ → Field
bytes n xs = record { width = 1; many = n; col = xs }

abbrev pub table : ℕ → List Field → Table
table n fs = record { count = n; fields = fs }

-- The fields of a record in order, out of the columns.
-- ( Printed by tools/generate/run: columns
abbrev pub task_columns : (name serial : List ℕ) → (live started suspended : List Bool) → (priority left seat joined : List ℕ) → List Field
task_columns name serial live started suspended priority left seat joined =
    each 4 name
    ∷ each 2 serial
    ∷ flags live
    ∷ flags started
    ∷ flags suspended
    ∷ each 1 priority
    ∷ each 4 left
    ∷ each 2 seat
    ∷ each 1 joined
    ∷ []

abbrev pub sem_columns : (name serial units : List ℕ) → (live fifo : List Bool) → List Field
sem_columns name serial units live fifo =
    each 4 name
    ∷ each 2 serial
    ∷ each 2 units
    ∷ flags live
    ∷ flags fifo
    ∷ []

-- a pool's 64 places
abbrev pub pool_columns : (out name address length size serial : List ℕ) → (live forced : List Bool) → (place : List ℕ) → List Field
pool_columns out name address length size serial live forced place =
    each 8 out
    ∷ each 4 name
    ∷ each 4 address
    ∷ each 4 length
    ∷ each 4 size
    ∷ each 2 serial
    ∷ flags live
    ∷ flags forced
    ∷ bytes 64 place
    ∷ []

-- a queue's most messages and longest message, and its 16 cells of 65 bytes
abbrev pub queue_columns : (name serial : List ℕ) → (live fifo : List Bool) → (limits held cells : List ℕ) → List Field
queue_columns name serial live fifo limits held cells =
    each 4 name
    ∷ each 2 serial
    ∷ flags live
    ∷ flags fifo
    ∷ bytes 2 limits
    ∷ each 1 held
    ∷ bytes 1040 cells
    ∷ []

abbrev pub task_fields : Line → Tasks → List Field
task_fields l k =
    task_columns k.name k.serial k.live k.started k.suspended k.priority l.left l.seat l.joined

abbrev pub sem_fields : Semaphores → List Field
sem_fields m = sem_columns m.name m.serial m.units m.live m.fifo

abbrev pub pool_fields : Pools → List Field
pool_fields p =
    pool_columns p.out p.name p.address p.length p.size p.serial p.live p.forced p.place

abbrev pub queue_fields : Queues → List Field
queue_fields u = queue_columns u.name u.serial u.live u.fifo u.limits u.held u.cells

-- )

-- "Counts are the table sizes, so an edition has one length"
abbrev pub records : State → List Table
records s =
    table 32 (task_fields s.line s.tasks)
    ∷ table 16 (sem_fields s.semaphores)
    ∷ table 8 (pool_fields s.pools)
    ∷ table 8 (queue_fields s.queues)
    ∷ []

-- "the ready order": 32 places. It follows from the seats, and is written so that a reader of the image need not know what a seat is.
abbrev pub order : State → List Table
order s = table 1 (bytes 32 (order_places s.line.seat) ∷ []) ∷ []

-- count and offset of each table
abbrev pub placed : ℕ → List Table → List ℕ
placed at [] = []
placed at (t ∷ ts) = t.count ∷ at ∷ placed (at + t.count * stride_of t.fields) ts

abbrev pub edition : ℕ
edition = 1

-- ten numbers of four bytes
abbrev pub header_size : ℕ
header_size = 40

abbrev pub header : State → List ℕ
header s = edition ∷ (header_size + (size_of (records s) + size_of (order s))) ∷ placed header_size (records s)

-- ( Printed by tools/generate/run: numbers
-- which is the same for every state
abbrev pub header_numbers : List ℕ
header_numbers = 1 ∷ 9920 ∷ 32 ∷ 40 ∷ 16 ∷ 584 ∷ 8 ∷ 744 ∷ 8 ∷ 1480 ∷ []

abbrev pub image_size : ℕ
image_size = 9920

-- where the ready order stands, and the tables before it: their first places, and the bytes of a record
abbrev pub order_at : ℕ
order_at = 9888

abbrev pub tasks_at : ℕ
tasks_at = 40

abbrev pub task_bytes : ℕ
task_bytes = 17

abbrev pub semaphores_at : ℕ
semaphores_at = 584

abbrev pub sem_bytes : ℕ
sem_bytes = 10

abbrev pub pools_at : ℕ
pools_at = 744

abbrev pub pool_bytes : ℕ
pool_bytes = 92

abbrev pub queues_at : ℕ
queues_at = 1480

abbrev pub queue_bytes : ℕ
queue_bytes = 1051

-- )

abbrev pub tables : State → List Table
tables s = table 10 (each 4 (header s) ∷ []) ∷ (records s ++ order s)

unfoldable pub image_of : State → List ℕ
image_of s = bytes_of (tables s)

-- what the kernel's arrays hold: columns as long as their tables, of numbers that fit
pub record Fits (s : State) : Type 0 where
  pub columns : AllFine (records s)
  pub rings : length s.line.rings ≡ 1
