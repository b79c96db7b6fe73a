-- "A state that breaks a listed rule gets BAD_STATE": a good state, and for each sentence of 'Rules of a state', and each part that
-- a sentence names, the good one with one change that breaks it. To add a state, add a row.
-- Assumes nothing.
use Rattle.std.specs.Prelude.{ℕ, zero, suc, ◌+◌, ◌*◌, Bool, true, false, not, ◌&&◌, List, [], ◌∷◌, ◌++◌, set, drop, replicate, eqb}
use Rattle.scope.specs.declared.State.{State}
use Rattle.scope.specs.declared.Answer.{Answer}
use Rattle.scope.specs.declared.Line.{Line}
use Rattle.scope.specs.declared.Tasks.{Tasks}
use Rattle.scope.specs.declared.Semaphores.{Semaphores}
use Rattle.scope.specs.declared.Pools.{Pools}
use Rattle.scope.specs.declared.Queues.{Queues}
use Rattle.scope.specs.Choice.{pick}
use Rattle.scope.specs.Seats.{queue_seats, ring_seats}
use Rattle.scope.specs.Views.{with_queues}
use Rattle.scope.specs.Answers.{no_wakes, no_message}
use Rattle.scope.specs.Waiting.{FOREVER}
use Rattle.scope.specs.Statuses.{OK, BAD_STATE}
use Rattle.scope.specs.Objects.{queue_object, objects_of}
use Rattle.scope.specs.Rules.{seats_right, rings_right, ready_order_right, waits_right, queues_sorted, counts_right, held_right, starts_right}
use Rattle.scope.specs.Rules.{tasks_right, sems_right, queues_right, messages_right, pools_right, orders_right, pools_apart, running_right}
use Rattle.scope.specs.Places.{new_row}
use Rattle.scope.specs.Step.{stepped}
use Rattle.cases.specs.Cases.{same}

-- Tasks 0 and 1, of priority 5, are ready, and 0 runs; 2 waits for semaphore 0, with 2 ticks left, and behind it 3, which is
-- suspended, for ever; 4 is suspended, 5 not started, and 6 is deleted; 7 waits for queue 0, with 9 ticks left, and behind it 8.
abbrev good_line : Line
good_line =
    record {
      left = 0 ∷ 0 ∷ 2 ∷ FOREVER ∷ 0 ∷ 0 ∷ 0 ∷ 9 ∷ FOREVER ∷ replicate 23 0;
      seat = (ring_seats 5 + 1) ∷ (ring_seats 5 + 2) ∷ (queue_seats 0 + 1) ∷ (queue_seats 0 + 2) ∷ 0 ∷ 0 ∷ 0
          ∷ (queue_seats (queue_object 0) + 1) ∷ (queue_seats (queue_object 0) + 2) ∷ replicate 23 0;
      joined = 0 ∷ 0 ∷ 8 ∷ 6 ∷ 0 ∷ 0 ∷ 0 ∷ 4 ∷ 3 ∷ replicate 23 0;
      rings = 32 ∷ [];
    }

abbrev good_tasks : Tasks
good_tasks =
    record {
      name = 0 ∷ 11 ∷ 12 ∷ 13 ∷ 14 ∷ 15 ∷ 0 ∷ 17 ∷ 18 ∷ replicate 23 0;
      serial = 1 ∷ 1 ∷ 1 ∷ 1 ∷ 1 ∷ 1 ∷ 2 ∷ 1 ∷ 1 ∷ replicate 23 0;
      live = true ∷ true ∷ true ∷ true ∷ true ∷ true ∷ false ∷ true ∷ true ∷ replicate 23 false;
      started = true ∷ true ∷ true ∷ true ∷ true ∷ false ∷ false ∷ true ∷ true ∷ replicate 23 false;
      suspended = false ∷ false ∷ false ∷ true ∷ true ∷ replicate 27 false;
      priority = 5 ∷ 5 ∷ 8 ∷ 6 ∷ 3 ∷ 2 ∷ 0 ∷ 4 ∷ 3 ∷ replicate 23 0;
    }

-- semaphore 0 has waiters, 1 is FIFO and has count 3, and 2 is deleted
abbrev good_semaphores : Semaphores
good_semaphores =
    record {
      name = 21 ∷ 22 ∷ replicate 14 0;
      serial = 1 ∷ 1 ∷ 1 ∷ replicate 13 0;
      units = 0 ∷ 3 ∷ replicate 14 0;
      live = true ∷ true ∷ replicate 14 false;
      fifo = false ∷ true ∷ replicate 14 false;
    }

-- pool 0 has three buffers, the first and the last of them out; pool 1 has 64, all free, the second of them the longest, and begins
-- where pool 0 ends; 2 is deleted
abbrev good_pools : Pools
good_pools =
    record {
      out = 5 ∷ replicate 7 0;
      name = 31 ∷ 32 ∷ replicate 6 0;
      address = 4096 ∷ 4196 ∷ replicate 6 0;
      length = 100 ∷ 64 ∷ replicate 6 0;
      size = 32 ∷ 1 ∷ replicate 6 0;
      serial = 1 ∷ 1 ∷ 1 ∷ replicate 5 0;
      live = true ∷ true ∷ replicate 6 false;
      forced = false ∷ true ∷ replicate 6 false;
      place = 0 ∷ 1 ∷ replicate 62 0 ++ (2 ∷ 1 ∷ drop 2 (new_row 64) ++ replicate 384 0);
    }

-- queue 0 has waiters and so holds nothing; 1 is FIFO, and holds the two messages that are its most, one of its longest, 3 bytes, and
-- one of 1; 2 is deleted
abbrev good_queues : Queues
good_queues =
    record {
      name = 41 ∷ 42 ∷ replicate 6 0;
      serial = 1 ∷ 1 ∷ 1 ∷ replicate 5 0;
      live = true ∷ true ∷ replicate 6 false;
      fifo = false ∷ true ∷ replicate 6 false;
      limits = 16 ∷ 64 ∷ 2 ∷ 3 ∷ replicate 12 0;
      held = 0 ∷ 2 ∷ replicate 6 0;
      cells = replicate 1040 0 ++ (3 ∷ 101 ∷ 102 ∷ 103 ∷ replicate 61 0 ++ (1 ∷ 104 ∷ replicate 7213 0));
    }

abbrev pub good : State
good =
    record {
      line = good_line;
      tasks = good_tasks;
      semaphores = good_semaphores;
      pools = good_pools;
      queues = good_queues;
      running = 0;
    }

-- the good state with another line, other tasks, semaphores, pools, queues, another running task
abbrev a_line : Line → State
a_line l = record { line = l; tasks = good_tasks; semaphores = good_semaphores; pools = good_pools; queues = good_queues; running = 0 }

abbrev a_table : Tasks → State
a_table k = record { line = good_line; tasks = k; semaphores = good_semaphores; pools = good_pools; queues = good_queues; running = 0 }

abbrev semaphores : Semaphores → State
semaphores m = record { line = good_line; tasks = good_tasks; semaphores = m; pools = good_pools; queues = good_queues; running = 0 }

abbrev pools : Pools → State
pools p = record { line = good_line; tasks = good_tasks; semaphores = good_semaphores; pools = p; queues = good_queues; running = 0 }

abbrev queues : Queues → State
queues u = with_queues good u

abbrev runs : ℕ → State
runs t = record { line = good_line; tasks = good_tasks; semaphores = good_semaphores; pools = good_pools; queues = good_queues; running = t }

-- Column n of a table, and in its slot i another number or mark if it is the column that is meant.
abbrev numbers : ℕ → ℕ → ℕ → ℕ → List ℕ → List ℕ
numbers meant i x n column = pick (eqb n meant) (set column i x) column

abbrev marks : ℕ → ℕ → Bool → ℕ → List Bool → List Bool
marks meant i b n column = pick (eqb n meant) (set column i b) column

-- the good state with one number x or one mark b changed: of task t,
abbrev line_with : ℕ → ℕ → ℕ → State
line_with meant t x =
    a_line
    (record {
      left = numbers meant t x 0 good_line.left;
      seat = numbers meant t x 1 good_line.seat;
      joined = numbers meant t x 2 good_line.joined;
      rings = numbers meant t x 3 good_line.rings;
    })

abbrev left : ℕ → ℕ → State
left t x = line_with 0 t x

abbrev seat : ℕ → ℕ → State
seat t x = line_with 1 t x

abbrev joined : ℕ → ℕ → State
joined t x = line_with 2 t x

-- of the column of the mask, which has one place,
abbrev mask : ℕ → State
mask x = line_with 3 0 x

abbrev tasks_with : ℕ → ℕ → ℕ → Bool → State
tasks_with meant t x b =
    a_table
    (record {
      name = numbers meant t x 0 good_tasks.name;
      serial = numbers meant t x 1 good_tasks.serial;
      live = marks meant t b 2 good_tasks.live;
      started = marks meant t b 3 good_tasks.started;
      suspended = marks meant t b 4 good_tasks.suspended;
      priority = numbers meant t x 5 good_tasks.priority;
    })

abbrev task_name : ℕ → ℕ → State
task_name t x = tasks_with 0 t x false

abbrev task_serial : ℕ → ℕ → State
task_serial t x = tasks_with 1 t x false

abbrev task_live : ℕ → Bool → State
task_live t b = tasks_with 2 t 0 b

abbrev started : ℕ → Bool → State
started t b = tasks_with 3 t 0 b

abbrev suspended : ℕ → Bool → State
suspended t b = tasks_with 4 t 0 b

abbrev priority : ℕ → ℕ → State
priority t x = tasks_with 5 t x false

-- of semaphore i,
abbrev semaphores_with : ℕ → ℕ → ℕ → Bool → State
semaphores_with meant i x b =
    semaphores
    (record {
      name = numbers meant i x 0 good_semaphores.name;
      serial = numbers meant i x 1 good_semaphores.serial;
      units = numbers meant i x 2 good_semaphores.units;
      live = marks meant i b 3 good_semaphores.live;
      fifo = marks meant i b 4 good_semaphores.fifo;
    })

abbrev sem_name : ℕ → ℕ → State
sem_name i x = semaphores_with 0 i x false

abbrev sem_serial : ℕ → ℕ → State
sem_serial i x = semaphores_with 1 i x false

abbrev units : ℕ → ℕ → State
units i x = semaphores_with 2 i x false

abbrev sem_live : ℕ → Bool → State
sem_live i b = semaphores_with 3 i 0 b

abbrev fifo : ℕ → Bool → State
fifo i b = semaphores_with 4 i 0 b

-- of pool i
abbrev pools_with : ℕ → ℕ → ℕ → Bool → State
pools_with meant i x b =
    pools
    -- ( Printed by tools/generate/run: changed_pools
    (record {
      out = numbers meant i x 0 good_pools.out;
      name = numbers meant i x 1 good_pools.name;
      address = numbers meant i x 2 good_pools.address;
      length = numbers meant i x 3 good_pools.length;
      size = numbers meant i x 4 good_pools.size;
      serial = numbers meant i x 5 good_pools.serial;
      live = marks meant i b 6 good_pools.live;
      forced = marks meant i b 7 good_pools.forced;
      place = numbers meant i x 8 good_pools.place;
    })
    -- )

abbrev marked : ℕ → ℕ → State
marked i x = pools_with 0 i x false

abbrev pool_name : ℕ → ℕ → State
pool_name i x = pools_with 1 i x false

abbrev address : ℕ → ℕ → State
address i x = pools_with 2 i x false

abbrev long : ℕ → ℕ → State
long i x = pools_with 3 i x false

abbrev size : ℕ → ℕ → State
size i x = pools_with 4 i x false

abbrev pool_serial : ℕ → ℕ → State
pool_serial i x = pools_with 5 i x false

abbrev forced : ℕ → Bool → State
forced i b = pools_with 7 i 0 b

-- of the place of its buffer k
abbrev placed : ℕ → ℕ → ℕ → State
placed i k x = pools_with 8 (i * 64 + k) x false

-- of queue i
abbrev queues_with : ℕ → ℕ → ℕ → Bool → State
queues_with meant i x b =
    queues
    (record {
      name = numbers meant i x 0 good_queues.name;
      serial = numbers meant i x 1 good_queues.serial;
      live = marks meant i b 2 good_queues.live;
      fifo = marks meant i b 3 good_queues.fifo;
      limits = numbers meant i x 4 good_queues.limits;
      held = numbers meant i x 5 good_queues.held;
      cells = numbers meant i x 6 good_queues.cells;
    })

abbrev queue_name : ℕ → ℕ → State
queue_name i x = queues_with 0 i x false

abbrev queue_serial : ℕ → ℕ → State
queue_serial i x = queues_with 1 i x false

abbrev queue_live : ℕ → Bool → State
queue_live i b = queues_with 2 i 0 b

abbrev queue_fifo : ℕ → Bool → State
queue_fifo i b = queues_with 3 i 0 b

abbrev most : ℕ → ℕ → State
most i x = queues_with 4 (2 * i) x false

abbrev longest : ℕ → ℕ → State
longest i x = queues_with 4 (2 * i + 1) x false

abbrev held : ℕ → ℕ → State
held i x = queues_with 5 i x false

-- of byte k of its cell n: the length, and then the bytes
abbrev cell : ℕ → ℕ → ℕ → ℕ → State
cell i n k x = queues_with 6 (i * 1040 + (n * 65 + k)) x false

-- a rule, and states that break it
pub record Broken : Type 0 where
  pub rule : State → Bool
  pub states : List State

abbrev breaks : (State → Bool) → List State → Broken
breaks rule states = record { rule = rule; states = states }

abbrev pub broken : List Broken
broken =
    -- each task stands once: a seat is taken twice, in the ready order and in a queue; there is a gap, in each; a place before
    -- the first
    breaks (λ s. seats_right s.line.seat)
    (seat 1 (ring_seats 5 + 1) ∷ seat 3 (queue_seats 0 + 1) ∷ seat 1 (ring_seats 5 + 3) ∷ seat 3 (queue_seats 0 + 3)
    ∷ seat 1 (ring_seats 5) ∷ [])
    -- M-106, the mask "of rings that hold a task": the bit of priority 5's ring is not set; an empty ring's is, above it and below it
    ∷ breaks (λ s. rings_right s.line) (mask 0 ∷ mask 96 ∷ mask 48 ∷ [])
    -- "The ready order holds each ready task once": one is missing; "and no other": one suspended, one not started, one deleted;
    -- "priorities never rising along it": one stands among those of a lower priority, and one has got another
    ∷ breaks (λ s. ready_order_right s.line s.tasks)
    (seat 1 0 ∷ seat 4 (ring_seats 3 + 1) ∷ seat 5 (ring_seats 2 + 1) ∷ seat 6 (ring_seats 0 + 1)
    ∷ seat 1 (ring_seats 4 + 1) ∷ priority 1 4 ∷ [])
    -- "Each waiting task stands once in one live semaphore's queue", or a queue's (M-100): a deleted semaphore's, one never made,
    -- a deleted queue's, one past the last, none;
    -- "with a time_out left of 1 to 65,535 or FOREVER, and its joining priority": 0, 65,536, priority 16;
    -- "the waiting fields of a task that doesn't wait": of one ready, one suspended, one not started, one deleted
    ∷ breaks (λ s. waits_right s.line (objects_of s).live)
    (seat 3 (queue_seats 2 + 1) ∷ seat 3 (queue_seats 15 + 1) ∷ sem_live 0 false
    ∷ seat 8 (queue_seats (queue_object 2) + 1) ∷ seat 8 (queue_seats (queue_object 8) + 1) ∷ queue_live 0 false ∷ seat 3 1
    ∷ left 2 0 ∷ left 2 65536 ∷ joined 2 16 ∷ left 7 0 ∷ joined 7 16
    ∷ left 0 1 ∷ joined 0 1 ∷ left 4 FOREVER ∷ joined 5 2 ∷ left 6 1 ∷ [])
    -- "those not FIFO never rise in joining priority"
    ∷ breaks (λ s. queues_sorted s.line (objects_of s).fifo) (joined 3 9 ∷ joined 8 5 ∷ [])
    -- "A queue with n tasks, n above 0, has count −n": units beside waiters; "an empty queue has count 0 to 32,767": 32,768
    ∷ breaks (λ s. counts_right s.line s.semaphores) (units 0 1 ∷ units 1 32768 ∷ [])
    -- M-100, "a queue with waiters holds nothing": it holds one; "any other only what sends can leave": one more than its most
    ∷ breaks (λ s. held_right s.line s.queues) (held 0 1 ∷ held 1 3 ∷ [])
    -- "Tasks not started neither wait nor are suspended."
    ∷ breaks (λ s. starts_right s.line s.tasks) (started 2 false ∷ started 7 false ∷ suspended 5 true ∷ [])
    -- "Serials, priorities and options are in range.": live with serial 0, priority 16; "A slot without a live object holds its
    -- last serial (0 if none) and otherwise zeros": a name, started, suspended, a priority, all that task 4 had
    ∷ breaks (λ s. tasks_right s.tasks)
    (task_serial 5 0 ∷ priority 5 16 ∷ task_name 6 1 ∷ started 6 true ∷ suspended 6 true ∷ priority 6 1 ∷ task_live 4 false ∷ [])
    -- the same for semaphores
    ∷ breaks (λ s. sems_right s.semaphores) (sem_serial 1 0 ∷ sem_name 2 1 ∷ fifo 2 true ∷ units 2 1 ∷ sem_live 1 false ∷ [])
    -- the same for queues, and M-100, "most messages (1 to 16), longest message (1 to 64)": 0 and one above, of each
    ∷ breaks (λ s. queues_right s.queues)
    (queue_serial 1 0 ∷ queue_name 2 1 ∷ queue_fifo 2 true ∷ most 2 1 ∷ longest 2 1 ∷ held 2 1 ∷ queue_live 1 false
    ∷ most 0 0 ∷ most 0 17 ∷ longest 0 0 ∷ longest 0 65 ∷ [])
    -- M-100, "any other only what sends can leave", in its one form: a message longer than the queue's longest, the first held and the
    -- last, or its longest made shorter; "bytes past it are 0": a byte behind a length, in the first cell and in the last held; a byte in
    -- a cell behind those held, the next one and the last, also of a queue that holds nothing and of a slot without one; a message
    -- fewer held than there are
    ∷ breaks (λ s. messages_right s.queues)
    (cell 1 0 0 4 ∷ cell 1 1 0 4 ∷ longest 1 2 ∷ cell 1 0 0 2 ∷ cell 1 0 64 9 ∷ cell 1 1 2 9 ∷ cell 1 1 64 9
    ∷ cell 1 2 0 1 ∷ cell 1 15 64 9 ∷ cell 0 0 0 1 ∷ cell 0 15 64 9 ∷ cell 2 0 1 9 ∷ cell 7 15 64 9 ∷ held 1 1 ∷ [])
    -- the same for pools; "Each live pool is one that creation admits": an area without length, one past the end, buffers of size
    -- 0, no buffer, 65 buffers; "marks of buffers past a pool's number"
    ∷ breaks (λ s. pools_right s.pools)
    (pool_serial 1 0 ∷ marked 2 1 ∷ pool_name 2 1 ∷ address 2 1 ∷ long 2 1 ∷ size 2 1 ∷ forced 2 true
    ∷ long 0 0 ∷ address 1 4294967233 ∷ size 0 0 ∷ size 0 101 ∷ long 1 65 ∷ marked 0 8 ∷ [])
    -- M-103, "The order of free buffers joins the state, each free buffer once": a free buffer is missing, a buffer out is in it;
    -- two are on one place, one is past their number; a mark and a place disagree; a buffer past the pool's number and one of
    -- a slot without a pool have a place
    ∷ breaks (λ s. orders_right s.pools)
    (placed 0 1 0 ∷ placed 0 0 2 ∷ placed 1 5 5 ∷ placed 1 63 65 ∷ marked 0 4 ∷ marked 0 7 ∷ placed 0 3 2 ∷ placed 2 0 1 ∷ [])
    -- "no two live pools share a byte": the last one of pool 0
    ∷ breaks (λ s. pools_apart s.pools) (address 1 4195 ∷ [])
    -- "The ready order lists ready tasks; its first runs": another is kept as running, or none
    ∷ breaks running_right (runs 1 ∷ runs 32 ∷ [])
    ∷ []

abbrev pub same_marks : List Bool → List Bool → Bool
same_marks [] [] = true
same_marks [] (y ∷ ys) = false
same_marks (x ∷ xs) [] = false
same_marks (true ∷ xs) (y ∷ ys) = y && same_marks xs ys
same_marks (false ∷ xs) (y ∷ ys) = not y && same_marks xs ys

-- ( Printed by tools/generate/run: same
-- "the given state back"
abbrev pub same_state : State → State → Bool
same_state s r =
    same s.line.left r.line.left
    && (same s.line.seat r.line.seat
    && (same s.line.joined r.line.joined
    && (same s.line.rings r.line.rings
    && (same s.tasks.name r.tasks.name
    && (same s.tasks.serial r.tasks.serial
    && (same_marks s.tasks.live r.tasks.live
    && (same_marks s.tasks.started r.tasks.started
    && (same_marks s.tasks.suspended r.tasks.suspended
    && (same s.tasks.priority r.tasks.priority
    && (same s.semaphores.name r.semaphores.name
    && (same s.semaphores.serial r.semaphores.serial
    && (same s.semaphores.units r.semaphores.units
    && (same_marks s.semaphores.live r.semaphores.live
    && (same_marks s.semaphores.fifo r.semaphores.fifo
    && (same s.pools.out r.pools.out
    && (same s.pools.name r.pools.name
    && (same s.pools.address r.pools.address
    && (same s.pools.length r.pools.length
    && (same s.pools.size r.pools.size
    && (same s.pools.serial r.pools.serial
    && (same_marks s.pools.live r.pools.live
    && (same_marks s.pools.forced r.pools.forced
    && (same s.pools.place r.pools.place
    && (same s.queues.name r.queues.name
    && (same s.queues.serial r.queues.serial
    && (same_marks s.queues.live r.queues.live
    && (same_marks s.queues.fifo r.queues.fifo
    && (same s.queues.limits r.queues.limits
    && (same s.queues.held r.queues.held
    && (same s.queues.cells r.queues.cells
    && (eqb s.running r.running)))))))))))))))))))))))))))))))

-- )

-- BAD_STATE: "four zero values, an empty wake list, and the given state back; its running task is .. 0 with BAD_STATE"
abbrev pub is_refusal : State → Answer → Bool
is_refusal s a =
    eqb a.status BAD_STATE && (same a.values (0 ∷ 0 ∷ 0 ∷ 0 ∷ []) && (not a.negative
    && (eqb a.woken 0 && (eqb a.why 0 && (same a.wakes no_wakes
    && (eqb a.running 0 && (not a.delivers && (eqb a.length 0 && (same a.shown no_message
    && same_state s a.state)))))))))

-- the rule is broken, and a tick is so refused
abbrev pub all_refused : (State → Bool) → List State → Bool
all_refused rule [] = true
all_refused rule (s ∷ ss) = not (rule s) && (is_refusal s (stepped s 0 1 0 0 0 0 0 []) && all_refused rule ss)

abbrev pub all_broken : List Broken → Bool
all_broken [] = true
all_broken (b ∷ bs) = all_refused b.rule b.states && all_broken bs

-- calls n - 1 to 0, from the running task and from an interrupt, are all so refused on state s
abbrev pub all_calls : ℕ → State → Bool
all_calls zero s = true
all_calls (suc n) s =
    is_refusal s (stepped s n 0 64 0 1 1 0 []) && (is_refusal s (stepped s n 1 64 0 1 1 0 []) && all_calls n s)

-- the good state gets no BAD_STATE: a tick is accepted
abbrev pub accepted : State → Bool
accepted s = eqb (stepped s 0 1 0 0 0 0 0 []).status OK

-- the state that the calls are tried on: task 1 stands where task 0 does
abbrev pub one_broken : State
one_broken = seat 1 (ring_seats 5 + 1)
