-- M-100, message queues: chapter 8, as document 02 fixes it. Each call is given the queue's slot, its identifier being found.
-- Assumes nothing.
use Rattle.std.specs.Prelude.{ℕ, ◌+◌, ◌*◌, Bool, true, false, not, ◌&&◌, List, length, get_or, set, ltb, leb, eqb}
use Rattle.scope.specs.declared.State.{State}
use Rattle.scope.specs.declared.Queues.{Queues}
use Rattle.scope.specs.declared.Answer.{Answer}
use Rattle.scope.specs.declared.Found.{Found}
use Rattle.scope.specs.Choice.{pick}
use Rattle.scope.specs.Identifiers.{identifier, found, lowest_usable, by_name}
use Rattle.scope.specs.Statuses.{OK, PENDING, INVALID_PARAMETER, INVALID_OPTIONS, TOO_MANY_OBJECTS, NAME_NOT_FOUND, NO_CALLER}
use Rattle.scope.specs.Statuses.{INVALID_LENGTH, QUEUE_FULL, QUEUE_EMPTY, QUEUE_DELETED}
use Rattle.scope.specs.Seats.{queue_seats, first_standing}
use Rattle.scope.specs.Objects.{queue_object}
use Rattle.scope.specs.Views.{with_line, with_queues, waiters_of}
use Rattle.scope.specs.Answers.{bit_of, answer, plain, gives, shows, wakes_with, delivers_to, on_found}
use Rattle.scope.specs.Messages.{Store, store, cell_of, shown_of, cells_of, first_length, first_shown, appended, pushed, taken, cleared}
use Rattle.scope.specs.Waiting.{is_time_out, waits, wake_next, none_woken, wake_all}
use Rattle.scope.specs.Options.{FIFO, NOWAIT, last_option}

-- "most messages (1 to 16)"
abbrev pub last_most : ℕ
last_most = 16

-- "longest message (1 to 64)"
abbrev pub last_length : ℕ
last_length = 64

-- the most messages of queue i
abbrev pub most_of : Queues → ℕ → ℕ
most_of u i = get_or u.limits (2 * i) 0

-- its longest message
abbrev pub longest_of : Queues → ℕ → ℕ
longest_of u i = get_or u.limits (2 * i + 1) 0

-- how many messages it holds
abbrev pub held_of : Queues → ℕ → ℕ
held_of u i = get_or u.held i 0

-- the messages of all queues, and the queues with other messages
abbrev pub store_of : Queues → Store
store_of u = store u.cells u.held

abbrev pub with_store : Queues → Store → Queues
with_store u m =
    record { name = u.name; serial = u.serial; live = u.live; fifo = u.fifo; limits = u.limits; held = m.held; cells = m.cells }

abbrev pub queue_found : State → ℕ → Found
queue_found s id = found s.queues.serial s.queues.live id

-- the first of the tasks that wait for queue i, 32 where none does
abbrev pub first_receiver : State → ℕ → ℕ
first_receiver s i = first_standing s.line.seat (queue_seats (queue_object i))

-- slot i holds its next object; a slot without one holds no message
abbrev pub queue_born : Queues → ℕ → ℕ → ℕ → ℕ → Bool → Queues
queue_born u i name most longest fifo =
    record {
      name = set u.name i name;
      serial = set u.serial i (get_or u.serial i 0 + 1);
      live = set u.live i true;
      fifo = set u.fifo i fifo;
      limits = set (set u.limits (2 * i) most) (2 * i + 1) longest;
      held = u.held;
      cells = u.cells;
    }

-- "Delete drops what is held"
abbrev pub queue_gone : Queues → ℕ → Queues
queue_gone u i =
    record {
      name = set u.name i 0;
      serial = u.serial;
      live = set u.live i false;
      fifo = set u.fifo i false;
      limits = set (set u.limits (2 * i) 0) (2 * i + 1) 0;
      held = (cleared (store_of u) i).held;
      cells = (cleared (store_of u) i).cells;
    }

-- queue_create: 3, 6, 7. "create takes name, most messages (1 to 16), longest message (1 to 64), options (FIFO)"
unfoldable pub are_limits : ℕ → ℕ → Bool
are_limits most longest = leb 1 most && (leb most last_most && (leb 1 longest && leb longest last_length))

unfoldable pub queue_create_at : State → ℕ → ℕ → ℕ → ℕ → ℕ → Answer
queue_create_at s name most longest options i =
    pick (leb (length s.queues.serial) i) (plain s TOO_MANY_OBJECTS)
    (gives (with_queues s (queue_born s.queues i name most longest (eqb options FIFO)))
    (identifier (get_or s.queues.serial i 0 + 1) i))

unfoldable pub queue_create : State → ℕ → ℕ → ℕ → ℕ → Answer
queue_create s name most longest options =
    pick (not (are_limits most longest)) (plain s INVALID_PARAMETER)
    (pick (ltb last_option options) (plain s INVALID_OPTIONS)
    (queue_create_at s name most longest options (lowest_usable s.queues.serial s.queues.live)))

-- queue_delete: "Delete drops what is held and wakes waiters in order." 30 is "to woken tasks"
unfoldable pub queue_delete_at : State → ℕ → Answer
queue_delete_at s i =
    wakes_with (with_queues s (queue_gone s.queues i)) (wake_all s.tasks (queue_object i) 32 (none_woken s.line)) QUEUE_DELETED

-- queue_ident: 8
unfoldable pub queue_ident_at : State → ℕ → Answer
queue_ident_at s i =
    pick (leb (length s.queues.live) i) (plain s NAME_NOT_FOUND)
    (gives s (identifier (get_or s.queues.serial i 0) i))

unfoldable pub queue_ident : State → ℕ → Answer
queue_ident s name = queue_ident_at s (by_name s.queues.live s.queues.name name)

-- not 27, "too long for the queue, or the lent bytes are fewer": a message of n bytes, out of those lent. (No queue that keeps the rules
-- takes more than 64.)
unfoldable pub fits_queue : ℕ → ℕ → List ℕ → Bool
fits_queue longest n message = leb n longest && (leb n last_length && leb n (length message))

-- queue_send and queue_jump: 27, 28; "27 before 28". "A message goes to the first waiter or else to the end; jump puts it in front."
-- `put` is where it goes in the queue.
unfoldable pub queue_put_at : (Store → ℕ → List ℕ → Store) → State → ℕ → List ℕ → ℕ → Answer
queue_put_at put s n message i =
    pick (not (fits_queue (longest_of s.queues i) n message)) (plain s INVALID_LENGTH)
    (pick (ltb (first_receiver s i) 32)
    (delivers_to s (wake_next s.tasks (none_woken s.line) (first_receiver s i)) n (shown_of message n))
    (pick (leb (most_of s.queues i) (held_of s.queues i)) (plain s QUEUE_FULL)
    (plain (with_queues s (with_store s.queues (put (store_of s.queues) i (cell_of message n)))) OK)))

abbrev pub queue_send_at : State → ℕ → List ℕ → ℕ → Answer
queue_send_at = queue_put_at appended

abbrev pub queue_jump_at : State → ℕ → List ℕ → ℕ → Answer
queue_jump_at = queue_put_at pushed

-- the running task joins the queue's waiters; 24 where nothing runs, which is tested before any receive
unfoldable pub queue_wait_at : State → ℕ → ℕ → Answer
queue_wait_at s ticks i =
    pick (leb 32 s.running) (plain s NO_CALLER)
    (plain
    (with_line s
    (waits s.line (queue_object i) (get_or s.queues.fifo i false) (get_or s.tasks.priority s.running 0) ticks s.running))
    PENDING)

-- queue_receive: 6, 3, 29. The first message held is shown and is gone; where none is held the caller waits, and with NOWAIT it does not.
unfoldable pub queue_receive_at : State → ℕ → ℕ → ℕ → Answer
queue_receive_at s options ticks i =
    pick (ltb last_option options) (plain s INVALID_OPTIONS)
    (pick (eqb options 0 && not (is_time_out ticks)) (plain s INVALID_PARAMETER)
    (pick (ltb 0 (held_of s.queues i))
    (shows (with_queues s (with_store s.queues (taken (store_of s.queues) i))) (first_length (cells_of s.queues.cells i))
    (first_shown (cells_of s.queues.cells i)))
    (pick (eqb options NOWAIT) (plain s QUEUE_EMPTY) (queue_wait_at s ticks i))))

-- "Info gives options, messages held, tasks waiting."
unfoldable pub queue_info_at : State → ℕ → Answer
queue_info_at s i =
    answer s OK (bit_of (get_or s.queues.fifo i false)) (held_of s.queues i) (waiters_of s.line (queue_object i)) 0 false

-- the calls with a queue's identifier
abbrev pub queue_delete : State → ℕ → Answer
queue_delete s id = on_found (queue_found s id) s (queue_delete_at s)

abbrev pub queue_send : State → ℕ → ℕ → List ℕ → Answer
queue_send s id n message = on_found (queue_found s id) s (queue_send_at s n message)

abbrev pub queue_jump : State → ℕ → ℕ → List ℕ → Answer
queue_jump s id n message = on_found (queue_found s id) s (queue_jump_at s n message)

abbrev pub queue_receive : State → ℕ → ℕ → ℕ → Answer
queue_receive s id options ticks = on_found (queue_found s id) s (queue_receive_at s options ticks)

abbrev pub queue_info : State → ℕ → Answer
queue_info s id = on_found (queue_found s id) s (queue_info_at s)
