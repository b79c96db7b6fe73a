-- The semaphore calls: chapter 7, as document 01 fixes it. Each is given the semaphore's slot, its identifier being found.
-- Assumes nothing.
use Rattle.std.specs.Prelude.{ℕ, ◌+◌, ◌-◌, Bool, true, false, not, ◌&&◌, length, get_or, set, ltb, leb, eqb}
use Rattle.scope.specs.declared.State.{State}
use Rattle.scope.specs.declared.Semaphores.{Semaphores}
use Rattle.scope.specs.declared.Answer.{Answer}
use Rattle.scope.specs.declared.Found.{Found}
use Rattle.scope.specs.Choice.{pick}
use Rattle.scope.specs.Identifiers.{identifier, found, lowest_usable, by_name}
use Rattle.scope.specs.Statuses.{OK, PENDING, INVALID_PARAMETER, INVALID_OPTIONS, TOO_MANY_OBJECTS, NAME_NOT_FOUND, INVALID_COUNT}
use Rattle.scope.specs.Statuses.{SEMAPHORE_NOT_AVAILABLE, SEMAPHORE_DELETED, SEMAPHORE_OVERFLOW, NO_CALLER}
use Rattle.scope.specs.Options.{FIFO, NOWAIT, last_option}
use Rattle.scope.specs.Seats.{queue_seats, first_standing}
use Rattle.scope.specs.Views.{with_line, with_semaphores, waiters_of, count}
use Rattle.scope.specs.Answers.{bit_of, answer, plain, gives, wakes_with, on_found}
use Rattle.scope.specs.Waiting.{is_time_out, waits, wake_next, none_woken, wake_all}

-- the greatest count
abbrev pub last_count : ℕ
last_count = 32767

abbrev pub sem_found : State → ℕ → Found
sem_found s id = found s.semaphores.serial s.semaphores.live id

-- slot i holds its next object
abbrev pub sem_born : Semaphores → ℕ → ℕ → ℕ → Bool → Semaphores
sem_born m i name count fifo =
    record {
      name = set m.name i name;
      serial = set m.serial i (get_or m.serial i 0 + 1);
      units = set m.units i count;
      live = set m.live i true;
      fifo = set m.fifo i fifo;
    }

abbrev pub sem_gone : Semaphores → ℕ → Semaphores
sem_gone m i =
    record {
      name = set m.name i 0;
      serial = m.serial;
      units = set m.units i 0;
      live = set m.live i false;
      fifo = set m.fifo i false;
    }

abbrev pub with_units : Semaphores → ℕ → ℕ → Semaphores
with_units m i n = record { name = m.name; serial = m.serial; units = set m.units i n; live = m.live; fifo = m.fifo }

-- sem_create: 9, 6, 7
unfoldable pub sem_create_at : State → ℕ → ℕ → ℕ → ℕ → Answer
sem_create_at s name count options i =
    pick (leb (length s.semaphores.serial) i) (plain s TOO_MANY_OBJECTS)
    (gives (with_semaphores s (sem_born s.semaphores i name count (eqb options FIFO)))
    (identifier (get_or s.semaphores.serial i 0 + 1) i))

unfoldable pub sem_create : State → ℕ → ℕ → ℕ → Answer
sem_create s name count options =
    pick (ltb last_count count) (plain s INVALID_COUNT)
    (pick (ltb last_option options) (plain s INVALID_OPTIONS)
    (sem_create_at s name count options (lowest_usable s.semaphores.serial s.semaphores.live)))

-- sem_delete
unfoldable pub sem_delete_at : State → ℕ → Answer
sem_delete_at s i =
    wakes_with (with_semaphores s (sem_gone s.semaphores i)) (wake_all s.tasks i 32 (none_woken s.line)) SEMAPHORE_DELETED

-- sem_ident: 8
unfoldable pub sem_ident_at : State → ℕ → Answer
sem_ident_at s i =
    pick (leb (length s.semaphores.live) i) (plain s NAME_NOT_FOUND)
    (gives s (identifier (get_or s.semaphores.serial i 0) i))

unfoldable pub sem_ident : State → ℕ → Answer
sem_ident s name = sem_ident_at s (by_name s.semaphores.live s.semaphores.name name)

-- the running task joins the queue; 24 where nothing runs, which is tested before any claim
unfoldable pub sem_wait_at : State → ℕ → ℕ → Answer
sem_wait_at s ticks i =
    pick (leb 32 s.running) (plain s NO_CALLER)
    (plain
    (with_line s
    (waits s.line i (get_or s.semaphores.fifo i false) (get_or s.tasks.priority s.running 0) ticks s.running))
    PENDING)

-- sem_claim: 6, 3, 10. "NOWAIT with count 0 or less: status 10, nothing changes."
-- "Claim: count less one. At 0 or more the answer is OK; below 0 the caller joins the queue."
unfoldable pub sem_claim_at : State → ℕ → ℕ → ℕ → Answer
sem_claim_at s options ticks i =
    pick (ltb last_option options) (plain s INVALID_OPTIONS)
    (pick (eqb options 0 && not (is_time_out ticks)) (plain s INVALID_PARAMETER)
    (pick (eqb options NOWAIT && not (ltb 0 (get_or s.semaphores.units i 0))) (plain s SEMAPHORE_NOT_AVAILABLE)
    (pick (ltb 0 (get_or s.semaphores.units i 0))
    (plain (with_semaphores s (with_units s.semaphores i (get_or s.semaphores.units i 0 - 1))) OK)
    (sem_wait_at s ticks i))))

-- "release at count 32,767": 12, which with a waiter the count never is.
-- "Release: count plus one. If there were waiters the first leaves, woken with OK: that is its grant."
unfoldable pub sem_release_at : State → ℕ → Answer
sem_release_at s i =
    pick (not (ltb (first_standing s.line.seat (queue_seats i)) 32) && leb last_count (get_or s.semaphores.units i 0))
    (plain s SEMAPHORE_OVERFLOW)
    (pick (ltb (first_standing s.line.seat (queue_seats i)) 32)
    (wakes_with s (wake_next s.tasks (none_woken s.line) (first_standing s.line.seat (queue_seats i))) OK)
    (plain (with_semaphores s (with_units s.semaphores i (get_or s.semaphores.units i 0 + 1))) OK))

-- "sem_info gives options, count, tasks waiting"
unfoldable pub sem_info_at : State → ℕ → Answer
sem_info_at s i =
    answer s OK (bit_of (get_or s.semaphores.fifo i false)) (count s.line s.semaphores i).size (waiters_of s.line i) 0
    (count s.line s.semaphores i).negative

-- the calls with a semaphore's identifier
abbrev pub sem_delete : State → ℕ → Answer
sem_delete s id = on_found (sem_found s id) s (sem_delete_at s)

abbrev pub sem_claim : State → ℕ → ℕ → ℕ → Answer
sem_claim s id options ticks = on_found (sem_found s id) s (sem_claim_at s options ticks)

abbrev pub sem_release : State → ℕ → Answer
sem_release s id = on_found (sem_found s id) s (sem_release_at s)

abbrev pub sem_info : State → ℕ → Answer
sem_info s id = on_found (sem_found s id) s (sem_info_at s)
