-- "Status numbers", by name.
-- Assumes nothing.
use Rattle.std.specs.Prelude.{ℕ}

-- done
abbrev pub OK : ℕ
OK = 0

-- claim accepted, caller now waits
abbrev pub PENDING : ℕ
PENDING = 1

-- interrupt caller, call none of tick, sem_release, and ("Interrupts may send and jump") queue_send and queue_jump
abbrev pub ILLEGAL_USE : ℕ
ILLEGAL_USE = 2

-- pool area or time_out out of range
abbrev pub INVALID_PARAMETER : ℕ
INVALID_PARAMETER = 3

abbrev pub INVALID_ID : ℕ
INVALID_ID = 4

abbrev pub OBJECT_DELETED : ℕ
OBJECT_DELETED = 5

-- a bit other than bit 0 set
abbrev pub INVALID_OPTIONS : ℕ
INVALID_OPTIONS = 6

abbrev pub TOO_MANY_OBJECTS : ℕ
TOO_MANY_OBJECTS = 7

-- no live object so named
abbrev pub NAME_NOT_FOUND : ℕ
NAME_NOT_FOUND = 8

-- initial count negative or above 32,767
abbrev pub INVALID_COUNT : ℕ
INVALID_COUNT = 9

-- NOWAIT, count 0 or less
abbrev pub SEMAPHORE_NOT_AVAILABLE : ℕ
SEMAPHORE_NOT_AVAILABLE = 10

-- to woken tasks only
abbrev pub SEMAPHORE_DELETED : ℕ
SEMAPHORE_DELETED = 11

-- release at count 32,767
abbrev pub SEMAPHORE_OVERFLOW : ℕ
SEMAPHORE_OVERFLOW = 12

-- to woken tasks only
abbrev pub TIME_OUT : ℕ
TIME_OUT = 13

-- size 0, or length ÷ size not in 1 to 64
abbrev pub INVALID_BUFF_SIZE : ℕ
INVALID_BUFF_SIZE = 14

-- area shares a byte with a live pool's
abbrev pub POOL_OVERLAP : ℕ
POOL_OVERLAP = 15

-- buffers out, not FORCED_DELETE
abbrev pub POOL_IN_USE : ℕ
POOL_IN_USE = 16

-- no free buffer
abbrev pub NO_MORE_MEMORY : ℕ
NO_MORE_MEMORY = 17

-- address not the start of a buffer out
abbrev pub INVALID_BUFF : ℕ
INVALID_BUFF = 18

-- above 15
abbrev pub INVALID_PRIORITY : ℕ
INVALID_PRIORITY = 19

abbrev pub TASK_ALREADY_STARTED : ℕ
TASK_ALREADY_STARTED = 20

-- suspend or resume of a task not started
abbrev pub TASK_NOT_STARTED : ℕ
TASK_NOT_STARTED = 21

abbrev pub TASK_ALREADY_SUSPENDED : ℕ
TASK_ALREADY_SUSPENDED = 22

abbrev pub TASK_NOT_SUSPENDED : ℕ
TASK_NOT_SUSPENDED = 23

-- task caller, nothing runs
abbrev pub NO_CALLER : ℕ
NO_CALLER = 24

-- unknown call or caller mark, or a tick with mark 0
abbrev pub BAD_CALL : ℕ
BAD_CALL = 25

-- state breaks a rule
abbrev pub BAD_STATE : ℕ
BAD_STATE = 26

-- "too long for the queue, or the lent bytes are fewer"
abbrev pub INVALID_LENGTH : ℕ
INVALID_LENGTH = 27

abbrev pub QUEUE_FULL : ℕ
QUEUE_FULL = 28

-- "NOWAIT receive"
abbrev pub QUEUE_EMPTY : ℕ
QUEUE_EMPTY = 29

-- "to woken tasks"
abbrev pub QUEUE_DELETED : ℕ
QUEUE_DELETED = 30
