-- "Status numbers": each refusal's number. Its values are four zeros (`plain`).
-- Assumes nothing.
use Rattle.std.specs.Prelude.{ℕ, Result, Ok, Err}
use Rattle.scope.specs.declared.Refusal.{Refusal}
use Rattle.scope.specs.declared.Refusal.TheVariants.{IllegalUse, InvalidParameter, InvalidId, ObjectDeleted, InvalidOptions, TooManyObjects, NameNotFound, InvalidCount, SemaphoreNotAvailable, SemaphoreOverflow, InvalidBuffSize, PoolOverlap, PoolInUse, NoMoreMemory, InvalidBuff, InvalidPriority, TaskAlreadyStarted, TaskNotStarted, TaskAlreadySuspended, TaskNotSuspended, NoCaller, BadCall, BadState, InvalidLength, QueueFull, QueueEmpty}
use Rattle.scope.specs.Statuses.{OK, ILLEGAL_USE, INVALID_PARAMETER, INVALID_ID, OBJECT_DELETED, INVALID_OPTIONS, TOO_MANY_OBJECTS, NAME_NOT_FOUND, INVALID_COUNT, SEMAPHORE_NOT_AVAILABLE, SEMAPHORE_OVERFLOW, INVALID_BUFF_SIZE, POOL_OVERLAP, POOL_IN_USE, NO_MORE_MEMORY, INVALID_BUFF, INVALID_PRIORITY, TASK_ALREADY_STARTED, TASK_NOT_STARTED, TASK_ALREADY_SUSPENDED, TASK_NOT_SUSPENDED, NO_CALLER, BAD_CALL, BAD_STATE, INVALID_LENGTH, QUEUE_FULL, QUEUE_EMPTY}

abbrev pub number_of : Refusal → ℕ
number_of IllegalUse = ILLEGAL_USE
number_of InvalidParameter = INVALID_PARAMETER
number_of InvalidId = INVALID_ID
number_of ObjectDeleted = OBJECT_DELETED
number_of InvalidOptions = INVALID_OPTIONS
number_of TooManyObjects = TOO_MANY_OBJECTS
number_of NameNotFound = NAME_NOT_FOUND
number_of InvalidCount = INVALID_COUNT
number_of SemaphoreNotAvailable = SEMAPHORE_NOT_AVAILABLE
number_of SemaphoreOverflow = SEMAPHORE_OVERFLOW
number_of InvalidBuffSize = INVALID_BUFF_SIZE
number_of PoolOverlap = POOL_OVERLAP
number_of PoolInUse = POOL_IN_USE
number_of NoMoreMemory = NO_MORE_MEMORY
number_of InvalidBuff = INVALID_BUFF
number_of InvalidPriority = INVALID_PRIORITY
number_of TaskAlreadyStarted = TASK_ALREADY_STARTED
number_of TaskNotStarted = TASK_NOT_STARTED
number_of TaskAlreadySuspended = TASK_ALREADY_SUSPENDED
number_of TaskNotSuspended = TASK_NOT_SUSPENDED
number_of NoCaller = NO_CALLER
number_of BadCall = BAD_CALL
number_of BadState = BAD_STATE
number_of InvalidLength = INVALID_LENGTH
number_of QueueFull = QUEUE_FULL
number_of QueueEmpty = QUEUE_EMPTY

-- the status of a call that may be refused
abbrev pub status_of : {A : Type 0} → Result A Refusal → ℕ
status_of (Ok a) = OK
status_of (Err r) = number_of r
