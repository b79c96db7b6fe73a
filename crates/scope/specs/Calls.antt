-- "The call table has twenty rows, one for each call", and M-100 adds seven, "Calls 20 to 26 in the order named": who may make it, which
-- statuses can come back, and what it does.
-- "five arguments (unused ones ignored)": a row takes five, and the message lent (M-100), and uses those that it has.
-- Assumes nothing.
use Rattle.std.specs.Prelude.{ℕ, ◌/◌, ◌%◌, ◌^◌, Bool, List, [], ◌∷◌, length, get_or, eqb}
use Rattle.scope.specs.declared.State.{State}
use Rattle.scope.specs.declared.Answer.{Answer}
use Rattle.scope.specs.Statuses.{OK, PENDING, ILLEGAL_USE, INVALID_PARAMETER, INVALID_ID, OBJECT_DELETED, INVALID_OPTIONS, TOO_MANY_OBJECTS}
use Rattle.scope.specs.Statuses.{NAME_NOT_FOUND, INVALID_COUNT, SEMAPHORE_NOT_AVAILABLE, SEMAPHORE_OVERFLOW, INVALID_BUFF_SIZE, POOL_OVERLAP}
use Rattle.scope.specs.Statuses.{POOL_IN_USE, NO_MORE_MEMORY, INVALID_BUFF, INVALID_PRIORITY, TASK_ALREADY_STARTED, TASK_NOT_STARTED}
use Rattle.scope.specs.Statuses.{TASK_ALREADY_SUSPENDED, TASK_NOT_SUSPENDED, NO_CALLER, BAD_CALL, BAD_STATE, INVALID_LENGTH, QUEUE_FULL, QUEUE_EMPTY}
use Rattle.scope.specs.Answers.{plain}
use Rattle.scope.specs.Tasks.{task_create, task_delete, task_ident, task_start, task_suspend, task_resume, task_set_priority}
use Rattle.scope.specs.Semaphores.{sem_create, sem_delete, sem_ident, sem_claim, sem_release, sem_info}
use Rattle.scope.specs.Pools.{pool_create, pool_delete, pool_ident, pool_get_buff, pool_ret_buff, pool_info}
use Rattle.scope.specs.Queues.{queue_create, queue_delete, queue_ident, queue_send, queue_jump, queue_receive, queue_info}
use Rattle.scope.specs.Ticks.{tick}

-- who may call: bit 0 the running task, bit 1 an interrupt
abbrev pub a_task : ℕ
a_task = 1

abbrev pub an_interrupt : ℕ
an_interrupt = 2

abbrev pub either_one : ℕ
either_one = 3

pub record Call : Type 0 where
  pub who : ℕ
  pub statuses : List ℕ
  pub does : State → ℕ → ℕ → ℕ → ℕ → ℕ → List ℕ → Answer

-- a call that a task alone may make can be refused with these too, whatever its own statuses
abbrev by_task : List ℕ → (State → ℕ → ℕ → ℕ → ℕ → ℕ → List ℕ → Answer) → Call
by_task own f = record { who = a_task; statuses = OK ∷ ILLEGAL_USE ∷ NO_CALLER ∷ BAD_CALL ∷ BAD_STATE ∷ own; does = f }

-- and one that an interrupt may make too with these
abbrev by_either : List ℕ → (State → ℕ → ℕ → ℕ → ℕ → ℕ → List ℕ → Answer) → Call
by_either own f = record { who = either_one; statuses = OK ∷ NO_CALLER ∷ BAD_CALL ∷ BAD_STATE ∷ own; does = f }

abbrev pub no_call : Call
no_call = record { who = 0; statuses = []; does = λ s a b c d e m. plain s BAD_CALL }

abbrev pub calls : List Call
calls =
    -- 0 tick
    record { who = an_interrupt; statuses = OK ∷ BAD_CALL ∷ BAD_STATE ∷ []; does = λ s a b c d e m. tick s }
    -- 1 task_create (name, priority)
    ∷ by_task (INVALID_PRIORITY ∷ TOO_MANY_OBJECTS ∷ []) (λ s a b c d e m. task_create s a b)
    -- 2 task_delete
    ∷ by_task (INVALID_ID ∷ OBJECT_DELETED ∷ []) (λ s a b c d e m. task_delete s a)
    -- 3 task_ident
    ∷ by_task (NAME_NOT_FOUND ∷ []) (λ s a b c d e m. task_ident s a)
    -- 4 task_start
    ∷ by_task (INVALID_ID ∷ OBJECT_DELETED ∷ TASK_ALREADY_STARTED ∷ []) (λ s a b c d e m. task_start s a)
    -- 5 task_suspend
    ∷ by_task (INVALID_ID ∷ OBJECT_DELETED ∷ TASK_NOT_STARTED ∷ TASK_ALREADY_SUSPENDED ∷ []) (λ s a b c d e m. task_suspend s a)
    -- 6 task_resume
    ∷ by_task (INVALID_ID ∷ OBJECT_DELETED ∷ TASK_NOT_STARTED ∷ TASK_NOT_SUSPENDED ∷ []) (λ s a b c d e m. task_resume s a)
    -- 7 task_set_priority (task, priority)
    ∷ by_task (INVALID_ID ∷ OBJECT_DELETED ∷ INVALID_PRIORITY ∷ []) (λ s a b c d e m. task_set_priority s a b)
    -- 8 sem_create (name, count, options)
    ∷ by_task (INVALID_COUNT ∷ INVALID_OPTIONS ∷ TOO_MANY_OBJECTS ∷ []) (λ s a b c d e m. sem_create s a b c)
    -- 9 sem_delete
    ∷ by_task (INVALID_ID ∷ OBJECT_DELETED ∷ []) (λ s a b c d e m. sem_delete s a)
    -- 10 sem_ident
    ∷ by_task (NAME_NOT_FOUND ∷ []) (λ s a b c d e m. sem_ident s a)
    -- 11 sem_claim (id, options, time_out)
    ∷ by_task (PENDING ∷ INVALID_ID ∷ OBJECT_DELETED ∷ INVALID_OPTIONS ∷ INVALID_PARAMETER ∷ SEMAPHORE_NOT_AVAILABLE ∷ [])
    (λ s a b c d e m. sem_claim s a b c)
    -- 12 sem_release
    ∷ by_either (INVALID_ID ∷ OBJECT_DELETED ∷ SEMAPHORE_OVERFLOW ∷ []) (λ s a b c d e m. sem_release s a)
    -- 13 sem_info
    ∷ by_task (INVALID_ID ∷ OBJECT_DELETED ∷ []) (λ s a b c d e m. sem_info s a)
    -- 14 pool_create (name, address, length, buffer size, options)
    ∷ by_task (INVALID_PARAMETER ∷ INVALID_BUFF_SIZE ∷ INVALID_OPTIONS ∷ TOO_MANY_OBJECTS ∷ POOL_OVERLAP ∷ [])
    (λ s a b c d e m. pool_create s a b c d e)
    -- 15 pool_delete
    ∷ by_task (INVALID_ID ∷ OBJECT_DELETED ∷ POOL_IN_USE ∷ []) (λ s a b c d e m. pool_delete s a)
    -- 16 pool_ident
    ∷ by_task (NAME_NOT_FOUND ∷ []) (λ s a b c d e m. pool_ident s a)
    -- 17 pool_get_buff
    ∷ by_task (INVALID_ID ∷ OBJECT_DELETED ∷ NO_MORE_MEMORY ∷ []) (λ s a b c d e m. pool_get_buff s a)
    -- 18 pool_ret_buff (id, address)
    ∷ by_task (INVALID_ID ∷ OBJECT_DELETED ∷ INVALID_BUFF ∷ []) (λ s a b c d e m. pool_ret_buff s a b)
    -- 19 pool_info
    ∷ by_task (INVALID_ID ∷ OBJECT_DELETED ∷ []) (λ s a b c d e m. pool_info s a)
    -- 20 queue_create (name, most messages, longest message, options)
    ∷ by_task (INVALID_PARAMETER ∷ INVALID_OPTIONS ∷ TOO_MANY_OBJECTS ∷ []) (λ s a b c d e m. queue_create s a b c d)
    -- 21 queue_delete
    ∷ by_task (INVALID_ID ∷ OBJECT_DELETED ∷ []) (λ s a b c d e m. queue_delete s a)
    -- 22 queue_ident
    ∷ by_task (NAME_NOT_FOUND ∷ []) (λ s a b c d e m. queue_ident s a)
    -- 23 queue_send (id, length)
    ∷ by_either (INVALID_ID ∷ OBJECT_DELETED ∷ INVALID_LENGTH ∷ QUEUE_FULL ∷ []) (λ s a b c d e m. queue_send s a b m)
    -- 24 queue_jump (id, length)
    ∷ by_either (INVALID_ID ∷ OBJECT_DELETED ∷ INVALID_LENGTH ∷ QUEUE_FULL ∷ []) (λ s a b c d e m. queue_jump s a b m)
    -- 25 queue_receive (id, options, time_out)
    ∷ by_task (PENDING ∷ INVALID_ID ∷ OBJECT_DELETED ∷ INVALID_OPTIONS ∷ INVALID_PARAMETER ∷ QUEUE_EMPTY ∷ [])
    (λ s a b c d e m. queue_receive s a b c)
    -- 26 queue_info
    ∷ by_task (INVALID_ID ∷ OBJECT_DELETED ∷ []) (λ s a b c d e m. queue_info s a)
    ∷ []

-- the calls are numbered below this
abbrev pub known_calls : ℕ
known_calls = 27

abbrev pub call_at : ℕ → Call
call_at call = get_or calls call no_call

-- "Caller marks: 0 the running task, 1 an interrupt."
unfoldable pub may_call : ℕ → ℕ → Bool
may_call call mark = eqb ((call_at call).who / 2 ^ mark % 2) 1
