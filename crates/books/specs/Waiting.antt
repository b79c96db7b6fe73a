-- The semaphores' books, and who waits for which message queue (M-100), told by the answers alone: who waits for what, with which
-- priority, since when, and what was released and granted. Tasks, semaphores and queues are told apart by identifier, and a semaphore
-- from a queue by the call that names it: an identifier may be both.
-- Assumes nothing.
use Rattle.std.specs.Prelude.{ℕ, suc, ◌+◌, ◌<◌, ◌≡◌, ◌⊎◌, Bool, true, false, not, ◌&&◌, ◌||◌, List, [], ◌∷◌, ◌++◌, length, eqb}
use Rattle.scope.specs.Choice.{pick}
use Rattle.scope.specs.Lists.{keep}
use Rattle.scope.specs.Statuses.{OK, PENDING}
use Rattle.scope.specs.Options.{FIFO}
use Rattle.scope.specs.Replies.{Wake}
use Rattle.histories.specs.History.{Event}
use Rattle.books.specs.Past.{Turn, is_answer, is_answer_of, creates, running_in, times}

-- what a task can wait for
pub data Kind : Type 0 where
  a_semaphore : Kind
  a_queue : Kind

-- the call that makes one: sem_create (name, count, options), queue_create (name, most, longest, options)
abbrev pub creation : Kind → ℕ
creation a_semaphore = 8
creation a_queue = 20

abbrev pub options_of : Kind → Event → ℕ
options_of a_semaphore x = x.c
options_of a_queue x = x.d

-- the call that deletes one
abbrev pub deletion : Kind → ℕ
deletion a_semaphore = 9
deletion a_queue = 21

-- the call that waits for one: sem_claim, queue_receive
abbrev pub wait_call : Kind → ℕ
wait_call a_semaphore = 11
wait_call a_queue = 25

-- "initial count": what the creation of semaphore id asked for
abbrev pub initial_count : List Turn → ℕ → ℕ
initial_count [] id = 0
initial_count (x ∷ past) id = pick (creates 8 id x) x.event.b (initial_count past id)

-- FIFO is the creation's option bit
abbrev pub fifo_of : Kind → List Turn → ℕ → Bool
fifo_of kind [] id = false
fifo_of kind (x ∷ past) id = pick (creates (creation kind) id x) (eqb (options_of kind x.event) FIFO) (fifo_of kind past id)

abbrev pub is_fifo : List Turn → ℕ → Bool
is_fifo = fifo_of a_semaphore

-- the task that a task call names: "Task identifier 0 is SELF, the caller"
unfoldable pub target : List Turn → Turn → ℕ
target past x = pick (eqb x.event.a 0) (running_in past) x.event.a

-- the call, on task t, was answered OK
unfoldable pub done_to : ℕ → List Turn → ℕ → Turn → Bool
done_to call past t x = is_answer call OK x && eqb (target past x) t

-- the priority that the history's task_create and task_set_priority gave task t; p is the first task's
abbrev pub priority_in : ℕ → List Turn → ℕ → ℕ
priority_in p [] t = pick (eqb t 64) p 0
priority_in p (x ∷ past) t =
    pick (creates 1 t x) x.event.b
    (pick (done_to 7 past t x) x.event.b (priority_in p past t))

-- task t, the caller, was answered PENDING: it waits for an object of this kind
unfoldable pub pends_on : Kind → List Turn → ℕ → Turn → Bool
pends_on kind past t x = is_answer (wait_call kind) PENDING x && eqb (running_in past) t

-- at its latest claim, or receive, answered PENDING: what it named, the priority that it had then ("at the moment of joining"), and
-- which turn it was
abbrev pub named_by : Kind → List Turn → ℕ → ℕ
named_by kind [] t = 0
named_by kind (x ∷ past) t = pick (pends_on kind past t x) x.event.a (named_by kind past t)

abbrev pub joined_as : Kind → ℕ → List Turn → ℕ → ℕ
joined_as kind p [] t = 0
joined_as kind p (x ∷ past) t = pick (pends_on kind past t x) (priority_in p past t) (joined_as kind p past t)

abbrev pub arrival_of : Kind → List Turn → ℕ → ℕ
arrival_of kind [] t = 0
arrival_of kind (x ∷ past) t = pick (pends_on kind past t x) (suc (length past)) (arrival_of kind past t)

-- task t is on the wake list
abbrev pub wakes : List Wake → ℕ → Bool
wakes [] t = false
wakes (w ∷ ws) t = pick (eqb w.task t) true (wakes ws t)

-- task t waits no longer: it was woken or deleted
unfoldable pub ends_wait : List Turn → Turn → ℕ → Bool
ends_wait past x t = wakes x.reply.wakes t || done_to 2 past t x

-- who waits for the object of this kind with this identifier, in order of arrival: answered PENDING on it, and since then neither woken
-- nor deleted, nor was the object
abbrev pub waiters_for : Kind → List Turn → ℕ → List ℕ
waiters_for kind [] id = []
waiters_for kind (x ∷ past) id =
    pick (is_answer_of (deletion kind) id OK x) []
    (pick (is_answer_of (wait_call kind) id PENDING x) (waiters_for kind past id ++ (running_in past ∷ []))
    (keep (λ t. not (ends_wait past x t)) (waiters_for kind past id)))

-- of the semaphores
abbrev pub pends : List Turn → ℕ → Turn → Bool
pends = pends_on a_semaphore

abbrev pub claimed : List Turn → ℕ → ℕ
claimed = named_by a_semaphore

abbrev pub arrived_at : List Turn → ℕ → ℕ
arrived_at = arrival_of a_semaphore

abbrev pub waiting : List Turn → ℕ → List ℕ
waiting = waiters_for a_semaphore

-- who waits for a message of queue id
abbrev pub receiving : List Turn → ℕ → List ℕ
receiving = waiters_for a_queue

-- "releases answered OK"
abbrev pub releases : List Turn → ℕ → ℕ
releases past id = times (is_answer_of 12 id OK) past

-- those of a wake list who are woken with 0, and whose latest claim answered PENDING was on semaphore id
abbrev pub granted_to : List Turn → ℕ → List Wake → ℕ
granted_to past id [] = 0
granted_to past id (w ∷ ws) = pick (eqb w.status OK && eqb (claimed past w.task) id) 1 0 + granted_to past id ws

-- the grants of a turn by waking: by whatever answer, but the delivery of a message (M-100) is none
unfoldable pub wakes_grant : List Turn → ℕ → Turn → ℕ
wakes_grant past id x = pick x.reply.delivers 0 (granted_to past id x.reply.wakes)

-- "claims granted": answered OK, or woken with 0
abbrev pub grants : List Turn → ℕ → ℕ
grants [] id = 0
grants (x ∷ past) id = pick (is_answer_of 11 id OK x) 1 0 + wakes_grant past id x + grants past id

-- "FIFO queues grow at the end. Others are by priority at the moment of joining, equals by arrival": t precedes u in the queue of an
-- object of this kind
abbrev pub AheadIn : Kind → Bool → ℕ → List Turn → ℕ → ℕ → Type 0
AheadIn kind true p past t u = arrival_of kind past t < arrival_of kind past u
AheadIn kind false p past t u =
    (joined_as kind p past u < joined_as kind p past t)
    ⊎ ((joined_as kind p past t ≡ joined_as kind p past u) × (arrival_of kind past t < arrival_of kind past u))

abbrev pub PrecedesIn : Kind → ℕ → List Turn → ℕ → ℕ → ℕ → Type 0
PrecedesIn kind p past id t u = AheadIn kind (fifo_of kind past id) p past t u

abbrev pub Ahead : Bool → ℕ → List Turn → ℕ → ℕ → Type 0
Ahead = AheadIn a_semaphore

abbrev pub Precedes : ℕ → List Turn → ℕ → ℕ → ℕ → Type 0
Precedes = PrecedesIn a_semaphore
