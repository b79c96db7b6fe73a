-- What calls do to the paper's lists: the ready order and the queues after an answer.
-- Assumes nothing.
use Rattle.std.specs.Prelude.{ℕ, zero, suc, ◌<◌, ◌≡◌, Bool, false, not, ◌&&◌, List, [], ◌∷◌, ◌++◌, get_or, leb, eqb}
use Rattle.scope.specs.declared.State.{State}
use Rattle.scope.specs.declared.Answer.{Answer}
use Rattle.scope.specs.declared.Tasks.{Tasks}
use Rattle.scope.specs.Choice.{pick}
use Rattle.scope.specs.Lists.{has, keep, insert}
use Rattle.scope.specs.Identifiers.{identifier}
use Rattle.scope.specs.Seats.{waits_on}
use Rattle.scope.specs.Objects.{objects_end}
use Rattle.scope.specs.Replies.{Wake}
use Rattle.scope.specs.Ticks.{ticked}
use Rattle.lists.specs.Rules.{ready_of, queue_in}

-- after the answer the ready order and the queues are these
pub record ListsAfter (a : Answer) (order : List ℕ) (queues : ℕ → List ℕ) : Type 0 where
  pub ready : ready_of a.state ≡ order
  pub waiting : (i : ℕ) → i < objects_end → queue_in a.state i ≡ queues i

-- the calls that move tasks: tick, task_delete, task_start, task_suspend, task_resume, task_set_priority, sem_delete, sem_claim,
-- sem_release, queue_delete, queue_send, queue_jump, queue_receive
abbrev pub movers : List ℕ
movers = 0 ∷ 2 ∷ 4 ∷ 5 ∷ 6 ∷ 7 ∷ 9 ∷ 11 ∷ 12 ∷ 21 ∷ 23 ∷ 24 ∷ 25 ∷ []

-- "A task becoming ready goes behind all of equal or higher priority."
abbrev pub made_ready : Tasks → ℕ → ℕ → List ℕ → List ℕ
made_ready k p t order = insert (λ u. leb p (get_or k.priority u 0)) t order

-- "FIFO queues grow at the end. Others are by priority at the moment of joining, equals by arrival"
abbrev pub joined_by : Bool → List ℕ → ℕ → ℕ → List ℕ → List ℕ
joined_by fifo joined p t xs = pick fifo (xs ++ (t ∷ [])) (insert (λ u. leb p (get_or joined u 0)) t xs)

-- the queues with another one for object i
abbrev pub with_queue : (ℕ → List ℕ) → ℕ → List ℕ → ℕ → List ℕ
with_queue queues i xs j = pick (eqb j i) xs (queues j)

-- task t is woken: "it becomes ready when it neither waits nor is suspended"
abbrev pub woken_into : Tasks → ℕ → List ℕ → List ℕ
woken_into k t order = pick (get_or k.suspended t false) order (made_ready k (get_or k.priority t 0) t order)

-- these are woken, one after another
abbrev pub all_woken_into : Tasks → List ℕ → List ℕ → List ℕ
all_woken_into k [] order = order
all_woken_into k (t ∷ ts) order = all_woken_into k ts (woken_into k t order)

-- task t on the wake list, by its identifier, with its status
abbrev pub wake_of : Tasks → ℕ → ℕ → Wake
wake_of k why t = record { task = identifier (get_or k.serial t 0) t; status = why }

-- slots t, t + 1, .. (n of them)
abbrev pub slots_from : ℕ → ℕ → List ℕ
slots_from zero t = []
slots_from (suc n) t = t ∷ slots_from n (suc t)

-- "Those reaching 0": the task waits, and once "one from each running time_out" is taken nothing is left of its own
abbrev pub reaches : State → ℕ → Bool
reaches s t = waits_on (get_or s.line.seat t 0) && eqb (get_or (ticked s.line).left t 0) 0

-- "in ascending slot order"
abbrev pub due_in : State → List ℕ
due_in s = keep (reaches s) (slots_from 32 0)

-- a list without each of these
abbrev pub without_all : List ℕ → List ℕ → List ℕ
without_all ts xs = keep (λ u. not (has ts u)) xs
