-- "If the serial is 1 or more, has been issued and is not live: OBJECT_DELETED." Of the tasks' table and the queues', over every
-- history: only create and delete change serials or who lives, one by a later serial in a free slot, the other by a death. So a deleted
-- task's or queue's identifier never names one again. By the deeds.
-- Assumes nothing.
use Prim.Native.Nat.{ℕ}
use native.Mathlib.Omega.{arith}
use mathlib.Core.Path.{◌≡◌}
use mathlib.Core.List.{List, [], ◌∷◌}
use borrow.Author.Tests.{leb-false}
use Rattle.scope.specs.declared.State.{State}
use Rattle.scope.specs.declared.Line.{Line}
use Rattle.scope.specs.declared.Tasks.{Tasks}
use Rattle.scope.specs.declared.Queues.{Queues}
use Rattle.scope.specs.declared.Answer.{Answer}
use Rattle.scope.specs.declared.Found.TheVariants.{Deleted}
use Rattle.scope.specs.Identifiers.{found}
use Rattle.scope.specs.Answers.{answer, plain, bad_state, shows, wakes_with, delivers_to}
use Rattle.scope.specs.Semaphores.{sem_delete_at}
use Rattle.scope.specs.Queues.{queue_delete_at}
use Rattle.scope.specs.Ticks.{tick}
use Rattle.histories.specs.Sound.{Sound}
use Rattle.histories.specs.History.{Event, answer_to, after, TaskAt, QueueAt}
use Rattle.histories.proofs.Tasks.{named_task}
use Rattle.histories.proofs.Queues.{named_queue}
use Rattle.histories.proofs.Deeds.{TaskChange, task_created, waiter_suspended, waiter_resumed, priority_noted, TaskMove, task_deleted, task_started, task_suspended, task_resumed, priority_set}
use Rattle.histories.proofs.Deeds.{Deed, refused, tells, tasks_change, task_moves, sems_change, pools_change, caller_waits, first_woken, sem_deleted, time_passes, by_deed}
use Rattle.histories.proofs.Deeds.{queues_change, receiver_waits, delivered, queue_deleted}
use Rattle.histories.proofs.Deeds.{QueueChange, queue_created, message_put, message_received}
use Rattle.histories.proofs.Tables.{Later, later_same, later_on, later_born, later_gone, stays_deleted, still_deleted}
use Rattle.histories.proofs.Ledger.{event_keeps}

module _ (s : State) where
  -- a tasks' table that is what it was, or later
  abbrev OnFrom : Tasks → Type 0
  OnFrom k = Later s.tasks.serial s.tasks.live k.serial k.live

  abbrev On : Answer → Type 0
  On a = OnFrom a.state.tasks

  same : OnFrom s.tasks
  same = later_same s.tasks.serial s.tasks.live

  module _ (ok : Sound s) (x : Event) where
    changed : {k : Tasks} {v : ℕ} → TaskChange s x k v → OnFrom k
    changed (task_created at e f) = later_born s.tasks.serial s.tasks.live _ (leb-false _ _ f)
    changed (waiter_suspended at t e f g h) = same
    changed (waiter_resumed at t e f g h) = same
    changed (priority_noted at t e f g) = same

    moved : {k : Tasks} {l : Line} {v : ℕ} → TaskMove s x k l v → OnFrom k
    moved (task_deleted at t e) = later_gone s.tasks.serial s.tasks.live t (omega (arith, (named_task s ok x.a t e).0, ok.tasks.sized.lives))
    moved (task_started at t e f) = same
    moved (task_suspended at t e f g h) = same
    moved (task_resumed at t e f g h) = same
    moved (priority_set at t e f g) = same

    by_kind : {a : Answer} → Deed s x a → On a
    unfolding plain answer shows wakes_with delivers_to sem_delete_at queue_delete_at tick
    by_kind (refused status e f listed) = same
    by_kind (tells call at e v0 v1 v2 v3 negative) = same
    by_kind (tasks_change c) = changed c
    by_kind (task_moves c) = moved c
    by_kind (sems_change c) = same
    by_kind (pools_change c) = same
    by_kind (caller_waits at i e f g time) = same
    by_kind (first_woken at i e f) = same
    by_kind (sem_deleted at i e) = same
    by_kind (queues_change c) = same
    by_kind (receiver_waits at i e f g time) = same
    by_kind (delivered c i e f g) = same
    by_kind (queue_deleted at i e) = same
    by_kind (time_passes at) = same

    pub tasks_later : On (answer_to s x)
    unfolding bad_state
    tasks_later = by_deed s x On (λ a d. by_kind d) (λ h. same)

pub tasks-after : (s : State) → Sound s → (xs : List Event) → Later s.tasks.serial s.tasks.live (after s xs).tasks.serial (after s xs).tasks.live
tasks-after s ok [] = later_same s.tasks.serial s.tasks.live
tasks-after s ok (x ∷ xs) = later_on (tasks_later s ok x) (tasks-after (answer_to s x).state (event_keeps s ok x) xs)

-- an identifier whose task is deleted never names one again: it stays OBJECT_DELETED
module _ (s : State) (ok : Sound s) (xs : List Event) (id : ℕ) (gone : found s.tasks.serial s.tasks.live id ≡ Deleted) where
  pub task_stays_deleted : (t : ℕ) → TaskAt (after s xs) id t → ⊥
  task_stays_deleted t e = stays_deleted (tasks-after s ok xs) id t gone e

  pub task_still_deleted : found (after s xs).tasks.serial (after s xs).tasks.live id ≡ Deleted
  task_still_deleted = still_deleted (tasks-after s ok xs) id gone

-- the same of the queues
module _ (s : State) where
  abbrev QueuesOn : Answer → Type 0
  QueuesOn a = Later s.queues.serial s.queues.live a.state.queues.serial a.state.queues.live

  unmoved : Later s.queues.serial s.queues.live s.queues.serial s.queues.live
  unmoved = later_same s.queues.serial s.queues.live

  module _ (ok : Sound s) (x : Event) where
    queues_moved : {u : Queues} {v : ℕ} {shown : List ℕ} → QueueChange s x u v shown → Later s.queues.serial s.queues.live u.serial u.live
    queues_moved (queue_created at e f g) = later_born s.queues.serial s.queues.live _ (leb-false _ _ g)
    queues_moved (message_put c i e f g h) = unmoved
    queues_moved (message_received at i e f) = unmoved

    of_queues : {a : Answer} → Deed s x a → QueuesOn a
    unfolding plain answer shows wakes_with delivers_to sem_delete_at queue_delete_at tick
    of_queues (refused status e f listed) = unmoved
    of_queues (tells call at e v0 v1 v2 v3 negative) = unmoved
    of_queues (tasks_change c) = unmoved
    of_queues (task_moves c) = unmoved
    of_queues (sems_change c) = unmoved
    of_queues (pools_change c) = unmoved
    of_queues (caller_waits at i e f g time) = unmoved
    of_queues (first_woken at i e f) = unmoved
    of_queues (sem_deleted at i e) = unmoved
    of_queues (queues_change c) = queues_moved c
    of_queues (receiver_waits at i e f g time) = unmoved
    of_queues (delivered c i e f g) = unmoved
    of_queues (queue_deleted at i e) = later_gone s.queues.serial s.queues.live i (omega (arith, (named_queue s ok x.a i e).0, ok.queues.sized.lives))
    of_queues (time_passes at) = unmoved

    pub queues_later : QueuesOn (answer_to s x)
    unfolding bad_state
    queues_later = by_deed s x QueuesOn (λ a d. of_queues d) (λ h. unmoved)

pub queues-after : (s : State) → Sound s → (xs : List Event) → Later s.queues.serial s.queues.live (after s xs).queues.serial (after s xs).queues.live
queues-after s ok [] = later_same s.queues.serial s.queues.live
queues-after s ok (x ∷ xs) = later_on (queues_later s ok x) (queues-after (answer_to s x).state (event_keeps s ok x) xs)

pub queue_stays_deleted : (s : State) → Sound s → (xs : List Event) (id i : ℕ) → found s.queues.serial s.queues.live id ≡ Deleted → QueueAt (after s xs) id i → ⊥
queue_stays_deleted s ok xs id i gone e = stays_deleted (queues-after s ok xs) id i gone e
