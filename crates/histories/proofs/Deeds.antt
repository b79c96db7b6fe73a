-- What an event does: the one walk over the call table. An answer is a refusal, or tells, or changes one part of the state, or
-- leaves the caller waiting, or wakes: each deed has what the call's own tests showed, so no state need be sound. Whatever is to
-- hold of every answer is shown of the deeds.
-- Assumes nothing.
use Prim.Native.Nat.{ℕ, ◌+◌, ◌-◌, ◌^◌, ◌≤◌, ◌<◌}
use native.Mathlib.Omega.{arith}
use mathlib.Core.Path.{◌≡◌, refl, sym, ap, ◌∙◌}
use mathlib.Core.Logic.{⊎_elim}
use mathlib.Core.Bool.{Bool, true, false, not, ◌&&◌}
use mathlib.Core.List.{List, [], ◌∷◌}
use lib.ListN.{length, get_or}
use lib.Dec.{ltb, leb, eqb}
use borrow.Author.Tests.{ltb-false, eqb-false, eq-eqb}
use Rattle.scope.specs.declared.State.{State}
use Rattle.scope.specs.declared.Line.{Line}
use Rattle.scope.specs.declared.Tasks.{Tasks}
use Rattle.scope.specs.declared.Semaphores.{Semaphores}
use Rattle.scope.specs.declared.Pools.{Pools}
use Rattle.scope.specs.declared.Queues.{Queues}
use Rattle.scope.specs.declared.Answer.{Answer}
use Rattle.scope.specs.declared.Found.{Found}
use Rattle.scope.specs.declared.Found.TheVariants.{At, Deleted, Invalid}
use Rattle.scope.specs.Choice.{pick}
use Rattle.scope.specs.Statuses.{OK, PENDING, INVALID_ID, OBJECT_DELETED, BAD_CALL, INVALID_LENGTH, QUEUE_FULL}
use Rattle.scope.specs.Identifiers.{identifier, lowest_usable}
use Rattle.scope.specs.Areas.{is_area, is_size, is_out, is_free, buffer_address, buffer_at}
use Rattle.scope.specs.Places.{longest_free, first_leaves, joins_last}
use Rattle.scope.specs.Seats.{queue_seats, first_standing, leaves, becomes_ready, waits_on, rings_left, rings_ready}
use Rattle.scope.specs.Objects.{queue_object}
use Rattle.scope.specs.Views.{with_line, with_tasks, with_semaphores, with_pools, with_queues, with_seats, with_wait, is_ready}
use Rattle.scope.specs.Answers.{no_message, answer, plain, gives, bad_state, shows, wakes_with, delivers_to, on_found}
use Rattle.scope.specs.Tasks.{last_priority, task_found, task_born, task_gone, with_started, with_suspended, with_priority, readied}
use Rattle.scope.specs.Tasks.{task_create_at, task_create, task_delete_at, task_delete, task_ident_at, task_ident, task_start_at, task_start, task_suspend_at, task_suspend, task_resume_at, task_resume, task_set_priority_at, task_set_priority}
use Rattle.scope.specs.Waiting.{is_time_out, wake_next, none_woken, waits}
use Rattle.scope.specs.Semaphores.{last_count, sem_found, sem_born, with_units}
use Rattle.scope.specs.Options.{last_option}
use Rattle.scope.specs.Semaphores.{sem_create_at, sem_create, sem_delete_at, sem_delete, sem_ident_at, sem_ident, sem_wait_at, sem_claim_at, sem_claim, sem_release_at, sem_release, sem_info_at, sem_info}
use Rattle.scope.specs.Pools.{pool_found, pool_buffers, pool_row, pool_free, overlapped, pool_born, pool_gone, with_out}
use Rattle.scope.specs.Pools.{pool_create_at, pool_create, pool_delete_at, pool_delete, pool_ident_at, pool_ident, pool_get_buffer, pool_get_buff_at, pool_get_buff, pool_ret_buffer, pool_ret_buff_at, pool_ret_buff, pool_info_at, pool_info}
use Rattle.scope.specs.Messages.{Store, shown_of, cell_of, cells_of, first_length, first_shown, appended, pushed, taken}
use Rattle.scope.specs.Queues.{most_of, longest_of, held_of, store_of, with_store, are_limits, fits_queue, queue_found, first_receiver, queue_born}
use Rattle.scope.specs.Queues.{queue_create_at, queue_create, queue_delete_at, queue_delete, queue_ident_at, queue_ident, queue_put_at, queue_send, queue_jump}
use Rattle.scope.specs.Queues.{queue_wait_at, queue_receive_at, queue_receive, queue_info_at, queue_info}
use Rattle.scope.specs.Ticks.{tick}
use Rattle.scope.specs.Calls.{Call, known_calls, calls, call_at}
use Rattle.scope.specs.Rules.{sound}
use Rattle.scope.specs.Step.{caller_refusal, answered, stepped}
use Rattle.scope.proofs.Rows.{Rows, none, more, row_at, by_choice}
use Rattle.laws.proofs.Branches.{both, both_true, first_decides, not_of_false, true-false, true_or_false}
use Rattle.histories.specs.History.{Event, answer_to}
use Rattle.histories.proofs.Callers.{has, fits, refusal_fits, not_pending, listed_bad}

-- the slots that creation takes
abbrev pub new_task : State → ℕ
new_task s = lowest_usable s.tasks.serial s.tasks.live

abbrev pub new_semaphore : State → ℕ
new_semaphore s = lowest_usable s.semaphores.serial s.semaphores.live

abbrev pub new_pool : State → ℕ
new_pool s = lowest_usable s.pools.serial s.pools.live

abbrev pub new_queue : State → ℕ
new_queue s = lowest_usable s.queues.serial s.queues.live

-- the buffer that a get gives, and the one that a return's address names
abbrev pub free_buffer : State → ℕ → ℕ
free_buffer s i = longest_free (pool_row s.pools i)

abbrev pub named_buffer : State → ℕ → ℕ → ℕ
named_buffer s i address = buffer_at (get_or s.pools.address i 0) (get_or s.pools.size i 0) (pool_buffers s.pools i) address

-- the calls that tell and change nothing: ident and info
abbrev pub asks : ℕ → Bool
asks call = has (3 ∷ 10 ∷ 13 ∷ 16 ∷ 19 ∷ 22 ∷ 26 ∷ []) call

-- the tasks' table changes, and the value that is given; nobody moves
pub data TaskChange (s : State) (x : Event) : Tasks → ℕ → Type 0 where
  task_created : x.call ≡ 1 → ltb last_priority x.b ≡ false → leb (length s.tasks.serial) (new_task s) ≡ false
      → TaskChange s x (task_born s.tasks (new_task s) x.a x.b) (identifier (get_or s.tasks.serial (new_task s) 0 + 1) (new_task s))
  waiter_suspended : x.call ≡ 5 → (t : ℕ) → task_found s x.a ≡ At t → not (get_or s.tasks.started t false) ≡ false
      → get_or s.tasks.suspended t false ≡ false → waits_on (get_or s.line.seat t 0) ≡ true
      → TaskChange s x (with_suspended s.tasks t true) 0
  waiter_resumed : x.call ≡ 6 → (t : ℕ) → task_found s x.a ≡ At t → not (get_or s.tasks.started t false) ≡ false
      → not (get_or s.tasks.suspended t false) ≡ false → waits_on (get_or s.line.seat t 0) ≡ true
      → TaskChange s x (with_suspended s.tasks t false) 0
  priority_noted : x.call ≡ 7 → (t : ℕ) → task_found s x.a ≡ At t → ltb last_priority x.b ≡ false
      → is_ready s.line s.tasks t ≡ false → TaskChange s x (with_priority s.tasks t x.b) (get_or s.tasks.priority t 0)

-- it changes, and task t stands elsewhere
pub data TaskMove (s : State) (x : Event) : Tasks → Line → ℕ → Type 0 where
  task_deleted : x.call ≡ 2 → (t : ℕ) → task_found s x.a ≡ At t
      → TaskMove s x (task_gone s.tasks t) (with_wait s.line t 0 0 (leaves s.line.seat t) (rings_left s.line.rings s.line.seat t)) 0
  task_started : x.call ≡ 4 → (t : ℕ) → task_found s x.a ≡ At t → get_or s.tasks.started t false ≡ false
      → TaskMove s x (with_started s.tasks t) (readied s.line s.tasks t) 0
  task_suspended : x.call ≡ 5 → (t : ℕ) → task_found s x.a ≡ At t → not (get_or s.tasks.started t false) ≡ false
      → get_or s.tasks.suspended t false ≡ false → waits_on (get_or s.line.seat t 0) ≡ false
      → TaskMove s x (with_suspended s.tasks t true) (with_seats s.line (leaves s.line.seat t) (rings_left s.line.rings s.line.seat t)) 0
  task_resumed : x.call ≡ 6 → (t : ℕ) → task_found s x.a ≡ At t → not (get_or s.tasks.started t false) ≡ false
      → not (get_or s.tasks.suspended t false) ≡ false → waits_on (get_or s.line.seat t 0) ≡ false
      → TaskMove s x (with_suspended s.tasks t false) (readied s.line s.tasks t) 0
  priority_set : x.call ≡ 7 → (t : ℕ) → task_found s x.a ≡ At t → ltb last_priority x.b ≡ false
      → is_ready s.line s.tasks t ≡ true
      → TaskMove s x (with_priority s.tasks t x.b)
      (with_seats s.line (becomes_ready (leaves s.line.seat t) s.line.joined t x.b)
      (rings_ready (rings_left s.line.rings s.line.seat t) x.b)) (get_or s.tasks.priority t 0)

-- the semaphores' table changes, and nothing else
pub data SemChange (s : State) (x : Event) : Semaphores → ℕ → Type 0 where
  sem_created : x.call ≡ 8 → ltb last_count x.b ≡ false → ltb last_option x.c ≡ false
      → leb (length s.semaphores.serial) (new_semaphore s) ≡ false
      → SemChange s x (sem_born s.semaphores (new_semaphore s) x.a x.b (eqb x.c 1))
      (identifier (get_or s.semaphores.serial (new_semaphore s) 0 + 1) (new_semaphore s))
  unit_claimed : x.call ≡ 11 → (i : ℕ) → sem_found s x.a ≡ At i → ltb 0 (get_or s.semaphores.units i 0) ≡ true
      → SemChange s x (with_units s.semaphores i (get_or s.semaphores.units i 0 - 1)) 0
  unit_released : x.call ≡ 12 → (i : ℕ) → sem_found s x.a ≡ At i
      → (not (ltb (first_standing s.line.seat (queue_seats i)) 32) && leb last_count (get_or s.semaphores.units i 0)) ≡ false
      → ltb (first_standing s.line.seat (queue_seats i)) 32 ≡ false
      → SemChange s x (with_units s.semaphores i (get_or s.semaphores.units i 0 + 1)) 0

-- the pools' table changes, and nothing else
pub data PoolChange (s : State) (x : Event) : Pools → ℕ → Type 0 where
  pool_created : x.call ≡ 14 → not (is_area x.b x.c) ≡ false → not (is_size x.c x.d) ≡ false → ltb last_option x.e ≡ false
      → leb 8 (new_pool s) ≡ false → ltb (overlapped s.pools x.b x.c) 8 ≡ false
      → PoolChange s x (pool_born s.pools (new_pool s) x.a x.b x.c x.d (eqb x.e 1))
      (identifier (get_or s.pools.serial (new_pool s) 0 + 1) (new_pool s))
  pool_deleted : x.call ≡ 15 → (i : ℕ) → pool_found s x.a ≡ At i
      → (not (get_or s.pools.forced i false) && ltb 0 (get_or s.pools.out i 0)) ≡ false → PoolChange s x (pool_gone s.pools i) 0
  buffer_got : x.call ≡ 17 → (i : ℕ) → pool_found s x.a ≡ At i
      → not (ltb (free_buffer s i) (pool_buffers s.pools i) && is_free (get_or s.pools.out i 0) (free_buffer s i)) ≡ false
      → PoolChange s x (with_out s.pools i (get_or s.pools.out i 0 + 2 ^ free_buffer s i) (first_leaves (pool_row s.pools i)))
      (buffer_address (get_or s.pools.address i 0) (get_or s.pools.size i 0) (free_buffer s i))
  buffer_returned : x.call ≡ 18 → (i : ℕ) → pool_found s x.a ≡ At i
      → not (ltb (named_buffer s i x.b) 64 && is_out (get_or s.pools.out i 0) (named_buffer s i x.b)) ≡ false
      → PoolChange s x
      (with_out s.pools i (get_or s.pools.out i 0 - 2 ^ named_buffer s i x.b) (joins_last (pool_row s.pools i) (pool_free s.pools i) (named_buffer s i x.b))) 0

-- "A message goes .. to the end; jump puts it in front": where the call puts a message
pub data Puts (x : Event) : (Store → ℕ → List ℕ → Store) → Type 0 where
  sends : x.call ≡ 23 → Puts x appended
  jumps : x.call ≡ 24 → Puts x pushed

-- the queues' table changes, and nothing else: the value that is given, and the message shown
pub data QueueChange (s : State) (x : Event) : Queues → ℕ → List ℕ → Type 0 where
  queue_created : x.call ≡ 20 → not (are_limits x.b x.c) ≡ false → ltb last_option x.d ≡ false
      → leb (length s.queues.serial) (new_queue s) ≡ false
      → QueueChange s x (queue_born s.queues (new_queue s) x.a x.b x.c (eqb x.d 1))
      (identifier (get_or s.queues.serial (new_queue s) 0 + 1) (new_queue s)) no_message
  message_put : {put : Store → ℕ → List ℕ → Store} → Puts x put → (i : ℕ) → queue_found s x.a ≡ At i
      → not (fits_queue (longest_of s.queues i) x.b x.message) ≡ false → ltb (first_receiver s i) 32 ≡ false
      → leb (most_of s.queues i) (held_of s.queues i) ≡ false
      → QueueChange s x (with_store s.queues (put (store_of s.queues) i (cell_of x.message x.b))) 0 no_message
  message_received : x.call ≡ 25 → (i : ℕ) → queue_found s x.a ≡ At i → ltb 0 (held_of s.queues i) ≡ true
      → QueueChange s x (with_store s.queues (taken (store_of s.queues) i)) (first_length (cells_of s.queues.cells i))
      (first_shown (cells_of s.queues.cells i))

-- the answer to x
pub data Deed (s : State) (x : Event) : Answer → Type 0 where
  -- "A refusal (any status but 0 and 1)", which the call's row lists
  refused : (status : ℕ) → eqb status OK ≡ false → eqb status PENDING ≡ false
      → (x.call < known_calls → fits (call_at x.call).statuses status ≡ true) → Deed s x (plain s status)
  tells : (call : ℕ) → x.call ≡ call → asks call ≡ true → (v0 v1 v2 v3 : ℕ) (negative : Bool) → Deed s x (answer s OK v0 v1 v2 v3 negative)
  tasks_change : {k : Tasks} {v : ℕ} → TaskChange s x k v → Deed s x (answer (with_tasks s k) OK v 0 0 0 false)
  task_moves : {k : Tasks} {l : Line} {v : ℕ} → TaskMove s x k l v → Deed s x (answer (with_line (with_tasks s k) l) OK v 0 0 0 false)
  sems_change : {m : Semaphores} {v : ℕ} → SemChange s x m v → Deed s x (answer (with_semaphores s m) OK v 0 0 0 false)
  pools_change : {p : Pools} {v : ℕ} → PoolChange s x p v → Deed s x (answer (with_pools s p) OK v 0 0 0 false)
  queues_change : {u : Queues} {v : ℕ} {shown : List ℕ} → QueueChange s x u v shown → Deed s x (shows (with_queues s u) v shown)
  -- "below 0 the caller joins the queue"
  caller_waits : x.call ≡ 11 → (i : ℕ) → sem_found s x.a ≡ At i → ltb 0 (get_or s.semaphores.units i 0) ≡ false → leb 32 s.running ≡ false
      → is_time_out x.c ≡ true
      → Deed s x (answer
      (with_line s (waits s.line i (get_or s.semaphores.fifo i false) (get_or s.tasks.priority s.running 0) x.c s.running))
      PENDING 0 0 0 0 false)
  -- "If there were waiters the first leaves, woken with OK"
  first_woken : x.call ≡ 12 → (i : ℕ) → sem_found s x.a ≡ At i → ltb (first_standing s.line.seat (queue_seats i)) 32 ≡ true
      → Deed s x (wakes_with s (wake_next s.tasks (none_woken s.line) (first_standing s.line.seat (queue_seats i))) OK)
  sem_deleted : x.call ≡ 9 → (i : ℕ) → sem_found s x.a ≡ At i → Deed s x (sem_delete_at s i)
  -- a receive that finds no message
  receiver_waits : x.call ≡ 25 → (i : ℕ) → queue_found s x.a ≡ At i → ltb 0 (held_of s.queues i) ≡ false → leb 32 s.running ≡ false
      → is_time_out x.c ≡ true
      → Deed s x (answer
      (with_line s (waits s.line (queue_object i) (get_or s.queues.fifo i false) (get_or s.tasks.priority s.running 0) x.c s.running))
      PENDING 0 0 0 0 false)
  -- "A message goes to the first waiter"
  delivered : {put : Store → ℕ → List ℕ → Store} → Puts x put → (i : ℕ) → queue_found s x.a ≡ At i
      → not (fits_queue (longest_of s.queues i) x.b x.message) ≡ false → ltb (first_receiver s i) 32 ≡ true
      → Deed s x (delivers_to s (wake_next s.tasks (none_woken s.line) (first_receiver s i)) x.b (shown_of x.message x.b))
  queue_deleted : x.call ≡ 21 → (i : ℕ) → queue_found s x.a ≡ At i → Deed s x (queue_delete_at s i)
  time_passes : x.call ≡ 0 → Deed s x (tick s)

pub put_call : {x : Event} {put : Store → ℕ → List ℕ → Store} → Puts x put → (23 ≤ x.call) × (x.call < 25)
put_call (sends at) = (omega arith, omega arith)
put_call (jumps at) = (omega arith, omega arith)

-- whose call it is: the tasks' come first, then the semaphores', the pools' and the queues'
module _ {s : State} {x : Event} where
  pub change_call : {k : Tasks} {v : ℕ} → TaskChange s x k v → x.call < 8
  change_call (task_created at e f) = omega arith
  change_call (waiter_suspended at t e f g h) = omega arith
  change_call (waiter_resumed at t e f g h) = omega arith
  change_call (priority_noted at t e f g) = omega arith

  pub move_call : {k : Tasks} {l : Line} {v : ℕ} → TaskMove s x k l v → x.call < 8
  move_call (task_deleted at t e) = omega arith
  move_call (task_started at t e f) = omega arith
  move_call (task_suspended at t e f g h) = omega arith
  move_call (task_resumed at t e f g h) = omega arith
  move_call (priority_set at t e f g) = omega arith

  pub sem_call : {m : Semaphores} {v : ℕ} → SemChange s x m v → (8 ≤ x.call) × (x.call < 14)
  sem_call (sem_created at e f g) = (omega arith, omega arith)
  sem_call (unit_claimed at i e f) = (omega arith, omega arith)
  sem_call (unit_released at i e f g) = (omega arith, omega arith)

  pub pool_call : {p : Pools} {v : ℕ} → PoolChange s x p v → (14 ≤ x.call) × (x.call < 20)
  pool_call (pool_created at e f g h j) = (omega arith, omega arith)
  pool_call (pool_deleted at i e f) = (omega arith, omega arith)
  pool_call (buffer_got at i e f) = (omega arith, omega arith)
  pool_call (buffer_returned at i e f) = (omega arith, omega arith)

  pub queue_call : {u : Queues} {v : ℕ} {shown : List ℕ} → QueueChange s x u v shown → 20 ≤ x.call
  queue_call (queue_created at e f g) = omega arith
  queue_call (message_put c i e f g h) = omega (arith, (put_call c).0)
  queue_call (message_received at i e f) = omega arith

-- a call that tells is none that does not
pub not_asked : (call other : ℕ) → asks call ≡ true → asks other ≡ false → call ≡ other → ⊥
not_asked call other e f d = true-false (ap asks (sym d) ∙ e) f

-- a call's own refusal, by its row
abbrev own : ℕ → ℕ → Bool
own call status = fits (call_at call).statuses status && (not (eqb status OK) && not (eqb status PENDING))

not-true : (b : Bool) → not b ≡ true → b ≡ false
not-true true e = absurd (true-false refl (sym e))
not-true false e = refl

-- who is to wait asks for a time_out: with NOWAIT it would be refused
timed : (options ticks : ℕ) → ltb last_option options ≡ false → (eqb options 0 && not (is_time_out ticks)) ≡ false → eqb options 1 ≡ false
    → is_time_out ticks ≡ true
timed options ticks e f h =
    let o : options ≡ 0 = omega (arith, ltb-false last_option options e, eqb-false options 1 h) in
    ⊎_elim (λ y. y) (λ n. absurd (true-false (both _ _ (eq-eqb options 0 o) (not_of_false (is_time_out ticks) n)) f)) (true_or_false (is_time_out ticks))

-- of a claim that finds no unit
waitable : (options : ℕ) (some : Bool) → (eqb options 1 && not some) ≡ false → some ≡ false → eqb options 1 ≡ false
waitable options some g z = sym (first_decides (eqb options 1) (not some) (not_of_false some z)) ∙ g

module _ (s : State) (x : Event) where
  no : {call : ℕ} → x.call ≡ call → (status : ℕ) → own call status ≡ true → Deed s x (plain s status)
  no {call} at status e =
      let p = both_true (fits (call_at call).statuses status) _ e in
      let q = both_true (not (eqb status OK)) _ p.1 in
      refused status (not-true _ q.0) (not-true _ q.1) (λ below. ap (λ (c : ℕ). fits (call_at c).statuses status) at ∙ p.0)

  -- a choice of the call, and what an identifier names
  choose : (b : Bool) {y z : Answer} → (b ≡ true → Deed s x y) → (b ≡ false → Deed s x z) → Deed s x (pick b y z)
  choose b f g = by_choice (Deed s x) b f g

  named : {call : ℕ} → x.call ≡ call → own call INVALID_ID ≡ true → own call OBJECT_DELETED ≡ true
      → (o : Found) (f : ℕ → Answer) → ((i : ℕ) → o ≡ At i → Deed s x (f i)) → Deed s x (on_found o s f)
  unfolding on_found
  named at e g (At i) f h = h i refl
  named at e g Deleted f h = no at _ g
  named at e g Invalid f h = no at _ e

  task_create_lem : x.call ≡ 1 → Deed s x (task_create s x.a x.b)
  unfolding task_create task_create_at gives
  task_create_lem at = choose _ (λ e. no at _ refl) (λ e. choose _ (λ f. no at _ refl) (λ f. tasks_change (task_created at e f)))

  task_delete_lem : x.call ≡ 2 → Deed s x (task_delete s x.a)
  unfolding task_delete_at plain
  task_delete_lem at = named at refl refl _ (task_delete_at s) (λ t e. task_moves (task_deleted at t e))

  task_ident_lem : x.call ≡ 3 → Deed s x (task_ident s x.a)
  unfolding task_ident task_ident_at gives
  task_ident_lem at = choose _ (λ e. no at _ refl) (λ e. tells 3 at refl _ _ _ _ _)

  task_start_lem : x.call ≡ 4 → Deed s x (task_start s x.a)
  unfolding task_start_at plain
  task_start_lem at = named at refl refl _ (task_start_at s) (λ t e. choose _ (λ f. no at _ refl) (λ f. task_moves (task_started at t e f)))

  task_suspend_lem : x.call ≡ 5 → Deed s x (task_suspend s x.a)
  unfolding task_suspend_at plain
  task_suspend_lem at =
      named at refl refl _ (task_suspend_at s)
      (λ t e. choose _ (λ f. no at _ refl)
      (λ f. choose _ (λ g. no at _ refl)
      (λ g. choose _ (λ h. tasks_change (waiter_suspended at t e f g h)) (λ h. task_moves (task_suspended at t e f g h)))))

  task_resume_lem : x.call ≡ 6 → Deed s x (task_resume s x.a)
  unfolding task_resume_at plain
  task_resume_lem at =
      named at refl refl _ (task_resume_at s)
      (λ t e. choose _ (λ f. no at _ refl)
      (λ f. choose _ (λ g. no at _ refl)
      (λ g. choose _ (λ h. tasks_change (waiter_resumed at t e f g h)) (λ h. task_moves (task_resumed at t e f g h)))))

  task_set_priority_lem : x.call ≡ 7 → Deed s x (task_set_priority s x.a x.b)
  unfolding task_set_priority_at gives
  task_set_priority_lem at =
      named at refl refl _ (task_set_priority_at s x.b)
      (λ t e. choose _ (λ f. no at _ refl)
      (λ f. choose _ (λ g. task_moves (priority_set at t e f g)) (λ g. tasks_change (priority_noted at t e f g))))

  sem_create_lem : x.call ≡ 8 → Deed s x (sem_create s x.a x.b x.c)
  unfolding sem_create sem_create_at gives
  sem_create_lem at =
      choose _ (λ e. no at _ refl)
      (λ e. choose _ (λ f. no at _ refl) (λ f. choose _ (λ g. no at _ refl) (λ g. sems_change (sem_created at e f g))))

  sem_delete_lem : x.call ≡ 9 → Deed s x (sem_delete s x.a)
  sem_delete_lem at = named at refl refl _ (sem_delete_at s) (λ i e. sem_deleted at i e)

  sem_ident_lem : x.call ≡ 10 → Deed s x (sem_ident s x.a)
  unfolding sem_ident sem_ident_at gives
  sem_ident_lem at = choose _ (λ e. no at _ refl) (λ e. tells 10 at refl _ _ _ _ _)

  sem_claim_lem : x.call ≡ 11 → Deed s x (sem_claim s x.a x.b x.c)
  unfolding sem_claim_at sem_wait_at plain
  sem_claim_lem at =
      named at refl refl _ (sem_claim_at s x.b x.c)
      (λ i e. choose _ (λ f. no at _ refl)
      (λ f. choose _ (λ g. no at _ refl)
      (λ g. choose _ (λ h. no at _ refl)
      (λ h. choose _ (λ j. sems_change (unit_claimed at i e j)) (λ j. choose _ (λ n. no at _ refl) (λ n. caller_waits at i e j n (timed x.b x.c f g (waitable x.b _ h j))))))))

  sem_release_lem : x.call ≡ 12 → Deed s x (sem_release s x.a)
  unfolding sem_release_at plain
  sem_release_lem at =
      named at refl refl _ (sem_release_at s)
      (λ i e. choose _ (λ f. no at _ refl) (λ f. choose _ (λ g. first_woken at i e g) (λ g. sems_change (unit_released at i e f g))))

  sem_info_lem : x.call ≡ 13 → Deed s x (sem_info s x.a)
  unfolding sem_info_at
  sem_info_lem at = named at refl refl _ (sem_info_at s) (λ i e. tells 13 at refl _ _ _ _ _)

  pool_create_lem : x.call ≡ 14 → Deed s x (pool_create s x.a x.b x.c x.d x.e)
  unfolding pool_create pool_create_at gives
  pool_create_lem at =
      choose _ (λ e. no at _ refl)
      (λ e. choose _ (λ f. no at _ refl)
      (λ f. choose _ (λ g. no at _ refl)
      (λ g. choose _ (λ h. no at _ refl) (λ h. choose _ (λ j. no at _ refl) (λ j. pools_change (pool_created at e f g h j))))))

  pool_delete_lem : x.call ≡ 15 → Deed s x (pool_delete s x.a)
  unfolding pool_delete_at plain
  pool_delete_lem at = named at refl refl _ (pool_delete_at s) (λ i e. choose _ (λ f. no at _ refl) (λ f. pools_change (pool_deleted at i e f)))

  pool_ident_lem : x.call ≡ 16 → Deed s x (pool_ident s x.a)
  unfolding pool_ident pool_ident_at gives
  pool_ident_lem at = choose _ (λ e. no at _ refl) (λ e. tells 16 at refl _ _ _ _ _)

  pool_get : x.call ≡ 17 → Deed s x (pool_get_buff s x.a)
  unfolding pool_get_buff_at pool_get_buffer gives
  pool_get at = named at refl refl _ (pool_get_buff_at s) (λ i e. choose _ (λ f. no at _ refl) (λ f. pools_change (buffer_got at i e f)))

  pool_return : x.call ≡ 18 → Deed s x (pool_ret_buff s x.a x.b)
  unfolding pool_ret_buff_at pool_ret_buffer plain
  pool_return at =
      named at refl refl _ (pool_ret_buff_at s x.b) (λ i e. choose _ (λ f. no at _ refl) (λ f. pools_change (buffer_returned at i e f)))

  pool_info_lem : x.call ≡ 19 → Deed s x (pool_info s x.a)
  unfolding pool_info_at
  pool_info_lem at = named at refl refl _ (pool_info_at s) (λ i e. tells 19 at refl _ _ _ _ _)

  queue_create_lem : x.call ≡ 20 → Deed s x (queue_create s x.a x.b x.c x.d)
  unfolding queue_create queue_create_at gives answer shows
  queue_create_lem at =
      choose _ (λ e. no at _ refl)
      (λ e. choose _ (λ f. no at _ refl) (λ f. choose _ (λ g. no at _ refl) (λ g. queues_change (queue_created at e f g))))

  queue_delete_lem : x.call ≡ 21 → Deed s x (queue_delete s x.a)
  queue_delete_lem at = named at refl refl _ (queue_delete_at s) (λ i e. queue_deleted at i e)

  queue_ident_lem : x.call ≡ 22 → Deed s x (queue_ident s x.a)
  unfolding queue_ident queue_ident_at gives
  queue_ident_lem at = choose _ (λ e. no at _ refl) (λ e. tells 22 at refl _ _ _ _ _)

  -- a send and a jump
  queue_put : {put : Store → ℕ → List ℕ → Store} {call : ℕ} → x.call ≡ call → Puts x put → own call INVALID_LENGTH ≡ true → own call QUEUE_FULL ≡ true
      → (i : ℕ) → queue_found s x.a ≡ At i → Deed s x (queue_put_at put s x.b x.message i)
  unfolding queue_put_at plain answer shows
  queue_put at c long full i e =
      choose _ (λ f. no at _ long)
      (λ f. choose _ (λ g. delivered c i e f g) (λ g. choose _ (λ h. no at _ full) (λ h. queues_change (message_put c i e f g h))))

  queue_send_lem : x.call ≡ 23 → Deed s x (queue_send s x.a x.b x.message)
  queue_send_lem at = named at refl refl _ (queue_put_at appended s x.b x.message) (queue_put at (sends at) refl refl)

  queue_jump_lem : x.call ≡ 24 → Deed s x (queue_jump s x.a x.b x.message)
  queue_jump_lem at = named at refl refl _ (queue_put_at pushed s x.b x.message) (queue_put at (jumps at) refl refl)

  queue_receive_lem : x.call ≡ 25 → Deed s x (queue_receive s x.a x.b x.c)
  unfolding queue_receive_at queue_wait_at plain
  queue_receive_lem at =
      named at refl refl _ (queue_receive_at s x.b x.c)
      (λ i e. choose _ (λ f. no at _ refl)
      (λ f. choose _ (λ g. no at _ refl)
      (λ g. choose _ (λ h. queues_change (message_received at i e h))
      (λ h. choose _ (λ j. no at _ refl) (λ j. choose _ (λ n. no at _ refl) (λ n. receiver_waits at i e h n (timed x.b x.c f g j)))))))

  queue_info_lem : x.call ≡ 26 → Deed s x (queue_info s x.a)
  unfolding queue_info_at
  queue_info_lem at = named at refl refl _ (queue_info_at s) (λ i e. tells 26 at refl _ _ _ _ _)

  -- each row of the table
  abbrev Row : ℕ → Call → Type 0
  Row call row = x.call ≡ call → Deed s x (row.does s x.a x.b x.c x.d x.e x.message)

  all_rows : Rows Row 0 calls
  all_rows =
      more time_passes
      (more task_create_lem
      (more task_delete_lem
      (more task_ident_lem
      (more task_start_lem
      (more task_suspend_lem
      (more task_resume_lem
      (more task_set_priority_lem
      (more sem_create_lem
      (more sem_delete_lem
      (more sem_ident_lem
      (more sem_claim_lem
      (more sem_release_lem
      (more sem_info_lem
      (more pool_create_lem
      (more pool_delete_lem
      (more pool_ident_lem
      (more pool_get
      (more pool_return
      (more pool_info_lem
      (more queue_create_lem
      (more queue_delete_lem
      (more queue_ident_lem
      (more queue_send_lem
      (more queue_jump_lem
      (more queue_receive_lem
      (more queue_info_lem
      none))))))))))))))))))))))))))

  -- the answer on a state that keeps the rules
  pub deed : Deed s x (answered s x.call x.mark x.a x.b x.c x.d x.e x.message)
  unfolding answered
  deed = go (eqb refusal OK) refl
    where
      refusal : ℕ
      refusal = caller_refusal x.call x.mark s.running

      go : (b : Bool) → eqb refusal OK ≡ b
          → Deed s x (elim b as (λ y. Answer) [ true ↦ (call_at x.call).does s x.a x.b x.c x.d x.e x.message | false ↦ plain s refusal ])
      go true e =
          row_at Row 0 calls all_rows (λ k f. refused BAD_CALL refl refl (λ below. listed_bad x.call below)) x.call (omega arith)
      go false e = refused refusal e (not_pending x.call x.mark s.running) (λ below. refusal_fits x.call below x.mark s.running e)

  -- what holds of every deed holds of the answer, if it holds of BAD_STATE
  pub by_deed : (P : Answer → Type 0) → ((a : Answer) → Deed s x a → P a) → (sound s ≡ false → P (bad_state s)) → P (answer_to s x)
  unfolding stepped
  by_deed P f g = go (sound s) refl
    where
      go : (b : Bool) → sound s ≡ b
          → P (elim b as (λ y. Answer) [ true ↦ answered s x.call x.mark x.a x.b x.c x.d x.e x.message | false ↦ bad_state s ])
      go true h = f _ deed
      go false h = g h
