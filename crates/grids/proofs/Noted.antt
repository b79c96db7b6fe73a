-- What a turn means for the grid: nothing; a new task, or a new semaphore, in a slot; or one grant, between the live objects of two slots.
-- Every deed is one of the four, and the grid that is kept and the grants that are told both follow it.
-- Assumes nothing.
use Prim.Native.Nat.{ℕ, ◌+◌, ◌<◌}
use native.Mathlib.Omega.{arith}
use mathlib.Core.Path.{◌≡◌, refl, sym, ap, ◌∙◌}
use mathlib.Core.Bool.{Bool, true, false}
use mathlib.Core.List.{List, [], ◌∷◌}
use lib.ListN.{length, get_or, set}
use lib.Dec.{ltb, leb, eqb}
use borrow.Author.Tests.{eqb-true, ltb-true, leb-false, eqb-false, ne_eqb, lt-ltb}
use Rattle.scope.specs.declared.State.{State}
use Rattle.scope.specs.declared.Tasks.{Tasks}
use Rattle.scope.specs.declared.Line.{Line}
use Rattle.scope.specs.declared.Semaphores.{Semaphores}
use Rattle.scope.specs.declared.Pools.{Pools}
use Rattle.scope.specs.declared.Queues.{Queues}
use Rattle.scope.specs.declared.Answer.{Answer}
use Rattle.scope.specs.declared.Found.TheVariants.{At}
use Rattle.scope.specs.Replies.{wake_list}
use Rattle.books.proofs.Granting.{nobody}
use Rattle.books.proofs.Releasing.{wakes_one}
use Rattle.scope.specs.Choice.{pick}
use Rattle.scope.specs.Statuses.{OK}
use Rattle.scope.specs.Identifiers.{identifier, slot_of}
use Rattle.scope.specs.Seats.{queue_seats, first_standing}
use Rattle.scope.specs.Views.{with_tasks, with_line, with_semaphores, with_pools, with_queues, running_task}
use Rattle.scope.specs.Answers.{answer, plain, bad_state, shows, wakes_with, delivers_to}
use Rattle.scope.specs.Waiting.{wake_next}
use Rattle.scope.specs.Semaphores.{sem_found, sem_delete_at}
use Rattle.scope.specs.Messages.{Store}
use Rattle.scope.specs.Queues.{queue_delete_at}
use Rattle.scope.specs.Ticks.{tick}
use Rattle.scope.specs.Calls.{known_calls, call_at, may_call}
use Rattle.scope.specs.Rules.{sound}
use Rattle.scope.specs.Step.{caller_refusal, answered, stepped}
use Rattle.scope.proofs.Rows.{by_choice}
use Rattle.laws.proofs.Branches.{picked_yes, picked_no, true-false}
use Rattle.laws.proofs.Tables.{found_below, found_slot, found-identifier}
use Rattle.histories.specs.Sound.{Sound}
use Rattle.histories.specs.History.{Event, answer_to}
use Rattle.histories.proofs.Meaning.{sound_right}
use Rattle.histories.proofs.Deeds.{new_task, new_semaphore, not_asked, TaskChange, task_created, waiter_suspended, waiter_resumed, priority_noted}
use Rattle.histories.proofs.Deeds.{TaskMove, task_deleted, task_started, task_suspended, task_resumed, priority_set, SemChange, sem_created, unit_claimed, unit_released}
use Rattle.histories.proofs.Deeds.{PoolChange, pool_created, pool_deleted, buffer_got, buffer_returned, Puts, sends, jumps, QueueChange, queue_created, message_put}
use Rattle.histories.proofs.Deeds.{message_received}
use Rattle.histories.proofs.Deeds.{Deed, refused, tells, tasks_change, task_moves, sems_change, pools_change, queues_change, caller_waits, first_woken, sem_deleted}
use Rattle.histories.proofs.Deeds.{receiver_waits, delivered, queue_deleted, time_passes, by_deed}
use Rattle.books.specs.Past.{Turn, is_answer, value, running_in}
use Rattle.books.specs.Told.{task_id, sem_id}
use Rattle.books.proofs.Agreeing.{turn_of, not_call, not_status, is_answer_lem}
use Rattle.grid.specs.Grid.{Grid, granted, row_cleared, column_cleared}
use Rattle.grid.specs.Keeping.{released}
use Rattle.grid.proofs.Laws.{kept_refused, kept_task, kept_semaphore, kept_claim, kept_release, kept_other}
use Rattle.grids.specs.Grants.{Given, woken_by, grants_at}
use Rattle.grids.specs.Kept.{kept_by}

abbrev pub SerialsSame : State → State → Type 0
SerialsSame s r = (r.tasks.serial ≡ s.tasks.serial) × (r.semaphores.serial ≡ s.semaphores.serial)

-- slot t has its next object
abbrev pub next : List ℕ → ℕ → ℕ
next serial t = get_or serial t 0 + 1

pub data Noted (s : State) (x : Event) (a : Answer) : Type 0 where
  nothing_noted : SerialsSame s a.state → is_answer 1 OK (turn_of x a) ≡ false → is_answer 8 OK (turn_of x a) ≡ false
      → ((past : List Turn) → grants_at past (turn_of x a) ≡ []) → ((g : Grid) (caller : ℕ) → g ≡ kept_by g caller (turn_of x a)) → Noted s x a
  task_noted : (t : ℕ) → t < 32 → a.state.tasks.serial ≡ set s.tasks.serial t (next s.tasks.serial t)
      → a.state.semaphores.serial ≡ s.semaphores.serial
      → is_answer 1 OK (turn_of x a) ≡ true → is_answer 8 OK (turn_of x a) ≡ false → value (turn_of x a) ≡ identifier (next s.tasks.serial t) t
      → ((past : List Turn) → grants_at past (turn_of x a) ≡ []) → ((g : Grid) (caller : ℕ) → row_cleared g t ≡ kept_by g caller (turn_of x a)) → Noted s x a
  semaphore_noted : (i : ℕ) → i < 16 → a.state.semaphores.serial ≡ set s.semaphores.serial i (next s.semaphores.serial i)
      → a.state.tasks.serial ≡ s.tasks.serial
      → is_answer 1 OK (turn_of x a) ≡ false → is_answer 8 OK (turn_of x a) ≡ true → value (turn_of x a) ≡ identifier (next s.semaphores.serial i) i
      → ((past : List Turn) → grants_at past (turn_of x a) ≡ []) → ((g : Grid) (caller : ℕ) → column_cleared g i ≡ kept_by g caller (turn_of x a)) → Noted s x a
  grant_noted : (t i : ℕ) → t < 32 → i < 16 → SerialsSame s a.state → is_answer 1 OK (turn_of x a) ≡ false → is_answer 8 OK (turn_of x a) ≡ false
      → ((past : List Turn) → running_in past ≡ running_task s → grants_at past (turn_of x a) ≡ record { task = task_id s t; semaphore = sem_id s i } ∷ [])
      → ((g : Grid) → granted g t i ≡ kept_by g (running_task s) (turn_of x a)) → Noted s x a

-- an identifier's slot
pub slot_is : (k t : ℕ) → t < 64 → slot_of (identifier k t) ≡ t
slot_is k t h = omega arith

-- who runs has an identifier
runs_is : (s : State) → s.running < 32 → running_task s ≡ task_id s s.running
unfolding running_task
runs_is s h = picked_yes (ltb s.running 32) _ _ (lt-ltb s.running 32 h)

-- a claim that is not refused for its caller has one: "24: task caller, nothing runs", and an interrupt may not claim
refusal_runs : (mark running : ℕ) → caller_refusal 11 mark running ≡ OK → running < 32
unfolding caller_refusal may_call
refusal_runs mark running =
    let P : ℕ → Type 0 = λ v. v ≡ OK → running < 32 in
    by_choice P (leb known_calls 11) (λ e z. absurd (omega (arith, z)))
    (λ e. by_choice P (ltb 1 mark) (λ f z. absurd (omega (arith, z)))
    (λ f. by_choice P (eqb mark 0)
    (λ g. by_choice P (may_call 11 0) (λ h. by_choice P (ltb running 32) (λ i z. ltb-true running 32 i) (λ i z. absurd (omega (arith, z)))) (λ h z. absurd (omega (arith, z))))
    (λ g. by_choice P (may_call 11 1) (λ h z. absurd (true-false h refl)) (λ h z. absurd (omega (arith, z))))))

claim_runs : (s : State) (x : Event) → x.call ≡ 11 → (answer_to s x).status ≡ OK → s.running < 32
unfolding stepped answered bad_state plain answer
claim_runs s x at = whole (sound s)
  where
    status : ℕ
    status = caller_refusal x.call x.mark s.running

    part : (b : Bool) → eqb status OK ≡ b
        → (elim b as (λ y. Answer) [ true ↦ (call_at x.call).does s x.a x.b x.c x.d x.e x.message | false ↦ plain s status ]).status ≡ OK → s.running < 32
    part true e d = refusal_runs x.mark s.running (ap (λ (c : ℕ). caller_refusal c x.mark s.running) (sym at) ∙ eqb-true status OK e)
    part false e d = absurd (eqb-false status OK e d)

    whole : (b : Bool)
        → (elim b as (λ y. Answer) [ true ↦ answered s x.call x.mark x.a x.b x.c x.d x.e x.message | false ↦ bad_state s ]).status ≡ OK → s.running < 32
    whole true d = part (eqb status OK) refl d
    whole false d = absurd (omega (arith, d))

-- the grants of a turn that is no claim and no release
module _ (y : Turn) (past : List Turn) where
  pub no_grants_lem : is_answer 11 OK y ≡ false → is_answer 12 OK y ≡ false → grants_at past y ≡ []
  unfolding grants_at
  no_grants_lem d e = picked_no _ _ _ d ∙ picked_no _ _ _ e

  pub claim_grants : is_answer 11 OK y ≡ true → grants_at past y ≡ record { task = running_in past; semaphore = y.event.a } ∷ []
  unfolding grants_at
  claim_grants d = picked_yes _ _ _ d

  pub release_grants : is_answer 11 OK y ≡ false → is_answer 12 OK y ≡ true → grants_at past y ≡ woken_by y.event.a y.reply.wakes
  unfolding grants_at
  release_grants d e = picked_no _ _ _ d ∙ picked_yes _ _ _ e

-- a wake list of nobody, and of one task with 0
no_wakes_lem : (g : Grid) (i : ℕ) → released g i [] ≡ g
unfolding released
no_wakes_lem g i = refl

one_wake : (g : Grid) (i task : ℕ) → released g i (record { task = task; status = OK } ∷ []) ≡ granted g (slot_of task) i
unfolding released pick
one_wake g i task = refl

pub one_woken : (id task : ℕ) → woken_by id (record { task = task; status = OK } ∷ []) ≡ record { task = task; semaphore = id } ∷ []
unfolding pick
one_woken id task = refl

module _ (s : State) (x : Event) where
  -- not done: a refusal, or PENDING
  undone : (a : Answer) → SerialsSame s a.state → eqb a.status OK ≡ false → Noted s x a
  undone a same e =
      let no : (k : ℕ) → is_answer k OK (turn_of x a) ≡ false = λ k. not_status (turn_of x a) k OK e in
      nothing_noted same (no 1) (no 8) (λ past. no_grants_lem (turn_of x a) past (no 11) (no 12)) (λ g caller. kept_refused g caller x.call x.a a.status _ _ (eqb-false a.status OK e))

  -- another call
  other : (a : Answer) → SerialsSame s a.state → (c : ℕ) → x.call ≡ c → eqb c 1 ≡ false → eqb c 8 ≡ false → eqb c 11 ≡ false → eqb c 12 ≡ false → Noted s x a
  other a same c at e1 e8 e11 e12 =
      let is : (k : ℕ) → eqb c k ≡ false → eqb x.call k ≡ false = λ k e. ap (λ (v : ℕ). eqb v k) at ∙ e in
      let no : (k : ℕ) → eqb c k ≡ false → is_answer k OK (turn_of x a) ≡ false = λ k e. not_call (turn_of x a) k OK (is k e) in
      nothing_noted same (no 1 e1) (no 8 e8) (λ past. no_grants_lem (turn_of x a) past (no 11 e11) (no 12 e12))
      (λ g caller. kept_other g caller x.call x.a a.status _ _ (is 1 e1) (is 8 e8) (is 11 e11) (is 12 e12))

  -- a call with this number and no other
  module _ (a : Answer) (c : ℕ) (at : x.call ≡ c) where
    no : (k : ℕ) → eqb c k ≡ false → is_answer k OK (turn_of x a) ≡ false
    no k e = not_call (turn_of x a) k OK (ap (λ (v : ℕ). eqb v k) at ∙ e)

    is : a.status ≡ OK → is_answer c OK (turn_of x a) ≡ true
    is done = is_answer_lem (turn_of x a) c OK at done

  -- a new task in slot t, a new semaphore in slot i
  task_made : (a : Answer) → x.call ≡ 1 → a.status ≡ OK → (t : ℕ) → t < 32 → a.state.tasks.serial ≡ set s.tasks.serial t (next s.tasks.serial t)
      → a.state.semaphores.serial ≡ s.semaphores.serial → value (turn_of x a) ≡ identifier (next s.tasks.serial t) t → Noted s x a
  task_made a at done t h grew same v =
      task_noted t h grew same (is a 1 at done) (no a 1 at 8 refl) v (λ past. no_grants_lem (turn_of x a) past (no a 1 at 11 refl) (no a 1 at 12 refl))
      (λ g caller. ap (row_cleared g) (sym (ap slot_of v ∙ slot_is _ t (omega (arith, h)))) ∙ kept_task g caller x.call x.a a.status _ _ done at)

  semaphore_made : (a : Answer) → x.call ≡ 8 → a.status ≡ OK → (i : ℕ) → i < 16
      → a.state.semaphores.serial ≡ set s.semaphores.serial i (next s.semaphores.serial i)
      → a.state.tasks.serial ≡ s.tasks.serial → value (turn_of x a) ≡ identifier (next s.semaphores.serial i) i → Noted s x a
  semaphore_made a at done i h grew same v =
      semaphore_noted i h grew same (no a 8 at 1 refl) (is a 8 at done) v (λ past. no_grants_lem (turn_of x a) past (no a 8 at 11 refl) (no a 8 at 12 refl))
      (λ g caller. ap (column_cleared g) (sym (ap slot_of v ∙ slot_is _ i (omega (arith, h)))) ∙ kept_semaphore g caller x.call x.a a.status _ _ done at)

  -- the semaphore in slot i is named
  module _ (ok : Sound s) (i : ℕ) (e : sem_found s x.a ≡ At i) where
    room : i < 16
    room = omega (arith, found_below s.semaphores.serial s.semaphores.live x.a e, ok.semaphores.sized.serials)

    named : x.a ≡ sem_id s i
    named = found-identifier s.semaphores.serial s.semaphores.live x.a e

    slot : slot_of x.a ≡ i
    slot = sym (found_slot s.semaphores.serial s.semaphores.live x.a e)

    -- a claim answered OK, by the task in slot t
    claim_made : (a : Answer) → x.call ≡ 11 → a.status ≡ OK → SerialsSame s a.state → s.running < 32 → Noted s x a
    claim_made a at done same runs =
        grant_noted s.running i runs room same (no a 11 at 1 refl) (no a 11 at 8 refl)
        (λ past r. claim_grants (turn_of x a) past (is a 11 at done)
        ∙ ap {B = List Given} (λ (v : ℕ). record { task = v; semaphore = x.a } ∷ []) (r ∙ caller)
        ∙ ap {B = List Given} (λ (v : ℕ). record { task = task_id s s.running; semaphore = v } ∷ []) named)
        (λ g. ap (λ (v : ℕ). granted g v i) (sym (ap slot_of caller ∙ slot_is _ s.running (omega (arith, runs))))
        ∙ ap (granted g (slot_of (running_task s))) (sym slot)
        ∙ kept_claim g (running_task s) x.call x.a a.status _ _ done at)
      where
        caller : running_task s ≡ task_id s s.running
        caller = runs_is s runs

    -- a release answered OK that wakes nobody
    release_none : (a : Answer) → x.call ≡ 12 → a.status ≡ OK → SerialsSame s a.state → a.woken ≡ 0 → Noted s x a
    release_none a at done same z =
        nothing_noted same (no a 12 at 1 refl) (no a 12 at 8 refl)
        (λ past. release_grants (turn_of x a) past (no a 12 at 11 refl) (is a 12 at done) ∙ ap (woken_by x.a) empty)
        (λ g caller. sym (ap (released g (slot_of x.a)) empty ∙ no_wakes_lem g (slot_of x.a)) ∙ kept_release g caller x.call x.a a.status _ _ done at)
      where
        empty : wake_list a ≡ []
        empty = nobody a.woken z a.wakes a.why

    -- one that wakes the task in slot t
    release_one : (a : Answer) → x.call ≡ 12 → a.status ≡ OK → SerialsSame s a.state → (t : ℕ) → t < 32 → a.woken ≡ 1 → a.why ≡ OK
        → get_or a.wakes 0 0 ≡ task_id s t → Noted s x a
    release_one a at done same t h one why first =
        grant_noted t i h room same (no a 12 at 1 refl) (no a 12 at 8 refl)
        (λ past r. release_grants (turn_of x a) past (no a 12 at 11 refl) (is a 12 at done) ∙ ap (woken_by x.a) only
        ∙ one_woken x.a (task_id s t) ∙ ap {B = List Given} (λ (v : ℕ). record { task = task_id s t; semaphore = v } ∷ []) named)
        (λ g. ap (λ (v : ℕ). granted g v i) (sym (slot_is (get_or s.tasks.serial t 0) t (omega (arith, h)))) ∙ ap (granted g (slot_of (task_id s t))) (sym slot)
        ∙ sym (ap (released g (slot_of x.a)) only ∙ one_wake g (slot_of x.a) (task_id s t))
        ∙ kept_release g (running_task s) x.call x.a a.status _ _ done at)
      where
        only : wake_list a ≡ record { task = task_id s t; status = OK } ∷ []
        only = wakes_one a.woken a.wakes a.why (task_id s t) one why first

  change_noted : (ok : Sound s) → {k : Tasks} {v : ℕ} → TaskChange s x k v → Noted s x (answer (with_tasks s k) OK v 0 0 0 false)
  unfolding answer
  change_noted ok (task_created at e f) =
      let h : new_task s < length s.tasks.serial = leb-false (length s.tasks.serial) (new_task s) f in
      task_made _ at refl (new_task s) (omega (arith, h, ok.tasks.sized.serials)) refl refl refl
  change_noted ok (waiter_suspended at t e f g h) = other _ (refl, refl) 5 at refl refl refl refl
  change_noted ok (waiter_resumed at t e f g h) = other _ (refl, refl) 6 at refl refl refl refl
  change_noted ok (priority_noted at t e f g) = other _ (refl, refl) 7 at refl refl refl refl

  move_noted : {k : Tasks} {l : Line} {v : ℕ} → TaskMove s x k l v → Noted s x (answer (with_line (with_tasks s k) l) OK v 0 0 0 false)
  unfolding answer
  move_noted (task_deleted at t e) = other _ (refl, refl) 2 at refl refl refl refl
  move_noted (task_started at t e f) = other _ (refl, refl) 4 at refl refl refl refl
  move_noted (task_suspended at t e f g h) = other _ (refl, refl) 5 at refl refl refl refl
  move_noted (task_resumed at t e f g h) = other _ (refl, refl) 6 at refl refl refl refl
  move_noted (priority_set at t e f g) = other _ (refl, refl) 7 at refl refl refl refl

  pool_noted : {p : Pools} {v : ℕ} → PoolChange s x p v → Noted s x (answer (with_pools s p) OK v 0 0 0 false)
  unfolding answer
  pool_noted (pool_created at e f g h j) = other _ (refl, refl) 14 at refl refl refl refl
  pool_noted (pool_deleted at i e f) = other _ (refl, refl) 15 at refl refl refl refl
  pool_noted (buffer_got at i e f) = other _ (refl, refl) 17 at refl refl refl refl
  pool_noted (buffer_returned at i e f) = other _ (refl, refl) 18 at refl refl refl refl

  -- a queue's calls are none of the grid's: a delivery is no grant
  queue_noted : {u : Queues} {v : ℕ} {shown : List ℕ} → QueueChange s x u v shown → Noted s x (shows (with_queues s u) v shown)
  unfolding shows
  queue_noted (queue_created at e f g) = other _ (refl, refl) 20 at refl refl refl refl
  queue_noted (message_put (sends at) i e f g h) = other _ (refl, refl) 23 at refl refl refl refl
  queue_noted (message_put (jumps at) i e f g h) = other _ (refl, refl) 24 at refl refl refl refl
  queue_noted (message_received at i e f) = other _ (refl, refl) 25 at refl refl refl refl

  delivery_noted : {put : Store → ℕ → List ℕ → Store} → Puts x put → (a : Answer) → SerialsSame s a.state → Noted s x a
  delivery_noted (sends at) a same = other a same 23 at refl refl refl refl
  delivery_noted (jumps at) a same = other a same 24 at refl refl refl refl

  sem_noted : (ok : Sound s) → (x.call ≡ 11 → s.running < 32) → {m : Semaphores} {v : ℕ} → SemChange s x m v
      → Noted s x (answer (with_semaphores s m) OK v 0 0 0 false)
  unfolding answer
  sem_noted ok runs (sem_created at e f g) =
      let h : new_semaphore s < length s.semaphores.serial = leb-false (length s.semaphores.serial) (new_semaphore s) g in
      semaphore_made _ at refl (new_semaphore s) (omega (arith, h, ok.semaphores.sized.serials)) refl refl refl
  sem_noted ok runs (unit_claimed at i e f) = claim_made ok i e _ at refl (refl, refl) (runs at)
  sem_noted ok runs (unit_released at i e f g) = release_none ok i e _ at refl (refl, refl) refl

  deed_noted : (ok : Sound s) → {a : Answer} → (x.call ≡ 11 → a.status ≡ OK → s.running < 32) → Deed s x a → Noted s x a
  unfolding answer plain shows wakes_with delivers_to wake_next sem_delete_at queue_delete_at tick
  deed_noted ok runs (refused status e f listed) = undone (plain s status) (refl, refl) e
  deed_noted ok runs (tells call at e v0 v1 v2 v3 negative) =
      other _ (refl, refl) call at (ne_eqb call 1 (not_asked call 1 e refl)) (ne_eqb call 8 (not_asked call 8 e refl))
      (ne_eqb call 11 (not_asked call 11 e refl)) (ne_eqb call 12 (not_asked call 12 e refl))
  deed_noted ok runs (tasks_change c) = change_noted ok c
  deed_noted ok runs (task_moves c) = move_noted c
  deed_noted ok runs (sems_change c) = sem_noted ok (λ at. runs at refl) c
  deed_noted ok runs (pools_change c) = pool_noted c
  deed_noted ok runs (queues_change c) = queue_noted c
  deed_noted ok runs (caller_waits at i e f g time) = undone _ (refl, refl) refl
  deed_noted ok runs (first_woken at i e f) =
      release_one ok i e _ at refl (refl, refl) (first_standing s.line.seat (queue_seats i)) (ltb-true _ 32 f) refl refl refl
  deed_noted ok runs (sem_deleted at i e) = other _ (refl, refl) 9 at refl refl refl refl
  deed_noted ok runs (receiver_waits at i e f g time) = undone _ (refl, refl) refl
  deed_noted ok runs (delivered c i e f g) = delivery_noted c _ (refl, refl)
  deed_noted ok runs (queue_deleted at i e) = other _ (refl, refl) 21 at refl refl refl refl
  deed_noted ok runs (time_passes at) = other _ (refl, refl) 0 at refl refl refl refl

  -- every event's answer
  pub event_noted : Sound s → Noted s x (answer_to s x)
  event_noted ok =
      by_deed s x (λ (a : Answer). (x.call ≡ 11 → a.status ≡ OK → s.running < 32) → Noted s x a)
      (λ a d runs. deed_noted ok runs d) (λ h. absurd (true-false (sound_right s ok) h)) (claim_runs s x)
