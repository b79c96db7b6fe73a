-- Why a waiter leaves its queue, told by the answers: a release of its semaphore grants it, or it is deleted, or a tick wakes it with 13,
-- or its semaphore is deleted; no other answer wakes it. By what an answer that wakes can be: a release, a deletion of a semaphore, which
-- spares the other queues, a call of a message queue (M-100), which spares them all, or a tick.
-- Assumes nothing.
use Prim.Native.Nat.{ℕ, zero, suc, ◌+◌, ◌≤◌, ◌<◌}
use native.Mathlib.Omega.{arith}
use mathlib.Core.Path.{◌≡◌, refl, sym, subst, ap, ◌∙◌}
use mathlib.Core.Logic.{◌⊎◌, inl, inr, ⊎_elim}
use mathlib.Core.Bool.{Bool, true, false, ◌&&◌}
use mathlib.Core.List.{List, [], ◌∷◌}
use lib.ListN.{length, get_or}
use lib.Dec.{ltb, eqb}
use borrow.Author.Tests.{ltb-true, leb-false, eqb-true, eqb-false, eq-eqb, ne_eqb, not-true}
use Rattle.scope.specs.declared.State.{State}
use Rattle.scope.specs.declared.Tasks.{Tasks}
use Rattle.scope.specs.declared.Waking.{Waking}
use Rattle.scope.specs.declared.Answer.{Answer}
use Rattle.scope.specs.Choice.{pick}
use Rattle.scope.specs.Statuses.{OK, PENDING, SEMAPHORE_DELETED, TIME_OUT}
use Rattle.scope.specs.Identifiers.{identifier, lowest_usable}
use Rattle.scope.specs.Lists.{has}
use Rattle.scope.specs.Seats.{queue_seats, first_standing}
use Rattle.scope.specs.Objects.{queue_object}
use Rattle.scope.specs.Answers.{answer, plain, gives, bad_state, wakes_with, shows, delivers_to}
use Rattle.scope.specs.Waiting.{wake_next, wake_all, none_woken}
use Rattle.scope.specs.Semaphores.{sem_create_at, sem_create, sem_delete_at}
use Rattle.scope.specs.Messages.{shown_of}
use Rattle.scope.specs.Queues.{first_receiver, queue_delete_at}
use Rattle.scope.specs.Ticks.{tick}
use Rattle.scope.specs.Replies.{Wake, wakes_from}
use Rattle.scope.specs.Fresh.{fresh_state}
use Rattle.scope.proofs.Rows.{by_choice}
use Rattle.laws.proofs.Branches.{true-false, true_or_false, both, both_true, eq_or_not, picked_yes, picked_no, second_fails}
use Rattle.laws.proofs.Tables.{found_slot, found-live, found-identifier, usable_at, usable_free}
use Rattle.laws.specs.Seating.{In}
use Rattle.histories.specs.Sound.{Sound}
use Rattle.histories.specs.History.{Event, answer_to, after, SemaphoreAt}
use Rattle.histories.specs.Order.{WaitsFor}
use Rattle.histories.proofs.Answered.{by_number}
use Rattle.histories.proofs.Deeds.{Deed, refused, tells, tasks_change, task_moves, sems_change, pools_change, queues_change, caller_waits, first_woken, sem_deleted, receiver_waits, delivered, queue_deleted, time_passes, put_call, by_deed}
use Rattle.histories.proofs.Staying.{Good}
use Rattle.histories.proofs.Turns.{good, slot_room}
use Rattle.histories.proofs.Demand.{end_sound}
use Rattle.books.specs.Past.{Turn, past_of, is_answer, is_answer_of, creates}
use Rattle.books.specs.Waiting.{claimed, wakes, ends_wait, waiting}
use Rattle.books.specs.Times.{wakes_as}
use Rattle.books.specs.Told.{StandsAt, GrantTold, task_id, sem_id}
use Rattle.books.proofs.Agreeing.{Waiter, turn_of, not_call, is_answer_lem, not_of, is_of, of_is, waiting_less}
use Rattle.books.proofs.Members.{has_here, kept_has}
use Rattle.books.proofs.Woken.{Left}
use Rattle.books.proofs.Granting.{nobody}
use Rattle.books.proofs.Clocks.{answer_is, answer_of_lem}
use Rattle.books.proofs.Steps.{ends_woken}
use Rattle.books.proofs.Told.{history_agrees, seats_told}
use Rattle.books.proofs.Releasing.{first_stands, release_grants, release_empty}
use Rattle.books.proofs.Times.{next_others, wakes_as_lem}
use Rattle.fifo.proofs.Grown.{turn_after, told_next}

-- A semaphore that lives is not made again: a creation takes a slot that is free.
module _ (s : State) (ok : Sound s) (id i : ℕ) (names : SemaphoreAt s id i) where
  abbrev Other : Answer → Type 0
  Other a = a.status ≡ OK → get_or a.values 0 0 ≡ id → ⊥

  refusal : (status : ℕ) → eqb status OK ≡ false → Other (plain s status)
  unfolding plain answer
  refusal status e d = absurd (eqb-false status OK e d)

  made : (name count options j : ℕ) → j ≡ lowest_usable s.semaphores.serial s.semaphores.live → Other (sem_create_at s name count options j)
  unfolding sem_create_at gives answer
  made name count options j at =
      by_choice Other _ (λ e. refusal _ refl)
      (λ e d f. true-false (found-live s.semaphores.serial s.semaphores.live id names) (free (leb-false (length s.semaphores.serial) j e) f))
    where
      free : j < length s.semaphores.serial → identifier (get_or s.semaphores.serial j 0 + 1) j ≡ id → get_or s.semaphores.live i false ≡ false
      free h f =
          let same : i ≡ j = omega (arith, found_slot s.semaphores.serial s.semaphores.live id names, f, h, ok.semaphores.sized.serials) in
          let e : get_or s.semaphores.live j false ≡ false = subst (λ (v : ℕ). get_or s.semaphores.live v false ≡ false) (sym at)
          (usable_free s.semaphores.serial s.semaphores.live _ (usable_at s.semaphores.serial s.semaphores.live (omega (arith, h, at)))) in
          subst (λ (v : ℕ). get_or s.semaphores.live v false ≡ false) (sym same) e

  create : (name count options : ℕ) → Other (sem_create s name count options)
  unfolding sem_create
  create name count options = by_choice Other _ (λ e. refusal _ refl) (λ e. by_choice Other _ (λ f. refusal _ refl) (λ f. made name count options _ refl))

  pub not_again : (x : Event) → creates 8 id (turn_of x (answer_to s x)) ≡ false
  unfolding creates bad_state
  not_again x =
      ⊎_elim
      (λ e. let b = both_true (is_answer 8 0 (turn_of x (answer_to s x))) _ e in
      let c = answer_is (turn_of x (answer_to s x)) 8 0 b.0 in
      absurd (by_number Other s refusal x 8 c.0 (λ d. absurd (omega (arith, d))) (create x.a x.b x.c) c.1 (eqb-true _ _ b.1)))
      (λ e. e)
      (true_or_false (creates 8 id (turn_of x (answer_to s x))))

-- To wake all who stand in the queue of object i spares who stands in another queue.
module _ (k : Tasks) (i j : ℕ) (hj : j < 16) (apart : i ≡ j → ⊥) (u : ℕ) where
  pub all_spares : (n : ℕ) (w : Waking) → Good w.line.seat → In w.line.seat (queue_seats j) u → In (wake_all k i n w).line.seat (queue_seats j) u
  unfolding wake_all
  all_spares zero w good at = at
  all_spares (suc n) w good at = go (λ v g b. all_spares n v g b) (ltb t 32) refl
    where
      t : ℕ
      t = first_standing w.line.seat (queue_seats i)

      go : ((v : Waking) → Good v.line.seat → In v.line.seat (queue_seats j) u → In (wake_all k i n v).line.seat (queue_seats j) u)
          → (b : Bool) → ltb t 32 ≡ b
          → In (elim b as (λ x. Waking) [ true ↦ wake_all k i n (wake_next k w t) | false ↦ w ]).line.seat (queue_seats j) u
      go rec true e =
          let room : t < 32 = ltb-true t 32 e in
          let first : In w.line.seat (queue_seats i) t = first_stands w.line.seat (queue_seats i) room in
          let ne : u ≡ t → ⊥ = λ d. apart (omega (arith, first.0, first.1, at.0, at.1, ap (λ (v : ℕ). get_or w.line.seat v 0) d)) in
          let left : Left w.line.seat (wake_next k w t).line.seat t = next_others k w t room good in
          rec (wake_next k w t) left.good (left.others j (omega (arith, hj)) u ne at)
      go rec false e = at

-- What an answer that wakes can be: a queue's call (M-100) leaves who stands in a semaphore's queue there, and keeps the names.
data Cause (s : State) (x : Event) (a : Answer) : Type 0 where
  nobody_woken : a.woken ≡ 0 → Cause s x a
  by_release : x.call ≡ 12 → a.status ≡ OK → a.delivers ≡ false → Cause s x a
  by_deletion : x.call ≡ 9 → a.status ≡ OK → (i : ℕ) → SemaphoreAt s x.a i → a ≡ sem_delete_at s i → Cause s x a
  by_queue : 20 < x.call → (Sound s → (j t : ℕ) → j < 16 → WaitsFor s j t → WaitsFor a.state j t)
      → ((j : ℕ) → sem_id a.state j ≡ sem_id s j) → ((t : ℕ) → task_id a.state t ≡ task_id s t) → Cause s x a
  by_tick : x.call ≡ 0 → a.why ≡ TIME_OUT → Cause s x a

module _ (s : State) (x : Event) where
  -- the first of those who wait for a queue stands in no semaphore's queue
  delivery_spares : (i n : ℕ) (message : List ℕ) → ltb (first_receiver s i) 32 ≡ true → Sound s → (j t : ℕ) → j < 16 → WaitsFor s j t
      → WaitsFor (delivers_to s (wake_next s.tasks (none_woken s.line) (first_receiver s i)) n message).state j t
  unfolding delivers_to
  delivery_spares i n message e ok j t hj w =
      let room : first_receiver s i < 32 = ltb-true (first_receiver s i) 32 e in
      let first : In s.line.seat (queue_seats (queue_object i)) (first_receiver s i) = first_stands s.line.seat (queue_seats (queue_object i)) room in
      (next_others s.tasks (none_woken s.line) (first_receiver s i) room (good s ok)).others j (omega (arith, hj)) t
      (λ d. omega (arith, hj, first.0, first.1, w.0, w.1, ap (λ (v : ℕ). get_or s.line.seat v 0) d)) w

  delivery_names : (i n : ℕ) (message : List ℕ)
      → ((j : ℕ) → sem_id (delivers_to s (wake_next s.tasks (none_woken s.line) (first_receiver s i)) n message).state j ≡ sem_id s j)
      × ((t : ℕ) → task_id (delivers_to s (wake_next s.tasks (none_woken s.line) (first_receiver s i)) n message).state t ≡ task_id s t)
  unfolding delivers_to
  delivery_names i n message = ((λ j. refl), (λ t. refl))

  deletion_leaves : (i : ℕ) → Sound s → (j t : ℕ) → j < 16 → WaitsFor s j t → WaitsFor (queue_delete_at s i).state j t
  unfolding queue_delete_at wakes_with
  deletion_leaves i ok j t hj w =
      all_spares s.tasks (queue_object i) j hj (λ e. omega (arith, hj, e)) t 32 (none_woken s.line) (good s ok) w

  deletion_keeps : (i : ℕ) → ((j : ℕ) → sem_id (queue_delete_at s i).state j ≡ sem_id s j) × ((t : ℕ) → task_id (queue_delete_at s i).state t ≡ task_id s t)
  unfolding queue_delete_at wakes_with
  deletion_keeps i = ((λ j. refl), (λ t. refl))

  deed_cause : {a : Answer} → Deed s x a → Cause s x a
  unfolding plain answer wakes_with shows sem_delete_at tick
  deed_cause (refused status e f listed) = nobody_woken refl
  deed_cause (tells call at e v0 v1 v2 v3 negative) = nobody_woken refl
  deed_cause (tasks_change c) = nobody_woken refl
  deed_cause (task_moves c) = nobody_woken refl
  deed_cause (sems_change c) = nobody_woken refl
  deed_cause (pools_change c) = nobody_woken refl
  deed_cause (queues_change c) = nobody_woken refl
  deed_cause (caller_waits at i e f g time) = nobody_woken refl
  deed_cause (first_woken at i e f) = by_release at refl refl
  deed_cause (sem_deleted at i e) = by_deletion at refl i e refl
  deed_cause (receiver_waits at i e f g time) = nobody_woken refl
  deed_cause (delivered c i e f g) =
      by_queue (omega (arith, (put_call c).0)) (delivery_spares i x.b (shown_of x.message x.b) g)
      (delivery_names i x.b (shown_of x.message x.b)).0 (delivery_names i x.b (shown_of x.message x.b)).1
  deed_cause (queue_deleted at i e) = by_queue (omega arith) (deletion_leaves i) (deletion_keeps i).0 (deletion_keeps i).1
  deed_cause (time_passes at) = by_tick at refl

  cause : Cause s x (answer_to s x)
  unfolding bad_state
  cause = by_deed s x (Cause s x) (λ a d. deed_cause d) (λ h. nobody_woken refl)

module _ (s : State) (ok : Sound s) (i j : ℕ) (hi : i < 16) (hj : j < 16) (apart : i ≡ j → ⊥) (t : ℕ) where
  abbrev gone : State
  gone = (sem_delete_at s i).state

  deletion_spares : WaitsFor s j t → WaitsFor gone j t
  unfolding sem_delete_at wakes_with
  deletion_spares w = all_spares s.tasks i j hj apart t 32 (none_woken s.line) (good s ok) w

  -- and it keeps the names
  deletion_names : (sem_id gone j ≡ sem_id s j) × (task_id gone t ≡ task_id s t)
  unfolding sem_delete_at wakes_with
  deletion_names = (refl, refl)

deletion_why : (s : State) (i : ℕ) → (sem_delete_at s i).why ≡ SEMAPHORE_DELETED
unfolding sem_delete_at wakes_with
deletion_why s i = refl

-- who is not on a wake list is on it with no status
pub not_woken : (status : ℕ) (ws : List Wake) (u : ℕ) → wakes ws u ≡ false → wakes_as status ws u ≡ false
unfolding pick
not_woken status [] u e = refl
not_woken status (w ∷ ws) u e = go (eqb w.task u) (eqb w.status status) e (not_woken status ws u)
  where
    go : (b c : Bool) → pick b true (wakes ws u) ≡ false → (wakes ws u ≡ false → wakes_as status ws u ≡ false) → pick (b && c) true (wakes_as status ws u) ≡ false
    go true c d f = absurd (true-false refl d)
    go false c d f = f d

-- nor is who is woken with another
as_other : (n k : ℕ) (tasks : List ℕ) (why status u : ℕ) → (why ≡ status → ⊥) → wakes_as status (wakes_from n k tasks why) u ≡ false
as_other zero k tasks why status u ne = refl
as_other (suc n) k tasks why status u ne =
    picked_no (eqb (get_or tasks k 0) u && eqb why status) true _ (second_fails (eqb (get_or tasks k 0) u) _ (ne_eqb why status ne))
    ∙ as_other n (suc k) tasks why status u ne

-- one wake, of task g with 0: who is on it
module _ (g u : ℕ) where
  abbrev one : List Wake
  one = record { task = g; status = OK } ∷ []

  pub one_woken : g ≡ u → (wakes one u ≡ true) × (wakes_as OK one u ≡ true)
  one_woken e = (picked_yes (eqb g u) true false (eq-eqb g u e), picked_yes (eqb g u && eqb OK OK) true false (both (eqb g u) (eqb OK OK) (eq-eqb g u e) refl))

  pub other_spared : (g ≡ u → ⊥) → wakes one u ≡ false
  other_spared ne = picked_no (eqb g u) true false (ne_eqb g u ne)

  pub grant_no_time_out : wakes_as TIME_OUT one u ≡ false
  grant_no_time_out = picked_no (eqb g u && eqb OK TIME_OUT) true false (second_fails (eqb g u) _ refl)

-- "For any history from a fresh state", and the turn that event x makes then
module _ (p : ℕ) (h : p ≤ 15) (xs : List Event) where
  abbrev now : State
  now = after (fresh_state p) xs

  abbrev past : List Turn
  past = past_of p xs

  -- who waits for a semaphore claimed it
  pub claimed_there : (id u : ℕ) → has (waiting past id) u ≡ true → claimed past u ≡ id
  claimed_there id u on =
      let w : Waiter now id u = (history_agrees p h xs).waiters.off id u on in
      ap (claimed past) w.who ∙ (history_agrees p h xs).waiters.claim w.slot w.room w.task w.waits ∙ sym w.of

  module _ (x : Event) where
    abbrev y : Turn
    y = turn_after p xs x

    -- a semaphore that somebody waits for is not made again
    pub waited_not_made : (id u : ℕ) → has (waiting past id) u ≡ true → creates 8 id y ≡ false
    waited_not_made id u on =
        let w : StandsAt now id u = (seats_told p h xs).others id u on in
        not_again now (end_sound p h xs) id w.slot w.names x

    -- a release of a semaphore that somebody waits for
    pub grant_there : (id u : ℕ) → has (waiting past id) u ≡ true → is_answer_of 12 id OK y ≡ true → GrantTold p past id y.reply.wakes
    grant_there id u on release =
        let d = answer_is y 12 OK (answer_of_lem y 12 id OK release) in
        let there : x.a ≡ id = of_is y 12 id OK release in
        subst (λ (v : ℕ). GrantTold p past v y.reply.wakes) there
        (release_grants p h xs x d.0 d.1 u (subst (λ (v : ℕ). has (waiting past v) u ≡ true) (sym there) on))

    -- a claim wakes nobody
    pub claim_wakes : x.call ≡ 11 → y.reply.wakes ≡ []
    claim_wakes called = go (cause now x)
      where
        go : Cause now x (answer_to now x) → y.reply.wakes ≡ []
        go (nobody_woken e) = nobody (answer_to now x).woken e (answer_to now x).wakes (answer_to now x).why
        go (by_release at done told) = absurd (omega (arith, called, at))
        go (by_deletion at done i names e) = absurd (omega (arith, called, at))
        go (by_queue at spares sems tasks) = absurd (omega (arith, called, at))
        go (by_tick at why) = absurd (omega (arith, called, at))

    -- a release delivers no message
    pub release_tells : x.call ≡ 12 → (y.reply.wakes ≡ []) ⊎ (y.reply.delivers ≡ false)
    release_tells called = go (cause now x)
      where
        go : Cause now x (answer_to now x) → (y.reply.wakes ≡ []) ⊎ (y.reply.delivers ≡ false)
        go (nobody_woken e) = inl (nobody (answer_to now x).woken e (answer_to now x).wakes (answer_to now x).why)
        go (by_release at done told) = inr told
        go (by_deletion at done i names e) = absurd (omega (arith, called, at))
        go (by_queue at spares sems tasks) = absurd (omega (arith, called, at))
        go (by_tick at why) = absurd (omega (arith, called, at))

    -- A waiter that a turn wakes, which neither releases nor deletes its semaphore, is woken with 13.
    module _ (id u : ℕ) (on : has (waiting past id) u ≡ true) (other : is_answer_of 12 id OK y ≡ false) (lives : is_answer_of 9 id OK y ≡ false) where
      abbrev ws : List Wake
      ws = y.reply.wakes

      spared : wakes ws u ≡ false → wakes ws u ≡ wakes_as TIME_OUT ws u
      spared e = e ∙ sym (not_woken TIME_OUT ws u e)

      none : ws ≡ [] → wakes ws u ≡ false
      none e = ap (λ (l : List Wake). wakes l u) e

      -- a release of another semaphore wakes one who claimed that one
      released : x.call ≡ 12 → (answer_to now x).status ≡ OK → wakes ws u ≡ false
      released at done = go (waiting past x.a) refl
        where
          go : (l : List ℕ) → waiting past x.a ≡ l → wakes ws u ≡ false
          go [] e = none (release_empty p h xs x at done e)
          go (v ∷ l) e =
              let g : GrantTold p past x.a ws = release_grants p h xs x at done v (subst (λ (m : List ℕ). has m v ≡ true) (sym e) (has_here v l)) in
              ap (λ (m : List Wake). wakes m u) g.only
              ∙ other_spared g.task u (λ d. true-false
              (is_of y 12 id OK (is_answer_lem y 12 OK at done)
              (sym (claimed_there x.a g.task g.waited) ∙ ap (claimed past) d ∙ claimed_there id u on))
              other)

      -- one who stands in its queue after the turn, a turn that is none of three, is not woken
      module _ (w : Waiter now id u) (delete : eqb x.call 2 ≡ false) (claim : eqb x.call 11 ≡ false)
          (stands : WaitsFor (answer_to now x).state w.slot w.task) (sems : sem_id (answer_to now x).state w.slot ≡ sem_id now w.slot)
          (tasks : task_id (answer_to now x).state w.task ≡ task_id now w.task) where
        still : has (waiting (y ∷ past) id) u ≡ true
        still =
            subst (λ (v : ℕ). has (waiting (y ∷ past) v) u ≡ true) (sems ∙ sym w.of)
            (subst (λ (v : ℕ). has (waiting (y ∷ past) (sem_id (answer_to now x).state w.slot)) v ≡ true) (tasks ∙ sym w.who)
            ((told_next p h xs x).listed w.slot w.room w.task stands))

        not_ended : wakes ws u ≡ false
        not_ended =
            let claims : is_answer_of 11 id PENDING y ≡ false = not_of y 11 id PENDING (not_call y 11 PENDING claim) in
            let kept = kept_has _ (waiting past id) u (subst (λ (l : List ℕ). has l u ≡ true) (waiting_less y past id lives claims) still) in
            sym (ends_woken past y u (not_call y 2 OK delete)) ∙ not-true (ends_wait past y u) kept.1

      waiter : Waiter now id u
      waiter = (history_agrees p h xs).waiters.off id u on

      ok : Sound now
      ok = end_sound p h xs

      -- a deletion of another semaphore leaves it in its queue
      deleted : x.call ≡ 9 → (answer_to now x).status ≡ OK → (i : ℕ) → SemaphoreAt now x.a i → answer_to now x ≡ sem_delete_at now i
          → wakes ws u ≡ false
      deleted at done i names e =
          let j : ℕ = waiter.slot in
          let t : ℕ = waiter.task in
          let named : x.a ≡ sem_id now i = found-identifier now.semaphores.serial now.semaphores.live x.a names in
          let hi : i < 16 = slot_room now ok x.a i names in
          let apart : i ≡ j → ⊥ = λ d. true-false (is_of y 9 id OK (is_answer_lem y 9 OK at done) (named ∙ ap (sem_id now) d ∙ sym waiter.of)) lives in
          let same = deletion_names now ok i j hi waiter.room apart t in
          not_ended waiter (ap (λ (v : ℕ). eqb v 2) at) (ap (λ (v : ℕ). eqb v 11) at)
          (subst (λ (a : Answer). WaitsFor a.state j t) (sym e) (deletion_spares now ok i j hi waiter.room apart t waiter.waits))
          (ap (λ (a : Answer). sem_id a.state j) e ∙ same.0)
          (ap (λ (a : Answer). task_id a.state t) e ∙ same.1)

      -- so does a queue's call
      queued : 20 < x.call → (Sound now → (j t : ℕ) → j < 16 → WaitsFor now j t → WaitsFor (answer_to now x).state j t)
          → ((j : ℕ) → sem_id (answer_to now x).state j ≡ sem_id now j) → ((t : ℕ) → task_id (answer_to now x).state t ≡ task_id now t) → wakes ws u ≡ false
      queued at spares sems tasks =
          not_ended waiter (ne_eqb x.call 2 (λ d. omega (arith, at, d))) (ne_eqb x.call 11 (λ d. omega (arith, at, d)))
          (spares ok waiter.slot waiter.task waiter.room waiter.waits) (sems waiter.slot) (tasks waiter.task)

      -- only a tick wakes it
      pub spares_waiter : (x.call ≡ 0 → ⊥) → wakes ws u ≡ false
      spares_waiter no_tick = go (cause now x)
        where
          go : Cause now x (answer_to now x) → wakes ws u ≡ false
          go (nobody_woken e) = none (nobody (answer_to now x).woken e (answer_to now x).wakes (answer_to now x).why)
          go (by_release at done told) = released at done
          go (by_deletion at done i names e) = deleted at done i names e
          go (by_queue at spares sems tasks) = queued at spares sems tasks
          go (by_tick at why) = absurd (no_tick at)

      -- with 13
      ticked : x.call ≡ 0 → wakes ws u ≡ wakes_as TIME_OUT ws u
      ticked at = go (cause now x)
        where
          go : Cause now x (answer_to now x) → wakes ws u ≡ wakes_as TIME_OUT ws u
          go (nobody_woken e) = spared (none (nobody (answer_to now x).woken e (answer_to now x).wakes (answer_to now x).why))
          go (by_release other done told) = absurd (omega (arith, at, other))
          go (by_deletion other done i names e) = absurd (omega (arith, at, other))
          go (by_queue other spares sems tasks) = absurd (omega (arith, at, other))
          go (by_tick again why) =
              let a : Answer = answer_to now x in
              subst (λ (v : ℕ). wakes (wakes_from a.woken 0 a.wakes v) u ≡ wakes_as TIME_OUT (wakes_from a.woken 0 a.wakes v) u) (sym why)
              (sym (wakes_as_lem a.woken 0 a.wakes TIME_OUT u))

      pub woken_timed_out : wakes ws u ≡ wakes_as TIME_OUT ws u
      woken_timed_out = ⊎_elim ticked (λ no_tick. spared (spares_waiter no_tick)) (eq_or_not x.call 0)

    -- A waiter is granted by no turn but a release of its semaphore: any other leaves it, or wakes it with another status.
    module _ (id u : ℕ) (on : has (waiting past id) u ≡ true) (other : is_answer_of 12 id OK y ≡ false) where
      with_another : ((answer_to now x).why ≡ OK → ⊥) → wakes_as OK y.reply.wakes u ≡ false
      with_another ne = as_other (answer_to now x).woken 0 (answer_to now x).wakes (answer_to now x).why OK u ne

      by_deleting : x.call ≡ 9 → wakes_as OK y.reply.wakes u ≡ false
      by_deleting at = go (cause now x)
        where
          go : Cause now x (answer_to now x) → wakes_as OK y.reply.wakes u ≡ false
          go (nobody_woken e) = ap (λ (l : List Wake). wakes_as OK l u) (nobody (answer_to now x).woken e (answer_to now x).wakes (answer_to now x).why)
          go (by_release again done told) = absurd (omega (arith, at, again))
          go (by_deletion again done i names e) = with_another (λ d. omega (arith, d, ap (λ (a : Answer). a.why) e, deletion_why now i))
          go (by_queue again spares sems tasks) = absurd (omega (arith, at, again))
          go (by_tick again why) = absurd (omega (arith, at, again))

      by_ticking : x.call ≡ 0 → wakes_as OK y.reply.wakes u ≡ false
      by_ticking at = go (cause now x)
        where
          go : Cause now x (answer_to now x) → wakes_as OK y.reply.wakes u ≡ false
          go (nobody_woken e) = ap (λ (l : List Wake). wakes_as OK l u) (nobody (answer_to now x).woken e (answer_to now x).wakes (answer_to now x).why)
          go (by_release again done told) = absurd (omega (arith, at, again))
          go (by_deletion again done i names e) = absurd (omega (arith, at, again))
          go (by_queue again spares sems tasks) = absurd (omega (arith, at, again))
          go (by_tick again why) = with_another (λ d. omega (arith, d, why))

      pub not_granted : wakes_as OK y.reply.wakes u ≡ false
      not_granted =
          ⊎_elim by_deleting
          (λ no_delete. ⊎_elim by_ticking
          (λ no_tick. not_woken OK y.reply.wakes u
          (spares_waiter id u on other (not_of y 9 id OK (not_call y 9 OK (ne_eqb x.call 9 no_delete))) no_tick))
          (eq_or_not x.call 0))
          (eq_or_not x.call 9)
