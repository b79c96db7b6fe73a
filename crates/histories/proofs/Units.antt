-- The books of the semaphores, a step at a time: a live semaphore's units and the claims granted on it grow together by as much
-- as its releases. By deeds: only creation, deletion, claim and release change semaphores.
-- Assumes nothing.
use Prim.Native.Nat.{ℕ, ◌+◌, ◌-◌, ◌<◌}
use native.Mathlib.Omega.{arith}
use mathlib.Core.Path.{◌≡◌, refl, sym, ap, ◌∙◌}
use mathlib.Core.Bool.{false}
use lib.ListN.{length, get_or}
use lib.Seq.{get_or-set_same, get_or-set_other}
use lib.Dec.{eqb}
use borrow.Author.Tests.{ltb-true, leb-false, eq-eqb, ne_eqb}
use Rattle.scope.specs.declared.State.{State}
use Rattle.scope.specs.declared.Answer.{Answer}
use Rattle.scope.specs.declared.Semaphores.{Semaphores}
use Rattle.scope.specs.declared.Found.TheVariants.{At}
use Rattle.scope.specs.Statuses.{OK}
use Rattle.scope.specs.Seats.{queue_seats, first_standing}
use Rattle.scope.specs.Queues.{queue_delete_at}
use Rattle.scope.specs.Ticks.{tick}
use Rattle.scope.specs.Answers.{answer, plain, bad_state, shows, wakes_with, delivers_to}
use Rattle.scope.specs.Views.{with_semaphores}
use Rattle.scope.specs.Waiting.{wake_next, none_woken}
use Rattle.scope.specs.Semaphores.{sem_found, with_units, sem_delete_at}
use Rattle.laws.proofs.Branches.{both, first_fails, picked_yes, picked_no}
use Rattle.laws.proofs.Tables.{found_names, usable_at, usable_free}
use Rattle.histories.specs.Sound.{Sound}
use Rattle.histories.specs.History.{Event, answer_to}
use Rattle.histories.specs.Books.{answered_ok, releases, grants}
use Rattle.histories.proofs.Deeds.{new_semaphore, SemChange, sem_created, unit_claimed, unit_released, change_call, move_call, pool_call, put_call, queue_call, not_asked}
use Rattle.histories.proofs.Deeds.{Deed, refused, tells, tasks_change, task_moves, sems_change, pools_change, caller_waits, first_woken, sem_deleted, time_passes, by_deed}
use Rattle.histories.proofs.Deeds.{queues_change, receiver_waits, delivered, queue_deleted}
use Rattle.histories.proofs.Accounts.{Account, Entered, other_call, not_done, enters_none, enters_born, enters_gone, enters_one}
use Rattle.histories.proofs.Answered.{by_call, by_other, by_status, counts_as, Creates}

module _ (id : ℕ) (x : Event) (a : Answer) where
  uncounted : answered_ok 11 id x a ≡ false → answered_ok 12 id x a ≡ false → (releases id x a ≡ 0) × (grants id x a ≡ 0)
  unfolding releases grants
  uncounted d e = (picked_no {A = ℕ} _ 1 0 e, picked_no {A = ℕ} _ 1 _ d ∙ picked_no {A = ℕ} _ _ 0 (first_fails _ _ e))

  -- a claim that is granted at once
  claimed : x.call ≡ 11 → x.a ≡ id → a.status ≡ OK → (releases id x a ≡ 0) × (grants id x a ≡ 1)
  unfolding releases grants
  claimed d e f = (
    picked_no {A = ℕ} _ 1 0 (by_call 12 id x a (ap (λ (k : ℕ). eqb k 12) d)),
    picked_yes {A = ℕ} _ 1 _ (counts_as 11 id x a d e f),
  )

  -- a release, and the grants to those it wakes
  released : x.call ≡ 12 → x.a ≡ id → a.status ≡ OK → a.why ≡ OK → (releases id x a ≡ 1) × (grants id x a ≡ a.woken)
  unfolding releases grants
  released d e f g = (
    picked_yes {A = ℕ} _ 1 0 (counts_as 12 id x a d e f),
    picked_no {A = ℕ} _ 1 _ (by_call 11 id x a (ap (λ (k : ℕ). eqb k 11) d))
        ∙ picked_yes {A = ℕ} _ a.woken 0 (both _ _ (counts_as 12 id x a d e f) (eq-eqb _ _ g)),
  )

-- the semaphores' account: their units
abbrev pub semaphore_account : Account
semaphore_account =
    record {
      serial = λ s. s.semaphores.serial;
      live = λ s. s.semaphores.live;
      figure = λ s i. get_or s.semaphores.units i 0;
      plus = releases;
      minus = grants;
      create = 8;
      first = λ x. x.b;
    }

module _ (s : State) (ok : Sound s) (x : Event) where
  abbrev Fair : Answer → Type 0
  Fair a = Entered semaphore_account s x a

  -- the semaphores are as they were, and nothing counts
  same : (a : Answer) → a.state.semaphores ≡ s.semaphores → ((id : ℕ) → (releases id x a ≡ 0) × (grants id x a ≡ 0))
      → ((id : ℕ) → Creates 8 id x a → ⊥) → Fair a
  same a e nothing unmade =
      enters_none semaphore_account s x a (ap (λ (m : Semaphores). m.serial) e) (ap (λ (m : Semaphores). m.live) e)
      (λ i. ap (λ (m : Semaphores). get_or m.units i 0) e) nothing unmade

  refusal : (a : Answer) → a.state.semaphores ≡ s.semaphores → eqb a.status OK ≡ false → Fair a
  refusal a e not =
      same a e (λ id. uncounted id x a (by_status 11 id x a not) (by_status 12 id x a not)) (not_done semaphore_account s x a not)

  -- a call of another kind counts nothing
  no_books : (x.call ≡ 11 → ⊥) → (x.call ≡ 12 → ⊥) → (a : Answer) (id : ℕ) → (releases id x a ≡ 0) × (grants id x a ≡ 0)
  no_books claim release a id = uncounted id x a (by_call 11 id x a (ne_eqb _ _ claim)) (by_call 12 id x a (ne_eqb _ _ release))

  elsewhere : (a : Answer) → a.state.semaphores ≡ s.semaphores → (x.call ≡ 8 → ⊥) → (x.call ≡ 11 → ⊥) → (x.call ≡ 12 → ⊥) → Fair a
  elsewhere a e create claim release = same a e (no_books claim release a) (other_call semaphore_account s x a create)

  -- the slot that an identifier names
  slot : (id i : ℕ) → sem_found s id ≡ At i → i < 16
  slot id i e = omega (arith, (found_names s.semaphores.serial s.semaphores.live id e).below, ok.semaphores.sized.serials)

  -- the units of the semaphore that is named move, or stay where the first waiter takes what was released
  module _ (i : ℕ) (names : sem_found s x.a ≡ At i) (a : Answer) (unmade : (id : ℕ) → Creates 8 id x a → ⊥) where
    others : (id : ℕ) → (id ≡ x.a → ⊥) → (releases id x a ≡ 0) × (grants id x a ≡ 0)
    others id ne = uncounted id x a (by_other 11 id x a (λ e. ne (sym e))) (by_other 12 id x a (λ e. ne (sym e)))

    changed : (n : ℕ) → a.state.semaphores ≡ with_units s.semaphores i n
        → n + grants x.a x a ≡ get_or s.semaphores.units i 0 + releases x.a x a → Fair a
    changed n d e =
        enters_one semaphore_account s x a x.a i names (ap (λ (m : Semaphores). m.serial) d) (ap (λ (m : Semaphores). m.live) d)
        (omega (
          arith,
          e,
          ap (λ (m : Semaphores). get_or m.units i 0) d,
          get_or-set_same s.semaphores.units i n 0 (omega (arith, slot x.a i names, ok.semaphores.sized.unitss)),
        ))
        (λ j ne. ap (λ (m : Semaphores). get_or m.units j 0) d ∙ get_or-set_other s.semaphores.units i j n 0 ne) others unmade

    passed : a.state.semaphores ≡ s.semaphores → grants x.a x a ≡ releases x.a x a → Fair a
    passed d e =
        enters_one semaphore_account s x a x.a i names (ap (λ (m : Semaphores). m.serial) d) (ap (λ (m : Semaphores). m.live) d)
        (omega (arith, e, ap (λ (m : Semaphores). get_or m.units i 0) d)) (λ j ne. ap (λ (m : Semaphores). get_or m.units j 0) d) others unmade

  sem_fair : {m : Semaphores} {v : ℕ} → SemChange s x m v → Fair (answer (with_semaphores s m) OK v 0 0 0 false)
  unfolding answer
  sem_fair (sem_created at e f g) =
      let i : ℕ = new_semaphore s in
      let h : i < length s.semaphores.serial = leb-false (length s.semaphores.serial) i g in
      enters_born semaphore_account s x _ i h (omega (arith, h, ok.semaphores.sized.serials, ok.semaphores.sized.lives))
      (omega (arith, h, ok.semaphores.sized.serials))
      (usable_free s.semaphores.serial s.semaphores.live i (usable_at s.semaphores.serial s.semaphores.live h)) refl refl
      (λ j ne. get_or-set_other s.semaphores.units i j x.b 0 ne)
      (get_or-set_same s.semaphores.units i x.b 0 (omega (arith, h, ok.semaphores.sized.serials, ok.semaphores.sized.unitss)))
      (no_books (λ z. omega arith) (λ z. omega arith) _) at refl refl
  sem_fair (unit_claimed at i e f) =
      let n : ℕ = get_or s.semaphores.units i 0 in
      let a : Answer = answer (with_semaphores s (with_units s.semaphores i (n - 1))) OK 0 0 0 0 false in
      let c : (releases x.a x a ≡ 0) × (grants x.a x a ≡ 1) = claimed x.a x a at refl refl in
      changed i e a (other_call semaphore_account s x a (λ z. omega arith)) (n - 1) refl (omega (arith, c.0, c.1, ltb-true 0 n f))
  sem_fair (unit_released at i e f g) =
      let n : ℕ = get_or s.semaphores.units i 0 in
      let a : Answer = answer (with_semaphores s (with_units s.semaphores i (n + 1))) OK 0 0 0 0 false in
      let r : (releases x.a x a ≡ 1) × (grants x.a x a ≡ 0) = released x.a x a at refl refl refl in
      changed i e a (other_call semaphore_account s x a (λ z. omega arith)) (n + 1) refl (omega (arith, r.0, r.1))

  deed_fair : {a : Answer} → Deed s x a → Fair a
  unfolding plain answer shows wakes_with delivers_to wake_next sem_delete_at queue_delete_at tick
  deed_fair (refused status e f listed) = refusal _ refl e
  deed_fair (tells call at e v0 v1 v2 v3 negative) =
      elsewhere _ refl (λ z. not_asked call 8 e refl (sym at ∙ z)) (λ z. not_asked call 11 e refl (sym at ∙ z)) (λ z. not_asked call 12 e refl (sym at ∙ z))
  deed_fair (tasks_change c) = let h = change_call c in elsewhere _ refl (λ z. omega arith) (λ z. omega arith) (λ z. omega arith)
  deed_fair (task_moves c) = let h = move_call c in elsewhere _ refl (λ z. omega arith) (λ z. omega arith) (λ z. omega arith)
  deed_fair (sems_change c) = sem_fair c
  deed_fair (pools_change c) = let h = (pool_call c).0 in elsewhere _ refl (λ z. omega arith) (λ z. omega arith) (λ z. omega arith)
  deed_fair (caller_waits at i e f g time) = refusal _ refl refl
  deed_fair (first_woken at i e f) =
      -- the first waiter is woken with OK: that is its grant
      let a : Answer = wakes_with s (wake_next s.tasks (none_woken s.line) (first_standing s.line.seat (queue_seats i))) OK in
      let r : (releases x.a x a ≡ 1) × (grants x.a x a ≡ 1) = released x.a x a at refl refl refl in
      passed i e a (other_call semaphore_account s x a (λ z. omega arith)) refl (omega (arith, r.0, r.1))
  deed_fair (sem_deleted at i e) =
      enters_gone semaphore_account s x _ i (omega (arith, slot x.a i e, ok.semaphores.sized.lives)) refl refl
      (λ j ne. get_or-set_other s.semaphores.units i j 0 0 ne) (no_books (λ z. omega arith) (λ z. omega arith) _)
      (other_call semaphore_account s x _ (λ z. omega arith))
  deed_fair (queues_change c) = let h = queue_call c in elsewhere _ refl (λ z. omega arith) (λ z. omega arith) (λ z. omega arith)
  deed_fair (receiver_waits at i e f g time) = refusal _ refl refl
  deed_fair (delivered c i e f g) = let h = (put_call c).0 in elsewhere _ refl (λ z. omega arith) (λ z. omega arith) (λ z. omega arith)
  deed_fair (queue_deleted at i e) = elsewhere _ refl (λ z. omega arith) (λ z. omega arith) (λ z. omega arith)
  deed_fair (time_passes at) = elsewhere _ refl (λ z. omega arith) (λ z. omega arith) (λ z. omega arith)

  -- every event's answer keeps the semaphores' books
  pub semaphores_entered : Entered semaphore_account s x (answer_to s x)
  unfolding bad_state
  semaphores_entered = by_deed s x Fair (λ a d. deed_fair d) (λ h. refusal (bad_state s) refl refl)
