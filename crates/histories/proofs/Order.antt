-- "a release answered OK that finds waiters grants the one none precedes", in every history from a fresh state: each queue is in
-- order, and a release wakes the task on its first seat.
-- Assumes nothing.
use Prim.Native.Nat.{ℕ, suc, ◌+◌, ◌-◌, ◌<◌}
use native.Mathlib.Omega.{arith}
use native.Mathlib.Nat.{eq-or-lt_of_le}
use mathlib.Core.Path.{◌≡◌, refl, sym, subst, ap, ◌∙◌}
use mathlib.Core.Logic.{⊎_elim}
use mathlib.Core.Bool.{Bool, true, false}
use mathlib.Core.List.{List, [], ◌∷◌}
use lib.ListN.{get_or, replicate, length-replicate, get_or-replicate, get_or-eq_default}
use lib.Dec.{ltb, eqb}
use borrow.Author.Tests.{lt-ltb, eq-eqb}
use Rattle.scope.specs.declared.State.{State}
use Rattle.scope.specs.declared.Answer.{Answer}
use Rattle.scope.specs.declared.Fresh.{Fresh}
use Rattle.scope.specs.declared.Found.{Found}
use Rattle.scope.specs.Statuses.{OK}
use Rattle.scope.specs.Seats.{queue_seats, first_standing}
use Rattle.scope.specs.Objects.{objects_end, of_object, objects, objects_of}
use Rattle.scope.specs.Views.{waiters_of}
use Rattle.scope.specs.Answers.{answer, plain, bad_state, wakes_with, on_found}
use Rattle.scope.specs.Waiting.{wake_next}
use Rattle.scope.specs.Semaphores.{sem_release_at, sem_release}
use Rattle.scope.specs.Step.{caller_refusal, answered, stepped}
use Rattle.scope.specs.Fresh.{fresh_state, fresh}
use Rattle.scope.proofs.Rows.{by_choice}
use Rattle.laws.proofs.Branches.{lt_or_le, true-false, picked_yes, picked_no, first_fails, not_of_true}
use Rattle.laws.proofs.Tables.{found_below}
use Rattle.laws.specs.Seating.{In}
use Rattle.laws.proofs.Seats.First.{first_is}
use Rattle.histories.specs.Sound.{Sound}
use Rattle.histories.specs.History.{Event, answer_to, after, SemaphoreAt}
use Rattle.histories.specs.Order.{Arrivals, arrives, arrived_after, no_arrivals, arrivals, Ahead, WaitsFor, Precedes, InOrder, Grant}
use Rattle.histories.proofs.Refusals.{by_rules}
use Rattle.histories.proofs.Fresh.{fresh_always}
use Rattle.histories.proofs.Stays.{step_keeps}
use Rattle.histories.proofs.Waking.{dead_nobody}
use Rattle.histories.proofs.Arriving.{Ordered}
use Rattle.histories.proofs.Turns.{step_goes}

-- a state whose queues are in order before event n
abbrev OrderedIn : State → Arrivals → ℕ → Type 0
OrderedIn s told n = Ordered s.line (objects_of s).fifo told n

event_sound : (s : State) (x : Event) → Sound s → Sound (answer_to s x).state
event_sound s x ok = step_keeps s ok x.call x.mark x.a x.b x.c x.d x.e x.message

event_ordered : (s : State) (x : Event) (told : Arrivals) (n : ℕ) → Sound s → OrderedIn s told n
    → OrderedIn (answer_to s x).state (arrives told n s (answer_to s x)) (suc n)
event_ordered s x told n ok h = (step_goes s ok x.call x.mark x.a x.b x.c x.d x.e x.message).goes told n h

pub after_sound : (s : State) (xs : List Event) → Sound s → Sound (after s xs)
after_sound s [] ok = ok
after_sound s (x ∷ xs) ok = after_sound (answer_to s x).state xs (event_sound s x ok)

after_ordered : (s : State) (xs : List Event) (told : Arrivals) (n : ℕ) → Sound s → OrderedIn s told n
    → (m : ℕ) × OrderedIn (after s xs) (arrived_after told n s xs) m
after_ordered s [] told n ok h = (n, h)
after_ordered s (x ∷ xs) told n ok h =
    after_ordered (answer_to s x).state xs (arrives told n s (answer_to s x)) (suc n) (event_sound s x ok) (event_ordered s x told n ok h)

-- a fresh state has no object, so nobody waits
get_or_same : {A : Type 0} (n i : ℕ) (a : A) → get_or (replicate n a) i a ≡ a
get_or_same n i a =
    ⊎_elim (λ h. get_or-replicate n i a a h) (λ h. get_or-eq_default (replicate n a) a (omega (arith, length-replicate n a))) (lt_or_le i n)

fresh_dead : (p i : ℕ) → (objects_of (fresh p).state).live i ≡ false
unfolding fresh fresh_state objects of_object
fresh_dead p i = by_choice (λ (f : Fresh). (objects_of f.state).live i ≡ false) (ltb 15 p) (λ e. none) (λ e. none)
  where
    none : of_object (replicate 16 false) (replicate 8 false) false i ≡ false
    none = by_choice (λ (b : Bool). b ≡ false) (ltb i 16) (λ e. get_or_same 16 i false) (λ e. get_or_same 8 (i - 16) false)

fresh_nobody : (p i : ℕ) → i < objects_end → (t : ℕ) → In (fresh p).state.line.seat (queue_seats i) t → ⊥
fresh_nobody p i h =
    dead_nobody (fresh p).state.line (fresh p).state.tasks (objects_of (fresh p).state) (fresh_always p).line i h (fresh_dead p i)

fresh_ordered : (p : ℕ) → OrderedIn (fresh p).state no_arrivals 1
fresh_ordered p =
    record {
      times = refl;
      priorities = refl;
      below = λ t. omega (arith, get_or_same {A = ℕ} 32 t 0);
      joined = λ i h t a. absurd (fresh_nobody p i h t a);
      order = λ i h t u a b less. absurd (fresh_nobody p i h t a);
    }

-- no two tasks precede each other
ahead_once : (b : Bool) (told : Arrivals) (t u : ℕ) → Ahead b told t u → Ahead b told u t → ⊥
ahead_once true told t u a b = omega arith
ahead_once false told t u a b =
    ⊎_elim (λ c. ⊎_elim (λ d. omega arith) (λ d. omega arith) b) (λ c. ⊎_elim (λ d. omega arith) (λ d. omega arith) b) a

ordered_both : (s : State) (told : Arrivals) (n : ℕ) → Sound s → OrderedIn s told n → InOrder s told
ordered_both s told n ok h =
    record {
      joined = h.joined;
      forward = h.order;
      back = λ i hi t u a b p.
          let once : (c : Precedes s told i u t) → ⊥ = λ c. ahead_once ((objects_of s).fifo i) told t u p c in
          ⊎_elim (λ l. l)
          (λ l. absurd (⊎_elim
          (λ e. let d : u ≡ t = (ok.line.queues.seated (queue_seats i) (omega arith)).once u t b e in
          once (subst (λ (v : ℕ). Precedes s told i v t) (sym d) (subst (λ (v : ℕ). Precedes s told i t v) d p)))
          (λ g. once (h.order i hi u t b a g))
          (eq-or-lt_of_le {n = get_or s.line.seat u 0} {m = get_or s.line.seat t 0} l)))
          (lt_or_le (get_or s.line.seat t 0) (get_or s.line.seat u 0));
    }

-- a release wakes the task on the first seat, and all others sit behind it
module _ (s : State) (told : Arrivals) (n : ℕ) (ok : Sound s) (h : OrderedIn s told n) (i : ℕ) (hi : i < objects_end)
    (some : 0 < waiters_of s.line i) where
  abbrev t : ℕ
  t = first_standing s.line.seat (queue_seats i)

  first : (t < 32) × (get_or s.line.seat t 0 ≡ queue_seats i + 1)
  first = first_is s.line.seat (queue_seats i) _ ok.line.queues.tasks (ok.line.queues.seated (queue_seats i) (omega arith)) some

  first_waits : WaitsFor s i t
  first_waits = (omega (arith, first.1), omega (arith, first.1))

  first_precedes : (u : ℕ) → WaitsFor s i u → (u ≡ t → ⊥) → Precedes s told i t u
  first_precedes u a ne =
      h.order i hi t u first_waits a
      (⊎_elim
      (λ e. absurd (ne ((ok.line.queues.seated (queue_seats i) (omega arith)).once u t a (sym e))))
      (λ l. l)
      (eq-or-lt_of_le {n = get_or s.line.seat t 0} {m = get_or s.line.seat u 0} (omega (arith, first.1, a.0))))

  release_at : Grant s told i (sem_release_at s i)
  unfolding sem_release_at wakes_with wake_next
  release_at =
      subst (Grant s told i) (sym (picked_no _ _ _ (first_fails _ _ (not_of_true (ltb t 32) (lt-ltb t 32 first.0))) ∙ picked_yes _ _ _ (lt-ltb t 32 first.0)))
      (record { task = t; waited = first_waits; woken = refl; why = refl; named = refl; first = first_precedes })

  release_grants : (mark a b c d e : ℕ) (m : List ℕ) → SemaphoreAt s a i → (stepped s 12 mark a b c d e m).status ≡ OK → Grant s told i (stepped s 12 mark a b c d e m)
  unfolding answered bad_state plain answer on_found
  release_grants mark a b c d e m at =
      by_rules s 12 mark a b c d e m (λ y. y.status ≡ OK → Grant s told i y)
      (λ g. go (eqb (caller_refusal 12 mark s.running) OK) refl)
      (λ g z. absurd (omega arith))
    where
      go : (v : Bool) → eqb (caller_refusal 12 mark s.running) OK ≡ v
          → (elim v as (λ x. Answer) [ true ↦ sem_release s a | false ↦ plain s (caller_refusal 12 mark s.running) ]).status ≡ OK
          → Grant s told i (elim v as (λ x. Answer) [ true ↦ sem_release s a | false ↦ plain s (caller_refusal 12 mark s.running) ])
      go true f z = subst (Grant s told i) (sym (ap (λ (o : Found). on_found o s (sem_release_at s)) at)) release_at
      go false f z = absurd (true-false (eq-eqb _ _ z) f)

-- Histories from a fresh state, of whatever priority.
module _ (p : ℕ) (xs : List Event) where
  abbrev now : State
  now = after (fresh p).state xs

  abbrev told : Arrivals
  told = arrivals (fresh p).state xs

  now_sound : Sound now
  now_sound = after_sound (fresh p).state xs (fresh_always p)

  now_ordered : (n : ℕ) × OrderedIn now told n
  now_ordered = after_ordered (fresh p).state xs no_arrivals 1 (fresh_always p) (fresh_ordered p)

  -- each queue is in order
  pub history_in_order : InOrder now told
  history_in_order = ordered_both now told _ now_sound now_ordered.1

  -- a release answered OK that finds waiters grants the one none precedes
  pub history_grants : (x : Event) (i : ℕ) → x.call ≡ 12 → SemaphoreAt now x.a i → 0 < waiters_of now.line i → (answer_to now x).status ≡ OK
      → Grant now told i (answer_to now x)
  history_grants x i e at some =
      subst
      (λ (c : ℕ). (stepped now c x.mark x.a x.b x.c x.d x.e x.message).status ≡ OK
      → Grant now told i (stepped now c x.mark x.a x.b x.c x.d x.e x.message))
      (sym e)
      (release_grants now told _ now_sound now_ordered.1 i
      (omega (arith, found_below now.semaphores.serial now.semaphores.live x.a at, now_sound.semaphores.sized.serials))
      some x.mark x.a x.b x.c x.d x.e x.message at)
