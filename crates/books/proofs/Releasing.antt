-- "a release answered OK that finds waiters grants the one none precedes", told by the answers alone: its wake list is that one
-- task, with status 0; and where nobody waits it is empty.
-- Assumes nothing.
use Prim.Native.Nat.{ℕ, ◌+◌, ◌≤◌, ◌<◌}
use native.Mathlib.Omega.{arith}
use mathlib.Core.Path.{◌≡◌, refl, sym, subst, ap, ◌∙◌}
use mathlib.Core.Logic.{◌⊎◌, inl, inr, ⊎_elim}
use mathlib.Core.Bool.{true, false}
use mathlib.Core.List.{List, [], ◌∷◌}
use lib.ListN.{length, get_or}
use lib.Dec.{eqb}
use borrow.Author.Tests.{ltb-true, eqb-true, eqb-false}
use Rattle.scope.specs.declared.State.{State}
use Rattle.scope.specs.declared.Answer.{Answer}
use Rattle.scope.specs.declared.Waking.{Waking}
use Rattle.scope.specs.Statuses.{OK}
use Rattle.scope.specs.Lists.{has}
use Rattle.scope.specs.Seats.{queue_seats, is_on, on_seat, first_standing}
use Rattle.scope.specs.Views.{waiters_of}
use Rattle.scope.specs.Answers.{answer, plain, bad_state, wakes_with}
use Rattle.scope.specs.Waiting.{wake_next}
use Rattle.scope.specs.Semaphores.{sem_found, sem_release_at}
use Rattle.scope.specs.Replies.{Wake, wakes_from, reply_of}
use Rattle.scope.specs.Fresh.{fresh_state}
use Rattle.scope.proofs.Rows.{by_choice}
use Rattle.laws.proofs.Branches.{true-false}
use Rattle.laws.proofs.Searches.{least-true}
use Rattle.laws.proofs.Tables.{found_below, found_slot, found-identifier}
use Rattle.laws.specs.Seating.{In}
use Rattle.histories.specs.History.{Event, answer_to, after, SemaphoreAt}
use Rattle.histories.specs.Order.{arrivals, WaitsFor, Grant}
use Rattle.histories.proofs.Answered.{by_name, by_number}
use Rattle.histories.proofs.Order.{history_grants}
use Rattle.histories.proofs.Demand.{end_sound}
use Rattle.books.specs.Past.{Turn, past_of}
use Rattle.books.specs.Waiting.{a_semaphore, waiting, Precedes}
use Rattle.books.proofs.Granting.{nobody}
use Rattle.books.proofs.Members.{has_here}
use Rattle.books.proofs.Told.{fresh_same, history_agrees, in_order, precedes_told, seats_told}
use Rattle.books.specs.Told.{GrantTold, StandsAt, SeatsTold, task_id, sem_id}

-- who sits on the first seat of a queue stands in it
pub first_stands : (q : List ℕ) (o : ℕ) → first_standing q o < 32 → In q o (first_standing q o)
unfolding on_seat
first_stands q o h =
    let e : get_or q (first_standing q o) 0 ≡ o + 1 = eqb-true _ _ (least-true (is_on q (o + 1)) 32 h) in
    (omega (arith, e), omega (arith, e))

-- what a release that is answered OK did: it named a live semaphore, and woke nobody or the first of those who wait for it
pub record Released (s : State) (id : ℕ) (a : Answer) : Type 0 where
  pub slot : ℕ
  pub names : SemaphoreAt s id slot
  pub why : a.why ≡ OK
  pub says : a.delivers ≡ false
  pub woke : (a.woken ≡ 0) ⊎ ((t : ℕ) × WaitsFor s slot t × (a.woken ≡ 1) × (get_or a.wakes 0 0 ≡ task_id s t))

module _ (s : State) where
  module _ (id i : ℕ) (names : SemaphoreAt s id i) where
    released_none : (t : State) → Released s id (plain t OK)
    unfolding plain answer
    released_none t = record { slot = i; names = names; why = refl; says = refl; woke = inl refl }

    released_one : (w : Waking) (t : ℕ) → WaitsFor s i t → w.woken ≡ 1 → get_or w.wakes 0 0 ≡ task_id s t → Released s id (wakes_with s w OK)
    unfolding wakes_with
    released_one w t a b c = record { slot = i; names = names; why = refl; says = refl; woke = inr (t, a, b, c) }

    release_at : (sem_release_at s i).status ≡ OK → Released s id (sem_release_at s i)
    unfolding sem_release_at wake_next plain answer
    release_at =
        by_choice (λ (a : Answer). a.status ≡ OK → Released s id a) _ (λ e d. absurd (omega (arith, d)))
        (λ e. by_choice (λ (a : Answer). a.status ≡ OK → Released s id a) _
        (λ f d. released_one _ (first_standing s.line.seat (queue_seats i)) (first_stands s.line.seat (queue_seats i) (ltb-true _ 32 f)) refl refl)
        (λ f d. released_none _))

  refused : (id : ℕ) (status : ℕ) → eqb status OK ≡ false → (plain s status).status ≡ OK → Released s id (plain s status)
  unfolding plain answer
  refused id status e d = absurd (eqb-false status OK e d)

  pub release_done : (x : Event) → x.call ≡ 12 → (answer_to s x).status ≡ OK → Released s x.a (answer_to s x)
  unfolding bad_state
  release_done x at =
      by_number (λ (a : Answer). a.status ≡ OK → Released s x.a a) s (refused x.a) x 12 at (λ d. absurd (omega (arith, d)))
      (by_name (λ (a : Answer). a.status ≡ OK → Released s x.a a) s (refused x.a) (sem_found s x.a) (sem_release_at s) (λ i e. release_at x.a i e))

-- one task on the wake list
pub wakes_one : (n : ℕ) (tasks : List ℕ) (why y : ℕ) → n ≡ 1 → why ≡ OK → get_or tasks 0 0 ≡ y → wakes_from n 0 tasks why ≡ record { task = y; status = OK } ∷ []
wakes_one n tasks why y a b c =
    ap (λ (m : ℕ). wakes_from m 0 tasks why) a
    ∙ ap {B = List Wake} (λ (v : ℕ). record { task = get_or tasks 0 0; status = v } ∷ []) b
    ∙ ap {B = List Wake} (λ (v : ℕ). record { task = v; status = OK } ∷ []) c

-- "For any history from a fresh state"
module _ (p : ℕ) (h : p ≤ 15) (xs : List Event) (x : Event) (at : x.call ≡ 12) where
  abbrev now : State
  now = after (fresh_state p) xs

  abbrev past : List Turn
  past = past_of p xs

  abbrev all : SeatsTold p now past
  all = seats_told p h xs

  granted : (i : ℕ) → SemaphoreAt now x.a i → 0 < waiters_of now.line i → (answer_to now x).status ≡ OK
      → Grant now (arrivals (fresh_state p) xs) i (answer_to now x)
  granted i =
      subst (λ (s : State). SemaphoreAt (after s xs) x.a i → 0 < waiters_of (after s xs).line i → (answer_to (after s xs) x).status ≡ OK
      → Grant (after s xs) (arrivals s xs) i (answer_to (after s xs) x))
      (fresh_same p h)
      (history_grants p xs x i at)

  slot_room : (i : ℕ) → SemaphoreAt now x.a i → i < 16
  slot_room i names = omega (arith, found_below now.semaphores.serial now.semaphores.live x.a names, (end_sound p h xs).semaphores.sized.serials)

  grant_told : (i : ℕ) → (names : SemaphoreAt now x.a i) → Grant now (arrivals (fresh_state p) xs) i (answer_to now x)
      → GrantTold p past x.a (reply_of (answer_to now x)).wakes
  grant_told i names g =
      let hi : i < 16 = slot_room i names in
      let id : x.a ≡ sem_id now i = found-identifier now.semaphores.serial now.semaphores.live x.a names in
      record {
        task = task_id now g.task;
        only = wakes_one (answer_to now x).woken (answer_to now x).wakes (answer_to now x).why (task_id now g.task) g.woken g.why g.named;
        waited = subst (λ (v : ℕ). has (waiting past v) (task_id now g.task) ≡ true) (sym id) (all.listed i hi g.task g.waited);
        first = λ u e ne.
            let w : StandsAt now x.a u = all.others x.a u e in
            let d : w.slot ≡ i = slots w names in
            let a : WaitsFor now i w.task = subst (λ (v : ℕ). WaitsFor now v w.task) d w.waits in
            subst (λ (v : ℕ). Precedes p past v (task_id now g.task) u) (sym id)
            (subst (λ (v : ℕ). Precedes p past (sem_id now i) (task_id now g.task) v) (sym w.who)
            (precedes_told a_semaphore p now (end_sound p h xs) past (arrivals (fresh_state p) xs) (history_agrees p h xs) (in_order p h xs) i hi g.task w.task g.waited a
            (g.first w.task a (λ f. ne (w.who ∙ ap (task_id now) f)))));
      }
    where
      slots : {u : ℕ} (w : StandsAt now x.a u) → SemaphoreAt now x.a i → w.slot ≡ i
      slots w n =
          found_slot now.semaphores.serial now.semaphores.live x.a w.names
          ∙ sym (found_slot now.semaphores.serial now.semaphores.live x.a n)

  -- a release answered OK, where some task u waits
  pub release_grants : (answer_to now x).status ≡ OK → (u : ℕ) → has (waiting past x.a) u ≡ true → GrantTold p past x.a (reply_of (answer_to now x)).wakes
  release_grants done u e =
      let w : StandsAt now x.a u = all.others x.a u e in
      let hi : w.slot < 16 = slot_room w.slot w.names in
      grant_told w.slot w.names (granted w.slot w.names (some w.slot hi u (subst (λ (v : ℕ). has (waiting past v) u ≡ true)
      (found-identifier now.semaphores.serial now.semaphores.live x.a w.names) e)) done)
    where
      long : (l : List ℕ) (v : ℕ) → has l v ≡ true → 0 < length l
      long [] v b = absurd (true-false b refl)
      long (z ∷ l) v b = omega arith

      some : (i : ℕ) → i < 16 → (v : ℕ) → has (waiting past (sem_id now i)) v ≡ true → 0 < waiters_of now.line i
      some i hi v b = omega (arith, all.number i hi, long (waiting past (sem_id now i)) v b)

  -- so where the list of those who wait is not empty
  pub release_told : (answer_to now x).status ≡ OK → (waiting past x.a ≡ [] → ⊥) → GrantTold p past x.a (reply_of (answer_to now x)).wakes
  release_told done some = go (waiting past x.a) refl
    where
      go : (l : List ℕ) → waiting past x.a ≡ l → GrantTold p past x.a (reply_of (answer_to now x)).wakes
      go [] e = absurd (some e)
      go (u ∷ l) e = release_grants done u (subst (λ (v : List ℕ). has v u ≡ true) (sym e) (has_here u l))

  -- and where it is empty nobody is woken
  pub release_empty : (answer_to now x).status ≡ OK → waiting past x.a ≡ [] → (reply_of (answer_to now x)).wakes ≡ []
  release_empty done e =
      let r : Released now x.a (answer_to now x) = release_done now x at done in
      ⊎_elim
      (λ z. nobody (answer_to now x).woken z (answer_to now x).wakes (answer_to now x).why)
      (λ z. let hi : r.slot < 16 = slot_room r.slot r.names in
      let id : x.a ≡ sem_id now r.slot = found-identifier now.semaphores.serial now.semaphores.live x.a r.names in
      absurd (true-false (all.listed r.slot hi z.0 z.1)
      (ap (λ (l : List ℕ). has l (task_id now z.0)) (ap (waiting past) (sym id) ∙ e))))
      r.woke
