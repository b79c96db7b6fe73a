-- What the answers tell of releases, grants and initial counts agrees with the totals over a history: turn by turn, since a wake
-- with 0 that delivers no message is a grant of the semaphore that the woken task waited for, and an identifier is given out once.
-- Assumes nothing.
use Prim.Native.Nat.{ℕ, ◌+◌, ◌/◌, ◌%◌, ◌≤◌, ◌<◌}
use native.Mathlib.Omega.{arith}
use mathlib.Core.Path.{◌≡◌, refl, sym, subst, ap, ◌∙◌}
use mathlib.Core.Logic.{⊎_elim}
use mathlib.Core.Bool.{Bool, true, false, ◌&&◌}
use mathlib.Core.List.{List, [], ◌∷◌, ◌++◌}
use lib.ListN.{length, get_or}
use lib.Dec.{eqb}
use borrow.Author.Tests.{leb-false, eq-eqb, ne_eqb, eqb-true, eqb-false}
use Rattle.scope.specs.declared.State.{State}
use Rattle.scope.specs.declared.Answer.{Answer}
use Rattle.scope.specs.Choice.{pick}
use Rattle.scope.specs.Statuses.{OK}
use Rattle.scope.specs.Identifiers.{identifier, lowest_usable}
use Rattle.scope.specs.Answers.{answer, plain, gives, bad_state, wakes_with}
use Rattle.scope.specs.Semaphores.{sem_found, sem_create_at, sem_create, sem_release_at}
use Rattle.scope.specs.Fresh.{fresh_state}
use Rattle.scope.proofs.Rows.{by_choice}
use Rattle.laws.proofs.Branches.{both, both_true, first_fails, true_or_false, eq_or_not, picked_yes, picked_no}
use Rattle.laws.proofs.Tables.{found_below, found-identifier}
use Rattle.histories.specs.Sound.{Sound}
use Rattle.histories.specs.History.{Event, answer_to, after, total, SemaphoreAt}
use Rattle.histories.specs.Order.{Arrivals, no_arrivals}
use Rattle.histories.specs.Books.{answered_ok, releases as releasesOf, grants as grantsOf}
use Rattle.histories.proofs.Answered.{by_name, by_number, by_call, by_other, by_status, counts_as, Creates}
use Rattle.histories.proofs.Tables.{issued_still, live_issued}
use Rattle.histories.proofs.Units.{semaphores_entered}
use Rattle.histories.proofs.Ledger.{Creation, event_keeps}
use Rattle.histories.proofs.Fresh.{fresh_sound}
use Rattle.books.specs.Past.{Turn, is_answer, is_answer_of, value, creates, past_from, past_of}
use Rattle.books.specs.Waiting.{initial_count, claimed, releases, granted_to, wakes_grant, grants}
use Rattle.books.proofs.Granting.{nobody, wakes_all, wakes_none, wakes_nobody, only_releases_grant}
use Rattle.books.proofs.Agreeing.{turn_of, Agrees, is_answer_lem, is_new}
use Rattle.books.proofs.Telling.{event_steps}
use Rattle.books.proofs.Told.{fresh_agrees}
use Rattle.books.proofs.Releasing.{Released, release_done, wakes_one}
use Rattle.books.specs.Told.{task_id}

and_swap : (a b c : Bool) → ((a && b) && c) ≡ (a && (c && b))
and_swap true true true = refl
and_swap true true false = refl
and_swap true false true = refl
and_swap true false false = refl
and_swap false b c = refl

-- the two tests of an answer say the same
same_test : (call id : ℕ) (x : Event) (a : Answer) → is_answer_of call id OK (turn_of x a) ≡ answered_ok call id x a
unfolding is_answer_of is_answer answered_ok
same_test call id x a = and_swap (eqb x.call call) (eqb a.status OK) (eqb x.a id)

releases_turn : (id : ℕ) (x : Event) (a : Answer) → pick {A = ℕ} (is_answer_of 12 id OK (turn_of x a)) 1 0 ≡ releasesOf id x a
unfolding releasesOf
releases_turn id x a = ap (λ (b : Bool). pick {A = ℕ} b 1 0) (same_test 12 id x a)

module _ (s : State) where
  -- a release that is refused wakes nobody
  abbrev Quiet : Answer → Type 0
  Quiet a = (a.status ≡ OK → ⊥) → a.woken ≡ 0

  refused : (status : ℕ) → Quiet (plain s status)
  unfolding plain answer
  refused status e = refl

  release_quiet : (x : Event) → x.call ≡ 12 → Quiet (answer_to s x)
  unfolding bad_state sem_release_at wakes_with plain answer
  release_quiet x at =
      by_number Quiet s (λ status e. refused status) x 12 at (λ e. refl)
      (by_name Quiet s (λ status e. refused status) (sem_found s x.a) (sem_release_at s)
      (λ i d. by_choice Quiet _ (λ e. refused _) (λ e. by_choice Quiet _ (λ f n. absurd (n refl)) (λ f n. refl))))

module _ (p : ℕ) (s : State) (ok : Sound s) (past : List Turn) (told : Arrivals) (ag : Agrees p s past told) (x : Event) (id : ℕ) where
  abbrev a : Answer
  a = answer_to s x

  abbrev y : Turn
  y = turn_of x a

  -- the grants of a release
  released_one : x.call ≡ 12 → a.status ≡ OK → Released s x.a a → wakes_grant past id y ≡ pick (answered_ok 12 id x a && eqb a.why OK) a.woken 0
  released_one at done r =
      wakes_all past id y r.says
      ∙ ⊎_elim
      (λ z. ap (granted_to past id) (nobody a.woken z a.wakes a.why) ∙ nothing z)
      (λ z. let hi : r.slot < 16 = omega (arith, found_below s.semaphores.serial s.semaphores.live x.a r.names, ok.semaphores.sized.serials) in
      let c : claimed past (task_id s z.0) ≡ x.a =
      ag.waiters.claim r.slot hi z.0 z.1 ∙ sym (found-identifier s.semaphores.serial s.semaphores.live x.a r.names) in
      ap (granted_to past id) (wakes_one a.woken a.wakes a.why (task_id s z.0) z.2 r.why z.3)
      ∙ one (task_id s z.0) c z.2)
      r.woke
    where
      nothing : a.woken ≡ 0 → 0 ≡ pick (answered_ok 12 id x a && eqb a.why OK) a.woken 0
      nothing z =
          ⊎_elim (λ e. sym (picked_yes _ _ _ e ∙ z)) (λ e. sym (picked_no {A = ℕ} _ a.woken 0 e)) (true_or_false (answered_ok 12 id x a && eqb a.why OK))

      one : (t : ℕ) → claimed past t ≡ x.a → a.woken ≡ 1
          → granted_to past id (record { task = t; status = OK } ∷ []) ≡ pick (answered_ok 12 id x a && eqb a.why OK) a.woken 0
      one t c w =
          ⊎_elim
          (λ e. omega (
            arith,
            picked_yes {A = ℕ} (eqb OK OK && eqb (claimed past t) id) 1 0 (both (eqb OK OK) _ refl (eq-eqb _ _ (c ∙ e))),
            picked_yes {A = ℕ} (answered_ok 12 id x a && eqb a.why OK) a.woken 0 (both _ _ (counts_as 12 id x a at e done) (eq-eqb _ _ r.why)),
            w,
          ))
          (λ ne. omega (
            arith,
            picked_no {A = ℕ} (eqb OK OK && eqb (claimed past t) id) 1 0 (ne_eqb _ _ (λ e. ne (sym c ∙ e))),
            picked_no {A = ℕ} (answered_ok 12 id x a && eqb a.why OK) a.woken 0 (first_fails _ _ (by_other 12 id x a ne)),
          ))
          (eq_or_not x.a id)

  by_release : x.call ≡ 12 → wakes_grant past id y ≡ pick (answered_ok 12 id x a && eqb a.why OK) a.woken 0
  by_release at =
      ⊎_elim
      (λ done. released_one at done (release_done s x at done))
      (λ n. wakes_nobody past id y (nobody a.woken (release_quiet s x at n) a.wakes a.why)
      ∙ sym (picked_no {A = ℕ} _ a.woken 0 (first_fails _ _ (by_status 12 id x a (ne_eqb _ _ n)))))
      (eq_or_not a.status OK)

  grants_turn : pick (is_answer_of 11 id OK y) 1 0 + wakes_grant past id y ≡ grantsOf id x a
  unfolding grantsOf
  grants_turn =
      ⊎_elim
      (λ at. let none : answered_ok 11 id x a ≡ false = by_call 11 id x a (ap (λ (k : ℕ). eqb k 11) at) in
      omega (
        arith,
        picked_no {A = ℕ} (is_answer_of 11 id OK y) 1 0 (same_test 11 id x a ∙ none),
        picked_no {A = ℕ} (answered_ok 11 id x a) 1 (pick (answered_ok 12 id x a && eqb a.why OK) a.woken 0) none,
        by_release at,
      ))
      (λ ne. let e : pick {A = ℕ} (answered_ok 12 id x a && eqb a.why OK) a.woken 0 ≡ 0 =
      picked_no {A = ℕ} _ a.woken 0 (first_fails _ _ (by_call 12 id x a (ne_eqb _ _ ne))) in
      omega (
        arith,
        wakes_none past id y (only_releases_grant s x ne),
        ap (λ (b : Bool). pick {A = ℕ} b 1 0) (same_test 11 id x a),
        ap (λ (n : ℕ). pick {A = ℕ} (answered_ok 11 id x a) 1 n) e,
      ))
      (eq_or_not x.call 12)

pub releases_after : (id : ℕ) (s : State) (xs : List Event) (past : List Turn) → releases (past_from past s xs) id ≡ releases past id + total (releasesOf id) s xs
releases_after id s [] past = omega arith
releases_after id s (x ∷ xs) past =
    omega (arith, releases_after id (answer_to s x).state xs (turn_of x (answer_to s x) ∷ past), releases_turn id x (answer_to s x))

pub grants_after : (p id : ℕ) (s : State) → Sound s → (xs : List Event) (past : List Turn) (told : Arrivals) → Agrees p s past told
    → grants (past_from past s xs) id ≡ grants past id + total (grantsOf id) s xs
grants_after p id s ok [] past told ag = omega arith
grants_after p id s ok (x ∷ xs) past told ag =
    omega (
      arith,
      grants_after p id (answer_to s x).state (event_keeps s ok x) xs (turn_of x (answer_to s x) ∷ past) _ ((event_steps s ok x).steps p past told ag),
      grants_turn p s ok past told ag x id,
    )

-- an identifier that a creation gives has not been given out
module _ (s : State) (ok : Sound s) where
  abbrev Unissued : Answer → Type 0
  Unissued a = a.status ≡ OK → get_or s.semaphores.serial (get_or a.values 0 0 % 64) 0 < get_or a.values 0 0 / 64

  not_given : (status : ℕ) → eqb status OK ≡ false → Unissued (plain s status)
  unfolding plain answer
  not_given status e d = absurd (eqb-false status OK e d)

  new_later : (i : ℕ) → i < 16 → get_or s.semaphores.serial (identifier (get_or s.semaphores.serial i 0 + 1) i % 64) 0
      < identifier (get_or s.semaphores.serial i 0 + 1) i / 64
  new_later i h =
      let id : ℕ = identifier (get_or s.semaphores.serial i 0 + 1) i in
      let slot : id % 64 ≡ i = omega arith in
      let part : id / 64 ≡ get_or s.semaphores.serial i 0 + 1 = omega arith in
      omega (arith, part, ap (λ (v : ℕ). get_or s.semaphores.serial v 0) slot)

  create_new : (name count options : ℕ) → Unissued (sem_create s name count options)
  unfolding sem_create sem_create_at gives answer
  create_new name count options =
      by_choice Unissued _ (λ e. not_given _ refl)
      (λ e. by_choice Unissued _ (λ f. not_given _ refl)
      (λ f. by_choice Unissued _ (λ g. not_given _ refl)
      (λ g d. new_later (lowest_usable s.semaphores.serial s.semaphores.live)
      (omega (arith, leb-false (length s.semaphores.serial) (lowest_usable s.semaphores.serial s.semaphores.live) g, ok.semaphores.sized.serials)))))

  issued_once : (x : Event) (id : ℕ) → id / 64 ≤ get_or s.semaphores.serial (id % 64) 0 → creates 8 id (turn_of x (answer_to s x)) ≡ false
  unfolding creates is_answer bad_state
  issued_once x id issued =
      ⊎_elim
      (λ e. let b = both_true (eqb x.call 8 && eqb (answer_to s x).status OK) _ e in
      let c = both_true (eqb x.call 8) _ b.0 in
      let late : get_or s.semaphores.serial (get_or (answer_to s x).values 0 0 % 64) 0 < get_or (answer_to s x).values 0 0 / 64 =
      by_number Unissued s not_given x 8 (eqb-true _ _ c.0) (λ d. absurd (omega (arith, d))) (create_new x.a x.b x.c) (eqb-true _ _ c.1) in
      absurd (let l : get_or s.semaphores.serial (id % 64) 0 < id / 64 =
      subst (λ (v : ℕ). get_or s.semaphores.serial (v % 64) 0 < v / 64) (eqb-true (get_or (answer_to s x).values 0 0) id b.1) late in omega (arith, l)))
      (λ e. e)
      (true_or_false (creates 8 id (turn_of x (answer_to s x))))

-- so what its creation asked for stays told
initial_after : (id : ℕ) (s : State) → Sound s → (xs : List Event) (past : List Turn) → id / 64 ≤ get_or s.semaphores.serial (id % 64) 0
    → initial_count (past_from past s xs) id ≡ initial_count past id
initial_after id s ok [] past issued = refl
initial_after id s ok (x ∷ xs) past issued =
    initial_after id (answer_to s x).state (event_keeps s ok x) xs (turn_of x (answer_to s x) ∷ past) (issued_still (semaphores_entered s ok x).booked.later id issued)
    ∙ picked_no _ _ _ (issued_once s ok x id issued)

initial_from : (id : ℕ) (s : State) → Sound s → (before : List Event) (x : Event) (later : List Event) (past : List Turn)
    → Creates 8 id x (answer_to (after s before) x) → initial_count (past_from past s (before ++ (x ∷ later))) id ≡ x.b
initial_from id s ok [] x later past c =
    let m : (i : ℕ) × SemaphoreAt (answer_to s x).state id i × (get_or (answer_to s x).state.semaphores.units i 0 ≡ x.b) = (semaphores_entered s ok x).made id c in
    initial_after id (answer_to s x).state (event_keeps s ok x) later (turn_of x (answer_to s x) ∷ past)
    (live_issued (answer_to s x).state.semaphores.serial (answer_to s x).state.semaphores.live id m.1)
    ∙ picked_yes _ _ _ (is_new (turn_of x (answer_to s x)) 8 id (is_answer_lem (turn_of x (answer_to s x)) 8 OK c.called c.done) c.value)
initial_from id s ok (z ∷ before) x later past c =
    initial_from id (answer_to s z).state (event_keeps s ok z) before x later (turn_of z (answer_to s z) ∷ past) c

-- "For any history from a fresh state"
module _ (p : ℕ) (h : p ≤ 15) (xs : List Event) (id : ℕ) where
  pub releases_told : releases (past_of p xs) id ≡ total (releasesOf id) (fresh_state p) xs
  releases_told = omega (arith, releases_after id (fresh_state p) xs [])

  pub grants_told : grants (past_of p xs) id ≡ total (grantsOf id) (fresh_state p) xs
  grants_told = omega (arith, grants_after p id (fresh_state p) (fresh_sound p h) xs [] no_arrivals (fresh_agrees p h))

  pub initial_told : (c : Creation 8 (fresh_state p) xs id) → initial_count (past_of p xs) id ≡ c.event.b
  initial_told c =
      ap (λ (l : List Event). initial_count (past_of p l) id) c.whole
      ∙ initial_from id (fresh_state p) (fresh_sound p h) c.before c.event c.later [] c.creates
