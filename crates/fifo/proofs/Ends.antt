-- "Time-out or deletion of the task itself, and deletion of the semaphore, end the claim": nothing else ends a wait but the grant, so a
-- task whose claim was not ended waits until it is granted, and at a FIFO semaphore that is by release p + 1 − d. By one turn more.
-- Assumes nothing.
use Prim.Native.Nat.{ℕ, ◌+◌, ◌≤◌}
use native.Mathlib.Omega.{arith}
use mathlib.Core.Path.{◌≡◌, refl, sym, subst, ap, ◌∙◌}
use mathlib.Core.Logic.{⊎_elim}
use mathlib.Core.Bool.{Bool, true, false, not, ◌||◌}
use mathlib.Core.List.{List, [], ◌∷◌, ◌++◌}
use lib.Dec.{eqb}
use borrow.Author.Tests.{eqb-true}
use Rattle.scope.specs.Statuses.{OK, PENDING}
use Rattle.scope.specs.Lists.{has}
use Rattle.scope.specs.Replies.{Wake}
use Rattle.laws.proofs.Branches.{true-false, true_or_false, both, not_of_false, picked_yes, picked_no}
use Rattle.histories.specs.History.{Event}
use Rattle.books.specs.Past.{Turn, past_of, is_answer_of, running_in}
use Rattle.books.specs.Waiting.{done_to, pends, wakes, ends_wait, waiting}
use Rattle.books.specs.Times.{wakes_as}
use Rattle.books.specs.Told.{GrantTold}
use Rattle.books.proofs.Agreeing.{not_call, not_of, is_of, waiting_more, waiting_less}
use Rattle.books.proofs.Members.{has_last, has_before, has_kept}
use Rattle.books.proofs.Steps.{or_second}
use Rattle.books.proofs.Clocks.{answer_is, answer_of_lem}
use Rattle.fifo.specs.Places.{joined, leaves_ungranted, grants_to, granted, ends_claim, ended}
use Rattle.fifo.specs.Claims.{WaitsUntil, GrantedInTime}
use Rattle.fifo.proofs.Grown.{turn_after, by_turns}
use Rattle.fifo.proofs.Leaving.{one_woken, other_spared, grant_there, release_tells, woken_timed_out}
use Rattle.fifo.proofs.Places.{pending_by}
use Rattle.fifo.proofs.Grants.{fewer_by_departures}

or-false : (a b : Bool) → (a || b) ≡ false → (a ≡ false) × (b ≡ false)
or-false true b e = absurd (true-false refl e)
or-false false b e = (refl, e)

-- the turn that event x makes while task t waits, in a queue of either kind
module _ (p : ℕ) (h : p ≤ 15) (xs : List Event) (x : Event) (id t : ℕ) (waits : has (waiting (past_of p xs) id) t ≡ true) where
  abbrev past : List Turn
  past = past_of p xs

  abbrev y : Turn
  y = turn_after p xs x

  spared : leaves_ungranted past y t ≡ false → is_answer_of 9 id OK y ≡ false → grants_to y t ≡ false → ends_wait past y t ≡ false
  unfolding leaves_ungranted ends_wait grants_to
  spared e lives none =
      let b = or-false _ _ e in
      or_second (wakes y.reply.wakes t) (done_to 2 past t y)
      (⊎_elim granting (λ r. woken_timed_out p h xs x id t waits r lives ∙ b.0) (true_or_false (is_answer_of 12 id OK y)))
      ∙ b.1
    where
      granting : is_answer_of 12 id OK y ≡ true → wakes y.reply.wakes t ≡ false
      granting r =
          let g : GrantTold p past id y.reply.wakes = grant_there p h xs x id t waits r in
          ⊎_elim
          (λ silent. ap (λ (l : List Wake). wakes l t) silent)
          (λ told. ap (λ (l : List Wake). wakes l t) g.only
          ∙ other_spared g.task t
          (λ f. true-false
          (both _ _ (not_of_false _ told) (ap (λ (l : List Wake). wakes_as OK l t) g.only ∙ (one_woken g.task t f).1))
          none))
          (release_tells p h xs x (answer_is y 12 OK (answer_of_lem y 12 id OK r)).0)

  pub waits_on_lem : ends_claim past y id t ≡ false → grants_to y t ≡ false → has (waiting (y ∷ past) id) t ≡ true
  unfolding ends_claim
  waits_on_lem e none =
      let b = or-false _ _ e in
      ⊎_elim
      (λ claim. subst (λ (l : List ℕ). has l t ≡ true) (sym (waiting_more y past id b.1 claim)) (has_before (waiting past id) (running_in past) t waits))
      (λ mute. subst (λ (l : List ℕ). has l t ≡ true) (sym (waiting_less y past id b.1 mute))
      (has_kept (λ u. not (ends_wait past y u)) (waiting past id) t waits (not_of_false _ (spared b.0 b.1 none))))
      (true_or_false (is_answer_of 11 id PENDING y))

-- who joined, was not granted, and whose claim did not end, waits
waits_step : (p : ℕ) → p ≤ 15 → (xs : List Event) (x : Event) → WaitsUntil (past_of p xs) → WaitsUntil (turn_after p xs x ∷ past_of p xs)
waits_step p h xs x so id t there lasts none = ⊎_elim joins stays (true_or_false (pends past t y))
  where
    past : List Turn
    past = past_of p xs

    y : Turn
    y = turn_after p xs x

    joins : pends past t y ≡ true → has (waiting (y ∷ past) id) t ≡ true
    joins e =
        let b = pending_by past t y e in
        let called : x.call ≡ 11 = (answer_is y 11 PENDING b.0).0 in
        let claim : is_answer_of 11 id PENDING y ≡ true =
        is_of y 11 id PENDING b.0 (eqb-true x.a id (sym (picked_yes (pends past t y) (eqb x.a id) (joined past id t) e) ∙ there)) in
        subst (λ (l : List ℕ). has l t ≡ true)
        (sym (waiting_more y past id (not_of y 9 id OK (not_call y 9 OK (ap (λ (v : ℕ). eqb v 9) called))) claim))
        (subst (λ (v : ℕ). has (waiting past id ++ (v ∷ [])) t ≡ true) (sym b.1) (has_last (waiting past id) t))

    stays : pends past t y ≡ false → has (waiting (y ∷ past) id) t ≡ true
    stays e =
        let a = or-false (ends_claim past y id t) (ended past id t) (sym (picked_no (pends past t y) false _ e) ∙ lasts) in
        let b = or-false (grants_to y t) (granted past t) (sym (picked_no (pends past t y) false _ e) ∙ none) in
        waits_on_lem p h xs x id t (so id t (sym (picked_no (pends past t y) (eqb x.a id) (joined past id t) e) ∙ there) a.1 b.1) a.0 b.0

pub waits_until : (p : ℕ) → p ≤ 15 → (xs : List Event) → WaitsUntil (past_of p xs)
waits_until p h = by_turns p WaitsUntil (λ id t there lasts none. absurd (true-false there refl)) (waits_step p h)

-- so it is granted by release p + 1 − d at the latest
pub granted_in_time : (p : ℕ) → p ≤ 15 → (xs : List Event) → GrantedInTime (past_of p xs)
granted_in_time p h xs id t there fifo lasts enough =
    ⊎_elim
    (λ e. e)
    (λ e. absurd (omega (arith, enough, fewer_by_departures p h xs id t (waits_until p h xs id t there lasts e) fifo)))
    (true_or_false (granted (past_of p xs) t))
