-- The books over a history: what each step keeps is kept by all of them, one after the other, while the object lives. An object
-- that is live at a step and at the end was live all along.
-- Assumes nothing.
use Prim.Native.Nat.{ℕ, ◌+◌}
use native.Mathlib.Omega.{arith}
use mathlib.Core.Path.{◌≡◌, refl, sym, subst, ap, ◌∙◌}
use mathlib.Core.Logic.{⊎_elim}
use mathlib.Core.Bool.{Bool}
use mathlib.Core.List.{List, [], ◌∷◌, ◌++◌}
use Rattle.scope.specs.declared.State.{State}
use Rattle.scope.specs.declared.Answer.{Answer}
use Rattle.scope.specs.declared.Found.{Found}
use Rattle.scope.specs.declared.Found.TheVariants.{At, Deleted, Invalid}
use Rattle.scope.specs.Identifiers.{found}
use Rattle.laws.proofs.Tables.{found_slot}
use Rattle.histories.specs.Sound.{Sound}
use Rattle.histories.specs.History.{Event, answer_to, after, total}
use Rattle.histories.proofs.Stays.{step_keeps}
use Rattle.histories.proofs.Answered.{Creates}
use Rattle.histories.proofs.Tables.{Later, later_same, later_on, issued_still, was_live, live_issued}
use Rattle.histories.proofs.Accounts.{Account, Entered}

pub event_keeps : (s : State) → Sound s → (x : Event) → Sound (answer_to s x).state
event_keeps s ok x = step_keeps s ok x.call x.mark x.a x.b x.c x.d x.e x.message

pub history_keeps : (s : State) → Sound s → (xs : List Event) → Sound (after s xs)
history_keeps s ok [] = ok
history_keeps s ok (x ∷ xs) = history_keeps (answer_to s x).state (event_keeps s ok x) xs

-- where in a history the object with this identifier was made, by that call
pub record Creation (call : ℕ) (s : State) (xs : List Event) (id : ℕ) : Type 0 where
  pub before : List Event
  pub event : Event
  pub later : List Event
  pub whole : xs ≡ before ++ (event ∷ later)
  pub creates : Creates call id event (answer_to (after s before) event)

abbrev creation_later : {call : ℕ} {s : State} {xs : List Event} {id : ℕ} (x : Event) → Creation call (answer_to s x).state xs id → Creation call s (x ∷ xs) id
creation_later x c =
    record {
      before = x ∷ c.before;
      event = c.event;
      later = c.later;
      whole = ap (λ (l : List Event). x ∷ l) c.whole;
      creates = c.creates;
    }

-- an account that every answer enters
module _ (k : Account) (step : (s : State) → Sound s → (x : Event) → Entered k s x (answer_to s x)) where
  abbrev serial : State → List ℕ
  serial = k.serial

  abbrev live : State → List Bool
  live = k.live

  abbrev figure : State → ℕ → ℕ
  figure = k.figure

  abbrev plus : ℕ → Event → Answer → ℕ
  plus = k.plus

  abbrev minus : ℕ → Event → Answer → ℕ
  minus = k.minus

  pub later_after : (s : State) → Sound s → (xs : List Event) → Later (serial s) (live s) (serial (after s xs)) (live (after s xs))
  later_after s ok [] = later_same (serial s) (live s)
  later_after s ok (x ∷ xs) = later_on (step s ok x).booked.later (later_after (answer_to s x).state (event_keeps s ok x) xs)

  -- of an object that lives: what it has, and the books since
  pub books_after : (s : State) → Sound s → (xs : List Event) (id i : ℕ) → found (serial s) (live s) id ≡ At i
      → found (serial (after s xs)) (live (after s xs)) id ≡ At i
      → figure (after s xs) i + total (minus id) s xs ≡ figure s i + total (plus id) s xs
  books_after s ok [] id i d e = refl
  books_after s ok (x ∷ xs) id i d e =
      let t : State = (answer_to s x).state in
      let h : Sound t = event_keeps s ok x in
      let m : found (serial t) (live t) id ≡ At i =
      was_live (later_after t h xs) id (issued_still (step s ok x).booked.later id (live_issued (serial s) (live s) id d)) e in
      omega (arith, (step s ok x).booked.books id i d m, books_after t h xs id i m e)

  -- the books since then
  pub books_since : (s : State) → Sound s → (x : Event) (xs : List Event) (id i : ℕ) → Creates k.create id x (answer_to s x)
      → (let t : State = (answer_to s x).state in
      found (serial (after t xs)) (live (after t xs)) id ≡ At i
      → figure (after t xs) i + total (minus id) t xs ≡ k.first x + total (plus id) t xs)
  books_since s ok x xs id i c e =
      let t : State = (answer_to s x).state in
      let m : (j : ℕ) × (found (serial t) (live t) id ≡ At j) × (figure t j ≡ k.first x) = (step s ok x).made id c in
      let same : m.0 ≡ i = found_slot (serial t) (live t) id m.1 ∙ sym (found_slot (serial (after t xs)) (live (after t xs)) id e) in
      let b = books_after t (event_keeps s ok x) xs id i (m.1 ∙ ap At same) e in
      omega (arith, b, subst (λ (j : ℕ). figure t j ≡ k.first x) same m.2)

  -- of an object that does not live yet: where it was made, and the books of the whole history
  abbrev Told : State → List Event → ℕ → ℕ → Type 0
  Told s xs id i = (c : Creation k.create s xs id) × (figure (after s xs) i + total (minus id) s xs ≡ k.first c.event + total (plus id) s xs)

  pub books_whole : (s : State) → Sound s → (xs : List Event) (id i : ℕ) → ((j : ℕ) → found (serial s) (live s) id ≡ At j → ⊥)
      → found (serial (after s xs)) (live (after s xs)) id ≡ At i → Told s xs id i
  books_whole s ok [] id i dead e = absurd (dead i e)
  books_whole s ok (x ∷ xs) id i dead e =
      go (books_whole t h xs id i) (found (serial t) (live t) id) refl
    where
      t : State
      t = (answer_to s x).state

      h : Sound t
      h = event_keeps s ok x

      quiet : (plus id x (answer_to s x) ≡ 0) × (minus id x (answer_to s x) ≡ 0)
      quiet = (step s ok x).booked.silent id dead

      here : found (serial t) (live t) id ≡ At i → Told s (x ∷ xs) id i
      here d =
          let c : Creates k.create id x (answer_to s x) = ⊎_elim (λ b. absurd (dead i b)) (λ c. c) ((step s ok x).booked.came id i d) in (
            record { before = []; event = x; later = xs; whole = refl; creates = c },
            omega (arith, quiet.0, quiet.1, books_since s ok x xs id i c e),
          )

      further : (((j : ℕ) → found (serial t) (live t) id ≡ At j → ⊥) → found (serial (after t xs)) (live (after t xs)) id ≡ At i → Told t xs id i)
          → ((j : ℕ) → found (serial t) (live t) id ≡ At j → ⊥) → Told s (x ∷ xs) id i
      further rec gone =
          let r : Told t xs id i = rec gone e in
          (creation_later x r.0, omega (arith, quiet.0, quiet.1, r.1))

      go : (((j : ℕ) → found (serial t) (live t) id ≡ At j → ⊥) → found (serial (after t xs)) (live (after t xs)) id ≡ At i → Told t xs id i)
          → (o : Found) → found (serial t) (live t) id ≡ o → Told s (x ∷ xs) id i
      go rec (At j) d =
          let same : j ≡ i =
          found_slot (serial t) (live t) id d ∙ sym (found_slot (serial (after t xs)) (live (after t xs)) id e) in
          here (d ∙ ap At same)
      go rec Deleted d = further rec (λ j b. let z : ◌≡◌ {A = ℕ} 0 1 = cc in omega arith)
      go rec Invalid d = further rec (λ j b. let z : ◌≡◌ {A = ℕ} 0 1 = cc in omega arith)
