-- What holds of the empty past, and of a turn more where it holds of those before, holds of every history: a history grows at its end.
-- Assumes nothing.
use Prim.Native.Nat.{ℕ, ◌≤◌}
use mathlib.Core.Path.{◌≡◌, refl, sym, subst}
use mathlib.Core.List.{List, [], ◌∷◌, ◌++◌, append-nil, append_assoc}
use Rattle.scope.specs.declared.State.{State}
use Rattle.scope.specs.Fresh.{fresh_state}
use Rattle.histories.specs.History.{Event, answer_to, after}
use Rattle.books.specs.Past.{Turn, past_from, past_of}
use Rattle.books.specs.Told.{SeatsTold}
use Rattle.books.proofs.Agreeing.{turn_of}
use Rattle.books.proofs.Told.{seats_told}

after_more : (s : State) (xs : List Event) (x : Event) → after s (xs ++ (x ∷ [])) ≡ (answer_to (after s xs) x).state
after_more s [] x = refl
after_more s (y ∷ ys) x = after_more (answer_to s y).state ys x

past_more : (past : List Turn) (s : State) (xs : List Event) (x : Event)
    → past_from past s (xs ++ (x ∷ [])) ≡ turn_of x (answer_to (after s xs) x) ∷ past_from past s xs
past_more past s [] x = refl
past_more past s (y ∷ ys) x = past_more (turn_of y (answer_to s y) ∷ past) (answer_to s y).state ys x

-- the turn that event x makes after the history xs
abbrev pub turn_after : ℕ → List Event → Event → Turn
turn_after p xs x = turn_of x (answer_to (after (fresh_state p) xs) x)

module _ (p : ℕ) (P : List Turn → Type 0) (start : P [])
    (more : (xs : List Event) (x : Event) → P (past_of p xs) → P (turn_after p xs x ∷ past_of p xs)) where
  go : (ys xs : List Event) → P (past_of p ys) → P (past_of p (ys ++ xs))
  go ys [] h = subst (λ (l : List Event). P (past_of p l)) (sym (append-nil ys)) h
  go ys (x ∷ xs) h =
      subst (λ (l : List Event). P (past_of p l)) (append_assoc ys (x ∷ []) xs)
      (go (ys ++ (x ∷ [])) xs (subst P (sym (past_more [] (fresh_state p) ys x)) (more ys x h)))

  pub by_turns : (xs : List Event) → P (past_of p xs)
  by_turns xs = go [] xs start

-- what the state says, a turn later
pub told_next : (p : ℕ) → p ≤ 15 → (xs : List Event) (x : Event)
    → SeatsTold p (answer_to (after (fresh_state p) xs) x).state (turn_after p xs x ∷ past_of p xs)
told_next p h xs x =
    subst (λ (s : State). SeatsTold p s (turn_after p xs x ∷ past_of p xs)) (after_more (fresh_state p) xs x)
    (subst (λ (l : List Turn). SeatsTold p (after (fresh_state p) (xs ++ (x ∷ []))) l) (past_more [] (fresh_state p) xs x)
    (seats_told p h (xs ++ (x ∷ []))))

-- what holds of every history's turns holds of those and one more
pub at_next : (p : ℕ) (P : List Turn → Type 0) → ((xs : List Event) → P (past_of p xs)) → (xs : List Event) (x : Event) → P (turn_after p xs x ∷ past_of p xs)
at_next p P f xs x = subst P (past_more [] (fresh_state p) xs x) (f (xs ++ (x ∷ [])))
