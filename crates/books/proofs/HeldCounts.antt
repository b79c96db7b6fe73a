-- Gets and returns counted from the turns of a history are those that the histories' books add up from its answers.
-- Assumes nothing.
use Prim.Native.Nat.{ℕ, ◌+◌}
use native.Mathlib.Omega.{arith}
use mathlib.Core.Path.{◌≡◌, refl, ap}
use mathlib.Core.Bool.{Bool, true, false, ◌&&◌}
use mathlib.Core.List.{List, [], ◌∷◌}
use lib.Dec.{eqb}
use Rattle.scope.specs.declared.State.{State}
use Rattle.scope.specs.declared.Answer.{Answer}
use Rattle.scope.specs.Choice.{pick}
use Rattle.scope.specs.Statuses.{OK}
use Rattle.histories.specs.History.{Event, answer_to, total}
use Rattle.histories.specs.Books.{answered_ok}
use Rattle.histories.specs.Books as books
use Rattle.books.specs.Past.{Turn, is_answer, is_answer_of, times, past_from}
use Rattle.books.specs.Held.{gets, returns}
use Rattle.books.proofs.HeldTurns.{turn_of}

-- one answer
same_answer : (call id : ℕ) (x : Event) (a : Answer) → is_answer_of call id OK (turn_of x a) ≡ answered_ok call id x a
unfolding is_answer_of is_answer answered_ok
same_answer call id x a = swap (eqb x.call call) (eqb a.status OK) (eqb x.a id)
  where
    swap : (u v w : Bool) → ((u && v) && w) ≡ (u && (w && v))
    swap true true true = refl
    swap true true false = refl
    swap true false true = refl
    swap true false false = refl
    swap false v w = refl

-- all answers of a history
times_after : (call id : ℕ) (past : List Turn) (s : State) (xs : List Event)
    → times (is_answer_of call id OK) (past_from past s xs)
    ≡ times (is_answer_of call id OK) past + total (λ x a. pick (answered_ok call id x a) 1 0) s xs
times_after call id past s [] = omega arith
times_after call id past s (x ∷ xs) =
    omega (
      arith,
      times_after call id (turn_of x (answer_to s x) ∷ past) (answer_to s x).state xs,
      ap (λ (b : Bool). pick {A = ℕ} b 1 0) (same_answer call id x (answer_to s x)),
    )

module _ (s : State) (xs : List Event) (id : ℕ) where
  pub gets_told : gets (past_from [] s xs) id ≡ total (books.gets id) s xs
  unfolding books.gets
  gets_told = omega (arith, times_after 17 id [] s xs)

  pub returns_told : returns (past_from [] s xs) id ≡ total (books.returns id) s xs
  unfolding books.returns
  returns_told = omega (arith, times_after 18 id [] s xs)
