-- What the dispatch and the test in front of it say: the last of several calls is what is left when it is none of those before
-- (one step at a time: `omega` takes few `≢` at once), and the answer by the caller's test.
-- Assumes nothing.
use Prim.Native.Nat.{ℕ, ◌+◌, ◌≤◌, ◌<◌}
use native.Mathlib.Omega.{arith}
use mathlib.Core.Path.{◌≡◌, refl, sym, ap, subst, ◌∙◌}
use mathlib.Core.Logic.{⊎_elim}
use borrow.Author.Tests.{le-leb}
use Rattle.laws.proofs.Branches.{picked_yes, lt_or_le}
use mathlib.Core.Bool.{true, false}
use mathlib.Core.List.{List}
use lib.Dec.{eqb}
use borrow.Author.Tests.{eq-eqb, ne_eqb}
use Rattle.scope.specs.declared.State.{State}
use Rattle.scope.specs.declared.Answer.{Answer}
use Rattle.scope.specs.Answers.{plain}
use Rattle.scope.specs.Calls.{known_calls, call_at}
use Rattle.std.specs.Prelude.{Result, Ok, Err}
use Rattle.scope.specs.declared.Refusal.{Refusal}
use Rattle.scope.specs.Refusals.{number_of, status_of}
use Rattle.scope.specs.Step.{caller_refusal, answered}
use Rattle.scope.proofs.Refusals.{number-nonzero}

pub past : (k x : ℕ) → k ≤ x → (x ≡ k → ⊥) → k + 1 ≤ x
past k x a e = omega arith

pub only : (k x : ℕ) → k ≤ x → x < k + 1 → x ≡ k
only k x a b = omega arith

-- a call that no caller's test refuses is one of the table's
pub known_call : (call mark running : ℕ) → caller_refusal call mark running ≡ 0 → call < known_calls
unfolding caller_refusal
known_call call mark running e =
    ⊎_elim (λ h. h)
    (λ h. let z : 25 ≡ 0 = sym (picked_yes _ 25 _ (le-leb known_calls call h)) ∙ e in absurd (omega arith))
    (lt_or_le call known_calls)

-- the answer by what the caller's test `r` says
module _ (s : State) (call mark a b c d e r : ℕ) (m : List ℕ) (is : r ≡ caller_refusal call mark s.running) where
  pub answered_refused : {w : Answer} → (r ≡ 0 → ⊥) → w ≡ plain s r → w ≡ answered s call mark a b c d e m
  unfolding answered
  answered_refused {w} ne p =
      subst
      (λ (x : ℕ). w ≡ elim (eqb x 0) as (λ y. Answer) [ true ↦ (call_at call).does s a b c d e m | false ↦ plain s x ])
      is
      (rw (ne_eqb r 0 ne) p)

  pub answered-does : {w : Answer} → r ≡ 0 → w ≡ (call_at call).does s a b c d e m → w ≡ answered s call mark a b c d e m
  unfolding answered
  answered-does {w} z p =
      subst
      (λ (x : ℕ). w ≡ elim (eqb x 0) as (λ y. Answer) [ true ↦ (call_at call).does s a b c d e m | false ↦ plain s x ])
      is
      (rw (eq-eqb r 0 z) p)

-- the same where the test's answer is a result
module _ {R : Type 0} (s : State) (call mark a b c d e : ℕ) (m : List ℕ) (f : Result R Refusal) (is : status_of f ≡ caller_refusal call mark s.running) where
  pub allowed_refused : {w : Answer} (r : Refusal) → f ≡ Err r → w ≡ plain s (number_of r) → w ≡ answered s call mark a b c d e m
  allowed_refused r g = answered_refused s call mark a b c d e (number_of r) m (sym (ap status_of g) ∙ is) (number-nonzero r)

  pub allowed-does : {w : Answer} (kind : R) → f ≡ Ok kind → w ≡ (call_at call).does s a b c d e m → w ≡ answered s call mark a b c d e m
  allowed-does kind g = answered-does s call mark a b c d e 0 m (sym (ap status_of g) ∙ is) refl
