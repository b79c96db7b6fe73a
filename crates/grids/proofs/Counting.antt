-- How many grants of a list are between two objects: lists one after the other add up, and a grant counts for its own two only.
-- Assumes nothing.
use Prim.Native.Nat.{ℕ, ◌+◌}
use native.Mathlib.Omega.{arith}
use mathlib.Core.Path.{◌≡◌, refl, ap}
use mathlib.Core.List.{List, [], ◌∷◌, ◌++◌}
use lib.Dec.{eqb}
use borrow.Author.Tests.{eq-eqb, ne_eqb}
use Rattle.laws.proofs.Branches.{both, first_fails, second_fails, picked_yes, picked_no}
use Rattle.grids.specs.Grants.{Given, between}

pub ended : {A : Type 0} (xs : List A) → xs ++ [] ≡ xs
ended [] = refl
ended {A} (x ∷ xs) = ap (λ (l : List A). x ∷ l) (ended xs)

module _ (task id : ℕ) where
  pub between_both : (xs ys : List Given) → between task id (xs ++ ys) ≡ between task id xs + between task id ys
  between_both [] ys = omega arith
  between_both (x ∷ xs) ys = omega (arith, between_both xs ys)

  pub one-between : (x : Given) → x.task ≡ task → x.semaphore ≡ id → between task id (x ∷ []) ≡ 1
  one-between x d e = omega (arith, picked_yes {A = ℕ} _ 1 0 (both _ _ (eq-eqb x.task task d) (eq-eqb x.semaphore id e)))

  pub other_task : (x : Given) → (x.task ≡ task → ⊥) → between task id (x ∷ []) ≡ 0
  other_task x ne = omega (arith, picked_no {A = ℕ} _ 1 0 (first_fails (eqb x.task task) (eqb x.semaphore id) (ne_eqb x.task task ne)))

  pub other_semaphore : (x : Given) → (x.semaphore ≡ id → ⊥) → between task id (x ∷ []) ≡ 0
  other_semaphore x ne = omega (arith, picked_no {A = ℕ} _ 1 0 (second_fails (eqb x.task task) (eqb x.semaphore id) (ne_eqb x.semaphore id ne)))
