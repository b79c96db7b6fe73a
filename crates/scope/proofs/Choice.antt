-- What a test of two parts says, and what a finished search tells: what was found passes its test, and nothing below it does.
-- Assumes nothing.
use Prim.Native.Nat.{ℕ, zero, suc, ◌+◌, ◌≤◌, ◌<◌}
use native.Mathlib.Omega.{arith}
use native.Mathlib.Nat.{eq-or-lt_of_le}
use mathlib.Core.Path.{◌≡◌, refl, subst, ap, ◌∙◌}
use mathlib.Core.Logic.{⊎_elim}
use mathlib.Core.Bool.{Bool, true, false, ◌&&◌}
use Rattle.scope.specs.Choice.{least_from, least}

pub both_true : (a b : Bool) → (a && b) ≡ true → (a ≡ true) × (b ≡ true)
both_true true b e = (refl, e)
both_true false b e = let z : ◌≡◌ {A = ℕ} 0 1 = cc in absurd (omega arith)

module _ (p : ℕ → Bool) where
  from_le : (n k : ℕ) → least_from p n k ≤ k + n
  from_le zero k = omega arith
  from_le (suc n) k = go (from_le n (suc k)) (p k)
    where
      go : least_from p n (suc k) ≤ suc k + n → (b : Bool) → elim b as (λ x. ℕ) [ true ↦ k | false ↦ least_from p n (suc k) ] ≤ k + suc n
      go rec true = omega arith
      go rec false = omega arith

  pub least-le : (n : ℕ) → least p n ≤ n
  unfolding least
  least-le n = omega (arith, from_le n 0)

  from_true : (n k : ℕ) → least_from p n k < k + n → p (least_from p n k) ≡ true
  from_true zero k h = absurd (omega arith)
  from_true (suc n) k h = go (λ l. from_true n (suc k) l) (p k) refl
    where
      go : (least_from p n (suc k) < suc k + n → p (least_from p n (suc k)) ≡ true) → (b : Bool) → p k ≡ b → p (least_from p (suc n) k) ≡ true
      go rec true e = ap p (ap (λ (b : Bool). elim b as (λ x. ℕ) [ true ↦ k | false ↦ least_from p n (suc k) ]) e) ∙ e
      go rec false e =
          let d : least_from p (suc n) k ≡ least_from p n (suc k) = ap (λ (b : Bool). elim b as (λ x. ℕ) [ true ↦ k | false ↦ least_from p n (suc k) ]) e in
          ap p d ∙ rec (omega (arith, d, h))

  -- what was found passes its test
  pub least-true : (n : ℕ) → least p n < n → p (least p n) ≡ true
  unfolding least
  least-true n h = from_true n 0 (omega arith)

  from_below : (n k j : ℕ) → k ≤ j → j < least_from p n k → p j ≡ false
  from_below zero k j lo h = absurd (omega arith)
  from_below (suc n) k j lo h = go (λ l d. from_below n (suc k) j l d) (p k) refl h
    where
      go : (suc k ≤ j → j < least_from p n (suc k) → p j ≡ false) → (b : Bool) → p k ≡ b
          → j < elim b as (λ x. ℕ) [ true ↦ k | false ↦ least_from p n (suc k) ] → p j ≡ false
      go rec true e d = absurd (omega arith)
      go rec false e d = ⊎_elim (λ q. subst (λ (x : ℕ). p x ≡ false) q e) (λ l. rec l d) (eq-or-lt_of_le lo)

  -- nothing below it does
  pub least_below : (n j : ℕ) → j < least p n → p j ≡ false
  unfolding least
  least_below n j h = from_below n 0 j (omega arith) h
