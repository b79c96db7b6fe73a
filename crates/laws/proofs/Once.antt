-- Lists of numbers on which each stands once: what is on a list without one of them, and how long it is. By the list, its head
-- kept or not.
-- Assumes nothing.
use Prim.Native.Nat.{ℕ, ◌+◌}
use native.Mathlib.Omega.{arith}
use mathlib.Core.Path.{◌≡◌, refl, sym, ap, ◌∙◌}
use mathlib.Core.Logic.{⊎_elim}
use mathlib.Core.Bool.{Bool, true, false, not}
use mathlib.Core.List.{List, [], ◌∷◌}
use lib.ListN.{length}
use lib.Dec.{eqb}
use borrow.Author.Tests.{eq-eqb, ne_eqb}
use Rattle.scope.specs.Choice.{pick}
use Rattle.scope.specs.Lists.{has, without}
use Rattle.laws.proofs.Branches.{true-false, picked_yes, picked_no, eq_or_not}

-- no number is on the list twice
abbrev pub Once : List ℕ → Type 0
Once [] = Unit
Once (x ∷ xs) = (has xs x ≡ false) × Once xs

module _ (x t : ℕ) (xs : List ℕ) where
  pub has_here : x ≡ t → has (x ∷ xs) t ≡ true
  has_here e = picked_yes (eqb x t) true (has xs t) (eq-eqb x t e)

  pub has_later : (x ≡ t → ⊥) → has (x ∷ xs) t ≡ has xs t
  has_later ne = picked_no (eqb x t) true (has xs t) (ne_eqb x t ne)

  -- the head goes, or stays
  pub cut_here : x ≡ t → without t (x ∷ xs) ≡ without t xs
  cut_here e = picked_no (not (eqb x t)) (x ∷ without t xs) (without t xs) (ap not (eq-eqb x t e))

  pub cut_later : (x ≡ t → ⊥) → without t (x ∷ xs) ≡ x ∷ without t xs
  cut_later ne = picked_yes (not (eqb x t)) (x ∷ without t xs) (without t xs) (ap not (ne_eqb x t ne))

-- what was taken away is gone
pub has_cut : (t : ℕ) (xs : List ℕ) → has (without t xs) t ≡ false
has_cut t [] = refl
has_cut t (x ∷ xs) =
    ⊎_elim
    (λ e. ap (λ (l : List ℕ). has l t) (cut_here x t xs e) ∙ has_cut t xs)
    (λ ne. ap (λ (l : List ℕ). has l t) (cut_later x t xs ne) ∙ has_later x t (without t xs) ne ∙ has_cut t xs)
    (eq_or_not x t)

-- and every other is on the list as before
pub has_other : (t y : ℕ) → (t ≡ y → ⊥) → (xs : List ℕ) → has (without t xs) y ≡ has xs y
has_other t y d [] = refl
has_other t y d (x ∷ xs) =
    ⊎_elim
    (λ e. ap (λ (l : List ℕ). has l y) (cut_here x t xs e) ∙ has_other t y d xs ∙ sym (has_later x y xs (λ f. d (sym e ∙ f))))
    (λ ne. ap (λ (l : List ℕ). has l y) (cut_later x t xs ne)
    ∙ ap (λ (b : Bool). pick (eqb x y) true b) (has_other t y d xs))
    (eq_or_not x t)

-- one that is not on the list takes nothing away
pub cut_none : (t : ℕ) (xs : List ℕ) → has xs t ≡ false → without t xs ≡ xs
cut_none t [] e = refl
cut_none t (x ∷ xs) e =
    ⊎_elim
    (λ d. absurd (true-false (has_here x t xs d) e))
    (λ ne. cut_later x t xs ne ∙ ap (λ (l : List ℕ). x ∷ l) (cut_none t xs (sym (has_later x t xs ne) ∙ e)))
    (eq_or_not x t)

-- each still stands once
pub once_cut : (t : ℕ) (xs : List ℕ) → Once xs → Once (without t xs)
once_cut t [] o = tt
once_cut t (x ∷ xs) o =
    ⊎_elim
    (λ e. rw (cut_here x t xs e) (once_cut t xs o.1))
    (λ ne. rw (cut_later x t xs ne) (has_other t x (λ e. ne (sym e)) xs ∙ o.0, once_cut t xs o.1))
    (eq_or_not x t)

-- and the list is shorter by one
pub length_cut : (t : ℕ) (xs : List ℕ) → Once xs → has xs t ≡ true → length (without t xs) + 1 ≡ length xs
length_cut t [] o e = absurd (true-false e refl)
length_cut t (x ∷ xs) o e =
    ⊎_elim
    (λ d. let n : without t (x ∷ xs) ≡ xs = cut_here x t xs d ∙ cut_none t xs (ap (has xs) (sym d) ∙ o.0) in
    omega (arith, ap length n))
    (λ ne. omega (arith, ap length (cut_later x t xs ne), length_cut t xs o.1 (sym (has_later x t xs ne) ∙ e)))
    (eq_or_not x t)
