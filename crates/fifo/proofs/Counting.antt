-- How many of a list pass a test: those who leave and those who stay make up the whole, and one alone is one. By cases of the first
-- place.
-- Assumes nothing.
use Prim.Native.Nat.{ℕ, ◌+◌}
use native.Mathlib.Omega.{arith}
use mathlib.Core.Path.{◌≡◌, refl, sym, subst, ap, ◌∙◌}
use mathlib.Core.Logic.{⊎_elim}
use mathlib.Core.Bool.{Bool, true, false, not}
use mathlib.Core.List.{List, [], ◌∷◌, ◌++◌}
use lib.ListN.{length}
use Rattle.scope.specs.Choice.{pick}
use Rattle.scope.specs.Lists.{has, keep}
use Rattle.laws.proofs.Branches.{true-false, picked_yes, picked_no}
use Rattle.books.specs.Told.{Once}
use Rattle.books.proofs.Members.{has_here, has_later, has_cases}

-- of those who pass q: who leaves, by e, and who stays
pub kept_and_left : (e q : ℕ → Bool) (xs : List ℕ)
    → length (keep q xs) ≡ length (keep q (keep (λ u. not (e u)) xs)) + length (keep e (keep q xs))
unfolding pick
kept_and_left e q [] = refl
kept_and_left e q (x ∷ xs) = go (e x) (q x) refl refl (kept_and_left e q xs)
  where
    stay : List ℕ
    stay = keep (λ u. not (e u)) xs

    go : (b c : Bool) → e x ≡ b → q x ≡ c → length (keep q xs) ≡ length (keep q stay) + length (keep e (keep q xs))
        → length (pick c (x ∷ keep q xs) (keep q xs)) ≡ length (keep q (pick (not b) (x ∷ stay) stay)) + length (keep e (pick c (x ∷ keep q xs) (keep q xs)))
    go true true d f r = omega (arith, r, ap (λ (l : List ℕ). length l) (picked_yes (e x) (x ∷ keep e (keep q xs)) (keep e (keep q xs)) d))
    go true false d f r = r
    go false true d f r =
        omega (
          arith,
          r,
          ap (λ (l : List ℕ). length l) (picked_no (e x) (x ∷ keep e (keep q xs)) (keep e (keep q xs)) d),
          ap (λ (l : List ℕ). length l) (picked_yes (q x) (x ∷ keep q stay) (keep q stay) f),
        )
    go false false d f r = omega (arith, r, ap (λ (l : List ℕ). length l) (picked_no (q x) (x ∷ keep q stay) (keep q stay) f))

-- two tests that agree on the list
pub keep_same : (p q : ℕ → Bool) (xs : List ℕ) → ((u : ℕ) → has xs u ≡ true → p u ≡ q u) → keep p xs ≡ keep q xs
keep_same p q [] h = refl
keep_same p q (x ∷ xs) h = rw (h x (has_here x xs), keep_same p q xs (λ u b. h u (has_later x xs u b)))

pub keep_all : (p : ℕ → Bool) (xs : List ℕ) → ((u : ℕ) → has xs u ≡ true → p u ≡ true) → keep p xs ≡ xs
keep_all p [] h = refl
keep_all p (x ∷ xs) h =
    picked_yes (p x) (x ∷ keep p xs) (keep p xs) (h x (has_here x xs)) ∙ ap (λ (l : List ℕ). x ∷ l) (keep_all p xs (λ u b. h u (has_later x xs u b)))

pub keep_none : (p : ℕ → Bool) (xs : List ℕ) → ((u : ℕ) → has xs u ≡ true → p u ≡ false) → keep p xs ≡ []
keep_none p [] h = refl
keep_none p (x ∷ xs) h =
    picked_no (p x) (x ∷ keep p xs) (keep p xs) (h x (has_here x xs)) ∙ keep_none p xs (λ u b. h u (has_later x xs u b))

-- one more at the end, who passes or not
pub keep_grown : (p : ℕ → Bool) (xs : List ℕ) (y : ℕ) → p y ≡ false → keep p (xs ++ (y ∷ [])) ≡ keep p xs
keep_grown p [] y e = picked_no (p y) (y ∷ []) [] e
keep_grown p (x ∷ xs) y e = ap (λ (l : List ℕ). pick (p x) (x ∷ l) l) (keep_grown p xs y e)

-- one alone passes
pub keep_one : (p : ℕ → Bool) (xs : List ℕ) → Once xs → (g : ℕ) → has xs g ≡ true → p g ≡ true
    → ((u : ℕ) → has xs u ≡ true → (u ≡ g → ⊥) → p u ≡ false) → length (keep p xs) ≡ 1
keep_one p [] o g h e f = absurd (true-false h refl)
keep_one p (x ∷ xs) o g h e f =
    ⊎_elim
    (λ d. ap (λ (l : List ℕ). length l)
    (picked_yes (p x) (x ∷ keep p xs) (keep p xs) (ap p d ∙ e)
    ∙ ap (λ (l : List ℕ). x ∷ l)
    (keep_none p xs (λ u b. f u (has_later x xs u b) (λ c. true-false b (subst (λ (v : ℕ). has xs v ≡ false) (d ∙ sym c) o.0))))))
    (λ b. ap (λ (l : List ℕ). length l)
    (picked_no (p x) (x ∷ keep p xs) (keep p xs) (f x (has_here x xs) (λ c. true-false (subst (λ (v : ℕ). has xs v ≡ true) (sym c) b) o.0)))
    ∙ keep_one p xs o.1 g b e (λ u c ne. f u (has_later x xs u c) ne))
    (has_cases x xs g h)
