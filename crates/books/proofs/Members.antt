-- Who is on a list, and each once: of lists that grow at the end and of those that a test thins out, by cases of the first place;
-- and a list of distinct names of slots is as long as the slots that it names are many.
-- Assumes nothing.
use Prim.Native.Nat.{ℕ, zero, suc, ◌+◌, ◌<◌}
use native.Mathlib.Omega.{arith}
use mathlib.Core.Path.{◌≡◌, refl, sym, subst, ap, ◌∙◌}
use mathlib.Core.Logic.{◌⊎◌, inl, inr, ⊎_elim}
use mathlib.Core.Bool.{Bool, true, false, not, ◌&&◌}
use mathlib.Core.List.{List, [], ◌∷◌, ◌++◌}
use lib.ListN.{length}
use lib.Dec.{eqb}
use borrow.Author.Tests.{eq-eqb, ne_eqb, eqb-true}
use Rattle.scope.specs.Choice.{number}
use Rattle.scope.specs.Lists.{has, keep}
use Rattle.laws.proofs.Branches.{true-false, true_or_false, picked_yes, picked_no, both, both_true, first_fails, second_fails, not_of_true, not_of_false}
use Rattle.scope.proofs.Seats.{number_more}
use Rattle.books.specs.Told.{Once}

pub has_here : (x : ℕ) (xs : List ℕ) → has (x ∷ xs) x ≡ true
has_here x xs = picked_yes (eqb x x) true _ (eq-eqb x x refl)

pub has_later : (x : ℕ) (xs : List ℕ) (t : ℕ) → has xs t ≡ true → has (x ∷ xs) t ≡ true
has_later x xs t h =
    ⊎_elim (λ e. picked_yes (eqb x t) true _ e) (λ e. picked_no (eqb x t) true _ e ∙ h) (true_or_false (eqb x t))

pub has_cases : (x : ℕ) (xs : List ℕ) (t : ℕ) → has (x ∷ xs) t ≡ true → (x ≡ t) ⊎ (has xs t ≡ true)
has_cases x xs t h =
    ⊎_elim (λ e. inl (eqb-true x t e)) (λ e. inr (sym (picked_no (eqb x t) true _ e) ∙ h)) (true_or_false (eqb x t))

pub has_not : (x : ℕ) (xs : List ℕ) (t : ℕ) → (x ≡ t → ⊥) → has xs t ≡ false → has (x ∷ xs) t ≡ false
has_not x xs t ne h = picked_no (eqb x t) true _ (ne_eqb x t ne) ∙ h

-- not on the list, if being on it is absurd
pub none_has : (xs : List ℕ) (t : ℕ) → (has xs t ≡ true → ⊥) → has xs t ≡ false
none_has xs t no_way = ⊎_elim (λ e. absurd (no_way e)) (λ e. e) (true_or_false (has xs t))

-- one more at the end
pub has_before : (xs : List ℕ) (y t : ℕ) → has xs t ≡ true → has (xs ++ (y ∷ [])) t ≡ true
has_before [] y t h = absurd (true-false h refl)
has_before (x ∷ xs) y t h =
    ⊎_elim
    (λ e. subst (λ (v : ℕ). has (x ∷ (xs ++ (y ∷ []))) v ≡ true) e (has_here x (xs ++ (y ∷ []))))
    (λ r. has_later x (xs ++ (y ∷ [])) t (has_before xs y t r))
    (has_cases x xs t h)

pub has_last : (xs : List ℕ) (y : ℕ) → has (xs ++ (y ∷ [])) y ≡ true
has_last [] y = has_here y []
has_last (x ∷ xs) y = has_later x (xs ++ (y ∷ [])) y (has_last xs y)

pub has_grown : (xs : List ℕ) (y t : ℕ) → has (xs ++ (y ∷ [])) t ≡ true → (has xs t ≡ true) ⊎ (y ≡ t)
has_grown [] y t h = ⊎_elim inr (λ r. absurd (true-false r refl)) (has_cases y [] t h)
has_grown (x ∷ xs) y t h =
    ⊎_elim
    (λ e. inl (subst (λ (v : ℕ). has (x ∷ xs) v ≡ true) e (has_here x xs)))
    (λ r. ⊎_elim (λ a. inl (has_later x xs t a)) inr (has_grown xs y t r))
    (has_cases x (xs ++ (y ∷ [])) t h)

pub once_grown : (xs : List ℕ) (y : ℕ) → Once xs → has xs y ≡ false → Once (xs ++ (y ∷ []))
once_grown [] y o h = (refl, record {})
once_grown (x ∷ xs) y o h = (
  none_has (xs ++ (y ∷ [])) x
      (λ b. ⊎_elim (λ c. true-false c o.0)
      (λ e. true-false (subst (λ (v : ℕ). has (x ∷ xs) v ≡ true) (sym e) (has_here x xs)) h)
      (has_grown xs y x b)),
  once_grown xs y o.1 (none_has xs y (λ b. true-false (has_later x xs y b) h)),
)

-- a list thinned out
pub has_kept : (p : ℕ → Bool) (xs : List ℕ) (t : ℕ) → has xs t ≡ true → p t ≡ true → has (keep p xs) t ≡ true
has_kept p [] t h e = absurd (true-false h refl)
has_kept p (x ∷ xs) t h e =
    ⊎_elim
    (λ y. subst (λ (l : List ℕ). has l t ≡ true) (sym (picked_yes (p x) (x ∷ keep p xs) (keep p xs) y))
    (⊎_elim
    (λ d. subst (λ (v : ℕ). has (x ∷ keep p xs) v ≡ true) d (has_here x (keep p xs)))
    (λ r. has_later x (keep p xs) t (has_kept p xs t r e))
    (has_cases x xs t h)))
    (λ n. subst (λ (l : List ℕ). has l t ≡ true) (sym (picked_no (p x) (x ∷ keep p xs) (keep p xs) n))
    (⊎_elim
    (λ d. absurd (true-false e (ap p (sym d) ∙ n)))
    (λ r. has_kept p xs t r e)
    (has_cases x xs t h)))
    (true_or_false (p x))

pub kept_has : (p : ℕ → Bool) (xs : List ℕ) (t : ℕ) → has (keep p xs) t ≡ true → (has xs t ≡ true) × (p t ≡ true)
kept_has p [] t h = absurd (true-false h refl)
kept_has p (x ∷ xs) t h =
    ⊎_elim
    (λ y. ⊎_elim
    (λ d. subst (λ (v : ℕ). (has (x ∷ xs) v ≡ true) × (p v ≡ true)) d (has_here x xs, y))
    (λ r. let k : (has xs t ≡ true) × (p t ≡ true) = kept_has p xs t r in (has_later x xs t k.0, k.1))
    (has_cases x (keep p xs) t (subst (λ (l : List ℕ). has l t ≡ true) (picked_yes (p x) (x ∷ keep p xs) (keep p xs) y) h)))
    (λ n. let k : (has xs t ≡ true) × (p t ≡ true) =
    kept_has p xs t (subst (λ (l : List ℕ). has l t ≡ true) (picked_no (p x) (x ∷ keep p xs) (keep p xs) n) h) in
    (has_later x xs t k.0, k.1))
    (true_or_false (p x))

pub once_kept : (p : ℕ → Bool) (xs : List ℕ) → Once xs → Once (keep p xs)
once_kept p [] o = record {}
once_kept p (x ∷ xs) o =
    ⊎_elim
    (λ y. subst Once (sym (picked_yes (p x) (x ∷ keep p xs) (keep p xs) y))
    (none_has (keep p xs) x (λ b. true-false (kept_has p xs x b).0 o.0), once_kept p xs o.1))
    (λ n. subst Once (sym (picked_no (p x) (x ∷ keep p xs) (keep p xs) n)) (once_kept p xs o.1))
    (true_or_false (p x))

-- slots below n that pass a test, each with a name of its own
module _ (n : ℕ) (name : ℕ → ℕ) (apart : (t u : ℕ) → t < n → u < n → name t ≡ name u → t ≡ u) where
  number_none : (p : ℕ → Bool) (m : ℕ) → ((t : ℕ) → t < m → p t ≡ false) → number p m ≡ 0
  unfolding number
  number_none p zero h = refl
  number_none p (suc m) h = omega (arith, number_none p m (λ t a. h t (omega arith)), picked_no {A = ℕ} (p m) 1 0 (h m (omega arith)))

  pub length-number : (xs : List ℕ) → Once xs → (p : ℕ → Bool)
      → ((x : ℕ) → has xs x ≡ true → (t : ℕ) × (t < n) × (p t ≡ true) × (x ≡ name t))
      → ((t : ℕ) → t < n → p t ≡ true → has xs (name t) ≡ true)
      → length xs ≡ number p n
  length-number [] o p named all =
      sym (number_none p n (λ t h. ⊎_elim (λ e. absurd (true-false (all t h e) refl)) (λ e. e) (true_or_false (p t))))
  length-number (x ∷ xs) o p named all =
      let d : (t : ℕ) × (t < n) × (p t ≡ true) × (x ≡ name t) = named x (has_here x xs) in
      let w : ℕ = d.0 in
      let r : ℕ → Bool = λ t. p t && not (eqb t w) in
      let others : (t : ℕ) → (t ≡ w → ⊥) → p t ≡ r t = λ t ne.
      ⊎_elim (λ e. e ∙ sym (both (p t) _ e (not_of_false _ (ne_eqb t w ne)))) (λ e. e ∙ sym (first_fails (p t) _ e)) (true_or_false (p t)) in
      let out : r w ≡ false = second_fails (p w) _ (not_of_true _ (eq-eqb w w refl)) in
      let one : number p n ≡ number r n + 1 = number_more p r w others d.2 out n d.1 in
      let rest : length xs ≡ number r n =
      length-number xs o.1 r
      (λ y h. let e : (t : ℕ) × (t < n) × (p t ≡ true) × (y ≡ name t) = named y (has_later x xs y h) in (
        e.0,
        e.1,
        both (p e.0) _ e.2
            (not_of_false _ (ne_eqb e.0 w (λ f. true-false (subst (λ (v : ℕ). has xs v ≡ true) (e.3 ∙ ap name f ∙ sym d.3) h) o.0))),
        e.3,
      ))
      (λ t h e. let b : (p t ≡ true) × (not (eqb t w) ≡ true) = both_true (p t) _ e in
      ⊎_elim
      (λ f. absurd (true-false b.1 (not_of_true _ (eq-eqb t w (apart t w h d.1 (sym f ∙ d.3))))))
      (λ f. f)
      (has_cases x xs (name t) (all t h b.0))) in
      omega (arith, one, rest)
