-- What the rules lean on. A loop that counts holds the number of those that it passed; a number found is a number counted; a mark past the
-- last buffer is a bit above the power of two.
-- Assumes nothing.
use Prim.Native.Nat.{ℕ, zero, suc, ◌+◌, ◌/◌, ◌^◌, ◌≤◌, ◌<◌}
use native.Mathlib.Omega.{arith}
use native.Mathlib.Numerals.{add-one}
use native.Mathlib.Nat.{div-eq_of_lt, div-lt_iff_lt-mul, one-mul, not-suc-le-zero, eq-or-lt_of_le}
use mathlib.Core.Path.{◌≡◌, refl, sym, subst, ap, ◌∙◌}
use mathlib.Core.Logic.{⊎_elim}
use mathlib.Core.Bool.{Bool, true, false, ◌&&◌, and_assoc, and-true}
use mathlib.Core.List.{List}
use lib.Dec.{eqb, ltb, leb}
use mir.Val.{bool_byte}
use lib.Pow.{pow_pos, pow_mono}
use borrow.Author.Tests.{lt-ltb, le-ltb, le-leb, eq-eqb, ne_eqb}
use Rattle.scope.specs.Choice.{pick, least, number}
use Rattle.scope.specs.Seats.{is_on, on_seat}
use Rattle.scope.specs.Rules.{holds_right}
use Rattle.laws.proofs.Branches.{first_fails, second_decides, lt_or_le, pick_yes, pick_no, picked_yes, picked_no}
use Rattle.laws.proofs.Searches.{least-true, least_below, number-le}
use Rattle.laws.proofs.Arrays.{at_end_lem}
pub use Rattle.laws.proofs.Testing.{Testing, testing_start, testing_more, testing_done}

-- a loop that counts the numbers below n that pass
pub record Counting (n : ℕ) (p : ℕ → Bool) (k t : ℕ) : Type 0 where
  pub upto : t ≤ n
  pub sofar : k ≡ number p t

pub counting_start : (n : ℕ) (p : ℕ → Bool) → Counting n p 0 0
unfolding number
counting_start n p = record { upto = omega arith; sofar = refl }

pub counting_more : {n : ℕ} {p : ℕ → Bool} {k t one : ℕ} → Counting n p k t → t < n → one ≡ pick (p t) 1 0 → Counting n p (k + one) (t + 1)
unfolding number
counting_more {n} {p} {k} {t} m h e = record { upto = omega arith; sofar = rw (e, m.sofar, add-one t, number) }

-- a test as a number
pub one_if : (b : Bool) → bool_byte b ≡ pick b 1 0
unfolding pick
one_if true = refl
one_if false = refl

pub counting_le : {n : ℕ} {p : ℕ → Bool} {k t : ℕ} → Counting n p k t → k ≤ n
counting_le {n} {p} {k} {t} m = omega (arith, number-le p t)

pub counting_done : {n : ℕ} {p : ℕ → Bool} {k t : ℕ} → Counting n p k t → n ≤ t → k ≡ number p n
counting_done {n} {p} {k} {t} m h = at_end_lem (λ (x : ℕ). k ≡ number p x) n t m.upto h m.sofar

-- none passes, so none is counted; one passes, so one is
module _ (p : ℕ → Bool) where
  number_none : (n : ℕ) → ((j : ℕ) → j < n → p j ≡ false) → number p n ≡ 0
  unfolding number
  number_none zero none = refl
  number_none (suc n) none = omega (arith, number_none n (λ j h. none j (omega arith)), picked_no {A = ℕ} (p n) 1 0 (none n (omega arith)))

  number_some : (n j : ℕ) → j < n → p j ≡ true → 0 < number p n
  unfolding number
  number_some zero j h e = absurd (not-suc-le-zero h)
  number_some (suc n) j h e =
      ⊎_elim (λ q. omega (arith, picked_yes {A = ℕ} (p n) 1 0 (subst (λ (x : ℕ). p x ≡ true) q e)))
      (λ l. omega (arith, number_some n j l e))
      (eq-or-lt_of_le {n = j} {m = n} (omega arith))

  -- whether a search finds a number is whether there is one to count
  pub found_counted : (n : ℕ) → ltb 0 (number p n) ≡ ltb (least p n) n
  found_counted n =
      ⊎_elim (λ h. lt-ltb _ _ (number_some n (least p n) h (least-true p n h)) ∙ sym (lt-ltb _ _ h))
      (λ h. ap (ltb 0) (number_none n (λ j l. least_below p n j (omega arith))) ∙ sym (le-ltb _ _ h))
      (lt_or_le (least p n) n)

-- a task is on the seat where one is counted there
pub taken_counted : (q : List ℕ) (x n : ℕ) → n ≡ number (is_on q x) 32 → ltb 0 n ≡ ltb (on_seat q x) 32
unfolding on_seat
taken_counted q x n e = ap (ltb 0) e ∙ found_counted (is_on q x) 32

-- a queue that holds nothing is right whoever waits, and one that holds something if nobody does
module _ (n held most : ℕ) where
  pub holds_none : held ≡ 0 → true ≡ holds_right n held most
  unfolding holds_right
  holds_none e =
      ⊎_elim (λ h. pick_yes _ _ _ (lt-ltb 0 n h) (sym (eq-eqb held 0 e))) (λ h. pick_no _ _ _ (le-ltb 0 n h) (sym (le-leb held most (omega arith)))) (lt_or_le 0 n)

  pub holds_some : (held ≡ 0 → ⊥) → (eqb n 0 && leb held most) ≡ holds_right n held most
  unfolding holds_right
  holds_some ne =
      ⊎_elim (λ h. pick_yes _ _ _ (lt-ltb 0 n h) (first_fails (eqb n 0) _ (ne_eqb n 0 (λ z. omega arith)) ∙ sym (ne_eqb held 0 ne)))
      (λ h. pick_no _ _ _ (le-ltb 0 n h) (second_decides (eqb n 0) _ (eq-eqb n 0 (omega arith)))) (lt_or_le 0 n)

-- nine tests joined one after the other, each told by its rule, are the nine rules of a list
pub nine_kept : (a1 a2 a3 a4 a5 a6 a7 a8 a9 b1 b2 b3 b4 b5 b6 b7 b8 b9 : Bool) → a1 ≡ b1 → a2 ≡ b2 → a3 ≡ b3 → a4 ≡ b4 → a5 ≡ b5 → a6 ≡ b6 → a7 ≡ b7 → a8 ≡ b8 → a9 ≡ b9
    → ((((((((a1 && a2) && a3) && a4) && a5) && a6) && a7) && a8) && a9) ≡ (b1 && (b2 && (b3 && (b4 && (b5 && (b6 && (b7 && (b8 && (b9 && true)))))))))
nine_kept a1 a2 a3 a4 a5 a6 a7 a8 a9 b1 b2 b3 b4 b5 b6 b7 b8 b9 e1 e2 e3 e4 e5 e6 e7 e8 e9 = simp (and_assoc, and-true) (rw (e1, e2, e3, e4, e5, e6, e7, e8, e9))

-- nothing stands from bit n up where the number is below 2 ^ n
pub shifted_out : (out n : ℕ) → eqb (out / 2 ^ n) 0 ≡ ltb out (2 ^ n)
shifted_out out n =
    ⊎_elim (λ h. eq-eqb _ _ (div-eq_of_lt h) ∙ sym (lt-ltb _ _ h))
    (λ h. ne_eqb (out / 2 ^ n) 0 (λ z. omega (arith, one-mul (2 ^ n), (div-lt_iff_lt-mul {x = out} {y = 1} (pow_pos n)).0 (omega arith)))
    ∙ sym (le-ltb _ _ h))
    (lt_or_le out (2 ^ n))

-- a word is below any power of two that has as many bits
pub word_below : (out w n : ℕ) → out < 2 ^ w → w ≤ n → ltb out (2 ^ n) ≡ true
word_below out w n h l = let m : 2 ^ w ≤ 2 ^ n = pow_mono l in lt-ltb out (2 ^ n) (omega arith)
