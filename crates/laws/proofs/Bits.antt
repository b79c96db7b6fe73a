-- The number whose bits tell which numbers pass a test: each bit says its own, one that turns adds or takes one power, and its
-- leading zeros name the greatest that passes. By induction on how many bits there are.
-- Assumes nothing.
use Prim.Native.Nat.{ℕ, zero, suc, ◌+◌, ◌-◌, ◌*◌, ◌/◌, ◌%◌, ◌^◌, ◌≤◌, ◌<◌}
use native.Mathlib.Omega.{arith}
use native.Mathlib.Nat.{eq-or-lt_of_le, div-eq_of_lt, lt_of_lt_of_le, pow-suc, mod-lt, mod-eq_of_lt, add-mul, one-mul}
use mathlib.Core.Path.{◌≡◌, refl, sym, subst, ap, ◌∙◌}
use mathlib.Core.Logic.{◌⊎◌, inl, inr, ⊎_elim}
use mathlib.Core.Bool.{Bool, true, false}
use lib.Arith.{digits_lt}
use lib.Pow.{pow_pos, pow-lt, pow_mono, pow-add, shr_lt, split}
use lib.Count.{count_leading_zeros, leading_top}
use borrow.Author.Tests.{ne_eqb}
use Rattle.scope.specs.Choice.{pick, has_bit, bits}
use Rattle.scope.specs.Areas.{is_out, is_free}
use Rattle.scope.proofs.Marks.{free_even, take_same, take_other}
use Rattle.laws.proofs.Branches.{picked_yes, picked_no, lt_or_le, true_or_false, not_of_false}

-- an even number below an even bound leaves room for one more
room : (q m : ℕ) → q % 2 ≡ 0 → q < m * 2 → q + 1 < m * 2
room q m e h = omega arith

-- a bit of a word that is set as a number
pub bit_fits : (k n : ℕ) → k < n → 2 ^ k % 2 ^ n ≡ 2 ^ k
bit_fits k n h = mod-eq_of_lt (pow-lt h)

-- one more above the place
raised : (out k : ℕ) → out + 2 ^ k ≡ (out / 2 ^ k + 1) * 2 ^ k + out % 2 ^ k
raised out k =
    let s = split out k in
    let a = add-mul (out / 2 ^ k) 1 (2 ^ k) in
    let o = one-mul (2 ^ k) in
    omega arith

-- a word of n bits stays one, where a clear bit of it is set
pub take_fits : (out k n : ℕ) → is_free out k ≡ true → k < n → out < 2 ^ n → out + 2 ^ k < 2 ^ n
take_fits out k n e h l = go (n - suc k) (omega arith)
  where
    go : (j : ℕ) → n ≡ suc j + k → out + 2 ^ k < 2 ^ n
    go j d =
        let b : out / 2 ^ k < 2 ^ j * 2 = subst (λ (x : ℕ). out / 2 ^ k < x) (pow-suc 2 j) (shr_lt (suc j) k (subst (λ (x : ℕ). out < 2 ^ x) d l)) in
        let t : (out / 2 ^ k + 1) * 2 ^ k + out % 2 ^ k < 2 ^ j * 2 * 2 ^ k = digits_lt (room (out / 2 ^ k) (2 ^ j) (free_even out k e) b) (mod-lt out (pow_pos k)) in
        let p : 2 ^ n ≡ 2 ^ j * 2 * 2 ^ k = ap (λ (x : ℕ). 2 ^ x) d ∙ pow-add 2 (suc j) k ∙ ap (λ (x : ℕ). x * 2 ^ k) (pow-suc 2 j) in
        rw (raised out k, p) t

-- a word of n bits has none past them
pub word_past : (m n k : ℕ) → m < 2 ^ n → n ≤ k → has_bit m k ≡ false
word_past m n k l h =
    let z : m / 2 ^ k ≡ 0 = div-eq_of_lt (lt_of_lt_of_le l (pow_mono h)) in
    ne_eqb (m / 2 ^ k % 2) 1 (λ e. omega (arith, ap (λ (x : ℕ). x % 2) z, e))

module _ (p : ℕ → Bool) where
  bits_yes : (n : ℕ) → p n ≡ true → bits p (suc n) ≡ bits p n + 2 ^ n
  unfolding bits
  bits_yes n e = ap (λ (x : ℕ). bits p n + x) (picked_yes (p n) (2 ^ n) 0 e)

  bits_no : (n : ℕ) → p n ≡ false → bits p (suc n) ≡ bits p n
  unfolding bits
  bits_no n e = omega (arith, ap (λ (x : ℕ). bits p n + x) (picked_no (p n) (2 ^ n) 0 e))

  pub bits-lt : (n : ℕ) → bits p n < 2 ^ n
  unfolding bits
  bits-lt zero = omega arith
  bits-lt (suc n) =
      ⊎_elim
      (λ e. omega (arith, bits_yes n e, bits-lt n, pow-suc 2 n))
      (λ e. omega (arith, bits_no n e, bits-lt n, pow-suc 2 n))
      (true_or_false (p n))

  -- past the last there is none
  pub bits_past : (n k : ℕ) → n ≤ k → has_bit (bits p n) k ≡ false
  bits_past n k h = word_past (bits p n) n k (bits-lt n) h

  free : (n k : ℕ) → has_bit (bits p n) k ≡ false → is_free (bits p n) k ≡ true
  unfolding is_free is_out
  free n k e = not_of_false (has_bit (bits p n) k) e

  -- each bit says its own
  pub bits_at : (n k : ℕ) → k < n → has_bit (bits p n) k ≡ p k
  unfolding is_out
  bits_at zero k h = absurd (omega arith)
  bits_at (suc n) k h =
      ⊎_elim
      (λ e. ap (λ (x : ℕ). has_bit x k) (bits_yes n e)
      ∙ ⊎_elim
      (λ d. subst (λ (v : ℕ). has_bit (bits p n + 2 ^ n) v ≡ p v) (sym d)
      (take_same (bits p n) n (free n n (bits_past n n (omega arith))) ∙ sym e))
      (λ l. take_other (bits p n) n (free n n (bits_past n n (omega arith))) k (λ d. omega arith) ∙ bits_at n k l)
      (eq-or-lt_of_le {n = k} {m = n} (omega arith)))
      (λ e. ap (λ (x : ℕ). has_bit x k) (bits_no n e)
      ∙ ⊎_elim
      (λ d. subst (λ (v : ℕ). has_bit (bits p n) v ≡ p v) (sym d) (bits_past n n (omega arith) ∙ sym e))
      (λ l. bits_at n k l)
      (eq-or-lt_of_le {n = k} {m = n} (omega arith)))
      (true_or_false (p n))

  -- one that passes makes the number so great at least
  bits_ge : (n k : ℕ) → k < n → p k ≡ true → 2 ^ k ≤ bits p n
  bits_ge zero k h e = absurd (omega arith)
  bits_ge (suc n) k h e =
      ⊎_elim
      (λ d. let y : p n ≡ true = subst (λ (v : ℕ). p v ≡ true) d e in
      omega (arith, bits_yes n y, ap (λ (v : ℕ). 2 ^ v) d))
      (λ l. ⊎_elim
      (λ y. omega (arith, bits_yes n y, bits_ge n k l e))
      (λ y. omega (arith, bits_no n y, bits_ge n k l e))
      (true_or_false (p n)))
      (eq-or-lt_of_le {n = k} {m = n} (omega arith))

  -- and where none from k on does, it is smaller than k's bit
  bits_under : (n k : ℕ) → ((j : ℕ) → k ≤ j → j < n → p j ≡ false) → bits p n < 2 ^ k
  unfolding bits
  bits_under zero k f = pow_pos k
  bits_under (suc n) k f =
      ⊎_elim
      (λ l. omega (arith, bits_no n (f n l (omega arith)), bits_under n k (λ j a b. f j a (omega arith))))
      (λ l. lt_of_lt_of_le (bits-lt (suc n)) (pow_mono {j = k} l))
      (lt_or_le_from k n)
    where
      lt_or_le_from : (k n : ℕ) → (k ≤ n) ⊎ (suc n ≤ k)
      lt_or_le_from k n = ⊎_elim (λ a. inr (omega arith)) (λ a. inl a) (lt_or_le n k)

  pub bits_none : (n : ℕ) → bits p n ≡ 0 → (k : ℕ) → k < n → p k ≡ false
  bits_none n z k h =
      ⊎_elim (λ e. absurd (omega (arith, bits_ge n k h e, pow_pos k))) (λ e. e) (true_or_false (p k))

  pub bits-zero : (n : ℕ) → ((k : ℕ) → k < n → p k ≡ false) → bits p n ≡ 0
  bits-zero n f = let l : bits p n < 2 ^ 0 = bits_under n 0 (λ j a b. f j b) in omega arith

-- the greatest that passes, of n
pub record Greatest (p : ℕ → Bool) (n k : ℕ) : Type 0 where
  pub below : k < n
  pub passes : p k ≡ true
  pub none : (j : ℕ) → k < j → j < n → p j ≡ false

pub bits_top : (p : ℕ → Bool) (n : ℕ) → (bits p n ≡ 0 → ⊥) → Greatest p n (n - 1 - count_leading_zeros n (bits p n))
bits_top p n some =
    let t = leading_top n (bits p n) (omega (arith, some)) (bits-lt p n) in
    let k : ℕ = t.0 in
    let above : (j : ℕ) → k < j → j < n → p j ≡ false =
    λ j a b. ⊎_elim
    (λ e. absurd (omega (arith, bits_ge p n j b e, t.3, pow_mono {i = suc k} {j = j} a)))
    (λ e. e)
    (true_or_false (p j)) in
    subst (Greatest p n) (omega (arith, t.1))
    (record {
      below = omega (arith, t.1);
      passes = ⊎_elim (λ e. e)
          (λ e. absurd (omega (
            arith,
            t.2,
            bits_under p n k
                (λ j a b. ⊎_elim (λ d. subst (λ (v : ℕ). p v ≡ false) d e) (λ l. above j l b) (eq-or-lt_of_le {n = k} {m = j} a)),
          )))
          (true_or_false (p k));
      none = above;
    })

-- two tests that agree, but for k
module _ (p r : ℕ → Bool) where
  pub bits_same : (n : ℕ) → ((j : ℕ) → j < n → p j ≡ r j) → bits p n ≡ bits r n
  unfolding bits
  bits_same zero f = refl
  bits_same (suc n) f =
      ap (λ (x : ℕ). x + pick (p n) (2 ^ n) 0) (bits_same n (λ j h. f j (omega arith)))
      ∙ ap (λ (b : Bool). bits r n + pick b (2 ^ n) 0) (f n (omega arith))

  pub bits_turned : (n k : ℕ) → k < n → p k ≡ false → r k ≡ true → ((j : ℕ) → j < n → (j ≡ k → ⊥) → p j ≡ r j) → bits r n ≡ bits p n + 2 ^ k
  bits_turned zero k h e d f = absurd (omega arith)
  bits_turned (suc n) k h e d f =
      ⊎_elim
      (λ s. bits_yes r n (subst (λ (v : ℕ). r v ≡ true) s d)
      ∙ omega (arith, bits_same n (λ j b. f j (omega arith) (λ z. omega arith)), bits_no p n (subst (λ (v : ℕ). p v ≡ false) s e), ap (λ (v : ℕ). 2 ^ v) s))
      (λ l. let rest : bits r n ≡ bits p n + 2 ^ k = bits_turned n k l e d (λ j b ne. f j (omega arith) ne) in
      ⊎_elim
      (λ y. omega (arith, rest, bits_yes p n y, bits_yes r n (sym (f n (omega arith) (λ z. omega arith)) ∙ y)))
      (λ y. omega (arith, rest, bits_no p n y, bits_no r n (sym (f n (omega arith) (λ z. omega arith)) ∙ y)))
      (true_or_false (p n)))
      (eq-or-lt_of_le {n = k} {m = n} (omega arith))
