-- A mask made bit by bit, and what its trailing zeros say: the first that passes, by one step a bit.
-- Assumes nothing.
use Prim.Native.Nat.{ℕ, zero, suc, ◌+◌, ◌-◌, ◌*◌, ◌%◌, ◌^◌, ◌≤◌, ◌<◌}
use native.Mathlib.Omega.{arith}
use native.Mathlib.Nat.{pow-suc, mul_assoc, mod-eq_of_lt, le_of_suc-le-suc, not-suc-le-zero, eq-or-lt_of_le}
use mathlib.Core.Path.{◌≡◌, refl, sym, subst, ap, ◌∙◌}
use mathlib.Core.Logic.{⊎_elim}
use mathlib.Core.Bool.{Bool, true, false}
use lib.Arith.{digits_mod, digits_div}
use lib.Bits.{bit_or, or_shifted_r}
use lib.Count.{count_trailing_zeros}
use lib.Pow.{pow_mono}
use mir.Val.{bool_byte as from_bool}
use Rattle.scope.specs.Choice.{least}
use Rattle.laws.proofs.Branches.{true_or_false, picked_yes, picked_no, lt_or_le}
use Rattle.laws.proofs.Searches.{least_hit}
use Rattle.tables.specs.Masks.{bit_at, mask_from}

module _ (p : ℕ → Bool) where
  bit_yes : (k : ℕ) → p k ≡ true → bit_at p k ≡ 1
  bit_yes k e = picked_yes {A = ℕ} (p k) 1 0 e

  bit_no : (k : ℕ) → p k ≡ false → bit_at p k ≡ 0
  bit_no k e = picked_no {A = ℕ} (p k) 1 0 e

  bit_lt : (k : ℕ) → bit_at p k < 2
  bit_lt k = ⊎_elim (λ e. omega (arith, bit_yes k e)) (λ e. omega (arith, bit_no k e)) (true_or_false (p k))

  mask_lt : (n k : ℕ) → mask_from p k n < 2 ^ n
  unfolding mask_from
  mask_lt zero k = omega arith
  mask_lt (suc n) k = omega (arith, mask_lt n (suc k), bit_lt k, pow-suc 2 n)

  -- one more, above the others
  mask_more : (n k : ℕ) → bit_at p (k + n) * 2 ^ n + mask_from p k n ≡ mask_from p k (suc n)
  unfolding mask_from
  mask_more zero k = let e : k + 0 ≡ k = omega arith in rw e (omega arith)
  mask_more (suc n) k =
      let e : suc k + n ≡ k + suc n = omega arith in
      let m : bit_at p (k + suc n) * 2 ^ n + mask_from p (suc k) n ≡ mask_from p (suc k) (suc n) =
      subst (λ (v : ℕ). bit_at p v * 2 ^ n + mask_from p (suc k) n ≡ mask_from p (suc k) (suc n)) e (mask_more n (suc k)) in
      let d : bit_at p (k + suc n) * 2 ^ suc n ≡ bit_at p (k + suc n) * 2 ^ n * 2 =
      ap (λ (x : ℕ). bit_at p (k + suc n) * x) (pow-suc 2 n) ∙ sym (mul_assoc (bit_at p (k + suc n)) (2 ^ n) 2) in
      omega (arith, m, d)

  bit_fits : (k n : ℕ) → n < 16 → bit_at p k * 2 ^ n < 65536
  bit_fits k n h =
      let l : 2 ^ n ≤ 2 ^ 15 = pow_mono {j = 15} (omega arith) in
      ⊎_elim (λ e. rw (bit_yes k e) (omega (arith, l))) (λ e. rw (bit_no k e) (omega arith)) (true_or_false (p k))

  -- as the loop adds it: shifted to its place in a word of sixteen bits, one past its number
  pub mask_or : (n k m b : ℕ) → n + 1 < 16 → m ≡ mask_from p k n * 2 → b ≡ bit_at p (k + n)
      → bit_or m (b * 2 ^ (n + 1) % 65536) ≡ mask_from p k (n + 1) * 2
  mask_or n k m b h d e =
      let t : n + 1 ≡ suc n = omega arith in
      let l : mask_from p k n * 2 < 2 ^ suc n = omega (arith, mask_lt n k, pow-suc 2 n) in
      let f : bit_at p (k + n) * 2 ^ suc n < 65536 = subst (λ (v : ℕ). bit_at p (k + n) * 2 ^ v < 65536) t (bit_fits (k + n) (n + 1) h) in
      let g : bit_at p (k + n) * 2 ^ suc n ≡ bit_at p (k + n) * 2 ^ n * 2 =
      ap (λ (x : ℕ). bit_at p (k + n) * x) (pow-suc 2 n) ∙ sym (mul_assoc (bit_at p (k + n)) (2 ^ n) 2) in
      rw (d, e, t, mod-eq_of_lt f) (or_shifted_r (bit_at p (k + n)) (suc n) (mask_from p k n * 2) l ∙ omega (arith, g, mask_more n k))

  -- a mask of nothing
  pub mask_none : (n k : ℕ) → mask_from p k n ≡ 0 → (j : ℕ) → k ≤ j → j < k + n → p j ≡ false
  unfolding mask_from
  mask_none zero k e j lo hi = absurd (omega arith)
  mask_none (suc n) k e j lo hi =
      ⊎_elim
      (λ d. subst (λ (v : ℕ). p v ≡ false) d (⊎_elim (λ y. absurd (omega (arith, e, bit_yes k y))) (λ y. y) (true_or_false (p k))))
      (λ l. mask_none n (suc k) (omega (arith, e)) j l (omega arith))
      (eq-or-lt_of_le lo)

  -- where its trailing zeros end: n flags from k on, and a word of w bits
  pub record First (n k z : ℕ) : Type 0 where
    pub below : z < n
    pub passes : p (k + z) ≡ true
    pub none : (j : ℕ) → k ≤ j → j < k + z → p j ≡ false

  first_later : (n k z : ℕ) → p k ≡ false → First n (suc k) z → First (suc n) k (suc z)
  first_later n k z e f =
      let s : suc k + z ≡ k + suc z = omega arith in
      record {
        below = omega (arith, f.below);
        passes = subst (λ (v : ℕ). p v ≡ true) s f.passes;
        none = λ j lo hi.
            ⊎_elim (λ d. subst (λ (v : ℕ). p v ≡ false) d e) (λ l. f.none j l (omega arith)) (eq-or-lt_of_le lo);
      }

  pub mask_first : (w n k : ℕ) → n ≤ w → (mask_from p k n ≡ 0 → ⊥) → First n k (count_trailing_zeros w (mask_from p k n))
  unfolding mask_from count_trailing_zeros
  mask_first w zero k l some = absurd (some refl)
  mask_first zero (suc n) k l some = absurd (not-suc-le-zero l)
  mask_first (suc w) (suc n) k l some =
      ⊎_elim
      (λ y. let e : (mask_from p (suc k) n * 2 + bit_at p k) ≡ mask_from p (suc k) n * 2 + 1 = omega (arith, bit_yes k y) in
      subst (First (suc n) k) (sym (ap (count_trailing_zeros (suc w)) e ∙ odd))
      (record {
        below = omega arith;
        passes = let s : k ≡ k + 0 = omega arith in subst (λ (v : ℕ). p v ≡ true) s y;
        none = λ j lo hi. absurd (omega arith);
      }))
      (λ y. let e : (mask_from p (suc k) n * 2 + bit_at p k) ≡ mask_from p (suc k) n * 2 + 0 = omega (arith, bit_no k y) in
      subst (First (suc n) k) (sym (ap (count_trailing_zeros (suc w)) e ∙ even))
      (first_later n k _ y (mask_first w n (suc k) (le_of_suc-le-suc l) (λ z. some (omega (arith, e, z))))))
      (true_or_false (p k))
    where
      odd : count_trailing_zeros (suc w) (mask_from p (suc k) n * 2 + 1) ≡ 0
      odd = rw (digits_mod (mask_from p (suc k) n) {m = 2} {r = 1} (omega arith))

      even : count_trailing_zeros (suc w) (mask_from p (suc k) n * 2 + 0) ≡ suc (count_trailing_zeros w (mask_from p (suc k) n))
      even =
          rw (digits_mod (mask_from p (suc k) n) {m = 2} {r = 0} (omega arith), digits_div (mask_from p (suc k) n) {m = 2} {r = 0} (omega arith))

-- a look at the n slots from `base` on, where none before them passes
module _ (p : ℕ → Bool) (base n m : ℕ) (before : (j : ℕ) → j < base → p j ≡ false) (is : m ≡ mask_from p base n * 2) where
  -- the first bit is no slot's, so the zeros are one more than those of the slots' bits
  zeros : count_trailing_zeros 16 m ≡ suc (count_trailing_zeros 15 (mask_from p base n))
  unfolding count_trailing_zeros
  zeros =
      let e : m ≡ mask_from p base n * 2 + 0 = omega (arith, is) in
      rw (e, digits_mod (mask_from p base n) {m = 2} {r = 0} (omega arith), digits_div (mask_from p base n) {m = 2} {r = 0} (omega arith))

  -- there is one at least
  pub zeros_some : 1 ≤ count_trailing_zeros 16 m
  zeros_some = omega (arith, zeros)

  -- finds the first that does
  pub look_hit : (len : ℕ) → base + n ≤ len → n ≤ 8 → (m ≡ 0 → ⊥)
      → (base + count_trailing_zeros 16 m - 1 < len) × (base + count_trailing_zeros 16 m - 1 ≡ least p len)
  look_hit len within small some =
      let f : First p n base (count_trailing_zeros 15 (mask_from p base n)) = mask_first p 15 n base (omega (arith, small)) (λ z. some (omega (arith, is, z))) in
      let e : base + count_trailing_zeros 16 m - 1 ≡ base + count_trailing_zeros 15 (mask_from p base n) = omega (arith, zeros) in
      let l : base + count_trailing_zeros 15 (mask_from p base n) < len = omega (arith, f.below) in
      (omega (arith, e, l), e ∙ least_hit p l (λ j h. ⊎_elim (before j) (λ l. f.none j l h) (lt_or_le j base)) f.passes)

  -- or shows that none of them does
  pub look_none : m ≡ 0 → (j : ℕ) → j < base + n → p j ≡ false
  look_none z j h = ⊎_elim (before j) (λ l. mask_none p n base (omega (arith, is, z)) j l h) (lt_or_le j base)

-- a bit, as the code has it
pub bit_of : (p : ℕ → Bool) (k : ℕ) (b : Bool) {x : ℕ} → x ≡ from_bool b → b ≡ p k → x ≡ bit_at p k
bit_of p k true e f = e ∙ sym (bit_yes p k (sym f))
bit_of p k false e f = e ∙ sym (bit_no p k (sym f))
