-- The marks of a pool's buffers, as bits of a number: what taking a free buffer and giving one back do to them.
-- The number is split at buffer k: from there up stands a number that is even where k is free and odd where k is out.
-- Giving back is taking, read backwards.
-- Assumes nothing.
use Prim.Native.Nat.{ℕ, zero, suc, ◌+◌, ◌-◌, ◌*◌, ◌/◌, ◌%◌, ◌^◌, ◌≤◌, ◌<◌}
use native.Mathlib.Omega.{arith}
use native.Mathlib.Numerals.{one-add}
use native.Mathlib.Nat.{mod-lt, one-mul, pow-suc, mul-le-mul_right, add-div_right, add-mul-div_right, eq-zero-or-pos}
use mathlib.Core.Path.{◌≡◌, sym, ap, ◌∙◌}
use mathlib.Core.Logic.{⊎_elim}
use mathlib.Core.Bool.{Bool, true, false, not}
use lib.Dec.{eqb}
use lib.Pow.{pow_pos, pow-add, shr-shr, split}
use borrow.Author.Tests.{eqb-true, eqb-false, eq-eqb, ne_eqb, not-true}
use Rattle.scope.specs.Choice.{pick, number}
use Rattle.scope.specs.Areas.{is_out, is_free, free_of}

-- what stands above buffer k's place, k's own bit included
pub free_even : (out k : ℕ) → is_free out k ≡ true → out / 2 ^ k % 2 ≡ 0
unfolding is_free is_out
free_even out k e =
    let n : out / 2 ^ k % 2 ≡ 1 → ⊥ = eqb-false _ _ (not-true _ e) in
    let l : out / 2 ^ k % 2 < 2 = mod-lt _ (omega arith) in
    omega arith

out_odd : (out k : ℕ) → is_out out k ≡ true → out / 2 ^ k % 2 ≡ 1
unfolding is_out
out_odd out k e = eqb-true _ _ e

-- what is given back is there
pub back_fits : (out k : ℕ) → is_out out k ≡ true → 2 ^ k ≤ out
back_fits out k e =
    let d = out_odd out k e in
    let s = split out k in
    let o : 1 ≤ out / 2 ^ k = omega arith in
    let m = mul-le-mul_right (2 ^ k) o in
    let i = one-mul (2 ^ k) in
    omega arith

-- the digit at a place below k, and what stands above k, don't feel one more at k
below : (out i j : ℕ) → (out + 2 ^ (suc i + j)) / 2 ^ j % 2 ≡ out / 2 ^ j % 2
below out i j =
    let p : 2 ^ (suc i + j) ≡ 2 ^ i * 2 * 2 ^ j = pow-add 2 (suc i) j ∙ ap (λ (x : ℕ). x * 2 ^ j) (pow-suc 2 i) in
    let d : (out + 2 ^ i * 2 * 2 ^ j) / 2 ^ j ≡ out / 2 ^ j + 2 ^ i * 2 = add-mul-div_right out (2 ^ i * 2) (pow_pos j) in
    rw (p, d) (omega arith)

past : (n i k : ℕ) → n / 2 ^ (k + suc i) ≡ n / 2 ^ k / 2 / 2 ^ i
past n i k = sym (shr-shr n k (suc i)) ∙ ap (λ (x : ℕ). n / 2 ^ k / 2 ^ x) (sym (one-add i)) ∙ sym (shr-shr (n / 2 ^ k) 1 i)

above : (out i k : ℕ) → out / 2 ^ k % 2 ≡ 0 → (out + 2 ^ k) / 2 ^ (k + suc i) ≡ out / 2 ^ (k + suc i)
above out i k e =
    let d : (out + 2 ^ k) / 2 ^ k ≡ out / 2 ^ k + 1 = add-div_right out (pow_pos k) in
    let h : (out + 2 ^ k) / 2 ^ k / 2 ≡ out / 2 ^ k / 2 = rw d (omega arith) in
    past (out + 2 ^ k) i k ∙ ap (λ (x : ℕ). x / 2 ^ i) h ∙ sym (past out i k)

module _ (out k : ℕ) (e : is_free out k ≡ true) where
  -- the buffer taken is out, and every other is as it was
  pub take_same : is_out (out + 2 ^ k) k ≡ true
  unfolding is_out
  take_same =
      let d : (out + 2 ^ k) / 2 ^ k ≡ out / 2 ^ k + 1 = add-div_right out (pow_pos k) in
      let f = free_even out k e in
      eq-eqb ((out + 2 ^ k) / 2 ^ k % 2) 1 (omega arith)

  pub take_other : (j : ℕ) → (j ≡ k → ⊥) → is_out (out + 2 ^ k) j ≡ is_out out j
  unfolding is_out
  take_other j n = ⊎_elim (λ h. hi (j - suc k) (omega arith)) (λ h. lo (k - suc j) (omega arith)) (eq-zero-or-pos (k - j))
    where
      lo : (i : ℕ) → k ≡ suc i + j → eqb ((out + 2 ^ k) / 2 ^ j % 2) 1 ≡ eqb (out / 2 ^ j % 2) 1
      lo i d = rw d (ap (λ (x : ℕ). eqb x 1) (below out i j))

      hi : (i : ℕ) → j ≡ k + suc i → eqb ((out + 2 ^ k) / 2 ^ j % 2) 1 ≡ eqb (out / 2 ^ j % 2) 1
      hi i d = rw d (ap (λ (x : ℕ). eqb (x % 2) 1) (above out i k (free_even out k e)))

-- giving back: what is left, with the bit set again, is what there was
module _ (out k : ℕ) (e : is_out out k ≡ true) where
  pub back_whole : out - 2 ^ k + 2 ^ k ≡ out
  back_whole = let l = back_fits out k e in omega arith

  -- the buffer given back is free, and every other is as it was
  pub back_same : is_free (out - 2 ^ k) k ≡ true
  unfolding is_free is_out
  back_same =
      let d : (out - 2 ^ k + 2 ^ k) / 2 ^ k ≡ (out - 2 ^ k) / 2 ^ k + 1 = add-div_right (out - 2 ^ k) (pow_pos k) in
      let w : (out - 2 ^ k + 2 ^ k) / 2 ^ k ≡ out / 2 ^ k = ap (λ (x : ℕ). x / 2 ^ k) back_whole in
      let o = out_odd out k e in
      ap not (ne_eqb ((out - 2 ^ k) / 2 ^ k % 2) 1 (λ z. omega arith))

  pub back_other : (j : ℕ) → (j ≡ k → ⊥) → is_out (out - 2 ^ k) j ≡ is_out out j
  back_other j n = sym (take_other (out - 2 ^ k) k back_same j n) ∙ ap (λ (x : ℕ). is_out x j) back_whole

-- each of n buffers is free or out
pub free_or_out : (out n : ℕ) → free_of out n + number (is_out out) n ≡ n
unfolding free_of number is_free pick
free_or_out out zero = omega arith
free_or_out out (suc n) = go (is_out out n) (free_or_out out n)
  where
    go : (b : Bool) → number (is_free out) n + number (is_out out) n ≡ n → number (is_free out) n + pick {A = ℕ} (not b) 1 0 + (number (is_out out) n + pick {A = ℕ} b 1 0) ≡ suc n
    go true e = omega arith
    go false e = omega arith
