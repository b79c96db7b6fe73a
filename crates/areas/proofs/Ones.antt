-- The free buffers by a count of ones: of the first n marks those that are set and those that are clear make n, and a shift that
-- drops all other marks changes no count.
-- Assumes nothing.
use Prim.Native.Nat.{ℕ, zero, suc, ◌+◌, ◌-◌, ◌*◌, ◌/◌, ◌%◌, ◌^◌, ◌≤◌, ◌<◌}
use native.Mathlib.Omega.{arith}
use native.Mathlib.Nat.{mod-one, mod-lt, mul-div_cancel, mul-mod_left}
use mathlib.Core.Path.{◌≡◌, refl, sym, ap, ◌∙◌}
use mathlib.Core.Logic.{◌⊎◌, inl, inr, ⊎_elim}
use mathlib.Core.Bool.{true, false}
use lib.Pow.{pow_pos, mod-pow-add}
use lib.Count.{ones, ones_cat, ones-ones}
use borrow.Author.Tests.{eq-eqb}
use Rattle.scope.specs.Choice.{number}
use Rattle.scope.specs.Areas.{is_out, is_free, free_of}
use Rattle.laws.proofs.Branches.{not_of_true, picked_yes, picked_no}

-- a digit counts as what it is
no_ones : ones 0 ≡ 0
no_ones = ones-ones 0

-- the mark of buffer k, as a digit, and whether it is free
pub digit_out : (out k : ℕ) → out / 2 ^ k % 2 ≡ 1 → is_free out k ≡ false
unfolding is_free is_out
digit_out out k e = not_of_true _ (eq-eqb (out / 2 ^ k % 2) 1 e)

pub digit_free : (out k : ℕ) → out / 2 ^ k % 2 ≡ 0 → is_free out k ≡ true
unfolding is_free is_out
digit_free out k e = rw e

pub zero_or_one : (x : ℕ) → x < 2 → (x ≡ 0) ⊎ (x ≡ 1)
zero_or_one zero h = inl refl
zero_or_one (suc zero) h = inr refl
zero_or_one (suc (suc x)) h = absurd (omega arith)

-- one digit more
pub digit_more : (out n d : ℕ) → out / 2 ^ n % 2 ≡ d → out % 2 ^ suc n ≡ d * 2 ^ n + out % 2 ^ n
digit_more out n d e =
    ap (λ (m : ℕ). out % 2 ^ m) {x = suc n} {y = 1 + n} (omega arith) ∙ mod-pow-add out 1 n ∙ ap (λ (x : ℕ). x * 2 ^ n + out % 2 ^ n) e

ones_more : (out n : ℕ) → ones (out % 2 ^ suc n) ≡ ones (out / 2 ^ n % 2) + ones (out % 2 ^ n)
ones_more out n =
    ap ones (digit_more out n (out / 2 ^ n % 2) refl) ∙ ones_cat n (out / 2 ^ n % 2) (out % 2 ^ n) (mod-lt out (pow_pos n))

-- the buffers out and the free ones are all
pub out_and_free : (out n : ℕ) → ones (out % 2 ^ n) + free_of out n ≡ n
unfolding free_of number
out_and_free out zero = omega (arith, ap ones (mod-one out), no_ones)
out_and_free out (suc n) =
    ⊎_elim
    (λ e. omega (arith, out_and_free out n, ones_more out n, ap ones e, no_ones, picked_yes {A = ℕ} (is_free out n) 1 0 (digit_free out n e)))
    (λ e. omega (arith, out_and_free out n, ones_more out n, ap ones e, ones-ones 1, picked_no {A = ℕ} (is_free out n) 1 0 (digit_out out n e)))
    (zero_or_one (out / 2 ^ n % 2) (mod-lt (out / 2 ^ n) (pow_pos 1)))

-- the first n marks, shifted to the top of a word of n + k: no other is left
shifted : (out n k : ℕ) → ones (out * 2 ^ k % 2 ^ (n + k)) ≡ ones (out % 2 ^ n)
shifted out n k =
    let whole : out * 2 ^ k % 2 ^ (n + k) ≡ (out % 2 ^ n) * 2 ^ k + 0 =
    mod-pow-add (out * 2 ^ k) n k
    ∙ ap (λ (x : ℕ). (x % 2 ^ n) * 2 ^ k + out * 2 ^ k % 2 ^ k) (mul-div_cancel out (pow_pos k))
    ∙ ap (λ (x : ℕ). (out % 2 ^ n) * 2 ^ k + x) (mul-mod_left out (2 ^ k)) in
    ap ones whole ∙ ones_cat k (out % 2 ^ n) 0 (pow_pos k) ∙ omega (arith, no_ones)

pub shifted_free : (out n : ℕ) → n ≤ 64 → ones (out * 2 ^ (64 - n) % 2 ^ 64) + free_of out n ≡ n
shifted_free out n h =
    let word : n + (64 - n) ≡ 64 = omega arith in
    ap (λ (w : ℕ). ones (out * 2 ^ (64 - n) % 2 ^ w) + free_of out n) (sym word)
    ∙ ap (λ (x : ℕ). x + free_of out n) (shifted out n (64 - n))
    ∙ out_and_free out n
