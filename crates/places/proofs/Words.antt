-- Words of 64 bits: two with the same bits are one number, a word of its lowest bits set, that of the free buffers, and what `|` and a
-- single bit do.
-- Assumes nothing.
use Prim.Native.Nat.{ℕ, zero, suc, ◌+◌, ◌-◌, ◌/◌, ◌%◌, ◌^◌, ◌≤◌, ◌<◌}
use native.Mathlib.Omega.{arith}
use native.Mathlib.Nat.{mod-one, mod-lt, mod-eq_of_lt, zero-div}
use mathlib.Core.Path.{◌≡◌, refl, sym, ap, ◌∙◌}
use mathlib.Core.Logic.{⊎_elim}
use mathlib.Core.Bool.{true, false, ◌||◌}
use lib.Dec.{eqb}
use lib.Bits.{bit_or, or_shr, or_mod, or_zero_l, or_zero_r, or_self}
use lib.Pow.{pow_pos, high, ones_lt, ones_split}
use native.Mathlib.Nat.{pow-suc}
use borrow.Author.Tests.{eq-eqb}
use Rattle.scope.specs.Choice.{pick, has_bit, bits}
use Rattle.scope.specs.Areas.{is_out, is_free}
use Rattle.scope.proofs.Marks.{take_same, take_other}
use Rattle.laws.proofs.Branches.{picked_yes, picked_no}
use Rattle.laws.proofs.Bits.{bits_at, bits_past, bits_same}
use Rattle.areas.proofs.Ones.{zero_or_one, digit_out, digit_free, digit_more}

digit_lt : (a n : ℕ) → a / 2 ^ n % 2 < 2
digit_lt a n = mod-lt (a / 2 ^ n) (pow_pos 1)

-- a word is the number of its own bits
bits_whole : (a n : ℕ) → bits (has_bit a) n ≡ a % 2 ^ n
unfolding bits
bits_whole a zero = sym (mod-one a)
bits_whole a (suc n) =
    ⊎_elim
    (λ e. omega (arith, bits_whole a n, digit_more a n 0 e, picked_no (has_bit a n) (2 ^ n) 0 (ap (λ (x : ℕ). eqb x 1) e)))
    (λ e. omega (arith, bits_whole a n, digit_more a n 1 e, picked_yes (has_bit a n) (2 ^ n) 0 (ap (λ (x : ℕ). eqb x 1) e)))
    (zero_or_one (a / 2 ^ n % 2) (digit_lt a n))

pub same_bits : (a b n : ℕ) → a < 2 ^ n → b < 2 ^ n → ((j : ℕ) → j < n → has_bit a j ≡ has_bit b j) → a ≡ b
same_bits a b n h l f =
    sym (bits_whole a n ∙ mod-eq_of_lt h) ∙ bits_same (has_bit a) (has_bit b) n f ∙ bits_whole b n ∙ mod-eq_of_lt l

-- the lowest w bits are set
all_set : (w : ℕ) → bits (λ j. true) w ≡ 2 ^ w - 1
unfolding bits pick
all_set zero = refl
all_set (suc w) = omega (arith, all_set w, pow-suc 2 w, pow_pos w)

pub lowest_set : (w j : ℕ) → j < w → has_bit (2 ^ w - 1) j ≡ true
lowest_set w j h = ap (λ (x : ℕ). has_bit x j) (sym (all_set w)) ∙ bits_at (λ j. true) w j h

pub lowest_clear : (w j : ℕ) → w ≤ j → has_bit (2 ^ w - 1) j ≡ false
lowest_clear w j h = ap (λ (x : ℕ). has_bit x j) (sym (all_set w)) ∙ bits_past (λ j. true) w j h

-- a word of 64 set bits, the rest shifted out
pub lowest_is : (w : ℕ) → w ≤ 64 → 18446744073709551615 / 2 ^ (64 - w) ≡ 2 ^ w - 1
lowest_is w h =
    let e : w + (64 - w) ≡ 64 = omega arith in
    ap (λ (m : ℕ). (2 ^ m - 1) / 2 ^ (64 - w)) (sym e)
    ∙ ap (λ (x : ℕ). x / 2 ^ (64 - w)) (ones_split w (64 - w))
    ∙ high (2 ^ w - 1) (64 - w) (ones_lt (64 - w))

-- of n marks, those that are clear and those that are set are all
pub free_and_out : (out n : ℕ) → bits (is_free out) n + out % 2 ^ n ≡ 2 ^ n - 1
unfolding bits
free_and_out out zero = omega (arith, mod-one out)
free_and_out out (suc n) =
    ⊎_elim
    (λ e. omega (arith, free_and_out out n, digit_more out n 0 e, picked_yes (is_free out n) (2 ^ n) 0 (digit_free out n e), pow-suc 2 n, pow_pos n))
    (λ e. omega (arith, free_and_out out n, digit_more out n 1 e, picked_no (is_free out n) (2 ^ n) 0 (digit_out out n e), pow-suc 2 n, pow_pos n))
    (zero_or_one (out / 2 ^ n % 2) (digit_lt out n))

-- `|` sets what either sets
or_digit : (x y : ℕ) → x < 2 → y < 2 → eqb (bit_or x y) 1 ≡ (eqb x 1 || eqb y 1)
or_digit x y h l =
    ⊎_elim
    (λ e. ap (λ (v : ℕ). eqb (bit_or v y) 1) e ∙ ap (λ (v : ℕ). eqb v 1) (or_zero_l y) ∙ sym (ap (λ (v : ℕ). eqb v 1 || eqb y 1) e))
    (λ e. ⊎_elim
    (λ d. ap (λ (v : ℕ). eqb (bit_or x v) 1) d ∙ ap (λ (v : ℕ). eqb v 1) (or_zero_r x) ∙ set e)
    (λ d. ap (λ (v : ℕ). eqb (bit_or x v) 1) (d ∙ sym e) ∙ ap (λ (v : ℕ). eqb v 1) (or_self x) ∙ set e)
    (zero_or_one y l))
    (zero_or_one x h)
  where
    set : x ≡ 1 → eqb x 1 ≡ (eqb x 1 || eqb y 1)
    set e = eq-eqb x 1 e ∙ sym (ap (λ (v : ℕ). eqb v 1 || eqb y 1) e)

pub or_bit : (a b j : ℕ) → has_bit (bit_or a b) j ≡ (has_bit a j || has_bit b j)
or_bit a b j =
    ap (λ (x : ℕ). eqb (x % 2) 1) (or_shr a b j)
    ∙ ap (λ (x : ℕ). eqb x 1) (or_mod (a / 2 ^ j) (b / 2 ^ j) 1)
    ∙ or_digit (a / 2 ^ j % 2) (b / 2 ^ j % 2) (digit_lt a j) (digit_lt b j)

-- a single bit
none_out : (k : ℕ) → is_free 0 k ≡ true
unfolding is_free is_out
none_out k = rw (zero-div (2 ^ k))

pub bit_here : (k : ℕ) → has_bit (2 ^ k) k ≡ true
unfolding is_out
bit_here k = ap (λ (x : ℕ). has_bit x k) {x = 2 ^ k} {y = 0 + 2 ^ k} (omega arith) ∙ take_same 0 k (none_out k)

pub bit_other : (k j : ℕ) → (j ≡ k → ⊥) → has_bit (2 ^ k) j ≡ false
unfolding is_out
bit_other k j d =
    ap (λ (x : ℕ). has_bit x j) {x = 2 ^ k} {y = 0 + 2 ^ k} (omega arith)
    ∙ take_other 0 k (none_out k) j d
    ∙ ap (λ (x : ℕ). eqb (x % 2) 1) (zero-div (2 ^ j))
