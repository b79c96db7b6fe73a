-- The marks of a pool's buffers, as bits of a number: that they fit, and how many are free, after a free buffer is taken and one is
-- given back. (What becomes of each mark is in scope's Marks.antt.)
-- Assumes nothing.
use Prim.Native.Nat.{ℕ, ◌+◌, ◌-◌, ◌^◌, ◌≤◌, ◌<◌}
use native.Mathlib.Omega.{arith}
use mathlib.Core.Path.{◌≡◌, sym, ap, ◌∙◌}
use mathlib.Core.Logic.{⊎_elim}
use mathlib.Core.Bool.{Bool, true, not}
use lib.Pow.{pow_mono}
use Rattle.scope.specs.Areas.{is_out, is_free, free_of}
use Rattle.scope.proofs.Seats.{number_more}
pub use Rattle.laws.proofs.Bits.{bit_fits, take_fits}
pub use Rattle.scope.proofs.Marks.{free_even, back_fits, take_same, take_other, back_whole, back_same, back_other}
use Rattle.laws.proofs.Branches.{not_of_true, lt_or_le}

-- free is what the code's `!is_out(out, k)` says
pub free_as : (out k : ℕ) (b v : Bool) → b ≡ is_out out k → not b ≡ v → is_free out k ≡ v
unfolding is_free
free_as out k b v e f = ap not (sym e) ∙ f

-- a buffer that is out is one of the n
pub out_below : (out k n : ℕ) → is_out out k ≡ true → out < 2 ^ n → k < n
out_below out k n e l =
    ⊎_elim (λ h. h) (λ h. let m : 2 ^ n ≤ 2 ^ k = pow_mono h in absurd (omega (arith, back_fits out k e))) (lt_or_le k n)

pub back_below : (out k n : ℕ) → out < 2 ^ n → out - 2 ^ k < 2 ^ n
back_below out k n l = omega arith

pub take_free_other : (out k : ℕ) → is_free out k ≡ true → (j : ℕ) → (j ≡ k → ⊥) → is_free (out + 2 ^ k) j ≡ is_free out j
unfolding is_free
take_free_other out k e j n = ap not (take_other out k e j n)

-- one buffer fewer is free
pub take_free : (out k n : ℕ) → is_free out k ≡ true → k < n → free_of (out + 2 ^ k) n + 1 ≡ free_of out n
unfolding free_of is_free
take_free out k n e h =
    sym
    (number_more (is_free out) (is_free (out + 2 ^ k)) k (λ j d. sym (take_free_other out k e j d)) e
    (not_of_true _ (take_same out k e)) n h)

-- giving back: one buffer more is free
pub back_free : (out k : ℕ) → is_out out k ≡ true → (n : ℕ) → k < n → free_of (out - 2 ^ k) n ≡ free_of out n + 1
back_free out k e n h =
    sym (take_free (out - 2 ^ k) k n (back_same out k e) h) ∙ ap (λ (x : ℕ). free_of x n + 1) (back_whole out k e)
