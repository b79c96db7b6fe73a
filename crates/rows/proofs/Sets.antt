-- The bit of a status in a call's row says whether the status stands in the call's list: one test that antt computes, over all
-- rows and the 64 bits of a set.
-- Assumes nothing.
use Prim.Native.Nat.{ℕ, ◌/◌, ◌%◌, ◌^◌, ◌<◌}
use mathlib.Core.Path.{◌≡◌, refl}
use mathlib.Core.Bool.{Bool, true, false, not}
use lib.ListN.{length}
use lib.Dec.{eqb}
use Rattle.scope.specs.Choice.{pick, every}
use Rattle.scope.specs.Calls.{known_calls, calls}
use Rattle.laws.proofs.Branches.{true-false}
use Rattle.laws.proofs.Searches.{every_at}
use Rattle.rows.specs.Rows.{set_at, may_give}

-- "The call table has twenty rows", and M-100's seven
pub rows_known : length calls ≡ known_calls
rows_known = refl

-- the two are both true or both false
abbrev same : Bool → Bool → Bool
same a b = pick a b (not b)

same_is : (a b : Bool) → same a b ≡ true → a ≡ b
unfolding pick
same_is true true e = refl
same_is true false e = absurd (true-false e refl)
same_is false true e = absurd (true-false e refl)
same_is false false e = refl

abbrev has_bit : ℕ → ℕ → Bool
has_bit call status = eqb (set_at call / 2 ^ status % 2) 1

abbrev agrees : ℕ → ℕ → Bool
agrees call status = same (has_bit call status) (may_give call status)

abbrev row_agrees : ℕ → Bool
row_agrees call = every (agrees call) 64

every_row : every row_agrees known_calls ≡ true
unfolding every pick may_give
every_row = refl

pub set_right : (call status : ℕ) → call < known_calls → status < 64 → has_bit call status ≡ may_give call status
set_right call status h l =
    same_is (has_bit call status) (may_give call status)
    (every_at (agrees call) 64 (every_at row_agrees known_calls every_row call h) status l)
