-- A mask of numbers that pass a test: bit i for the i-th of them.
-- Assumes nothing.
use Rattle.std.specs.Prelude.{ℕ, zero, suc, ◌+◌, ◌*◌, Bool}
use Rattle.scope.specs.Choice.{pick}

-- 1 where k passes, else 0
abbrev pub bit_at : (ℕ → Bool) → ℕ → ℕ
bit_at p k = pick (p k) 1 0

-- the mask of k, k + 1, .. (n of them)
unfoldable pub mask_from : (ℕ → Bool) → ℕ → ℕ → ℕ
mask_from p k zero = 0
mask_from p k (suc n) = mask_from p (suc k) n * 2 + bit_at p k
