-- What the pool calls lean on: of n buffers, no more are free than there are.
-- Assumes nothing.
use Prim.Native.Nat.{ℕ, ◌≤◌}
use Rattle.scope.specs.Areas.{is_free, free_of}
use Rattle.laws.proofs.Searches.{number-le}

pub free_few : (out n : ℕ) → free_of out n ≤ n
unfolding free_of
free_few out n = number-le (is_free out) n
