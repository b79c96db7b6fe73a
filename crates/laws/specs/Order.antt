-- What the rule of the free buffers' order (scope's Rules.antt, `order_right`) says, without tests: of n buffers with the marks `out`, the
-- free ones have the places 1 to their number, each one place of its own, and every other place is 0.
-- Assumes nothing.
use Rattle.std.specs.Prelude.{ℕ, ◌≤◌, ◌<◌, ◌≡◌, true, List, length, get_or}
use Rattle.scope.specs.Areas.{is_free, free_of}

-- buffer k is one of n, and free
abbrev pub Free : ℕ → ℕ → ℕ → Type 0
Free out n k = (k < n) × (is_free out k ≡ true)

pub record Ordered (row : List ℕ) (out n : ℕ) : Type 0 where
  pub long : length row ≡ 64
  pub few : n ≤ 64
  pub none : (k : ℕ) → (Free out n k → ⊥) → get_or row k 0 ≡ 0
  pub some : (k : ℕ) → Free out n k → 1 ≤ get_or row k 0
  pub small : (k : ℕ) → get_or row k 0 ≤ free_of out n
  pub once : (j k : ℕ) → 1 ≤ get_or row j 0 → get_or row j 0 ≡ get_or row k 0 → j ≡ k
  pub full : (x : ℕ) → 1 ≤ x → x ≤ free_of out n → (k : ℕ) × (get_or row k 0 ≡ x)
