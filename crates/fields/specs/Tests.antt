-- Tests of an image's bytes.
-- Assumes nothing.
use Rattle.std.specs.Prelude.{◌≡◌, Bool, true, ◌&&◌, List, [], ◌∷◌, ℕ, leb}

-- what a yes or no is written as, and that all numbers are so
abbrev pub is_flag : ℕ → Bool
is_flag x = leb x 1

unfoldable pub only_flags : List ℕ → Bool
only_flags [] = true
only_flags (x ∷ xs) = is_flag x && only_flags xs

-- a test is true exactly where this holds
abbrev pub Tells : Bool → Type 0 → Type 0
Tells b P = (b ≡ true → P) × (P → b ≡ true)
