-- Numbers as little-endian bytes.
-- Assumes nothing.
use Rattle.std.specs.Prelude.{Bool, true, false, not, List, [], ◌∷◌, ◌++◌, ℕ, zero, suc, ◌+◌, ◌*◌, ◌/◌, ◌%◌, eqb, get_or}

-- the w low bytes of a number, lowest first
unfoldable pub le : ℕ → ℕ → List ℕ
le zero x = []
le (suc w) x = x % 256 ∷ le w (x / 256)

-- the same of several numbers, one after the other
unfoldable pub les : ℕ → List ℕ → List ℕ
les w [] = []
les w (x ∷ xs) = le w x ++ les w xs

-- the number that the w bytes from a place on are
unfoldable pub number : ℕ → List ℕ → ℕ → ℕ
number zero s at = 0
number (suc w) s at = get_or s at 0 + 256 * number w s (suc at)

-- n such numbers, one after the other
unfoldable pub numbers : ℕ → ℕ → List ℕ → ℕ → List ℕ
numbers w zero s at = []
numbers w (suc n) s at = number w s at ∷ numbers w n s (at + w)

-- a yes or no is a number, 1 or 0; read back, any number but 0 is a yes
abbrev pub bit : Bool → ℕ
bit true = 1
bit false = 0

abbrev pub is_on : ℕ → Bool
is_on n = not (eqb n 0)
