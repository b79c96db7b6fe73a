-- "The order of free buffers" (M-103) as a list of buffers, the longest free first. `row` is one pool's row of places (scope's Places.antt).
-- Assumes nothing.
use Rattle.std.specs.Prelude.{ℕ, zero, suc, true, false, List, [], ◌∷◌, ltb}
use Rattle.scope.specs.Places.{on_place}

-- the buffers on places x, x + 1, .. (at most n)
abbrev pub buffers_from : List ℕ → ℕ → ℕ → List ℕ
buffers_from row zero x = []
buffers_from row (suc n) x = elim (ltb (on_place row x) 64) [ true ↦ on_place row x ∷ buffers_from row n (suc x) | false ↦ [] ]

unfoldable pub free_order : List ℕ → List ℕ
free_order row = buffers_from row 64 1

-- k, k + 1, .. (n of them)
abbrev pub ascending : ℕ → ℕ → List ℕ
ascending zero k = []
ascending (suc n) k = k ∷ ascending n (suc k)
