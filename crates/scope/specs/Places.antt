-- M-103, "The order of free buffers joins the state, each free buffer once." A buffer is free or out, so it stands in the order of
-- its pool at most once, and one number, its place, says where: 1 for "the buffer that has been free longest", 2 for the next, 0 for a
-- buffer that is out and for one that the pool does not have. `places` is the list of all pools' places, 64 a pool; `row` is one
-- pool's 64, by buffer. Buffer 64 is none.
-- Assumes nothing.
use Rattle.std.specs.Prelude.{ℕ, zero, suc, ◌+◌, ◌-◌, ◌*◌, List, [], ◌∷◌, ◌++◌, map, take, drop, set, replicate, ltb}
use Rattle.scope.specs.Choice.{pick, least}
use Rattle.scope.specs.Seats.{is_on}

-- the row of pool i
unfoldable pub row_of : List ℕ → ℕ → List ℕ
row_of places i = take 64 (drop (i * 64) places)

-- the places of all pools with another row of pool i
unfoldable pub with_row : List ℕ → ℕ → List ℕ → List ℕ
with_row places i row = take (i * 64) places ++ (row ++ drop (i * 64 + 64) places)

-- the buffer on place x, 64 where there is none
unfoldable pub on_place : List ℕ → ℕ → ℕ
on_place row x = least (is_on row x) 64

-- "the buffer that has been free longest"
abbrev pub longest_free : List ℕ → ℕ
longest_free row = on_place row 1

-- the first leaves the order: those behind it come forward by one
unfoldable pub first_leaves : List ℕ → List ℕ
first_leaves row = map (λ x. x - 1) row

-- buffer k, which is in nobody's hands any more, joins at the end: so many buffers are free already, and it comes behind them
unfoldable pub joins_last : List ℕ → ℕ → ℕ → List ℕ
joins_last row free k = set row k (free + 1)

-- "in a new pool, ascending addresses": of n buffers, buffer k is on place k + 1
abbrev pub places_from : ℕ → ℕ → ℕ → List ℕ
places_from n zero k = []
places_from n (suc m) k = pick (ltb k n) (k + 1) 0 ∷ places_from n m (k + 1)

unfoldable pub new_row : ℕ → List ℕ
new_row n = places_from n 64 0

-- no buffer is free
abbrev pub no_row : List ℕ
no_row = replicate 64 0
