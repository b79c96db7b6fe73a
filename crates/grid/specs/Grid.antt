-- "Keep, beside the state, a grid of 32 rows and 16 columns: grants to task slot from semaphore slot since clearing, stopping
-- at 65,535." The grid is a list of rows, one for each task slot; a row has a cell for each semaphore slot.
-- Assumes nothing.
use Rattle.std.specs.Prelude.{ℕ, ◌+◌, Bool, ◌&&◌, List, [], map, get_or, set, replicate, ltb}
use Rattle.scope.specs.Choice.{pick}

abbrev pub Grid : Type 0
Grid = List (List ℕ)

abbrev pub no_grants : List ℕ
no_grants = replicate 16 0

abbrev pub cleared : Grid
cleared = replicate 32 no_grants

-- the grants to task slot t from semaphore slot i; 0 outside the grid
abbrev pub cell : Grid → ℕ → ℕ → ℕ
cell g t i = get_or (get_or g t []) i 0

abbrev pub with_cell : Grid → ℕ → ℕ → ℕ → Grid
with_cell g t i n = set g t (set (get_or g t []) i n)

-- where a cell stops
abbrev pub most : ℕ
most = 65535

-- "the smaller of 65,535 and the grants"
unfoldable pub stopped : ℕ → ℕ
stopped n = pick (ltb n most) n most

-- both slots are in their tables; a change outside them is none
unfoldable pub inside : ℕ → ℕ → Bool
inside t i = ltb t 32 && ltb i 16

-- one grant more, "stopping at 65,535"
unfoldable pub granted : Grid → ℕ → ℕ → Grid
granted g t i = pick (inside t i && ltb (cell g t i) most) (with_cell g t i (cell g t i + 1)) g

-- "Creating a task clears its row, a semaphore its column."
unfoldable pub row_cleared : Grid → ℕ → Grid
row_cleared g t = pick (ltb t 32) (set g t no_grants) g

unfoldable pub column_cleared : Grid → ℕ → Grid
column_cleared g i = pick (ltb i 16) (map (λ (row : List ℕ). set row i 0) g) g
