-- M-100, "messages held": what the eight queues hold. A queue has 16 cells ("most messages (1 to 16)"), and a cell is 65 bytes: the
-- length of a message and then its bytes ("longest message (1 to 64)"), "bytes past it are 0". `held` says how many messages each
-- queue holds; they lie in its first cells, in order, and the cells behind them are zeros. `cells` is the list of all queues' bytes,
-- 1,040 a queue; `row` is one queue's.
-- Assumes nothing.
use Rattle.std.specs.Prelude.{ℕ, zero, suc, ◌+◌, ◌-◌, ◌*◌, Bool, true, ◌&&◌, List, [], ◌∷◌, ◌++◌, map, get_or, set, take, drop, replicate, ltb, leb, eqb}
use Rattle.scope.specs.Choice.{pick, every}

-- the first n bytes of a message lent; "bytes past it are 0"
unfoldable pub shown_of : List ℕ → ℕ → List ℕ
shown_of message n = take n message ++ replicate (64 - n) 0

-- its cell, and a cell without a message
unfoldable pub cell_of : List ℕ → ℕ → List ℕ
cell_of message n = n ∷ shown_of message n

abbrev pub no_cell : List ℕ
no_cell = replicate 65 0

-- the row of queue i
unfoldable pub cells_of : List ℕ → ℕ → List ℕ
cells_of cells i = take 1040 (drop (i * 1040) cells)

-- the cells of all queues with another row of queue i
unfoldable pub with_cells : List ℕ → ℕ → List ℕ → List ℕ
with_cells cells i row = take (i * 1040) cells ++ (row ++ drop (i * 1040 + 1040) cells)

-- In the row of a queue that holds h messages:
-- a message goes "to the end"
unfoldable pub at_end : List ℕ → ℕ → List ℕ → List ℕ
at_end row h cell = take (h * 65) row ++ (cell ++ drop (h * 65 + 65) row)

-- "jump puts it in front": those held go up by a cell
unfoldable pub in_front : List ℕ → ℕ → List ℕ → List ℕ
in_front row h cell = cell ++ (take (h * 65) row ++ drop (h * 65 + 65) row)

-- the first is gone: those behind it come down by a cell, and a cell without a message is behind them
unfoldable pub first_gone : List ℕ → ℕ → List ℕ
first_gone row h = drop 65 (take (h * 65) row) ++ (no_cell ++ drop (h * 65) row)

-- what a receive shows: the first cell's length, and its bytes
abbrev pub first_length : List ℕ → ℕ
first_length row = get_or row 0 0

unfoldable pub first_shown : List ℕ → List ℕ
first_shown row = take 64 (drop 1 row)

-- the view: the first h cells of a row, the message in a cell, and the messages of a queue that holds h, first one first
unfoldable pub cells_in : List ℕ → ℕ → List (List ℕ)
cells_in row zero = []
cells_in row (suc h) = take 65 row ∷ cells_in (drop 65 row) h

unfoldable pub message_in : List ℕ → List ℕ
message_in cell = take (get_or cell 0 0) (drop 1 cell)

unfoldable pub messages_in : List ℕ → ℕ → List (List ℕ)
messages_in row h = map message_in (cells_in row h)

-- all queues: their cells, and how many messages each holds
pub record Store : Type 0 where
  pub cells : List ℕ
  pub held : List ℕ

abbrev pub store : List ℕ → List ℕ → Store
store cells held = record { cells = cells; held = held }

abbrev pub held_in : Store → ℕ → ℕ
held_in s i = get_or s.held i 0

abbrev pub row_in : Store → ℕ → List ℕ
row_in s i = cells_of s.cells i

unfoldable pub messages_of : Store → ℕ → List (List ℕ)
messages_of s i = messages_in (row_in s i) (held_in s i)

-- queue i has another row, and holds h
abbrev pub with_queue : Store → ℕ → List ℕ → ℕ → Store
with_queue s i row h = store (with_cells s.cells i row) (set s.held i h)

-- The verbs on queue i. Where no rule is broken and the call is right the number held is one that they ask for; elsewhere they leave
-- the store as it is.
unfoldable pub appended : Store → ℕ → List ℕ → Store
appended s i cell = pick (ltb (held_in s i) 16) (with_queue s i (at_end (row_in s i) (held_in s i) cell) (held_in s i + 1)) s

unfoldable pub pushed : Store → ℕ → List ℕ → Store
pushed s i cell = pick (ltb (held_in s i) 16) (with_queue s i (in_front (row_in s i) (held_in s i) cell) (held_in s i + 1)) s

unfoldable pub taken : Store → ℕ → Store
taken s i = pick (ltb 0 (held_in s i) && leb (held_in s i) 16) (with_queue s i (first_gone (row_in s i) (held_in s i)) (held_in s i - 1)) s

-- "Delete drops what is held"
unfoldable pub cleared : Store → ℕ → Store
cleared s i = with_queue s i (replicate 1040 0) 0

-- The one form of what a queue holds.
unfoldable pub is_zeros : List ℕ → Bool
is_zeros [] = true
is_zeros (x ∷ xs) = eqb x 0 && is_zeros xs

-- cell k of a row
unfoldable pub cell_at : List ℕ → ℕ → List ℕ
cell_at row k = take 65 (drop (k * 65) row)

-- a cell holds a message of at most `longest` bytes, and bytes past it are 0
unfoldable pub cell_right : ℕ → List ℕ → Bool
cell_right longest cell = leb (get_or cell 0 0) longest && is_zeros (drop (get_or cell 0 0 + 1) cell)

-- h cells do, and those behind are zeros
unfoldable pub row_right : List ℕ → ℕ → ℕ → Bool
row_right row h longest = leb h 16 && (every (λ k. cell_right longest (cell_at row k)) h && is_zeros (drop (h * 65) row))

-- every queue is in its one form: M-100, "any other only what sends can leave". Queue i's longest message is at 2 × i + 1 of `limits`.
unfoldable pub store_right : Store → List ℕ → Bool
store_right s limits = every (λ i. row_right (row_in s i) (held_in s i) (get_or limits (2 * i + 1) 0)) 8
