-- A row of the code's table is a call's row of the paper's table: who may call, and its list of statuses turned into a set of bits.
-- Assumes nothing.
use Rattle.std.specs.Prelude.{ℕ, ◌+◌, ◌^◌, Bool, true, false, List, [], ◌∷◌, eqb}
use Rattle.scope.specs.Choice.{pick}
use Rattle.scope.specs.Calls.{call_at}

-- a list of statuses, none of them twice, as a set of bits: bit s for status s
abbrev pub set_of : List ℕ → ℕ
set_of [] = 0
set_of (s ∷ ss) = 2 ^ s + set_of ss

-- the statuses of a call's row
abbrev pub set_at : ℕ → ℕ
set_at call = set_of (call_at call).statuses

-- the status stands in the list
abbrev pub in_statuses : ℕ → List ℕ → Bool
in_statuses s [] = false
in_statuses s (x ∷ xs) = pick (eqb s x) true (in_statuses s xs)

-- "which statuses can come back"
unfoldable pub may_give : ℕ → ℕ → Bool
may_give call status = in_statuses status (call_at call).statuses
