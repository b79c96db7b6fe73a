-- "A cleared grid can also be filled from a lent list of grant records, one task slot and one semaphore slot each".
-- Assumes nothing.
use Rattle.std.specs.Prelude.{ℕ, ◌+◌, Bool, ◌&&◌, List, [], ◌∷◌, eqb, Result, Ok, Err}
use Rattle.scope.specs.Choice.{pick}
use Rattle.scope.specs.Statuses.{OK}
use Rattle.grid.specs.declared.Grant.{Grant}
use Rattle.grid.specs.declared.Refusal.{Refusal}
use Rattle.grid.specs.declared.Refusal.TheVariants.{BadRecord}
use Rattle.grid.specs.Grid.{Grid, inside, granted}

abbrev pub BAD_RECORD : ℕ
BAD_RECORD = 33

-- both slots are in their tables
abbrev pub within : Grant → Bool
within r = inside r.task r.semaphore

-- "33 BAD_RECORD if any slot is outside its table"
abbrev pub fill_status : List Grant → ℕ
fill_status [] = OK
fill_status (r ∷ rs) = pick (within r) (fill_status rs) BAD_RECORD

-- the status that an answer of the test tells
abbrev pub status_of : Result Unit Refusal → ℕ
status_of (Ok _) = OK
status_of (Err BadRecord) = BAD_RECORD

-- each record is a grant
abbrev pub counted_one : Grid → Grant → Grid
counted_one g r = granted g r.task r.semaphore

abbrev pub counted : List Grant → Grid → Grid
counted [] g = g
counted (r ∷ rs) g = counted rs (counted_one g r)

-- "the grid left as given"
unfoldable pub filled : List Grant → Grid → Grid
filled list g = pick (eqb (fill_status list) OK) (counted list g) g

-- how many of the records name these two slots
abbrev pub naming : ℕ → ℕ → List Grant → ℕ
naming t i [] = 0
naming t i (r ∷ rs) = pick (eqb r.task t && eqb r.semaphore i) 1 0 + naming t i rs
