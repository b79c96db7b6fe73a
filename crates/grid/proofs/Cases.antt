-- Either side of the grid's edges, each computed: the last slots of both tables and those behind them, a good record before a bad one, and
-- the cell that stops.
-- Assumes nothing.
use mathlib.Core.Path.{◌≡◌, refl}
use mathlib.Core.List.{[], ◌∷◌}
use Prim.Native.Nat.{ℕ}
use Rattle.scope.specs.Choice.{pick}
use Rattle.scope.specs.Statuses.{OK}
use Rattle.grid.specs.declared.Grant.{Grant}
use Rattle.grid.specs.Grid.{cleared, cell, stopped, inside, granted, with_cell}
use Rattle.grid.specs.Filling.{BAD_RECORD, fill_status, filled}

abbrev named : ℕ → ℕ → Grant
named t i = record { task = t; semaphore = i }

pub last_slots : fill_status (named 31 15 ∷ []) ≡ OK
unfolding pick inside
last_slots = refl

pub task_32 : fill_status (named 31 15 ∷ named 32 0 ∷ []) ≡ BAD_RECORD
unfolding pick inside
task_32 = refl

pub semaphore_16 : fill_status (named 31 15 ∷ named 0 16 ∷ []) ≡ BAD_RECORD
unfolding pick inside
semaphore_16 = refl

-- "the grid left as given", though the first record is good
pub nothing_counted : filled (named 31 15 ∷ named 32 0 ∷ []) cleared ≡ cleared
unfolding filled pick inside
nothing_counted = refl

pub twice_counted : cell (filled (named 31 15 ∷ named 31 15 ∷ []) cleared) 31 15 ≡ 2
unfolding filled pick inside granted
twice_counted = refl

-- "stopping at 65,535"
pub the_last_counts : cell (granted (with_cell cleared 31 15 65534) 31 15) 31 15 ≡ 65535
unfolding pick inside granted
the_last_counts = refl

pub no_more_counts : cell (granted (with_cell cleared 31 15 65535) 31 15) 31 15 ≡ 65535
unfolding pick inside granted
no_more_counts = refl

pub stopped_there : stopped 65536 ≡ 65535
unfolding pick stopped
stopped_there = refl
