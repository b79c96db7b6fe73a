-- How the grid is kept: by the call, the task that ran before it, and the answer. Nothing of the kernel reads the grid, so no answer
-- depends on it. A grant is a claim answered OK, to the task that ran, and "woken with OK: that is its grant", by a release.
-- Assumes nothing.
use Rattle.std.specs.Prelude.{ℕ, not, List, [], ◌∷◌, eqb}
use Rattle.scope.specs.Choice.{pick}
use Rattle.scope.specs.Statuses.{OK}
use Rattle.scope.specs.Identifiers.{slot_of}
use Rattle.scope.specs.Replies.{Wake}
use Rattle.grid.specs.Grid.{Grid, granted, row_cleared, column_cleared}

-- "If there were waiters the first leaves, woken with OK": a release from semaphore slot i with this wake list
unfoldable pub released : Grid → ℕ → List Wake → Grid
released g i [] = g
released g i (w ∷ ws) = pick (eqb w.status OK) (granted g (slot_of w.task) i) g

-- the grid after a call of task `caller` with first argument a, answered with this status, this first value and this wake list:
-- 1 is task_create, 8 sem_create, 11 sem_claim, 12 sem_release. Nothing else changes it: deleting clears nothing.
unfoldable pub kept : Grid → ℕ → ℕ → ℕ → ℕ → ℕ → List Wake → Grid
kept g caller call a status value wakes =
    pick (not (eqb status OK)) g
    (pick (eqb call 1) (row_cleared g (slot_of value))
    (pick (eqb call 8) (column_cleared g (slot_of value))
    (pick (eqb call 11) (granted g (slot_of caller) (slot_of a))
    (pick (eqb call 12) (released g (slot_of a) wakes) g))))
