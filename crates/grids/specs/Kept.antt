-- The grid that is kept beside a history: by its turns, and by its calls and states. And the list of records that tells the same grants.
-- Assumes nothing.
use Rattle.std.specs.Prelude.{ℕ, zero, suc, List, [], ◌∷◌}
use Rattle.scope.specs.declared.State.{State}
use Rattle.scope.specs.Identifiers.{slot_of}
use Rattle.scope.specs.Views.{running_task}
use Rattle.scope.specs.Replies.{reply_of}
use Rattle.histories.specs.History.{Event, answer_to}
use Rattle.books.specs.Past.{Turn, value, running_in}
use Rattle.grid.specs.declared.Grant.{Grant}
use Rattle.grid.specs.Grid.{Grid, cleared}
use Rattle.grid.specs.Keeping.{kept}
use Rattle.grids.specs.Grants.{Given}

-- the grid after one turn, `caller` being the task that ran before it
abbrev pub kept_by : Grid → ℕ → Turn → Grid
kept_by g caller x = kept g caller x.event.call x.event.a x.reply.status (value x) x.reply.wakes

-- cleared n turns ago, and kept since
abbrev pub grid_since : ℕ → List Turn → Grid
grid_since zero past = cleared
grid_since (suc n) [] = cleared
grid_since (suc n) (x ∷ past) = kept_by (grid_since n past) (running_in past) x

-- the grid g kept from state s on, by the call, its answer and the state before
abbrev pub kept_from : Grid → State → List Event → Grid
kept_from g s [] = g
kept_from g s (x ∷ xs) =
    kept_from (kept_by g (running_task s) (record { event = x; reply = reply_of (answer_to s x) })) (answer_to s x).state xs

-- "grant records, one task slot and one semaphore slot each"
abbrev pub records_of : List Given → List Grant
records_of [] = []
records_of (x ∷ xs) = record { task = slot_of x.task; semaphore = slot_of x.semaphore } ∷ records_of xs
