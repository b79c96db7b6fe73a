-- The wakes of the tasks before this one are written.
use Rattle.std.proofs.Common.{ℕ, ◌+◌, ◌*◌, ◌≤◌}
use Rattle.scope.specs.Replies.{wakes_from}
use Rattle.scope.specs.Listing.{wake_fields}
use Rattle.text.specs.Writers.{Wrote}
use Rattle.text.proofs.Writer.wakes.Given as goal

abbrev pub invariant-loop-task : goal.invariant-loop-task
invariant-loop-task l =
    Wrote l.fn.self l.self (wake_fields (wakes_from l.task-index 0 l.tasks l.why)) × l.self.at ≤ l.fn.self.at + 22 * l.task-index
