-- `ticks::wake_due`: to wake those of the other 32 - t tasks that were due gives what the whole gives.
use Rattle.std.proofs.Common.{◌≡◌, ◌≤◌, ◌-◌}
use Rattle.answers.specs.Columns.{waking_from}
use Rattle.scope.specs.Ticks.{wake_due}
use Rattle.ticks.proofs.wake_due.Given as goal

abbrev pub invariant-loop-t : goal.invariant-loop-t
invariant-loop-t l =
    (l.woken ≤ l.t)
    × (wake_due l.tasks (record l.fn.line { left = l.left; seat = l.seat }) (32 - l.t) l.t (waking_from l.line l.wakes l.woken)
    ≡ wake_due l.fn.tasks (record l.fn.line { left = l.fn.left; seat = l.fn.seat }) 32 0 (waking_from l.fn.line l.fn.wakes 0))
