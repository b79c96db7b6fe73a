-- `waiting::wake_all`: waking at most 32 - n more of them gives what waking all gives.
use Rattle.std.proofs.Common.{◌≡◌, ◌-◌}
use Rattle.answers.specs.Columns.{waking_from}
use Rattle.scope.specs.Waiting.{wake_all}
use Rattle.waiting.proofs.wake_all.Given as goal

abbrev pub invariant-loop-n : goal.invariant-loop-n
invariant-loop-n l =
    wake_all l.tasks l.i (32 - l.n) (waking_from l.line l.wakes l.n) ≡ wake_all l.fn.tasks l.fn.i 32 (waking_from l.fn.line l.fn.wakes 0)
