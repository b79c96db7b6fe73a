-- The records so far are played.
use Rattle.std.proofs.Common.{◌≤◌, ◌-◌}
use Rattle.mixing.specs.Playing.{Steps, Plays, ready}
use Rattle.mixing.proofs.play.Given as goal

abbrev pub invariant-loop-i : goal.invariant-loop-i
invariant-loop-i g l =
    (l.i - l.from ≤ l.to - l.from)
    × Plays (Steps g.F.Fn l.step) l.file l.from (l.i - l.from) (ready l.fn.lent.state) l.first l.lent l.sum
