-- `ticks::take_one`: the time_outs passed are changed in place, and those of them that had one left are counted.
use Rattle.std.proofs.Common.{◌≡◌, ◌≤◌, take, count_by, nat_eq}
use Rattle.laws.proofs.Arrays.{Changing}
use Rattle.scope.specs.Ticks.{time_left}
use Rattle.ticks.proofs.take_one.Given as goal

abbrev pub invariant-loop-x : goal.invariant-loop-x
invariant-loop-x l =
    Changing 32 (λ j. time_left) l.fn.left l.x-items l.x-index
    × (l.last ≡ count_by (λ n. nat_eq n 1) (take l.x-index l.fn.left))
    × (l.last ≤ l.x-index)
