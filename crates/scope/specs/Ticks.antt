-- "A tick takes one from each running time_out. Those reaching 0 are woken with 13 in ascending slot order". M-101: "a time_out runs
-- on during suspension. A suspended waiter that reaches 0 leaves its queue with 13, gives its one back, appears among the wakes, and
-- becomes ready when resumed. A time_out of n always ends at the n-th tick."
-- Assumes nothing.
use Rattle.std.specs.Prelude.{ℕ, zero, suc, ◌-◌, Bool, true, false, ◌&&◌, List, map, get_or, eqb}
use Rattle.scope.specs.declared.State.{State}
use Rattle.scope.specs.declared.Line.{Line}
use Rattle.scope.specs.declared.Tasks.{Tasks}
use Rattle.scope.specs.declared.Waking.{Waking}
use Rattle.scope.specs.declared.Answer.{Answer}
use Rattle.scope.specs.Choice.{pick}
use Rattle.scope.specs.Statuses.{TIME_OUT}
use Rattle.scope.specs.Seats.{waits_on}
use Rattle.scope.specs.Waiting.{FOREVER, wake_next, none_woken}
use Rattle.scope.specs.Answers.{wakes_with}

-- what a tick leaves of a time_out, whether its task is suspended or not: FOREVER stays. A task that does not wait has 0 left.
unfoldable pub time_left : ℕ → ℕ
time_left left = pick (eqb left FOREVER) left (left - 1)

unfoldable pub times_left : List ℕ → List ℕ
times_left left = map time_left left

-- one is taken from each running time_out
abbrev pub ticked : Line → Line
ticked l = record { left = times_left l.left; seat = l.seat; joined = l.joined; rings = l.rings }

-- "Those reaching 0": before the tick it waits, with one left of its time_out
unfoldable pub is_due : Line → ℕ → Bool
is_due l t = waits_on (get_or l.seat t 0) && eqb (get_or l.left t 0) 1

-- tasks t, t + 1, .. (n of them) are woken where they were due before the tick
unfoldable pub wake_due : Tasks → Line → ℕ → ℕ → Waking → Waking
wake_due k before zero t w = w
wake_due k before (suc n) t w =
    elim (is_due before t) [ true ↦ wake_due k before n (suc t) (wake_next k w t) | false ↦ wake_due k before n (suc t) w ]

-- one is taken from each, then those who reach 0 are woken
unfoldable pub tick : State → Answer
tick s = wakes_with s (wake_due s.tasks s.line 32 0 (none_woken (ticked s.line))) TIME_OUT
