-- What was read lies within the room, and each read that goes on adds to it.
use Rattle.std.proofs.Common.{◌≤◌, ◌-◌, length}
use Rattle.inputs.proofs.read_input.Given as goal

abbrev pub invariant-loop-length : goal.invariant-loop-length
invariant-loop-length g l = l.length ≤ length l.script

abbrev pub decreases-loop-length : goal.decreases-loop-length
decreases-loop-length g l = length l.script - l.length
