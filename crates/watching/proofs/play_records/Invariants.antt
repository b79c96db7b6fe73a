-- What is still to be played leads to the script's end and to its grid (specs/Watched.antt, `Going`).
use Rattle.std.proofs.Common.{◌+◌, ◌-◌, ◌*◌}
use Rattle.watching.specs.Watched.{Going}
use Rattle.watching.proofs.play_records.Given as goal

abbrev pub invariant-loop-k : goal.invariant-loop-k
invariant-loop-k l = Going l.script.bytes.now l.s (l.first.left - l.k) (l.first.at + 28 * l.k) l.g
