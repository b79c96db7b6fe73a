-- Each part is played from a point within the script, into the same room; the records left grow fewer.
use Rattle.std.proofs.Common.{◌≤◌, length}
use Rattle.text.specs.Lines.{longest_line}
use Rattle.scripts.specs.Place.{point_at, Playing}
use Rattle.play.proofs.write_listing.Given as goal

abbrev pub invariant-loop-place : goal.invariant-loop-place
invariant-loop-place g l = Playing l.script.bytes.now (point_at l.state l.place) × longest_line ≤ length l.out

abbrev pub decreases-loop-place : goal.decreases-loop-place
decreases-loop-place g l = l.place.left
