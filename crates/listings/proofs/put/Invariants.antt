-- The parts so far stand one behind the other (proofs/Parts.antt).
use Rattle.scripts.specs.Place.{point_at}
use Rattle.listings.proofs.Parts.{Copied}
use Rattle.listings.proofs.put.Given as goal

abbrev pub invariant-loop-place : goal.invariant-loop-place
invariant-loop-place l =
    Copied l.script.bytes.now (point_at l.initial.state l.initial.place) l.initial.part l.initial.out l.part l.out (point_at l.state l.place) l.end

abbrev pub decreases-loop-place : goal.decreases-loop-place
decreases-loop-place l = l.place.left
