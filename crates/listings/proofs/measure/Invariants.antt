-- The parts so far are counted (proofs/Parts.antt).
use Rattle.scripts.specs.Place.{point_at}
use Rattle.listings.proofs.Parts.{Counted}
use Rattle.listings.proofs.measure.Given as goal

abbrev pub invariant-loop-place : goal.invariant-loop-place
invariant-loop-place l =
    Counted l.script.bytes.now (point_at l.initial.state l.initial.place) l.initial.part l.part (point_at l.state l.place) l.length

abbrev pub decreases-loop-place : goal.decreases-loop-place
decreases-loop-place l = l.place.left
