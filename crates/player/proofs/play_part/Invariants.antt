-- What was written and what is still to come is what was to come (scripts' proofs/Laws.antt, `Going`), in the lent bytes.
use Rattle.std.proofs.Common.{◌≡◌}
use Rattle.scripts.specs.Place.{point_at}
use Rattle.scripts.proofs.Laws.{Going}
use Rattle.player.proofs.play_part.Given as goal

abbrev pub invariant-loop-place : goal.invariant-loop-place
invariant-loop-place l =
    Going l.script (point_at l.initial.s l.fn.p) l.initial.out.bytes.now l.out.bytes.now (point_at l.s l.place) l.out.at
    × l.out.bytes.ghost_name ≡ l.initial.out.bytes.ghost_name

abbrev pub decreases-loop-place : goal.decreases-loop-place
decreases-loop-place l = l.place.left
