-- `stepping::write`: 26 for a bad state, then 31 where there is no room, and else the image copied over the front of the slice.
use Rattle.replies.proofs.Laws.{bad_unwritten, no_room, state_written}
use Rattle.stepping.proofs.write.Goals as goal

pub returns-then-out-lt-SIZE : goal.returns-then-out-lt-SIZE
returns-then-out-lt-SIZE c = no_room _ _ c.image_of-good.ensures.0 c.if-good.true c.if-out-lt-SIZE.true

pub returns-then-good : goal.returns-then-good
returns-then-good c = state_written _ _ _ c.image_of-good.ensures.0 c.if-good.true c.if-out-lt-SIZE.false c.image_of-good.ensures.1 c.put_front.ensures

pub returns : goal.returns
returns c = rw c.number.ensures (bad_unwritten _ _ c.image_of-good.ensures.0 c.if-good.false)
