-- `stepping::fresh`: 31 where there is no room; else the image of the fresh state, copied over the front of the slice.
use Rattle.replies.proofs.Laws.{fresh_full, fresh_done}
use Rattle.stepping.proofs.fresh.Goals as goal

pub returns-then-image-lt-SIZE : goal.returns-then-image-lt-SIZE
returns-then-image-lt-SIZE c = fresh_full _ _ c.if-image-lt-SIZE.true

pub returns : goal.returns
returns c = fresh_done _ _ _ c.if-image-lt-SIZE.false c.fresh_image.ensures.1 c.put_front.ensures c.fresh_status.ensures
