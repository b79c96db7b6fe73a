-- `stepping::step`: 32 where the bytes are too few; else the step through the front of them, which is copied back unless it is refused.
use Rattle.replies.proofs.Laws.{own-length, short_step, kept_step, copied_step}
use Rattle.stepping.proofs.step.Goals as goal

pub returns-then-image-lt-SIZE : goal.returns-then-image-lt-SIZE
returns-then-image-lt-SIZE c = short_step _ _ _ _ _ _ _ _ _ c.if-image-lt-SIZE.true c.refuse.ensures.0 c.refuse.ensures.1

pub step_own-status-requires : goal.step_own-status-requires
step_own-status-requires c = own-length c.args.image.now _ c.if-image-lt-SIZE.false c.front-own.ensures

pub returns-then-status-gt1 : goal.returns-then-status-gt1
returns-then-status-gt1 c = kept_step _ _ _ _ _ _ _ _ _ _ c.if-image-lt-SIZE.false c.front-own.ensures _ _ _ c.step_own-status.ensures c.if-status-gt1.true

pub returns : goal.returns
returns c = copied_step _ _ _ _ _ _ _ _ _ _ c.if-image-lt-SIZE.false c.front-own.ensures _ _ _ c.step_own-status.ensures _ c.if-status-gt1.false c.put_front.ensures
