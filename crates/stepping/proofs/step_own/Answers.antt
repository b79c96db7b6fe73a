-- `stepping::step_own`: the two tests are whether the bytes are an image; then the answer is the step's, and else it is 32.
use Rattle.replies.proofs.Laws.{tested, step_refused, few_woken, step_done}
use Rattle.stepping.proofs.step_own.Goals as goal

pub numbers_of-numbers-requires : goal.numbers_of-numbers-requires
numbers_of-numbers-requires c = few_woken _ _ _ _ _ _ _ _ _ _ _ c.step_image-t.result.outcome _ c.step_image-t.ensures.1.1

pub returns-then-t-written : goal.returns-then-t-written
returns-then-t-written c =
    step_done _ _ _ _ _ _ _ _ _ _ _ c.step_image-t.result.outcome _ c.step_image-t.ensures.1.1 _ c.requires
    (tested _ c.requires c.step_image-t.ensures.0 c.is_written-written.ensures c.if-t-written.true) c.numbers_of-numbers.ensures c.put_answer.ensures c.step_image-t.ensures.1.0

pub returns : goal.returns
returns c =
    step_refused _ _ _ _ _ _ _ _ _ (tested _ c.requires c.step_image-t.ensures.0 c.is_written-written.ensures c.if-t-written.false) c.refuse.ensures.0 c.refuse.ensures.1
