-- `replies::put_answer`: the three columns, put one after the other over as many bytes, are the answer's.
use mathlib.Core.Path.{refl}
use Rattle.image.proofs.Calls.{put_after}
use Rattle.replies.proofs.Laws.{answer_put}
use borrow.Author.Rules.{rules}
use Rattle.replies.proofs.put_answer.Goals as goal

pub returns : goal.returns
returns c = answer_put _ _ _ _ _ _ _ (search rules) (put_after 4 4 11 0 _ _ c.put_column.ensures (search rules) refl)
    (put_after 4 4 32 44 _ _ c.put_column-2.ensures (search rules) refl) c.put_rows.ensures
