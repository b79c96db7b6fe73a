-- `rows::may_give` meets its contract: the row's bit says whether the status stands in the call's list.
use borrow.Author.Rules.{rules}
use Rattle.rows.proofs.Sets.{set_right}
use Rattle.rows.proofs.may_give.Goals as goal

pub returns : goal.returns
returns c = rw c.may_of.ensures (set_right _ _ (search rules) (search rules))
