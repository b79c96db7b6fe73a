-- `rules::holds_right`: by whether the queue holds anything.
use Rattle.rules.proofs.Laws.{holds_none, holds_some}
use Rattle.rules.proofs.holds_right.Goals as goal

pub returns-then-held-eq0 : goal.returns-then-held-eq0
returns-then-held-eq0 c = holds_none _ _ _ c.if-held-eq0.true

pub returns : goal.returns
returns c = rw c.waiters.ensures (holds_some _ _ _ c.if-held-eq0.false)
