-- `waiting::wake_all`: each turn wakes the first waiter, and waking at most 32 - n more of them gives what waking all gives.
use native.Mathlib.Omega.{arith}
use mathlib.Core.Path.{◌≡◌, ◌∙◌}
use borrow.Author.Rules.{rules}
use Rattle.scope.specs.Waiting.{wake_all}
use Rattle.waiting.proofs.Laws.{wake_all_more, wake_all_none}
use Rattle.waiting.proofs.wake_all.Goals as goal

pub returns-in_default : goal.returns-in_default
returns-in_default c = wake_all_none _ _ c.loop-n.n _ (search rules) c.in_default.ensures ∙ c.loop-n.invariant

pub loop-n-preserved : goal.loop-n-preserved
loop-n-preserved c = wake_all_more _ _ c.loop-n.n _ (search rules) c.in-Some.t _ c.in-Some.ensures c.wake_next.ensures ∙ c.loop-n.invariant

pub returns : goal.returns
unfolding wake_all
returns c = let e : c.loop-n.n ≡ 32 = omega arith in rw e at c.loop-n.invariant
