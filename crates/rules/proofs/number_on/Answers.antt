-- `rules::number_on`: before each turn the loop holds how many of the tasks passed are on the seat.
use native.Mathlib.Omega.{arith}
use mathlib.Core.Path.{◌∙◌}
use borrow.Author.Rules.{rules}
use Rattle.rules.proofs.Laws.{one_if, counting_start, counting_more, counting_le, counting_done}
use Rattle.rules.proofs.number_on.Goals as goal

pub loop-y-init : goal.loop-y-init
loop-y-init c = counting_start _ _

pub overflow_add-n : goal.overflow_add-n
overflow_add-n c = omega (arith, counting_le (counting_more c.loop-y.invariant (search rules) (c.from-n.ensures ∙ one_if _)))

pub loop-y-preserved : goal.loop-y-preserved
loop-y-preserved c = counting_more c.loop-y.invariant (search rules) (c.from-n.ensures ∙ one_if _)

pub returns : goal.returns
returns c = counting_done c.loop-y.invariant (search rules)
