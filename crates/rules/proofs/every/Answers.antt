-- `rules::every`: the test of all numbers passed.
use borrow.Author.Rules.{rules}
use Rattle.rules.proofs.Laws.{testing_start, testing_more, testing_done}
use Rattle.rules.proofs.every.Goals as goal

pub loop-i-init : goal.loop-i-init
loop-i-init g c = λ passes same. testing_start _ _

pub loop-i-preserved : goal.loop-i-preserved
loop-i-preserved g c = λ passes same. testing_more (c.loop-i.invariant passes same) (search rules) (same _ _ (search rules) c.right-ok.ensures)

pub returns : goal.returns
returns g c = λ passes same. testing_done (c.loop-i.invariant passes same) (search rules)
