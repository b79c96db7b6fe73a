-- `seats::hindmost`: the loop holds the least way from a seat to the queue's last.
use Rattle.std.proofs.Common.{◌≡◌, ◌≤◌, arith, rules}
use Rattle.seats.proofs.Laws.{nearest_start, nearest_more}
use Rattle.seats.proofs.hindmost.Goals as goal

pub loop-y-init : goal.loop-y-init
loop-y-init c = nearest_start c.args.q c.args.base

pub loop-y-preserved : goal.loop-y-preserved
loop-y-preserved c = nearest_more c.args.q c.args.base c.loop-y.least c.loop-y.y-index _ _ c.way.ensures c.min-least.ensures c.loop-y.invariant

pub overflow_sub-result : goal.overflow_sub-result
overflow_sub-result c = let h : c.loop-y.least ≤ 62 = c.loop-y.invariant.0 in omega arith

pub returns : goal.returns
returns c = λ key. let e : c.loop-y.y-index ≡ 32 = search rules in rw e at (c.loop-y.invariant.1 key)
