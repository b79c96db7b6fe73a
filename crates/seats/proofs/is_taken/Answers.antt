-- `seats::is_taken`: as long as nobody was found there, no task below the place sits on the seat; and one who was found does.
use Rattle.std.proofs.Common.{refl, rules}
use Rattle.seats.proofs.Laws.{noted_start, noted_more, noted_done}
use Rattle.seats.proofs.is_taken.Goals as goal

pub loop-y-init : goal.loop-y-init
loop-y-init c = noted_start c.args.q c.args.x

pub loop-y-preserved : goal.loop-y-preserved
loop-y-preserved c = noted_more c.args.q c.args.x _ c.loop-y.y-index c.loop-y.taken refl c.loop-y.invariant

pub returns : goal.returns
returns c = noted_done _ _ c.loop-y.y-index c.loop-y.taken (search rules) c.loop-y.invariant
