-- `seats::make_room`: the loop maps the seats in place by `raise`.
use Rattle.std.proofs.Common.{◌+◌, rules}
use Rattle.laws.proofs.Arrays.{changing_start, changing_more, mapping_done}
use Rattle.scope.specs.Seats.{raise}
use Rattle.seats.proofs.make_room.Goals as goal

pub loop-y-init : goal.loop-y-init
loop-y-init c = changing_start 32 (λ j. raise c.args.x (c.args.x + c.args.reach)) c.args.q (search rules)

pub loop-y-preserved : goal.loop-y-preserved
loop-y-preserved c = changing_more 32 (λ j. raise c.args.x (c.args.x + c.args.reach)) c.args.q c.loop-y.y-items c.loop-y.y-index _ (search rules) c.raised.ensures c.loop-y.invariant

pub returns : goal.returns
returns c = mapping_done 32 (raise c.args.x (c.args.x + c.args.reach)) c.args.q c.loop-y.y-items c.loop-y.y-index (search rules) c.loop-y.invariant
