-- The first part, and then the rest in rounds.
use Rattle.std.proofs.Common.{arith, ◌-◌}
use Rattle.mixing.specs.Playing.{Steps}
use Rattle.mixing.proofs.Laws.{played}
use Rattle.mixing.proofs.rounds.Goals as goal

pub returns : goal.returns
returns g c =
    let head = c.head_of-head in
    played (Steps g.F.Fn c.args.step) _ head.result c.loop-round._round (head.result.first - 0) _ _ _ _ head.ensures c.fresh_value.ensures (omega arith)
    (omega (arith, c.loop-round-test.false, c.loop-round.auto._round-end)) c.play-sum.ensures c.loop-round.invariant
