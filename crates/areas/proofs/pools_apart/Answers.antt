-- `areas::pools_apart`: a pair more, a row more, and the two ends.
use Rattle.std.proofs.Common.{refl, ◌∙◌, rules, below_none}
use Rattle.scope.specs.Rules.{pair_shares, pools_apart}
use Rattle.areas.proofs.Pairs.{row_start, row_more, rows_more, pairs_hit, pairs_none}
use Rattle.areas.proofs.pools_apart.Goals as goal

pub pairs-init : goal.pairs-init
pairs-init c = (refl, below_none _)

pub loop-j-init : goal.loop-j-init
loop-j-init c = (c.pairs.invariant.0, row_start (pair_shares c.args.pools.now) c.pairs.i)

pub loop-j-preserved : goal.loop-j-preserved
loop-j-preserved c =
    (c.loop-j.invariant.0, row_more (pair_shares c.args.pools.now) c.pairs.i c.loop-j.j _ (search rules) c.pair_shares.ensures c.if-pair_shares.false c.loop-j.invariant.1)

pub pairs-preserved : goal.pairs-preserved
pairs-preserved c =
    (c.loop-j.invariant.0, rows_more (pair_shares c.args.pools.now) c.pairs.i c.loop-j.j (search rules) c.loop-j.invariant.1 c.pairs.invariant.1)

pub returns-after-pairs : goal.returns-after-pairs
unfolding pools_apart
returns-after-pairs c = c.pairs.invariant.0 ∙ pairs_none (pair_shares c.args.pools.now) c.pairs.i (search rules) c.pairs.invariant.1

pub returns-then-pair_shares : goal.returns-then-pair_shares
unfolding pools_apart
returns-then-pair_shares c =
    pairs_hit (pair_shares c.args.pools.now) c.pairs.i c.loop-j.j _ (search rules) (search rules) c.pair_shares.ensures c.if-pair_shares.true
