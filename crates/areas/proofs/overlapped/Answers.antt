-- `areas::overlapped`: the first that does, or none.
use Rattle.std.proofs.Common.{◌≡◌, ◌≤◌, arith, sym, ◌∙◌, rules, below_more}
use Rattle.scope.specs.Choice.{least}
use Rattle.laws.proofs.Searches.{least_hit, least_none}
use Rattle.scope.specs.Pools.{overlaps, overlapped}
use Rattle.areas.proofs.overlapped.Goals as goal

pub returns-then-overlaps : goal.returns-then-overlaps
unfolding overlapped
returns-then-overlaps c =
    (search rules, least_hit (overlaps c.args.pools.now c.args.address c.args.length) (search rules) c.loop-k.invariant (sym c.overlaps.ensures ∙ c.if-overlaps.true))

pub loop-k-preserved : goal.loop-k-preserved
loop-k-preserved c = below_more _ _ c.loop-k.invariant (sym c.overlaps.ensures ∙ c.if-overlaps.false)

pub returns : goal.returns
unfolding overlapped
returns c =
    let all : 8 ≤ c.loop-k.k = search rules in
    let e : 8 ≡ least (overlaps c.args.pools.now c.args.address c.args.length) 8 =
    least_none (overlaps c.args.pools.now c.args.address c.args.length) (omega arith) (omega arith) (λ j h. c.loop-k.invariant j (omega arith)) in
    omega (arith, e)
