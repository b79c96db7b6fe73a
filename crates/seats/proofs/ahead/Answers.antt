-- `seats::ahead`: the loop leaves the seats of those whose key is great enough and makes the others 0, and the last of those is `ahead_of`.
use Rattle.std.proofs.Common.{◌+◌, leb, get_or, rules}
use Rattle.laws.proofs.Arrays.{changing_start, changing_more}
use Rattle.scope.specs.Choice.{pick}
use Rattle.seats.proofs.Laws.{ahead_found}
use Rattle.seats.proofs.ahead.Goals as goal

pub loop-k-init : goal.loop-k-init
loop-k-init c = changing_start 32 (λ j y. pick (leb c.args.p (get_or c.args.key j 0)) y 0) c.args.q (search rules)

pub loop-k-preserved : goal.loop-k-preserved
loop-k-preserved c =
    let a = c.args in
    changing_more 32 (λ j y. pick (leb a.p (get_or a.key j 0)) y 0) a.q c.loop-k.seats c.loop-k.k _ (search rules) c.seat_ahead.ensures c.loop-k.invariant

pub returns : goal.returns
returns c =
    let a = c.args in
    ahead_found a.q a.key c.loop-k.seats a.base (a.base + 63) a.p c.loop-k.k _ (search rules) (c.hindmost.ensures a.key) c.loop-k.invariant
