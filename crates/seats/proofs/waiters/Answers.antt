-- `seats::waiters`: one task more looked at.
use Rattle.std.proofs.Common.{◌≡◌, ◌+◌, ◌*◌, refl, arith, rules}
use Rattle.laws.proofs.Searches.{number-le}
use Rattle.scope.specs.Choice.{number}
use Rattle.scope.specs.Seats.{stands_in, standing}
use Rattle.seats.proofs.Laws.{counted}
use Rattle.seats.proofs.waiters.Goals as goal

pub loop-y-init : goal.loop-y-init
unfolding number
loop-y-init c = refl

pub loop-y-preserved : goal.loop-y-preserved
loop-y-preserved c =
    let base = c.args.i * 64 + 64 in
    counted c.args.line.now.seat base base (base + 63) c.loop-y.n c.one_in-n.result c.loop-y.y-index refl refl c.loop-y.invariant c.one_in-n.ensures

pub overflow_add-n : goal.overflow_add-n
overflow_add-n c = omega (arith, loop-y-preserved c, number-le (stands_in c.args.line.now.seat (c.args.i * 64 + 64)) (c.loop-y.y-index + 1))

pub returns : goal.returns
unfolding standing
returns c = let e : c.loop-y.y-index ≡ 32 = search rules in rw e at c.loop-y.invariant
