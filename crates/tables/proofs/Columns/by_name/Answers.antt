-- The first slot that is so named is the least; past the last there is none.
use Rattle.std.proofs.Common.{rules}
use native.Mathlib.Omega.{arith}
use Rattle.scope.specs.Identifiers.{named, by_name}
use Rattle.laws.proofs.Searches.{least_hit, least_is}
use Rattle.tables.proofs.Columns.by_name.Goals as goal

pub returns-then-unwrap_or-x : goal.returns-then-unwrap_or-x
unfolding by_name named
returns-then-unwrap_or-x c = (search rules, least_hit (named c.args.self.now.live.now c.args.self.now.name.now c.args.x) (search rules) c.loop-k.invariant (search rules))

pub returns : goal.returns
unfolding by_name
returns c =
    least_is (named c.args.self.now.live.now c.args.self.now.name.now c.args.x) _ _ (omega arith) (λ j h. c.loop-k.invariant j (omega (arith, h, c.loop-k-test.false))) (λ h. absurd (omega (arith, h)))
