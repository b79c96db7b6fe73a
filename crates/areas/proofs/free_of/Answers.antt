use native.Mathlib.Omega.{arith}
use Rattle.scope.specs.Choice.{number}
use Rattle.scope.specs.Areas.{free_of}
use Rattle.areas.proofs.Ones.{shifted_free}
use Rattle.areas.proofs.free_of.Goals as goal

pub returns-then-n-eq0 : goal.returns-then-n-eq0
unfolding free_of number
returns-then-n-eq0 c = rw c.if-n-eq0.true

pub overflow_sub-result-2 : goal.overflow_sub-result-2
overflow_sub-result-2 c = omega (arith, shifted_free c.args.out c.args.n c.requires)

pub returns : goal.returns
returns c = omega (arith, shifted_free c.args.out c.args.n c.requires)
