-- `seats::ahead`: the loop leaves the seats of those whose key is great enough and makes the others 0, and the last of those is `ahead_of`.
use Rattle.std.proofs.Common.{leb, get_or}
use Rattle.laws.proofs.Arrays.{Changing}
use Rattle.scope.specs.Choice.{pick}
use Rattle.seats.proofs.ahead.Given as goal

abbrev pub invariant-loop-k : goal.invariant-loop-k
invariant-loop-k l = Changing 32 (λ j y. pick (leb l.p (get_or l.key j 0)) y 0) l.fn.q l.seats l.k
