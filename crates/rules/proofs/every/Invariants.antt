-- `rules::every`: the test of all numbers passed, by whatever says the same as the closure.
use Rattle.std.proofs.Common.{ℕ, ◌<◌, Bool, ◌≡◌}
use Rattle.rules.proofs.Laws.{Testing}
use Rattle.rules.proofs.every.Given as goal

abbrev pub invariant-loop-i : goal.invariant-loop-i
invariant-loop-i g l = (passes : ℕ → Bool) → ((k : ℕ) (answer : Bool) → k < l.n → goal.F-post g l.right k answer → answer ≡ passes k) → Testing l.n passes l.ok l.i
