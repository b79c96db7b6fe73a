-- No slot passed is live and so named.
use Rattle.std.proofs.Common.{ℕ, ◌≡◌, ◌<◌, false}
use Rattle.scope.specs.Identifiers.{named}
use Rattle.tables.proofs.Columns.by_name.Given as goal

abbrev pub invariant-loop-k : goal.invariant-loop-k
invariant-loop-k l = (j : ℕ) → j < l.k → named l.self.live.now l.self.name.now l.x j ≡ false
