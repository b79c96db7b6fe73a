-- No slot of an earlier look is usable.
use Rattle.std.proofs.Common.{ℕ, ◌≡◌, ◌<◌, false, length}
use Rattle.scope.specs.Identifiers.{usable}
use Rattle.tables.proofs.Columns.lowest_usable.Given as goal

abbrev pub invariant-loop-base : goal.invariant-loop-base
invariant-loop-base l = (j : ℕ) → j < l.base → j < length l.self.serial.now → usable l.self.serial.now l.self.live.now j ≡ false
