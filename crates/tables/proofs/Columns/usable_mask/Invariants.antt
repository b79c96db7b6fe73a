-- The mask is that of the slots looked at so far.
use Rattle.std.proofs.Common.{◌≡◌, ◌*◌}
use Rattle.scope.specs.Identifiers.{usable}
use Rattle.tables.specs.Masks.{mask_from}
use Rattle.tables.proofs.Columns.usable_mask.Given as goal

abbrev pub invariant-loop-i : goal.invariant-loop-i
invariant-loop-i l = l.mask ≡ mask_from (usable l.self.serial.now l.self.live.now) l.base l.i * 2
