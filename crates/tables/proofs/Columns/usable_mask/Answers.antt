-- One slot more is one bit more.
use Rattle.std.proofs.Common.{rules}
use native.Mathlib.Omega.{arith}
use Rattle.scope.specs.Identifiers.{usable}
use Rattle.tables.specs.Masks.{mask_from}
use Rattle.tables.proofs.Masks.{mask_or, bit_of}
use Rattle.tables.proofs.Columns.usable_mask.Goals as goal

pub loop-i-init : goal.loop-i-init
unfolding mask_from
loop-i-init c = search rules

pub loop-i-preserved : goal.loop-i-preserved
loop-i-preserved c =
    mask_or (usable c.args.self.now.serial.now c.args.self.now.live.now) c.loop-i.i c.args.base _ _ (omega (arith, c.loop-i-test.true, c.requires.1)) c.loop-i.invariant
    (bit_of (usable c.args.self.now.serial.now c.args.self.now.live.now) _ c.is_usable.result c.from.ensures c.is_usable.ensures)
