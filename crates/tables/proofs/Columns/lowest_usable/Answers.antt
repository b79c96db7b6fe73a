-- What the trailing zeros of a look's mask name is the first usable slot there; past the last look there is none.
use Rattle.std.proofs.Common.{length}
use native.Mathlib.Omega.{arith}
use Rattle.scope.specs.Identifiers.{usable, lowest_usable}
use mathlib.Core.Path.{refl}
use Rattle.laws.proofs.Tables.{serial_left}
use Rattle.laws.proofs.Searches.{least_is}
use Rattle.tables.proofs.Masks.{zeros_some, look_hit, look_none}
use Rattle.tables.proofs.Columns.lowest_usable.Goals as goal

pub overflow_sub-result : goal.overflow_sub-result
overflow_sub-result c =
    omega (arith, zeros_some (usable c.args.self.now.serial.now c.args.self.now.live.now) _ _ _ (λ j h. c.loop-base.invariant j h (omega (arith, h, c.loop-base-test.true))) c.usable_mask-mask.ensures)

pub returns-then-mask-ne0 : goal.returns-then-mask-ne0
unfolding lowest_usable
returns-then-mask-ne0 c =
    let hit = look_hit (usable c.args.self.now.serial.now c.args.self.now.live.now) _ _ _ (λ i b. c.loop-base.invariant i b (omega (arith, b, c.loop-base-test.true))) c.usable_mask-mask.ensures (length c.args.self.now.serial.now)
    (omega (arith, c.min.ensures, c.loop-base-test.true)) (omega (arith, c.min.ensures)) c.if-mask-ne0.true in
    (hit.0, hit.1, serial_left (length c.args.self.now.serial.now) c.args.self.now.serial.now c.args.self.now.live.now refl hit.1 hit.0)

pub loop-base-preserved : goal.loop-base-preserved
loop-base-preserved c j h l =
    look_none (usable c.args.self.now.serial.now c.args.self.now.live.now) _ _ _ (λ i b. c.loop-base.invariant i b (omega (arith, b, c.loop-base-test.true))) c.usable_mask-mask.ensures c.if-mask-ne0.false
    j (omega (arith, h, l, c.min.ensures))

pub returns : goal.returns
unfolding lowest_usable
returns c =
    least_is (usable c.args.self.now.serial.now c.args.self.now.live.now) _ _ (omega arith) (λ j h. c.loop-base.invariant j (omega (arith, h, c.loop-base-test.false)) h) (λ h. absurd (omega (arith, h)))

pub returns-else-mask-ne0 : goal.returns-else-mask-ne0
unfolding lowest_usable
returns-else-mask-ne0 c =
    least_is (usable c.args.self.now.serial.now c.args.self.now.live.now) _ _ (omega arith)
    (λ j h. look_none (usable c.args.self.now.serial.now c.args.self.now.live.now) _ _ _ (λ i b. c.loop-base.invariant i b (omega (arith, b, c.loop-base-test.true))) c.usable_mask-mask.ensures c.if-mask-ne0.false
    j (omega (arith, h, c.min.ensures)))
    (λ h. absurd (omega (arith, h)))
