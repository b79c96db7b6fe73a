-- `fresh::fresh_line`: the first task on the first seat of its priority, and that ring's bit alone in the mask.
use native.Mathlib.Nat.{one-mul}
use Rattle.laws.proofs.Bits.{bit_fits}
use Rattle.fresh.proofs.fresh_line.Goals as goal

pub returns : goal.returns
returns c = rw (c.from.ensures, c.from-2.ensures, one-mul, bit_fits _ 16 c.requires)
