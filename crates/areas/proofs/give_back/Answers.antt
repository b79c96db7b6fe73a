use native.Mathlib.Nat.{one-mul}
use Rattle.laws.proofs.Areas.Marks.{bit_fits, back_fits}
use Rattle.areas.proofs.give_back.Goals as goal

pub overflow_sub-result : goal.overflow_sub-result
overflow_sub-result c = rw (one-mul, bit_fits _ 64 c.requires.0) (back_fits c.args.out c.args.k c.requires.1)

pub returns : goal.returns
returns c = rw (one-mul, bit_fits _ 64 c.requires.0)
