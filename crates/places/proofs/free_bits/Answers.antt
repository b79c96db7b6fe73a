-- `places::free_bits`: of n marks, all but those that are set.
use native.Mathlib.Omega.{arith}
use lib.Bits.{and_mask, and_le_r}
use Rattle.places.proofs.Words.{free_and_out}
use Rattle.places.proofs.free_bits.Goals as goal

pub overflow_sub-result : goal.overflow_sub-result
overflow_sub-result c = and_le_r c.args.out c.lowest-all.result

pub returns : goal.returns
returns c =
    let a = c.args in
    rw (c.lowest-all.ensures, and_mask a.out a.n) (omega (arith, free_and_out a.out a.n))
