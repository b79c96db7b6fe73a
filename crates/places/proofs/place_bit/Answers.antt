-- `places::place_bit`: a bit below 64 is in the word.
use native.Mathlib.Omega.{arith}
use native.Mathlib.Nat.{one-mul, mod-lt}
use Rattle.laws.proofs.Bits.{bit_fits}
use Rattle.places.proofs.place_bit.Goals as goal

pub returns : goal.returns
returns c = rw (one-mul, c.from.ensures, bit_fits _ 64 (mod-lt c.args.x (omega arith)))
