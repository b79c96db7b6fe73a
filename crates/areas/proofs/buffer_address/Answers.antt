-- `areas::buffer_address`: no product of a buffer's number and a size comes near the end of a u64.
use native.Mathlib.Omega.{arith}
use Rattle.scope.specs.Areas.{buffer_address}
use Rattle.laws.proofs.Areas.Sizes.{far}
use Rattle.areas.proofs.buffer_address.Goals as goal

pub overflow_mul-result : goal.overflow_mul-result
overflow_mul-result c = omega (arith, far c.from-2.result c.from-3.result (omega arith) (omega arith))

pub overflow_add-result : goal.overflow_add-result
overflow_add-result c = omega (arith, far c.from-2.result c.from-3.result (omega arith) (omega arith))

pub returns : goal.returns
unfolding buffer_address
returns c = rw (c.from.ensures, c.from-2.ensures, c.from-3.ensures)
