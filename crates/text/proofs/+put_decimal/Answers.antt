-- The digits before the last two are two fewer, so there is room for both texts; one behind the other, they are the number's digits.
use native.Mathlib.Omega.{arith}
use mathlib.Core.Path.{ap}
use mathlib.Core.List.{append_assoc}
use Prim.Native.Nat.{◌/◌}
use lib.ListN.{length, take, length-append}
use Rattle.scope.specs.Listing.{decimal}
use Rattle.text.specs.Lines.{last_two}
use borrow.Author.Rules.{rules}
use Rattle.text.proofs.Laws.{decimal_small, decimal_two, decimal_hundreds, two_length, hundreds_length, one_sign}
use Rattle.text.proofs.+put_decimal.Goals as goal

pub byte-requires : goal.byte-requires
byte-requires t c = omega (arith, ap length (decimal_small c.args.n c.if-n-lt10.true), c.requires)

pub returns-then-n-lt10 : goal.returns-then-n-lt10
returns-then-n-lt10 t c = rw (← one_sign c.args.n _ c.if-n-lt10.true c.last_digit.ensures) (search rules)

pub two_digits-requires : goal.two_digits-requires
two_digits-requires t c = omega (arith, two_length c.args.n (omega arith) c.if-n-lt100.true, c.requires)

pub returns-then-n-lt100 : goal.returns-then-n-lt100
returns-then-n-lt100 t c = rw (decimal_two c.args.n (omega arith) c.if-n-lt100.true) (search rules)

pub put_decimal-before-requires : goal.put_decimal-before-requires
put_decimal-before-requires t c =
    let n = c.args.n in
    (omega arith, omega (arith, hundreds_length n c.ranges.n.fits (omega arith), c.requires))

pub two_digits-requires-2 : goal.two_digits-requires-2
two_digits-requires-2 t c =
    omega (arith, hundreds_length c.args.n c.ranges.n.fits (omega arith), c.put_decimal-before.ensures.0, c.put_decimal-before.auto.out, c.requires)

pub returns : goal.returns
returns t c =
    let n = c.args.n in
    let p = c.put_decimal-before.ensures in
    let q = c.two_digits-2.ensures in
    rw (decimal_hundreds n c.ranges.n.fits (omega arith)) (
      rw length-append (omega (arith, p.0, q.0)),
      rw (← append_assoc (take c.args.at c.args.out.now) (decimal (n / 100)) (last_two n), ← p.1, ← q.1) (search rules),
    )
