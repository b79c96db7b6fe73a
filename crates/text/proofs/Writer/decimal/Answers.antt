-- A number below 10 has one digit, written at once, and any number at most 10.
use native.Mathlib.Omega.{arith}
use Rattle.text.proofs.Laws.{decimal-length, one_sign, wrote_as}
use borrow.Author.Rules.{rules}
use Rattle.text.proofs.Writer.decimal.Goals as goal

pub put_decimal-self-requires : goal.put_decimal-self-requires
put_decimal-self-requires c = omega (arith, decimal-length c.args.n, c.requires)

pub returns-then-n-lt10 : goal.returns-then-n-lt10
returns-then-n-lt10 c = record {
  text = wrote_as c.args.self.now c.byte.new.self (one_sign c.args.n _ c.if-n-lt10.true c.last_digit.ensures) c.byte.ensures;
  short = search rules;
}

pub returns : goal.returns
returns c = record { text = search rules; short = omega (arith, decimal-length c.args.n, c.put_decimal-self.ensures.0) }
