use borrow.Author.Rules.{rules, Fits-under}
use mir.Syntax.{w64}
use native.Mathlib.Nat.{one-mul}
use Rattle.laws.proofs.Areas.Marks.{bit_fits, take_fits}
use Rattle.areas.proofs.take.Goals as goal

pub overflow_add-result : goal.overflow_add-result
overflow_add-result c =
    rw (one-mul, bit_fits _ 64 c.requires.0) (Fits-under w64 _ _ (take_fits c.args.out c.args.k 64 c.requires.1 c.requires.0 (search rules)) tt)

pub returns : goal.returns
returns c = rw (one-mul, bit_fits _ 64 c.requires.0)
