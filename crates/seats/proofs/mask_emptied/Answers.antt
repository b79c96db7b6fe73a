-- `seats::mask_emptied`: the test is that of `mask_emptied`; no mask has a bit past the sixteenth.
use Rattle.std.proofs.Common.{sym, refl, ◌∙◌, one-mul, rules}
use Rattle.laws.proofs.Branches.{pick_yes, pick_no}
use Rattle.laws.proofs.Bits.{bit_fits, word_past}
use Rattle.scope.specs.Areas.{is_out}
use Rattle.scope.specs.Seats.{mask_emptied}
use Rattle.scope.proofs.Marks.{back_fits}
use Rattle.seats.proofs.mask_emptied.Goals as goal

pub returns-then-p-ge16 : goal.returns-then-p-ge16
unfolding mask_emptied
returns-then-p-ge16 c = pick_no _ _ _ (word_past c.args.mask 16 c.args.p (search rules) c.if-p-ge16.true) refl

pub overflow_sub-result : goal.overflow_sub-result
unfolding is_out
overflow_sub-result c =
    let a = c.args in
    rw (c.from-k.ensures, one-mul, bit_fits _ 16 c.if-p-ge16.false) (back_fits a.mask a.p (sym (rw c.from-k.ensures at c.has_bit.ensures) ∙ c.if-has_bit.true))

pub returns-then-has_bit : goal.returns-then-has_bit
unfolding mask_emptied
returns-then-has_bit c =
    rw (c.from-k.ensures, one-mul, bit_fits _ 16 c.if-p-ge16.false) (pick_yes _ _ _ (sym (rw c.from-k.ensures at c.has_bit.ensures) ∙ c.if-has_bit.true) refl)

pub returns : goal.returns
unfolding mask_emptied
returns c = pick_no _ _ _ (sym (rw c.from-k.ensures at c.has_bit.ensures) ∙ c.if-has_bit.false) refl
