-- `seats::mask_filled`: the tests are those of `mask_filled`, and a clear bit set leaves sixteen bits.
use Rattle.std.proofs.Common.{sym, refl, ◌∙◌, one-mul, w16, rules, le-ltb, lt-ltb}
use borrow.Author.Rules.{Fits-under}
use Rattle.laws.proofs.Branches.{pick_yes, pick_no, not_of_false}
use Rattle.laws.proofs.Bits.{bit_fits, take_fits}
use Rattle.scope.specs.Areas.{is_out, is_free}
use Rattle.scope.specs.Seats.{mask_filled}
use Rattle.seats.proofs.mask_filled.Goals as goal

pub returns-then-p-ge16 : goal.returns-then-p-ge16
unfolding mask_filled
returns-then-p-ge16 c = pick_no _ _ _ (le-ltb _ _ c.if-p-ge16.true) refl

pub returns-then-has_bit : goal.returns-then-has_bit
unfolding mask_filled
returns-then-has_bit c =
    pick_yes _ _ _ (lt-ltb _ _ c.if-p-ge16.false) (pick_yes _ _ _ (sym (rw c.from-k.ensures at c.has_bit.ensures) ∙ c.if-has_bit.true) refl)

pub overflow_add-result : goal.overflow_add-result
unfolding is_free is_out
overflow_add-result c =
    let a = c.args in
    rw (c.from-k.ensures, one-mul, bit_fits _ 16 c.if-p-ge16.false)
    (Fits-under w16 _ _
    (take_fits a.mask a.p 16 (not_of_false _ (sym (rw c.from-k.ensures at c.has_bit.ensures) ∙ c.if-has_bit.false)) c.if-p-ge16.false (search rules))
    tt)

pub returns : goal.returns
unfolding mask_filled
returns c =
    rw (c.from-k.ensures, one-mul, bit_fits _ 16 c.if-p-ge16.false)
    (pick_yes _ _ _ (lt-ltb _ _ c.if-p-ge16.false) (pick_no _ _ _ (sym (rw c.from-k.ensures at c.has_bit.ensures) ∙ c.if-has_bit.false) refl))
