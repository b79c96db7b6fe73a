-- `seats::ring_bit`: the seat asked for is the ring's first, and a bit below the sixteenth is there.
use Rattle.std.proofs.Common.{◌≡◌, ℕ, ◌+◌, ◌*◌, ltb, sym, refl, ap, ◌∙◌, one-mul, arith}
use Rattle.laws.proofs.Branches.{pick_yes, pick_no}
use Rattle.laws.proofs.Bits.{bit_fits}
use Rattle.scope.specs.Seats.{on_seat, ring_seats, holds_task}
use Rattle.seats.proofs.ring_bit.Goals as goal

pub returns-then-is_taken : goal.returns-then-is_taken
unfolding holds_task
returns-then-is_taken c =
    let a = c.args in
    let first : ring_seats a.p + 1 ≡ a.p * 64 + 2049 = omega arith in
    rw (one-mul, bit_fits _ 16 c.requires)
    (pick_yes _ _ _ (ap (λ (y : ℕ). ltb (on_seat a.q.now y) 32) first ∙ sym c.is_taken.ensures ∙ c.if-is_taken.true) refl)

pub returns : goal.returns
unfolding holds_task
returns c =
    let a = c.args in
    let first : ring_seats a.p + 1 ≡ a.p * 64 + 2049 = omega arith in
    pick_no _ _ _ (ap (λ (y : ℕ). ltb (on_seat a.q.now y) 32) first ∙ sym c.is_taken.ensures ∙ c.if-is_taken.false) refl
