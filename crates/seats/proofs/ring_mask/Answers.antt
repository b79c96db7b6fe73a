-- `seats::ring_mask`: one ring more.
use Rattle.std.proofs.Common.{◌≡◌, ℕ, ◌+◌, ◌^◌, ◌≤◌, refl, ap, ◌∙◌, add-one, arith, pow_mono, rules}
use Rattle.laws.proofs.Bits.{bits-lt}
use Rattle.scope.specs.Choice.{bits}
use Rattle.scope.specs.Seats.{holds_task, ring_mask}
use Rattle.seats.proofs.ring_mask.Goals as goal

pub loop-p-init : goal.loop-p-init
unfolding bits
loop-p-init c = refl

pub loop-p-preserved : goal.loop-p-preserved
unfolding bits
loop-p-preserved c = rw (add-one, c.loop-p.invariant, c.ring_bit-mask.ensures)

pub overflow_add-mask : goal.overflow_add-mask
overflow_add-mask c =
    let q = c.args.q.now in
    let p = c.loop-p.p in
    let small : p + 1 ≤ 16 = search rules in
    let top : 2 ^ (p + 1) ≤ 2 ^ 16 = pow_mono {j = 16} small in
    omega (arith, ap (λ (x : ℕ). x) (loop-p-preserved c), bits-lt (holds_task q) (p + 1), top)

pub returns : goal.returns
unfolding ring_mask
returns c =
    let e : c.loop-p.p ≡ 16 = search rules in
    c.loop-p.invariant ∙ ap (bits (holds_task c.args.q.now)) e
