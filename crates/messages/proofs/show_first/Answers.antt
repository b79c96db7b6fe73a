-- `messages::show_first`: the first cell's bytes and its length are read where they lie.
use Rattle.std.proofs.Common.{◌≡◌, ℕ, ◌+◌, ◌-◌, ◌*◌, take, drop, ap, ◌∙◌, arith}
use Rattle.messages.proofs.Cells.{first_shown_lem, first_length_lem}
use Rattle.messages.proofs.show_first.Goals as goal

pub returns : goal.returns
returns c =
    let u = c.args.queues.now in
    let at = c.args.i * 1040 in
    let e : at + 65 - (at + 1) ≡ 64 = omega arith in
    record {
      shown_after = c.copy_from_slice.ensures.after ∙ ap (λ (n : ℕ). take n (drop (at + 1) u.cells)) e ∙ first_shown_lem u.cells c.args.i;
      value = first_length_lem u.cells c.args.i;
    }
