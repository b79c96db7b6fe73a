-- `messages::drop_first`: those behind the first come down and the last cell is wiped, or nothing.
use Prim.Native.Nat.{ℕ, ◌+◌, ◌-◌, ◌*◌}
use native.Mathlib.Omega.{arith}
use mathlib.Core.Path.{◌≡◌, ap, ◌∙◌}
use lib.ListN.{length, get_or, drop}
use lib.Seq.{paste}
use Rattle.scope.specs.Queues.{with_store}
use Rattle.messages.proofs.Cells.{take_told, take_none, take_many}
use borrow.Author.Rules.{rules}
use Rattle.messages.proofs.drop_first.Goals as goal
use Rattle.messages.proofs.drop_first.Goals.{else-h-gt0-via-then-h-gt0+else-h-le16, else-h-gt0-via-else-h-gt0}

pub returns-then-h-le16 : goal.returns-then-h-le16
returns-then-h-le16 c =
    let g = c.well_formed in
    let u = c.args.queues.now in
    let size : length u.cells ≡ 8320 = search (rules, g) in
    let at : ℕ = c.args.i * 1040 in
    let rest : ℕ = (c.from-h.result - 1) * 65 in
    let moved : at + 65 + rest - (at + 65) ≡ rest = omega arith in
    ap (with_store u)
    (take_told u.cells u.held c.args.i c.from-h.result (get_or u.held c.args.i 0 - 1) size c.requires c.from-h.ensures
    _ _ c.if-h-gt0.true c.if-h-le16.true (c.copy_within.ensures.after ∙ ap (paste u.cells at (drop (at + 65) u.cells)) moved) c.wipe.ensures (omega (arith, c.from-h.ensures)))

pub returns-else-h-gt0 : goal.returns-else-h-gt0
returns-else-h-gt0 c =
    let u = c.args.queues.now in
    let h = c.from-h in
    ap (with_store u)
    (elim c.else-h-gt0.branch [
      | else-h-gt0-via-then-h-gt0+else-h-le16 w ↦ take_many u.cells u.held c.args.i h.result h.ensures w.if-h-le16.false
      | else-h-gt0-via-else-h-gt0 w ↦ take_none u.cells u.held c.args.i h.result h.ensures w.if-h-gt0.false
    ])
