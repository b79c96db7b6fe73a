-- `messages::push_front`: those held go up and the first cell is written, or nothing.
use Prim.Native.Nat.{ℕ, ◌+◌, ◌-◌, ◌*◌}
use native.Mathlib.Omega.{arith}
use mathlib.Core.Path.{◌≡◌, ap, ◌∙◌}
use lib.ListN.{length, get_or, drop}
use lib.Seq.{paste}
use Rattle.scope.specs.Queues.{with_store}
use Rattle.messages.proofs.Cells.{push_told, push_full}
use borrow.Author.Rules.{rules}
use Rattle.messages.proofs.push_front.Goals as goal

pub returns-then-h-lt16 : goal.returns-then-h-lt16
returns-then-h-lt16 c =
    let g = c.well_formed in
    let s = c.args in
    let u = s.queues.now in
    let size : length u.cells ≡ 8320 = search (rules, g) in
    let long : length s.cell ≡ 65 = search (rules, g) in
    let h : ℕ = c.from-h.result in
    let moved : s.i * 1040 + h * 65 - s.i * 1040 ≡ h * 65 = omega arith in
    ap (with_store u)
    (push_told u.cells u.held s.i h (get_or u.held s.i 0 + 1) size c.requires c.from-h.ensures
    s.cell _ _ long c.if-h-lt16.true (c.copy_within.ensures.after ∙ ap (paste u.cells (s.i * 1040 + 65) (drop (s.i * 1040) u.cells)) moved) c.put.ensures (omega (arith, c.from-h.ensures)))

pub returns-else-h-lt16 : goal.returns-else-h-lt16
returns-else-h-lt16 c = let u = c.args.queues.now in ap (with_store u) (push_full u.cells u.held c.args.i c.from-h.result c.from-h.ensures c.args.cell c.if-h-lt16.false)
