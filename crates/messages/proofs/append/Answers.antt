-- `messages::append`: the cell behind those held is written, or nothing.
use Prim.Native.Nat.{◌+◌}
use native.Mathlib.Omega.{arith}
use mathlib.Core.Path.{◌≡◌, ap}
use lib.ListN.{length, get_or}
use Rattle.scope.specs.Queues.{with_store}
use Rattle.messages.proofs.Cells.{append_told, append_full}
use borrow.Author.Rules.{rules}
use Rattle.messages.proofs.append.Goals as goal

pub returns-then-h-lt16 : goal.returns-then-h-lt16
returns-then-h-lt16 c =
    let g = c.well_formed in
    let s = c.args in
    let u = s.queues.now in
    let size : length u.cells ≡ 8320 = search (rules, g) in
    let long : length s.cell ≡ 65 = search (rules, g) in
    ap (with_store u)
    (append_told u.cells u.held s.i c.from-h.result (get_or u.held s.i 0 + 1) size c.requires c.from-h.ensures
    s.cell _ long c.if-h-lt16.true c.put.ensures (omega (arith, c.from-h.ensures)))

pub returns-else-h-lt16 : goal.returns-else-h-lt16
returns-else-h-lt16 c = let u = c.args.queues.now in ap (with_store u) (append_full u.cells u.held c.args.i c.from-h.result c.from-h.ensures c.args.cell c.if-h-lt16.false)
