-- `messages::in_form`: the test of all cells passed; then the bytes behind them are looked at.
use mathlib.Core.Path.{◌≡◌}
use lib.ListN.{length}
use Rattle.laws.proofs.Testing.{testing_start, testing_more, testing_done}
use Rattle.laws.proofs.Messages.Forms.{row_told, row_many}
use borrow.Author.Rules.{rules}
use Rattle.messages.proofs.in_form.Goals as goal

pub returns-then-h-gt16 : goal.returns-then-h-gt16
returns-then-h-gt16 c = row_many _ _ _ c.if-h-gt16.true

pub loop-k-init : goal.loop-k-init
loop-k-init c = testing_start _ _

pub loop-k-preserved : goal.loop-k-preserved
loop-k-preserved c = testing_more c.loop-k.invariant (search rules) c.cell_right-ok.ensures

pub returns : goal.returns
returns c =
    let g = c.well_formed in
    let x = c.args in
    let size : length x.cells.now ≡ 8320 = search (rules, g) in
    row_told x.cells.now x.i size c.requires x.h x.longest c.loop-k.ok c.zeros.result c.if-h-gt16.false
    (testing_done c.loop-k.invariant (search rules)) c.zeros.ensures
