-- `messages::cell_right`: the length is tested, and the bytes past it are looked at.
use mathlib.Core.Path.{◌≡◌}
use lib.ListN.{length}
use Rattle.laws.proofs.Messages.Forms.{cell_told}
use borrow.Author.Rules.{rules}
use Rattle.messages.proofs.cell_right.Goals as goal

pub returns : goal.returns
returns c =
    let g = c.well_formed in
    let s = c.args in
    let size : length s.cells.now ≡ 8320 = search (rules, g) in
    cell_told s.cells.now s.i size c.requires.0 s.k s.longest c.from.result c.zeros.result c.requires.1 c.from.ensures c.zeros.ensures
