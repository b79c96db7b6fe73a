-- `messages::zeros`: before byte j the loop holds the bits of all bytes passed.
use borrow.Author.Rules.{rules}
use Rattle.laws.proofs.Messages.Forms.{zeroing_start, zeroing_more, zeroing_done}
use Rattle.messages.proofs.zeros.Goals as goal

pub loop-j-init : goal.loop-j-init
loop-j-init c = zeroing_start c.args.cells.now c.args.from c.args.to

pub loop-j-preserved : goal.loop-j-preserved
loop-j-preserved c =
    let a = c.args in
    let l = c.loop-j in
    zeroing_more a.cells.now a.from a.to l.some l.j (search rules) l.invariant

pub returns : goal.returns
returns c =
    let a = c.args in
    let l = c.loop-j in
    zeroing_done a.cells.now a.from a.to l.some l.j (search rules) l.invariant
