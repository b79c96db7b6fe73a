-- `columns::get`: the bytes from k on are read.
use native.Mathlib.Omega.{arith}
use borrow.Author.Rules.{rules}
use Rattle.fields.proofs.Loops.{reading_start, reading_room, reading_more}
use Rattle.columns.proofs.get.Goals as goal

pub loop-k-init : goal.loop-k-init
loop-k-init c = let a = c.args in reading_start a.w a.s.now a.at

pub overflow_mul-x : goal.overflow_mul-x
overflow_mul-x c =
    let a = c.args in
    let l = c.loop-k in
    omega (arith, reading_room a.w a.s.now a.at l.x l.k c.requires.1 (search rules) l.invariant)

pub overflow_add-x : goal.overflow_add-x
overflow_add-x c =
    let a = c.args in
    let l = c.loop-k in
    omega (arith, reading_room a.w a.s.now a.at l.x l.k c.requires.1 (search rules) l.invariant, c.from.ensures)

pub loop-k-preserved : goal.loop-k-preserved
loop-k-preserved c =
    let a = c.args in
    let l = c.loop-k in
    reading_more a.w a.s.now a.at l.x l.k _ (search rules) (search rules) (search rules) (search rules) l.invariant
