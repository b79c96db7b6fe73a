-- `seats::join`: the others make room behind `ahead_of`, and the store seats the newcomer there.
use Rattle.std.proofs.Common.{◌+◌, refl, arith}
use Rattle.seats.proofs.Laws.{joined, small}
use Rattle.seats.proofs.join.Goals as goal

pub overflow_add-x : goal.overflow_add-x
overflow_add-x c =
    let a = c.args in
    omega (arith, small a.seat.now a.key.now a.base (a.base + 63) a.p c.ahead-x.result refl c.ahead-x.ensures, c.requires.1)

pub overflow_sub-base : goal.overflow_sub-base
overflow_sub-base c =
    let a = c.args in
    omega (arith, small a.seat.now a.key.now a.base (a.base + 63) a.p c.ahead-x.result refl c.ahead-x.ensures)

pub make_room-requires : goal.make_room-requires
make_room-requires c =
    let s = c in
    let a = s.args in
    omega (arith, small a.seat.now a.key.now a.base (a.base + 63) a.p c.ahead-x.result refl c.ahead-x.ensures, s.requires.1)

pub returns : goal.returns
returns c =
    let a = c.args in
    let fits = small a.seat.now a.key.now a.base (a.base + 63) a.p c.ahead-x.result refl c.ahead-x.ensures in
    joined a.seat.now a.key.now c.make_room.result a.t a.base (a.base + 63) a.p c.ahead-x.result _ refl c.ahead-x.ensures (omega (arith, fits)) c.make_room.ensures
