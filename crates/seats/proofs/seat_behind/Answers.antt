-- `seats::seat_behind`: the seat behind the queue's last; who takes it leaves all others where they are.
use Rattle.std.proofs.Common.{◌≡◌, ◌+◌, length, refl, arith, rules}
use Rattle.seats.proofs.Laws.{small}
use Rattle.laws.proofs.Seats.Joining.{joins_end}
use Rattle.seats.proofs.seat_behind.Goals as goal

pub overflow_add-result : goal.overflow_add-result
overflow_add-result c = let a = c.args in omega (arith, small a.q a.q a.base (a.base + 63) 0 _ refl (c.hindmost.ensures a.q), c.requires)

pub returns : goal.returns
returns c =
    let a = c.args in
    let long : length a.q ≡ 32 = search rules in
    λ key t. rw (c.hindmost.ensures key) (joins_end a.q key t a.base long)
