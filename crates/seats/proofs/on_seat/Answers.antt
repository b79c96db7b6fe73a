-- `seats::on_seat`: the library's first place at which the seat stands is the definition's least task.
use Rattle.std.proofs.Common.{◌≡◌, ℕ, rules, tests}
use Rattle.std.proofs.lemmas.Iterator.{YieldsList-from_slice}
use Rattle.std.proofs.lemmas.Iterator.Search.{position_from_yields_List}
use Rattle.std.specs.Prelude.{position, nat_eq}
use Rattle.seats.proofs.Laws.{seat_told}
use Rattle.seats.proofs.on_seat.Goals as goal

pub returns : goal.returns
returns c =
    let a = c.args in
    let e : c.position.result ≡ position (λ (y : ℕ). nat_eq y a.x) a.q.now =
    position_from_yields_List (λ (y : ℕ). nat_eq y a.x) _ _ c.position.result c.position.ensures.ran (YieldsList-from_slice a.q.now cc) (λ x b q k. search (rules, tests)) in
    seat_told a.q.now a.x (search rules) e
