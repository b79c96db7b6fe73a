-- `seats::first_waiter`: the seat asked for is the first above `queue_seats`; nobody is on it, or somebody is found there.
use Rattle.std.proofs.Common.{◌+◌, ◌*◌, sym, ◌∙◌, None, arith, ltb-false}
use Rattle.seats.proofs.Laws.{told_at}
use Rattle.seats.proofs.first_waiter.Goals as goal

pub returns-then-is_taken : goal.returns-then-is_taken
returns-then-is_taken c = told_at c.args.line.now.seat _ _ _ (omega arith) c.on_seat.ensures

pub returns : goal.returns
returns c =
    told_at c.args.line.now.seat (c.args.i * 64 + 65) _ None (omega arith) (ltb-false _ 32 (sym c.is_taken.ensures ∙ c.if-is_taken.false))
