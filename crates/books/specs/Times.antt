-- M-101, "A time_out of n always ends at the n-th tick", told by the answers alone: what time_out a task asked for at its latest claim
-- or receive answered PENDING, how many ticks there were since, and whether the next tick ends it. Tasks are told apart by identifier.
-- Assumes nothing.
use Rattle.std.specs.Prelude.{ℕ, ◌+◌, Bool, true, false, not, ◌&&◌, List, [], ◌∷◌, eqb}
use Rattle.scope.specs.Choice.{pick}
use Rattle.scope.specs.Statuses.{OK, PENDING}
use Rattle.scope.specs.Waiting.{FOREVER}
use Rattle.scope.specs.Replies.{Wake}
use Rattle.books.specs.Past.{Turn, is_answer, running_in}

-- task t, the caller, was answered PENDING, whatever it waits for
unfoldable pub pauses : List Turn → ℕ → Turn → Bool
pauses past t x = eqb x.reply.status PENDING && eqb (running_in past) t

-- "sem_claim (id, options, time_out)"; M-100: "receive id, options, time_out": the time_out of its latest claim or receive answered PENDING
abbrev pub time_out_of : List Turn → ℕ → ℕ
time_out_of [] t = 0
time_out_of (x ∷ past) t = pick (pauses past t x) x.event.c (time_out_of past t)

-- the ticks answered OK since then
abbrev pub ticks_since : List Turn → ℕ → ℕ
ticks_since [] t = 0
ticks_since (x ∷ past) t = pick (pauses past t x) 0 (pick (is_answer 0 OK x) 1 0 + ticks_since past t)

-- the next tick is the n-th since then, n being its time_out, which is not FOREVER
unfoldable pub ends_next : List Turn → ℕ → Bool
ends_next past t = not (eqb (time_out_of past t) FOREVER) && eqb (ticks_since past t + 1) (time_out_of past t)

-- task t is on the wake list, with this status
abbrev pub wakes_as : ℕ → List Wake → ℕ → Bool
wakes_as status [] t = false
wakes_as status (w ∷ ws) t = pick (eqb w.task t && eqb w.status status) true (wakes_as status ws t)
