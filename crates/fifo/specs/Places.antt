-- M-111, "How long can a FIFO waiter wait?", told by the answers alone: how many were ahead of a task when it joined, who is ahead of it
-- now, how many releases there were since, and who of those ahead left ungranted. "Its joining" is the task's latest claim answered
-- PENDING. Tasks and semaphores are told apart by identifier. Nothing here reads a priority, or who is suspended.
-- Assumes nothing.
use Rattle.std.specs.Prelude.{ℕ, ◌+◌, ◌-◌, Bool, false, not, ◌&&◌, ◌||◌, List, [], ◌∷◌, length, eqb, ltb}
use Rattle.scope.specs.Choice.{pick}
use Rattle.scope.specs.Lists.{keep}
use Rattle.scope.specs.Statuses.{OK, TIME_OUT}
use Rattle.books.specs.Past.{Turn, is_answer_of}
use Rattle.books.specs.Waiting.{done_to, pends, arrived_at, waiting}
use Rattle.books.specs.Times.{wakes_as}

-- "A task joins a .. semaphore's queue": its latest claim answered PENDING was on semaphore id
abbrev pub joined : List Turn → ℕ → ℕ → Bool
joined [] id t = false
joined (x ∷ past) id t = pick (pends past t x) (eqb x.event.a id) (joined past id t)

-- "with p tasks ahead": this p, those who waited there just before
abbrev pub found_ahead : List Turn → ℕ → ℕ
found_ahead [] t = 0
found_ahead (x ∷ past) t = pick (pends past t x) (length (waiting past x.event.a)) (found_ahead past t)

-- who is ahead of it now: they wait there, and joined before it
abbrev pub ahead : List Turn → ℕ → ℕ → List ℕ
ahead past id t = keep (λ u. ltb (arrived_at past u) (arrived_at past t)) (waiting past id)

-- "releases there have been answered OK since"
abbrev pub releases_since : List Turn → ℕ → ℕ → ℕ
releases_since [] id t = 0
releases_since (x ∷ past) id t = pick (pends past t x) 0 (pick (is_answer_of 12 id OK x) 1 0 + releases_since past id t)

-- "left ungranted": "timed out, or deleted"
unfoldable pub leaves_ungranted : List Turn → Turn → ℕ → Bool
leaves_ungranted past x u = wakes_as TIME_OUT x.reply.wakes u || done_to 2 past u x

-- those ahead of task t who do, at turn x
abbrev pub departing : List Turn → Turn → ℕ → ℕ → List ℕ
departing past x id t = keep (leaves_ungranted past x) (ahead past id t)

-- "d of those ahead left ungranted": this d, since its joining
abbrev pub departed : List Turn → ℕ → ℕ → ℕ
departed [] id t = 0
departed (x ∷ past) id t = pick (pends past t x) 0 (length (departing past x id t) + departed past id t)

-- "release p + 1 − d counted from its joining"
abbrev pub its_release : List Turn → ℕ → ℕ → ℕ
its_release past id t = found_ahead past t + 1 - departed past id t

-- the next release there is that one
unfoldable pub is_its_release : List Turn → ℕ → ℕ → Bool
is_its_release past id t = eqb (releases_since past id t + 1) (its_release past id t)

-- woken with 0, and not by the delivery of a message (M-100)
unfoldable pub grants_to : Turn → ℕ → Bool
grants_to x t = not x.reply.delivers && wakes_as OK x.reply.wakes t

-- since its joining "it is granted"
abbrev pub granted : List Turn → ℕ → Bool
granted [] t = false
granted (x ∷ past) t = pick (pends past t x) false (grants_to x t || granted past t)

-- "Time-out or deletion of the task itself, and deletion of the semaphore, end the claim."
unfoldable pub ends_claim : List Turn → Turn → ℕ → ℕ → Bool
ends_claim past x id t = leaves_ungranted past x t || is_answer_of 9 id OK x

abbrev pub ended : List Turn → ℕ → ℕ → Bool
ended [] id t = false
ended (x ∷ past) id t = pick (pends past t x) false (ends_claim past x id t || ended past id t)
