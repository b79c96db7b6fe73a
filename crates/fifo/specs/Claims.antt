-- What M-111 claims, of the turns of a history: `past` is any history's, `id` a semaphore, `t` a task.
-- Assumes nothing.
use Rattle.std.specs.Prelude.{ℕ, ◌+◌, ◌≤◌, ◌<◌, ◌≡◌, Bool, true, false, ◌&&◌, ◌||◌, List, length, eqb}
use Rattle.scope.specs.Lists.{has}
use Rattle.scope.specs.Statuses.{OK}
use Rattle.books.specs.Past.{Turn, is_answer_of}
use Rattle.books.specs.Waiting.{is_fifo, waiting}
use Rattle.books.specs.Times.{wakes_as}
use Rattle.fifo.specs.Places.{joined, found_ahead, ahead, releases_since, departed, its_release, is_its_release, granted, ended}

-- "a FIFO semaphore"
abbrev pub Fifo : List Turn → ℕ → Type 0
Fifo past id = is_fifo past id ≡ true

-- at every moment while it waits in a FIFO queue: tasks ahead = p − releases − departures
abbrev pub Counted : List Turn → Type 0
Counted past = (id t : ℕ) → has (waiting past id) t ≡ true → Fifo past id
    → length (ahead past id t) + releases_since past id t + departed past id t ≡ found_ahead past t

-- "While it still waits, fewer than p + 1 releases there have been answered OK since."
abbrev pub FewerReleases : List Turn → Type 0
FewerReleases past = (id t : ℕ) → has (waiting past id) t ≡ true → Fifo past id
    → releases_since past id t < found_ahead past t + 1

-- with d departures: fewer than p + 1 − d
abbrev pub FewerByDepartures : List Turn → Type 0
FewerByDepartures past = (id t : ℕ) → has (waiting past id) t ≡ true → Fifo past id
    → releases_since past id t + departed past id t < found_ahead past t + 1

-- "If d of those ahead left ungranted, it is granted by release p + 1 − d counted from its joining, those d having left before it": turn y
-- grants it, while it waits, exactly if it is that release; no other turn wakes it with 0, and so no delivery of a message
abbrev pub GrantedExactly : List Turn → Turn → Type 0
GrantedExactly past y = (id t : ℕ) → has (waiting past id) t ≡ true → Fifo past id
    → wakes_as OK y.reply.wakes t ≡ (is_answer_of 12 id OK y && is_its_release past id t)

-- "Time-out or deletion of the task itself, and deletion of the semaphore, end the claim": nothing else does but its grant, in a queue of
-- either kind
abbrev pub WaitsUntil : List Turn → Type 0
WaitsUntil past = (id t : ℕ) → joined past id t ≡ true → ended past id t ≡ false → granted past t ≡ false → has (waiting past id) t ≡ true

-- so whose claim did not end has been granted when there were p + 1 − d releases
abbrev pub GrantedInTime : List Turn → Type 0
GrantedInTime past = (id t : ℕ) → joined past id t ≡ true → Fifo past id → ended past id t ≡ false
    → its_release past id t ≤ releases_since past id t → granted past t ≡ true

-- the calls that can change who waits for a semaphore: tick, task_delete, sem_delete, sem_claim, sem_release. (No call of a queue does.)
abbrev pub moves_waiters : ℕ → Bool
moves_waiters call = eqb call 0 || (eqb call 2 || (eqb call 9 || (eqb call 11 || eqb call 12)))

-- all that is told of task t's place is as it was
pub record SamePlace (past now : List Turn) (id t : ℕ) : Type 0 where
  pub queue : waiting now id ≡ waiting past id
  pub found : found_ahead now t ≡ found_ahead past t
  pub others : ahead now id t ≡ ahead past id t
  pub since : releases_since now id t ≡ releases_since past id t
  pub left : departed now id t ≡ departed past id t
