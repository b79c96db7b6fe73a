-- The grants of a history, told by the answers alone. Tasks and semaphores are told apart by identifier. The grid may be cleared at any
-- point of a history: n is the number of turns since then, and what is told is of the latest n.
-- Assumes nothing.
use Rattle.std.specs.Prelude.{ℕ, zero, suc, ◌+◌, Bool, false, ◌&&◌, ◌||◌, List, [], ◌∷◌, ◌++◌, eqb}
use Rattle.scope.specs.Choice.{pick}
use Rattle.scope.specs.Statuses.{OK}
use Rattle.scope.specs.Identifiers.{identifier, slot_of}
use Rattle.scope.specs.Replies.{Wake}
use Rattle.books.specs.Past.{Turn, is_answer, value, running_in}

-- a grant: to a task, from a semaphore
pub record Given : Type 0 where
  pub task : ℕ
  pub semaphore : ℕ

-- "woken with OK: that is its grant": each task of a wake list that is woken with 0, by a release of semaphore id
abbrev pub woken_by : ℕ → List Wake → List Given
woken_by id [] = []
woken_by id (w ∷ ws) = pick (eqb w.status OK) (record { task = w.task; semaphore = id } ∷ woken_by id ws) (woken_by id ws)

-- the grants of a turn: a claim answered OK, to the task that ran; a release's wakes with 0 (a delivery's are none)
unfoldable pub grants_at : List Turn → Turn → List Given
grants_at past x =
    pick (is_answer 11 OK x) (record { task = running_in past; semaphore = x.event.a } ∷ [])
    (pick (is_answer 12 OK x) (woken_by x.event.a x.reply.wakes) [])

-- "the grants in the history, since clearing", the earliest first
abbrev pub grants_since : ℕ → List Turn → List Given
grants_since zero past = []
grants_since (suc n) [] = []
grants_since (suc n) (x ∷ past) = grants_since n past ++ grants_at past x

-- how many of them are between these two
abbrev pub between : ℕ → ℕ → List Given → ℕ
between task id [] = 0
between task id (x ∷ xs) = pick (eqb x.task task && eqb x.semaphore id) 1 0 + between task id xs

-- how many of them are from this semaphore, to whatever task
abbrev pub from_semaphore : ℕ → List Given → ℕ
from_semaphore id [] = 0
from_semaphore id (x ∷ xs) = pick (eqb x.semaphore id) 1 0 + from_semaphore id xs

-- the call made a new object in this slot
unfoldable pub born_in : ℕ → ℕ → Turn → Bool
born_in call slot x = is_answer call OK x && eqb (slot_of (value x)) slot

-- "the latest objects of the two slots": what the latest creation there gave. A slot that had none has the identifier of serial 0,
-- which names nothing. "A fresh state holds one started task, identifier 64".
abbrev pub latest_task : List Turn → ℕ → ℕ
latest_task [] t = identifier (pick (eqb t 0) 1 0) t
latest_task (x ∷ past) t = pick (born_in 1 t x) (value x) (latest_task past t)

abbrev pub latest_semaphore : List Turn → ℕ → ℕ
latest_semaphore [] i = identifier 0 i
latest_semaphore (x ∷ past) i = pick (born_in 8 i x) (value x) (latest_semaphore past i)

-- a task or a semaphore was created since clearing
abbrev pub created_since : ℕ → List Turn → Bool
created_since zero past = false
created_since (suc n) [] = false
created_since (suc n) (x ∷ past) = is_answer 1 OK x || (is_answer 8 OK x || created_since n past)
