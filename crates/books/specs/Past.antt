-- What has been called and answered so far, the latest first. A history is told by this alone: a turn holds a reply, which has no
-- state in it.
-- Assumes nothing.
use Rattle.std.specs.Prelude.{ℕ, ◌+◌, Bool, ◌&&◌, List, [], ◌∷◌, get_or, eqb}
use Rattle.scope.specs.declared.State.{State}
use Rattle.scope.specs.Choice.{pick}
use Rattle.scope.specs.Replies.{Reply, reply_of}
use Rattle.scope.specs.Fresh.{fresh_state}
use Rattle.histories.specs.History.{Event, answer_to}

-- a call and its answer
pub record Turn : Type 0 where
  pub event : Event
  pub reply : Reply

-- the turns of a history that goes on from state s, with those before it
abbrev pub past_from : List Turn → State → List Event → List Turn
past_from past s [] = past
past_from past s (x ∷ xs) = past_from (record { event = x; reply = reply_of (answer_to s x) } ∷ past) (answer_to s x).state xs

-- "For any history from a fresh state", here of priority p
abbrev pub past_of : ℕ → List Event → List Turn
past_of p xs = past_from [] (fresh_state p) xs

-- the turn was this call, and was so answered
unfoldable pub is_answer : ℕ → ℕ → Turn → Bool
is_answer call status x = eqb x.event.call call && eqb x.reply.status status

-- the same, of the object with this identifier
unfoldable pub is_answer_of : ℕ → ℕ → ℕ → Turn → Bool
is_answer_of call id status x = is_answer call status x && eqb x.event.a id

-- the answer's first value: the identifier that a creation gives, the address that a get does
abbrev pub value : Turn → ℕ
value x = get_or x.reply.values 0 0

-- the call made a new object, with this identifier
unfoldable pub creates : ℕ → ℕ → Turn → Bool
creates call id x = is_answer call 0 x && eqb (value x) id

-- the running task, by the latest answer. "A fresh state holds one started task, identifier 64"
abbrev pub running_in : List Turn → ℕ
running_in [] = 64
running_in (x ∷ past) = x.reply.running

-- how often a turn was so
abbrev pub times : (Turn → Bool) → List Turn → ℕ
times p [] = 0
times p (x ∷ past) = pick (p x) 1 0 + times p past
