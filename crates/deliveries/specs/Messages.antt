-- What a message queue holds, told by the answers alone, and how many messages it accepted and delivered. Queues are told apart by
-- identifier.
-- Assumes nothing.
use Rattle.std.specs.Prelude.{ℕ, Bool, not, ◌&&◌, ◌||◌, List, [], ◌∷◌, ◌++◌, take}
use Rattle.scope.specs.Choice.{pick}
use Rattle.scope.specs.Statuses.{OK}
use Rattle.books.specs.Past.{Turn, is_answer_of, creates, times}

-- "send and jump id, length"; "A send or jump lends its message": as many of the bytes lent
abbrev pub lent : Turn → List ℕ
lent x = take x.event.b x.event.message

-- the call, a send or a jump, put its message into queue id: nobody was given it
unfoldable pub puts : ℕ → ℕ → Turn → Bool
puts call id x = is_answer_of call id OK x && not x.reply.delivers

-- all but the first
abbrev pub rest : List (List ℕ) → List (List ℕ)
rest [] = []
rest (m ∷ ms) = ms

-- the messages that queue id holds, the first one first: "A message goes to the first waiter or else to the end; jump puts it in front", a
-- receive answered OK takes the first, "Delete drops what is held"
abbrev pub messages : List Turn → ℕ → List (List ℕ)
messages [] id = []
messages (x ∷ past) id =
    pick (creates 20 id x || is_answer_of 21 id OK x) []
    (pick (puts 23 id x) (messages past id ++ (lent x ∷ []))
    (pick (puts 24 id x) (lent x ∷ messages past id)
    (pick (is_answer_of 25 id OK x) (rest (messages past id)) (messages past id))))

-- "messages accepted": sends and jumps answered OK
unfoldable pub is_accepted : ℕ → Turn → Bool
is_accepted id x = is_answer_of 23 id OK x || is_answer_of 24 id OK x

abbrev pub accepted : List Turn → ℕ → ℕ
accepted past id = times (is_accepted id) past

-- "those delivered": beside the wake, or to a receive answered OK
unfoldable pub is_delivered : ℕ → Turn → Bool
is_delivered id x = (is_accepted id x && x.reply.delivers) || is_answer_of 25 id OK x

abbrev pub delivered : List Turn → ℕ → ℕ
delivered past id = times (is_delivered id) past
