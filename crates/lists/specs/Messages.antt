-- M-100, "messages held", as lists: what each queue holds, first one first, and after an answer.
-- Assumes nothing.
use Rattle.std.specs.Prelude.{ℕ, ◌≤◌, ◌<◌, ◌≡◌, List, [], ◌∷◌, length, eqb}
use Rattle.scope.specs.declared.State.{State}
use Rattle.scope.specs.declared.Answer.{Answer}
use Rattle.scope.specs.Choice.{pick}
use Rattle.scope.specs.Messages.{messages_of}
use Rattle.scope.specs.Queues.{store_of, most_of, longest_of}

-- the messages of queue i
abbrev pub messages_at : State → ℕ → List (List ℕ)
messages_at s i = messages_of (store_of s.queues) i

-- the messages with others for queue i
abbrev pub with_messages : (ℕ → List (List ℕ)) → ℕ → List (List ℕ) → ℕ → List (List ℕ)
with_messages messages i ms j = pick (eqb j i) ms (messages j)

-- after the answer the queues hold these
abbrev pub Holds : Answer → (ℕ → List (List ℕ)) → Type 0
Holds a messages = (i : ℕ) → i < 8 → messages_at a.state i ≡ messages i

-- none of them is longer than n
abbrev pub NoneLonger : ℕ → List (List ℕ) → Type 0
NoneLonger n [] = Unit {0}
NoneLonger n (m ∷ ms) = (length m ≤ n) × NoneLonger n ms

-- "only what sends can leave": no more than the queue's most messages, none longer than its longest
pub record SendsLeft (s : State) (i : ℕ) : Type 0 where
  pub few : length (messages_at s i) ≤ most_of s.queues i
  pub short : NoneLonger (longest_of s.queues i) (messages_at s i)
