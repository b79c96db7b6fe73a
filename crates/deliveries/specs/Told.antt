-- What is proved of the answers: what queue_info, a receive and a delivery answer, told by the turns before.
-- Assumes nothing.
use Rattle.std.specs.Prelude.{ℕ, ◌+◌, ◌<◌, ◌≡◌, List, [], ◌∷◌, length, get_or}
use Rattle.scope.specs.Answers.{bit_of}
use Rattle.scope.specs.Messages.{shown_of}
use Rattle.scope.specs.Replies.{Reply}
use Rattle.books.specs.Past.{Turn}
use Rattle.books.specs.Waiting.{a_queue, fifo_of, receiving}
use Rattle.deliveries.specs.Messages.{messages, accepted, delivered}

-- "Info gives options, messages held, tasks waiting": what it gives of queue id. "messages accepted equal those delivered plus those held";
-- "a queue with waiters holds nothing"
pub record QueueInfoTold (past : List Turn) (id : ℕ) (values : List ℕ) : Type 0 where
  pub option : get_or values 0 0 ≡ bit_of (fifo_of a_queue past id)
  pub counted : accepted past id ≡ delivered past id + get_or values 1 0
  pub held : get_or values 1 0 ≡ length (messages past id)
  pub waiters : get_or values 2 0 ≡ length (receiving past id)
  pub nothing : 0 < length (receiving past id) → messages past id ≡ []

-- "an immediate receive beside the answer, whose first figure is its length; bytes past it are 0": the first message that queue id holds
pub record ReceivedTold (past : List Turn) (id : ℕ) (reply : Reply) : Type 0 where
  pub first : List ℕ
  pub others : List (List ℕ)
  pub held : messages past id ≡ first ∷ others
  pub long : get_or reply.values 0 0 ≡ length first
  pub shown : reply.shown ≡ shown_of first (length first)
