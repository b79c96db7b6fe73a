-- A history: calls and ticks, one after the other, from a state on.
-- Assumes nothing.
use Rattle.std.specs.Prelude.{ℕ, ◌+◌, ◌≡◌, List, [], ◌∷◌}
use Rattle.scope.specs.declared.State.{State}
use Rattle.scope.specs.declared.Answer.{Answer}
use Rattle.scope.specs.declared.Found.TheVariants.{At}
use Rattle.scope.specs.Identifiers.{found}
use Rattle.scope.specs.Step.{stepped}

-- a call by a caller, with its arguments and the message that it lends (M-100)
pub record Event : Type 0 where
  pub call : ℕ
  pub mark : ℕ
  pub a : ℕ
  pub b : ℕ
  pub c : ℕ
  pub d : ℕ
  pub e : ℕ
  pub message : List ℕ

-- what the kernel answers to it
abbrev pub answer_to : State → Event → Answer
answer_to s x = stepped s x.call x.mark x.a x.b x.c x.d x.e x.message

-- the state after a history
abbrev pub after : State → List Event → State
after s [] = s
after s (x ∷ xs) = after (answer_to s x).state xs

-- a figure read off each answer, added up over a history
abbrev pub total : (Event → Answer → ℕ) → State → List Event → ℕ
total f s [] = 0
total f s (x ∷ xs) = f x (answer_to s x) + total f (answer_to s x).state xs

-- the identifier names the live task in slot t, the live semaphore, pool or queue in slot i
abbrev pub TaskAt : State → ℕ → ℕ → Type 0
TaskAt s id t = found s.tasks.serial s.tasks.live id ≡ At t

abbrev pub SemaphoreAt : State → ℕ → ℕ → Type 0
SemaphoreAt s id i = found s.semaphores.serial s.semaphores.live id ≡ At i

abbrev pub PoolAt : State → ℕ → ℕ → Type 0
PoolAt s id i = found s.pools.serial s.pools.live id ≡ At i

abbrev pub QueueAt : State → ℕ → ℕ → Type 0
QueueAt s id i = found s.queues.serial s.queues.live id ≡ At i
