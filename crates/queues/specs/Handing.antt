-- What a send or jump answers where a task waits, and where a message goes in the queue.
-- Assumes nothing.
use Rattle.std.specs.Prelude.{ℕ, List}
use Rattle.scope.specs.declared.State.{State}
use Rattle.scope.specs.declared.Answer.{Answer}
use Rattle.scope.specs.Answers.{delivers_to}
use Rattle.scope.specs.Messages.{Store, appended, pushed, shown_of}
use Rattle.scope.specs.Waiting.{wake_next, none_woken}
use Rattle.rows.specs.declared.SendCall.{SendCall}
use Rattle.rows.specs.declared.SendCall.TheVariants.{Send, Jump}

-- "A message goes to the first waiter", here task t
abbrev pub handed : State → ℕ → List ℕ → ℕ → Answer
handed s n message t = delivers_to s (wake_next s.tasks (none_woken s.line) t) n (shown_of message n)

-- "or else to the end; jump puts it in front"
abbrev pub put_of : SendCall → Store → ℕ → List ℕ → Store
put_of Send = appended
put_of Jump = pushed
