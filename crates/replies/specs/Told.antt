-- Which answer the parts of one tell.
-- Assumes nothing.
use Rattle.std.specs.Prelude.{ℕ, ◌≡◌, List}
use Rattle.scope.specs.declared.Answer.{Answer}
use Rattle.answers.specs.declared.Outcome.{Outcome}
use Rattle.answers.specs.Outcomes.{told}

-- an answer, told by an outcome, the wake list, the message shown and the running task
abbrev pub ToldBy : Answer → List ℕ → List ℕ → Outcome → ℕ → Type 0
ToldBy a wakes shown o running = told a.state wakes shown o running ≡ a
