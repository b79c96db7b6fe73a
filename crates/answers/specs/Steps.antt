-- A step in place: what it leaves of the state that it is lent and of the wake list, the message that it shows, and its outcome.
-- Assumes nothing.
use Rattle.std.specs.Prelude.{ℕ, ◌≡◌, List}
use Rattle.scope.specs.declared.State.{State}
use Rattle.scope.specs.Choice.{pick}
use Rattle.scope.specs.Rules.{sound}
use Rattle.scope.specs.Step.{stepped}
use Rattle.scope.specs.Views.{running_task}
use Rattle.answers.specs.declared.Outcome.{Outcome}
use Rattle.answers.specs.Outcomes.{now_runs, told}

-- From the state s, with the message m lent: the state n, the wake list, the message shown and the outcome r are the answer of `stepped`.
-- "its running task is the present one, or 0 with BAD_STATE": the outcome says who runs, which is who runs in n, or nobody where s breaks a rule (then n is s).
abbrev pub Steps : State → ℕ → ℕ → ℕ → ℕ → ℕ → ℕ → ℕ → List ℕ → State → List ℕ → List ℕ → Outcome → Type 0
Steps s call mark a b c d e m n wakes shown r =
    (told n wakes shown r (running_task (now_runs n r.runs)) ≡ stepped s call mark a b c d e m) × (r.runs ≡ pick (sound s) n.running 32)
