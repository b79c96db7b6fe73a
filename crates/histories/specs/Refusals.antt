-- "A refusal (any status but 0 and 1) has four zero values, an empty wake list, and the given state back; its running task is the
-- present one, or 0 with BAD_STATE." M-100: and it shows no message.
-- Assumes nothing.
use Rattle.std.specs.Prelude.{◌≡◌, false, [], ◌∷◌, eqb}
use Rattle.scope.specs.declared.State.{State}
use Rattle.scope.specs.declared.Answer.{Answer}
use Rattle.scope.specs.Choice.{pick}
use Rattle.scope.specs.Statuses.{BAD_STATE}
use Rattle.scope.specs.Views.{running_task}
use Rattle.scope.specs.Answers.{no_wakes, no_message}

pub record Refusal (s : State) (a : Answer) : Type 0 where
  pub state : a.state ≡ s
  pub values : a.values ≡ 0 ∷ 0 ∷ 0 ∷ 0 ∷ []
  pub negative : a.negative ≡ false
  pub wakes : a.wakes ≡ no_wakes
  pub woken : a.woken ≡ 0
  pub why : a.why ≡ 0
  pub running : a.running ≡ pick (eqb a.status BAD_STATE) 0 (running_task s)
  pub delivers : a.delivers ≡ false
  pub length : a.length ≡ 0
  pub shown : a.shown ≡ no_message
