-- A call works on the state where it lies. What it answers beside it and the wake list is its outcome.
-- Assumes nothing.
use Rattle.std.specs.Prelude.{ℕ, Bool, true, false, List, [], ◌∷◌, Result, Ok, Err}
use Rattle.scope.specs.declared.State.{State}
use Rattle.scope.specs.declared.Answer.{Answer}
use Rattle.scope.specs.declared.Refusal.{Refusal}
use Rattle.scope.specs.Statuses.{OK}
use Rattle.scope.specs.Refusals.{number_of}
use Rattle.scope.specs.Views.{running_task}
use Rattle.scope.specs.Answers.{no_wakes, no_message}
use Rattle.answers.specs.declared.Outcome.{Outcome}
use Rattle.answers.specs.declared.Notices.{Notices}

-- the state with another running task
abbrev pub now_runs : State → ℕ → State
now_runs s t = record { line = s.line; tasks = s.tasks; semaphores = s.semaphores; pools = s.pools; queues = s.queues; running = t }

-- "An answer is a status, four values (0 where none is named), the wake list (task and status, in order) and the running task
-- after it, 0 if none": what an outcome says, beside the state, the wake list, the message shown and the running task
abbrev pub told : State → List ℕ → List ℕ → Outcome → ℕ → Answer
told s wakes shown o running =
    record {
      state = s;
      wakes = wakes;
      woken = o.woken;
      why = o.why;
      status = o.status;
      values = o.values;
      negative = o.negative;
      running = running;
      delivers = o.delivers;
      length = o.length;
      shown = shown;
    }

-- the answer that an outcome stands for, beside the state as it was left, the wake list and the message shown
unfoldable pub answer_shown : State → List ℕ → List ℕ → Outcome → Answer
answer_shown s wakes shown o = told (now_runs s o.runs) wakes shown o (running_task (now_runs s o.runs))

-- and where no message is shown
unfoldable pub answer_of : State → List ℕ → Outcome → Answer
answer_of s wakes o = told (now_runs s o.runs) wakes no_message o (running_task (now_runs s o.runs))

-- a status, four values, nobody woken, and the slot of who runs then
unfoldable pub outcome : ℕ → ℕ → ℕ → ℕ → ℕ → Bool → ℕ → Outcome
outcome status v0 v1 v2 v3 negative runs =
    record {
      status = status;
      values = v0 ∷ v1 ∷ v2 ∷ v3 ∷ [];
      negative = negative;
      woken = 0;
      why = 0;
      runs = runs;
      delivers = false;
      length = 0;
    }

-- done, with so many tasks woken, all with the status `why`
unfoldable pub woke : ℕ → ℕ → ℕ → Outcome
woke woken why runs =
    record {
      status = OK;
      values = 0 ∷ 0 ∷ 0 ∷ 0 ∷ [];
      negative = false;
      woken = woken;
      why = why;
      runs = runs;
      delivers = false;
      length = 0;
    }

-- done, with one task woken, which a message of n bytes is delivered to
unfoldable pub delivered : ℕ → ℕ → Outcome
delivered n runs =
    record {
      status = OK;
      values = 0 ∷ 0 ∷ 0 ∷ 0 ∷ [];
      negative = false;
      woken = 1;
      why = OK;
      runs = runs;
      delivers = true;
      length = n;
    }

-- the outcome of a call that may be refused: "A refusal (any status but 0 and 1) has four zero values, an empty wake list, and the
-- given state back; its running task is the present one"
abbrev pub outcome_of : ℕ → Result Outcome Refusal → Outcome
outcome_of running (Ok o) = o
outcome_of running (Err r) = outcome (number_of r) 0 0 0 0 false running

-- what a call tells beside its outcome, before it: nobody is woken, no message is shown
abbrev pub blank : Notices
blank = record { wakes = no_wakes; shown = no_message }
