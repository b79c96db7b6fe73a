-- What the calls that may wait share, a claim and a receive: how long, and that who runs waits.
-- Assumes nothing.
use Rattle.std.specs.Prelude.{ℕ, Bool, not, ◌&&◌, get_or, ltb, leb, eqb, Option, Some, None, Result, Ok, Err}
use Rattle.scope.specs.declared.State.{State}
use Rattle.scope.specs.declared.Answer.{Answer}
use Rattle.scope.specs.declared.Refusal.{Refusal}
use Rattle.scope.specs.declared.Refusal.TheVariants.{InvalidOptions, InvalidParameter}
use Rattle.scope.specs.Choice.{pick}
use Rattle.scope.specs.Statuses.{PENDING, NO_CALLER}
use Rattle.scope.specs.Options.{NOWAIT, last_option}
use Rattle.scope.specs.Views.{with_line}
use Rattle.scope.specs.Answers.{plain}
use Rattle.scope.specs.Waiting.{is_time_out, waits}

-- 6, 3; else how long the call may wait, with NOWAIT not at all
unfoldable pub time_out : ℕ → ℕ → Result (Option ℕ) Refusal
time_out options ticks =
    pick (ltb last_option options) (Err InvalidOptions)
    (pick (eqb options 0 && not (is_time_out ticks)) (Err InvalidParameter)
    (pick (eqb options NOWAIT) (Ok None) (Ok (Some ticks))))

-- the running task joins the queue of object i; 24 where nothing runs
unfoldable pub wait_for : State → ℕ → Bool → ℕ → Answer
wait_for s i fifo ticks =
    pick (leb 32 s.running) (plain s NO_CALLER)
    (plain (with_line s (waits s.line i fifo (get_or s.tasks.priority s.running 0) ticks s.running)) PENDING)
