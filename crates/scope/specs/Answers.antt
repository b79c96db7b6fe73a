-- "An answer is a status, four values (0 where none is named), the wake list (task and status, in order) and the running task
-- after it, 0 if none." M-100: "a delivery shows it beside the wake, an immediate receive beside the answer, whose first figure is its
-- length; bytes past it are 0."
-- Assumes nothing.
use Rattle.std.specs.Prelude.{ℕ, Bool, true, false, List, [], ◌∷◌, replicate}
use Rattle.scope.specs.declared.State.{State}
use Rattle.scope.specs.declared.Answer.{Answer}
use Rattle.scope.specs.declared.Waking.{Waking}
use Rattle.scope.specs.declared.Found.{Found}
use Rattle.scope.specs.declared.Found.TheVariants.{At, Deleted, Invalid}
use Rattle.scope.specs.Choice.{pick}
use Rattle.scope.specs.Statuses.{OK, INVALID_ID, OBJECT_DELETED, BAD_STATE}
use Rattle.scope.specs.Views.{with_line, running_task}

-- "Options are bit 0: FIFO, FORCED_DELETE, NOWAIT.": an option's bit as a number
unfoldable pub bit_of : Bool → ℕ
bit_of b = pick b 1 0

abbrev pub no_wakes : List ℕ
no_wakes = replicate 32 0

-- no message is shown
abbrev pub no_message : List ℕ
no_message = replicate 64 0

-- a status, four values, the state after it and nobody woken
unfoldable pub answer : State → ℕ → ℕ → ℕ → ℕ → ℕ → Bool → Answer
answer s status v0 v1 v2 v3 negative =
    record {
      state = s;
      wakes = no_wakes;
      woken = 0;
      why = 0;
      status = status;
      values = v0 ∷ v1 ∷ v2 ∷ v3 ∷ [];
      negative = negative;
      running = running_task s;
      delivers = false;
      length = 0;
      shown = no_message;
    }

-- a status and nothing more. "A refusal (any status but 0 and 1) has four zero values, an empty wake list, and the given state
-- back; its running task is the present one"
unfoldable pub plain : State → ℕ → Answer
unfolding answer
plain s status = answer s status 0 0 0 0 false

-- done, with one value
unfoldable pub gives : State → ℕ → Answer
unfolding answer
gives s v = answer s OK v 0 0 0 false

-- "or 0 with BAD_STATE"
unfoldable pub bad_state : State → Answer
bad_state s =
    record {
      state = s;
      wakes = no_wakes;
      woken = 0;
      why = 0;
      status = BAD_STATE;
      values = 0 ∷ 0 ∷ 0 ∷ 0 ∷ [];
      negative = false;
      running = 0;
      delivers = false;
      length = 0;
      shown = no_message;
    }

-- done, with these tasks woken, all with the status `why`
unfoldable pub wakes_with : State → Waking → ℕ → Answer
wakes_with s w why =
    record {
      state = with_line s w.line;
      wakes = w.wakes;
      woken = w.woken;
      why = why;
      status = OK;
      values = 0 ∷ 0 ∷ 0 ∷ 0 ∷ [];
      negative = false;
      running = running_task (with_line s w.line);
      delivers = false;
      length = 0;
      shown = no_message;
    }

-- "an immediate receive beside the answer, whose first figure is its length": a message of n bytes is shown
unfoldable pub shows : State → ℕ → List ℕ → Answer
shows s n message =
    record {
      state = s;
      wakes = no_wakes;
      woken = 0;
      why = 0;
      status = OK;
      values = n ∷ 0 ∷ 0 ∷ 0 ∷ [];
      negative = false;
      running = running_task s;
      delivers = false;
      length = 0;
      shown = message;
    }

-- "a delivery shows it beside the wake": who is woken is given a message of n bytes
unfoldable pub delivers_to : State → Waking → ℕ → List ℕ → Answer
delivers_to s w n message =
    record {
      state = with_line s w.line;
      wakes = w.wakes;
      woken = w.woken;
      why = OK;
      status = OK;
      values = 0 ∷ 0 ∷ 0 ∷ 0 ∷ [];
      negative = false;
      running = running_task (with_line s w.line);
      delivers = true;
      length = n;
      shown = message;
    }

-- what an identifier names, or its refusal: 4 and 5
unfoldable pub on_found : Found → State → (ℕ → Answer) → Answer
on_found (At i) s f = f i
on_found Deleted s f = plain s OBJECT_DELETED
on_found Invalid s f = plain s INVALID_ID
