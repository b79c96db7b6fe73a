-- What an answer tells: all of it but the state. "An answer is a status, four values (0 where none is named), the wake list (task
-- and status, in order) and the running task after it, 0 if none." M-100: "a delivery shows it beside the wake, an immediate receive
-- beside the answer". What is told of replies can't read a state.
-- Assumes nothing.
use Rattle.std.specs.Prelude.{ℕ, zero, suc, Bool, List, [], ◌∷◌, get_or}
use Rattle.scope.specs.declared.Answer.{Answer}

-- a task, by its identifier, and the status it is woken with
pub record Wake : Type 0 where
  pub task : ℕ
  pub status : ℕ

pub record Reply : Type 0 where
  pub status : ℕ
  pub values : List ℕ
  -- whether the second value stands for minus that number
  pub negative : Bool
  pub wakes : List Wake
  pub running : ℕ
  -- whether the wake is the delivery of a message, and that message's length
  pub delivers : Bool
  pub length : ℕ
  -- the message shown
  pub shown : List ℕ

-- places k, k + 1, .. (n of them) of the tasks woken, all with the status `why`
abbrev pub wakes_from : ℕ → ℕ → List ℕ → ℕ → List Wake
wakes_from zero k tasks why = []
wakes_from (suc n) k tasks why = record { task = get_or tasks k 0; status = why } ∷ wakes_from n (suc k) tasks why

-- "the wake list (task and status, in order)"
abbrev pub wake_list : Answer → List Wake
wake_list a = wakes_from a.woken 0 a.wakes a.why

abbrev pub reply_of : Answer → Reply
reply_of a =
    record {
      status = a.status;
      values = a.values;
      negative = a.negative;
      wakes = wake_list a;
      running = a.running;
      delivers = a.delivers;
      length = a.length;
      shown = a.shown;
    }
