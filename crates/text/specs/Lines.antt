-- A number's last digits, the longest line, and what an answer tells, put together from an outcome, the wake list, the message shown and
-- the running task: nothing more of the state.
-- Assumes nothing.
use Rattle.std.specs.Prelude.{ℕ, ◌+◌, ◌/◌, ◌%◌, List, [], ◌∷◌}
use Rattle.scope.specs.Replies.{Reply, wakes_from}
use Rattle.answers.specs.declared.Outcome.{Outcome}

-- the last two digits of a number, which are all of one from 10 to 99
abbrev pub last_two : ℕ → List ℕ
last_two n = (48 + n / 10 % 10) ∷ (48 + n % 10) ∷ []

-- no line is longer: a record number of 10 digits, six fields of 11 bytes, a minus sign, 32 wakes of 22, a delivery of 11, a newline
abbrev pub longest_line : ℕ
longest_line = 793

abbrev pub reply_by : List ℕ → List ℕ → Outcome → ℕ → Reply
reply_by wakes shown o running =
    record {
      status = o.status;
      values = o.values;
      negative = o.negative;
      wakes = wakes_from o.woken 0 wakes o.why;
      running = running;
      delivers = o.delivers;
      length = o.length;
      shown = shown;
    }
