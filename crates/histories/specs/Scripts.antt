-- A script as a history: the event that each of its records asks for, what the answers along a history tell, and the lines of
-- these.
-- Assumes nothing.
use Rattle.std.specs.Prelude.{ℕ, zero, suc, ◌+◌, List, [], ◌∷◌, ◌++◌}
use Rattle.scope.specs.declared.State.{State}
use Rattle.scope.specs.Replies.{Reply, reply_of}
use Rattle.scope.specs.Script.{number32, record_count, first_offset, message_at}
use Rattle.scope.specs.Listing.{line_of}
use Rattle.histories.specs.History.{Event, answer_to}

-- "records of seven: call, caller mark, five arguments": the record at a place
abbrev pub event_at : List ℕ → ℕ → Event
event_at script at =
    record {
      call = number32 script at;
      mark = number32 script (at + 4);
      a = number32 script (at + 8);
      b = number32 script (at + 12);
      c = number32 script (at + 16);
      d = number32 script (at + 20);
      e = number32 script (at + 24);
      message = message_at script at;
    }

-- n records from a place on
abbrev pub events_from : List ℕ → ℕ → ℕ → List Event
events_from script zero at = []
events_from script (suc n) at = event_at script at ∷ events_from script n (at + 28)

-- "count of records, offset of the first": all records of a script
abbrev pub events_of : List ℕ → List Event
events_of script = events_from script (record_count script) (first_offset script)

-- what the answers to a history tell, the first first
abbrev pub replies_along : State → List Event → List Reply
replies_along s [] = []
replies_along s (x ∷ xs) = reply_of (answer_to s x) ∷ replies_along (answer_to s x).state xs

-- "Records count from 1": a line for each, the first of them record k's
abbrev pub lines_of : ℕ → List Reply → List ℕ
lines_of k [] = []
lines_of k (r ∷ rs) = line_of k r ++ lines_of (suc k) rs
