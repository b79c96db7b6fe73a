-- The listing, as bytes: "record, status, four values, running, wakes".
-- Assumes nothing.
use Rattle.std.specs.Prelude.{ℕ, zero, suc, ◌+◌, ◌/◌, ◌%◌, Bool, true, false, List, [], ◌∷◌, ◌++◌, get_or, ltb}
use Rattle.scope.specs.declared.State.{State}
use Rattle.scope.specs.declared.Answer.{Answer}
use Rattle.scope.specs.Choice.{pick}
use Rattle.scope.specs.Replies.{Wake, Reply, reply_of}
use Rattle.scope.specs.Fresh.{fresh_state}
use Rattle.scope.specs.Script.{record_count, first_offset, first_priority, is_script, step_at}

-- the decimal digits of a number of at most k of them, "no leading zeros"
abbrev pub digits : ℕ → ℕ → List ℕ
digits zero n = []
digits (suc k) n = elim (ltb n 10) [ true ↦ (48 + n) ∷ [] | false ↦ digits k (n / 10) ++ ((48 + n % 10) ∷ []) ]

-- ten digits hold any number of 32 bits
unfoldable pub decimal : ℕ → List ℕ
decimal n = digits 10 n

-- "sem_info's count is signed, as `-1`"
unfoldable pub signed : Bool → ℕ → List ℕ
signed negative n = pick negative (45 ∷ decimal n) (decimal n)

-- "one space between fields"
abbrev pub field : List ℕ → List ℕ
field bytes = 32 ∷ bytes

-- "wakes are `task:status` in order"
unfoldable pub wake_fields : List Wake → List ℕ
wake_fields [] = []
wake_fields (w ∷ ws) = field (decimal w.task ++ (58 ∷ decimal w.status)) ++ wake_fields ws

-- M-100: "a delivery reads `task:0:length`": it wakes one task, and the length is behind its status
unfoldable pub delivery_field : Bool → ℕ → List ℕ
delivery_field delivers n = pick delivers (58 ∷ decimal n) []

-- A line tells what the answer tells, all but the message shown, and nothing else of the state. "a newline after each line"
unfoldable pub line_of : ℕ → Reply → List ℕ
line_of record# r =
    decimal record#
    ++ (field (decimal r.status)
    ++ (field (decimal (get_or r.values 0 0))
    ++ (field (signed r.negative (get_or r.values 1 0))
    ++ (field (decimal (get_or r.values 2 0))
    ++ (field (decimal (get_or r.values 3 0))
    ++ (field (decimal r.running)
    ++ (wake_fields r.wakes
    ++ (delivery_field r.delivers r.length
    ++ (10 ∷ [])))))))))

-- "Records count from 1": the lines of n records from a place on, record k first
unfoldable pub lines_from : List ℕ → ℕ → ℕ → ℕ → State → List ℕ
lines_from script zero k at s = []
lines_from script (suc n) k at s =
    let a : Answer = step_at script at s in
    line_of k (reply_of a) ++ lines_from script n (suc k) (at + 28) a.state

-- "script refused" and a newline
unfoldable pub refused_line : List ℕ
refused_line =
    115 ∷ 99 ∷ 114 ∷ 105 ∷ 112 ∷ 116 ∷ 32 ∷ 114 ∷ 101 ∷ 102 ∷ 117 ∷ 115 ∷ 101 ∷ 100 ∷ 10 ∷ []

-- "Refused with the one line `script refused`"; "A listing without records is empty."
unfoldable pub listing : List ℕ → List ℕ
listing script =
    elim (is_script script) [
      | true ↦ lines_from script (record_count script) 1 (first_offset script) (fresh_state (first_priority script))
      | false ↦ refused_line
    ]
