-- "A script is at most 65,536 bytes, of little-endian 32-bit numbers: count of records, offset of the first, priority of the
-- first task, zero; then records of seven: call, caller mark, five arguments (unused ones ignored)."
-- Assumes nothing.
use Rattle.std.specs.Prelude.{ℕ, ◌+◌, ◌*◌, Bool, not, ◌&&◌, List, ◌++◌, length, get_or, take, drop, replicate, leb, eqb}
use Rattle.scope.specs.declared.State.{State}
use Rattle.scope.specs.declared.Answer.{Answer}
use Rattle.scope.specs.Tasks.{last_priority}
use Rattle.scope.specs.Step.{stepped}

-- the little-endian number in the four bytes at a place
unfoldable pub number32 : List ℕ → ℕ → ℕ
number32 bytes at =
    get_or bytes at 0 + get_or bytes (at + 1) 0 * 256 + get_or bytes (at + 2) 0 * 65536 + get_or bytes (at + 3) 0 * 16777216

abbrev pub record_count : List ℕ → ℕ
record_count script = number32 script 0

abbrev pub first_offset : List ℕ → ℕ
first_offset script = number32 script 4

abbrev pub first_priority : List ℕ → ℕ
first_priority script = number32 script 8

-- "Refused ..: too long, shorter than 16, offset below 16, offset + 28 × count above the script's length, priority above 15,
-- fourth number not zero. Other bytes are ignored."
unfoldable pub is_script : List ℕ → Bool
is_script script =
    leb (length script) 65536 && (leb 16 (length script) && (leb 16 (first_offset script)
    && (leb (first_offset script + 28 * record_count script) (length script)
    && (leb (first_priority script) last_priority && eqb (number32 script 12) 0))))

-- M-100: "In a script the three arguments left are the first 12 bytes, the rest zeros": the message that the record at a place lends,
-- behind the call, the mark, and a send's identifier and length
unfoldable pub message_at : List ℕ → ℕ → List ℕ
message_at script at = take 12 (drop (at + 16) script) ++ replicate 52 0

-- the step that the record at a place asks for
unfoldable pub step_at : List ℕ → ℕ → State → Answer
step_at script at s =
    stepped s (number32 script at) (number32 script (at + 4)) (number32 script (at + 8)) (number32 script (at + 12))
    (number32 script (at + 16)) (number32 script (at + 20)) (number32 script (at + 24)) (message_at script at)
