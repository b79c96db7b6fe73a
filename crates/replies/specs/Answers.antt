-- The answer of a step as bytes that C reads as a struct, and back. "An answer is a status, four values (0 where none is named),
-- the wake list (task and status, in order) and the running task after it, 0 if none." "a delivery shows it beside the wake, an
-- immediate receive beside the answer". Little-endian, no gaps: 236 bytes.
-- Assumes nothing.
use Rattle.std.specs.Prelude.{ℕ, Bool, List, [], ◌∷◌, get_or}
use Rattle.scope.specs.declared.Answer.{Answer}
use Rattle.scope.specs.Answers.{bit_of}
use Rattle.answers.specs.declared.Outcome.{Outcome}
use Rattle.fields.specs.Fields.{Table, bytes_of}
use Rattle.image.specs.Image.{each, bytes, table}

-- the numbers in their order, each of four bytes
abbrev pub numbers_of : (status v0 v1 v2 v3 : ℕ) → (negative : Bool) → (running woken why : ℕ) → (delivers : Bool) → (length : ℕ) → List ℕ
numbers_of status v0 v1 v2 v3 negative running woken why delivers length =
    status ∷ v0 ∷ v1 ∷ v2 ∷ v3 ∷ bit_of negative ∷ running ∷ woken ∷ why ∷ bit_of delivers ∷ length ∷ []

-- those of an outcome, beside the running task
abbrev pub numbers_by : Outcome → ℕ → List ℕ
numbers_by o running =
    numbers_of o.status (get_or o.values 0 0) (get_or o.values 1 0) (get_or o.values 2 0) (get_or o.values 3 0) o.negative running o.woken
    o.why o.delivers o.length

-- eleven numbers, 32 places of the wake list, the 64 bytes of the message shown
abbrev pub answer_tables : List ℕ → List ℕ → List ℕ → List Table
answer_tables numbers wakes shown =
    table 11 (each 4 numbers ∷ []) ∷ table 32 (each 4 wakes ∷ []) ∷ table 1 (bytes 64 shown ∷ []) ∷ []

unfoldable pub answer_bytes : List ℕ → List ℕ → List ℕ → List ℕ
answer_bytes numbers wakes shown = bytes_of (answer_tables numbers wakes shown)

unfoldable pub bytes_of_answer : Answer → List ℕ
bytes_of_answer a =
    answer_bytes
    (numbers_of a.status (get_or a.values 0 0) (get_or a.values 1 0) (get_or a.values 2 0) (get_or a.values 3 0) a.negative
    a.running a.woken a.why a.delivers a.length)
    a.wakes a.shown
