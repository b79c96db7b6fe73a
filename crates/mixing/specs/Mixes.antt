-- A mix: its head, its records, and the checksum by which two programs that play it are compared.
-- Assumes nothing.
use Rattle.std.specs.Prelude.{ℕ, ◌+◌, ◌*◌, ◌%◌, List, length, get_or, ltb, leb}
use Rattle.scope.specs.Choice.{pick}
use Rattle.scope.specs.Script.{number32}
use Rattle.answers.specs.declared.Outcome.{Outcome}
use Rattle.scope.specs.declared.Request.{Request}
use Rattle.text.specs.Records.{record_at}
use Rattle.mixing.specs.declared.Head.{Head}

-- nothing to play where there is no head
unfoldable pub head_of : List ℕ → Head
head_of file =
    pick (ltb (length file) 16)
    (record { count = 0; first = 0; rounds = 0 })
    (record { count = number32 file 0; first = number32 file 4; rounds = number32 file 8 })

abbrev pub nobody_ticks : Request
nobody_ticks = record { call = 0; mark = 0; a = 0; b = 0; c = 0; d = 0; e = 0 }

-- record k, as in a script; a tick by nobody past the end
unfoldable pub mix_record : List ℕ → ℕ → Request
mix_record file k = pick (ltb k 2340) (pick (leb (16 + 28 * k + 28) (length file)) (record_at file (16 + 28 * k)) nobody_ticks) nobody_ticks

-- a checksum that depends on the order
abbrev pub mixed_with : ℕ → ℕ → ℕ
mixed_with sum x = (sum * 31 + x) % 4294967296

-- with an answer's status, running task, first two values, number of wakes and first wake
unfoldable pub summed_with : ℕ → Outcome → ℕ → List ℕ → ℕ
summed_with sum o running wakes =
    mixed_with (mixed_with (mixed_with (mixed_with (mixed_with (mixed_with sum o.status) running) (get_or o.values 0 0)) (get_or o.values 1 0))
    (o.woken % 64)) (get_or wakes 0 0)
