-- "then records of seven: call, caller mark, five arguments": the record at a place of a script.
-- Assumes nothing.
use Rattle.std.specs.Prelude.{ℕ, ◌+◌, List}
use Rattle.scope.specs.Script.{number32}
use Rattle.scope.specs.declared.Request.{Request}

abbrev pub record_at : List ℕ → ℕ → Request
record_at script at =
    record {
      call = number32 script at;
      mark = number32 script (at + 4);
      a = number32 script (at + 8);
      b = number32 script (at + 12);
      c = number32 script (at + 16);
      d = number32 script (at + 20);
      e = number32 script (at + 24);
    }
