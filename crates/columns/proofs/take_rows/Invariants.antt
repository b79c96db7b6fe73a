-- `columns::take_rows`: before row i those below it are taken.
use Rattle.std.proofs.Common.{◌≡◌}
use Rattle.std.proofs.lemmas.List.Edits.{sets}
use Rattle.fields.specs.Columns.{take_column}
use Rattle.columns.proofs.take_rows.Given as goal

abbrev pub invariant-loop-i : goal.invariant-loop-i
invariant-loop-i l = l.xs ≡ sets l.initial.xs 0 (take_column 1 l.many l.stride l.i l.s l.at)
