-- `columns::take_column`: before slot i those below it are taken.
use Rattle.std.proofs.Common.{◌≡◌, map}
use Rattle.std.proofs.lemmas.List.Edits.{sets}
use Rattle.fields.specs.Columns.{take_column}
use Rattle.columns.proofs.take_column.Given as goal

abbrev pub invariant-loop-i : goal.invariant-loop-i
invariant-loop-i g l = l.xs ≡ sets l.initial.xs 0 (map g.T.Entry.value (take_column g.T.Entry.BYTES 1 l.stride l.i l.s l.at))
