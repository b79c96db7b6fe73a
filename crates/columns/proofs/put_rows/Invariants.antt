-- `columns::put_rows`: before row i those below it are put.
use Rattle.std.proofs.Common.{◌≡◌}
use Rattle.fields.specs.Columns.{put_column}
use Rattle.columns.proofs.put_rows.Given as goal

abbrev pub invariant-loop-i : goal.invariant-loop-i
invariant-loop-i l = l.s ≡ put_column 1 l.many l.stride l.i l.xs l.at l.initial.s
