-- `columns::is_column`: before slot i those below it are compared.
use Rattle.std.proofs.Common.{◌≡◌, map, take}
use Rattle.fields.specs.Columns.{take_column}
use Rattle.fields.specs.Tests.{Tells}
use Rattle.columns.proofs.is_column.Given as goal

abbrev pub invariant-loop-i : goal.invariant-loop-i
invariant-loop-i g l = Tells l.ok (take_column g.T.Entry.BYTES 1 l.stride l.i l.s l.at ≡ take l.i (map g.T.Entry.number l.xs))
