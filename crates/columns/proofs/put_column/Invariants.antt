-- `columns::put_column`: before slot i those below it are put.
use Rattle.std.proofs.Common.{◌≡◌, map}
use Rattle.fields.specs.Columns.{put_column}
use Rattle.columns.proofs.put_column.Given as goal

abbrev pub invariant-loop-i : goal.invariant-loop-i
invariant-loop-i g l = l.s ≡ put_column g.T.Entry.BYTES 1 l.stride l.i (map g.T.Entry.number l.xs) l.at l.initial.s
