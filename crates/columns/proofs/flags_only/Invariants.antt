-- `columns::flags_only`: before slot i those below it are looked at.
use Rattle.std.proofs.Common.{◌≡◌}
use Rattle.fields.specs.Columns.{take_column}
use Rattle.fields.specs.Tests.{only_flags}
use Rattle.columns.proofs.flags_only.Given as goal

abbrev pub invariant-loop-i : goal.invariant-loop-i
invariant-loop-i l = l.ok ≡ only_flags (take_column 1 1 l.stride l.i l.s l.at)
