-- `columns::flags_only`: a slot more.
use Rattle.std.proofs.Common.{refl}
use Rattle.fields.proofs.Testing.{looking_more}
use Rattle.columns.proofs.flags_only.Goals as goal

pub loop-i-preserved : goal.loop-i-preserved
loop-i-preserved c = looking_more c.args.stride c.args.s.now c.args.at c.loop-i.ok _ c.loop-i.i refl c.loop-i.invariant
