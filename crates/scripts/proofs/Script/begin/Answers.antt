use native.Mathlib.Omega.{arith}
use mathlib.Core.Path.{refl}
use Rattle.scripts.proofs.Laws.{header, begun}
use Rattle.scripts.proofs.Script.begin.Goals as goal

pub read_number-requires : goal.read_number-requires
read_number-requires c = omega (arith, (header _ c.args.self.now.tested).long)

pub read_number-requires-2 : goal.read_number-requires-2
read_number-requires-2 c = omega (arith, (header _ c.args.self.now.tested).long)

pub returns : goal.returns
returns c =
    begun c.args.self.now.bytes.now _ c.args.self.now.tested c.read_number.ensures refl c.read_number-2.ensures
