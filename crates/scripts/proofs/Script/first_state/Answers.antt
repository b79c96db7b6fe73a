use Prim.Native.Nat.{ℕ}
use native.Mathlib.Omega.{arith}
use mathlib.Core.Path.{ap, ◌∙◌}
use Rattle.scope.specs.Fresh.{fresh}
use Rattle.scripts.proofs.Laws.{header, fresh_is}
use Rattle.scripts.proofs.Script.first_state.Goals as goal

pub read_number-requires : goal.read_number-requires
read_number-requires c = omega (arith, (header _ c.args.self.now.tested).long)

pub returns : goal.returns
returns c =
    c.fresh_value.ensures ∙ ap (λ (n : ℕ). (fresh n).state) c.read_number.ensures ∙ fresh_is _ (header _ c.args.self.now.tested).urgent
