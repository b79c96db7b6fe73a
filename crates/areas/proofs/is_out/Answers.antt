use mathlib.Core.Path.{refl}
use Rattle.scope.specs.Areas.{is_out}
use Rattle.areas.proofs.is_out.Goals as goal

pub returns : goal.returns
unfolding is_out
returns c = refl
