-- `rules::is_admitted`: the tests are those of its definition, in turn.
use mathlib.Core.Bool.{and_assoc}
use Rattle.scope.specs.Rules.{admitted}
use Rattle.rules.proofs.is_admitted.Goals as goal

pub returns : goal.returns
unfolding admitted
returns c =
    simp and_assoc (rw (
      c.is_area.ensures,
      c.is_size.ensures,
      c.is_within.ensures,
      c.buffers_of.ensures,
    ))
