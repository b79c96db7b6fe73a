-- `rules::pools_kept`: each rule of the pools is asked by its function.
use mathlib.Core.Bool.{and_assoc}
use Rattle.rules.proofs.pools_kept.Goals as goal

pub returns : goal.returns
returns c = simp and_assoc (rw (c.pools_right.ensures, c.orders_right.ensures, c.pools_apart.ensures))
