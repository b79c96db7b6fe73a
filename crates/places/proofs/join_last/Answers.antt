-- `places::join_last`: one place of the pool's row is set, to the next behind the free ones.
use Prim.Native.Nat.{◌+◌}
use Rattle.scope.specs.Places.{joins_last}
use Rattle.places.proofs.Rows.{set_row}
use Rattle.places.proofs.join_last.Goals as goal

pub returns : goal.returns
unfolding joins_last
returns c =
    let a = c.args in
    set_row a.places.now a.i a.k (a.free + 1) c.requires.0 c.requires.2
