-- `places::new_row`: the loop fills the row by buffers.
use Prim.Native.Nat.{◌+◌}
use lib.ListN.{replicate}
use lib.Dec.{ltb}
use borrow.Author.Rules.{rules}
use Rattle.scope.specs.Choice.{pick}
use Rattle.scope.specs.Places.{new_row}
use Rattle.scope.proofs.Places.{length_new, new_at}
use Rattle.laws.proofs.Arrays.{changing_start, changing_more, changing_done}
use Rattle.places.proofs.new_row.Goals as goal

pub loop-k-init : goal.loop-k-init
loop-k-init c = changing_start 64 (λ j x. pick (ltb j c.args.n) (j + 1) 0) (replicate 64 0) (search rules)

pub loop-k-preserved : goal.loop-k-preserved
loop-k-preserved c = changing_more 64 (λ j x. pick (ltb j c.args.n) (j + 1) 0) (replicate 64 0) c.loop-k.row c.loop-k.k _ (search rules) c.new_place.ensures c.loop-k.invariant

pub returns : goal.returns
returns c = changing_done 64 (λ j x. pick (ltb j c.args.n) (j + 1) 0) (replicate 64 0) c.loop-k.row (new_row c.args.n) c.loop-k.k (search rules) (length_new _) (λ j l. new_at _ j l) c.loop-k.invariant
