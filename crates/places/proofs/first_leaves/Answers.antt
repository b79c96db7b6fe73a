-- `places::first_leaves`: the loop maps the row in place.
use Prim.Native.Nat.{◌-◌}
use borrow.Author.Rules.{rules}
use Rattle.scope.specs.Places.{first_leaves}
use Rattle.laws.proofs.Arrays.{changing_start, changing_more, mapping_done}
use Rattle.places.proofs.first_leaves.Goals as goal

pub loop-x-init : goal.loop-x-init
loop-x-init c = changing_start 64 (λ j x. x - 1) c.args.row (search rules)

pub loop-x-preserved : goal.loop-x-preserved
loop-x-preserved c = changing_more 64 (λ j x. x - 1) c.args.row c.loop-x.x-items c.loop-x.x-index _ (search rules) c.saturating_sub.ensures c.loop-x.invariant

pub returns : goal.returns
unfolding first_leaves
returns c = mapping_done 64 (λ x. x - 1) c.args.row c.loop-x.x-items c.loop-x.x-index (search rules) c.loop-x.invariant
