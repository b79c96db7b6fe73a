-- `places::none_above`: the test of all places passed; the slice lent is the row.
use mathlib.Core.Path.{refl, ap, ◌∙◌}
use mathlib.Core.List.{List}
use Prim.Native.Nat.{ℕ}
use lib.ListN.{get_or}
use lib.Dec.{leb}
use Rattle.scope.specs.Choice.{every}
use Rattle.places.proofs.Rows.{row_lent}
use borrow.Author.Rules.{rules}
use Rattle.laws.proofs.Testing.{testing_start, testing_more, testing_done}
use Rattle.places.proofs.none_above.Goals as goal

pub loop-x-init : goal.loop-x-init
loop-x-init c = testing_start _ _

pub loop-x-preserved : goal.loop-x-preserved
loop-x-preserved c = testing_more c.loop-x.invariant (search rules) refl

pub returns : goal.returns
returns c =
    testing_done c.loop-x.invariant (search rules)
    ∙ ap (λ (r : List ℕ). every (λ k. leb (get_or r k 0) c.args.most) 64) (row_lent c.args.places.now c.args.i)
