-- `messages::clear`: the whole row is wiped.
use Prim.Native.Nat.{ℕ}
use mathlib.Core.Path.{◌≡◌, ap, ◌∙◌}
use mathlib.Core.List.{List}
use lib.ListN.{length, set}
use Rattle.scope.specs.Messages.{store, cleared}
use Rattle.scope.specs.Queues.{with_store}
use Rattle.messages.proofs.Cells.{clear_is}
use borrow.Author.Rules.{rules}
use Rattle.messages.proofs.clear.Goals as goal

pub returns : goal.returns
unfolding cleared
returns c =
    let g = c.well_formed in
    let u = c.args.queues.now in
    let size : length u.cells ≡ 8320 = search (rules, g) in
    ap (λ (l : List ℕ). with_store u (store l (set u.held c.args.i 0))) (c.wipe.ensures ∙ clear_is u.cells c.args.i 0 size c.requires)
