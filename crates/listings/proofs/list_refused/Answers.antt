-- The one line is the listing; it stands in the lent bytes where it fits there.
use mathlib.Core.Path.{sym, ap, ◌∙◌}
use mathlib.Core.List.{List, ◌++◌}
use Prim.Native.Nat.{ℕ}
use lib.ListN.{drop}
use borrow.Author.Rules.{rules}
use Rattle.listings.proofs.Parts.{refused_is, refused_exact, whole_none, whole_put}
use Rattle.listings.proofs.list_refused.Goals as goal

pub returns-then-n-out : goal.returns-then-n-out
returns-then-n-out c =
    let line = c.put_refused-n.ensures in
    whole_put c.args.script.now c.args.out.now _ _ (refused_exact _ _ c.requires.0 line.0) c.if-n-out.true
    (ap (λ (l : List ℕ). l ++ drop c.put_refused-n.result c.args.out.now)
    (c.copy_from_slice.ensures.after ∙ line.1 ∙ sym (refused_is c.args.script.now c.requires.0)))

pub returns-else-n-out : goal.returns-else-n-out
returns-else-n-out c =
    whole_none c.args.script.now c.args.out.now _ (refused_exact _ _ c.requires.0 c.put_refused-n.ensures.0) (search rules)
