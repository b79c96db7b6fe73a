-- `image::order_is`: bytes side by side are a column of stride 1.
use mathlib.Core.Path.{ap, ◌∙◌}
use mathlib.Core.List.{List}
use Prim.Native.Nat.{ℕ}
use lib.ListN.{length}
use borrow.Author.Rules.{rules}
use Rattle.fields.specs.Columns.{take_column, part}
use Rattle.fields.proofs.Testing.{tells_one, side_by_side}
use Rattle.image.specs.Image.{order_at}
use Rattle.image.specs.Reading.{same_bytes}
use Rattle.image.proofs.Tests.{same_tells}
use Rattle.image.proofs.order_is.Goals as goal

pub returns : goal.returns
returns c =
    let b = c.args.image.now in
    let xs = c.args.places.now in
    tells_one _ _ c.is_column.ensures (same_tells (take_column 1 1 1 (length xs) b order_at) xs)
    ∙ ap (λ (l : List ℕ). same_bytes l xs) (side_by_side (length xs) b order_at)
    ∙ ap (λ (n : ℕ). same_bytes (part n order_at b) xs) (search rules)
