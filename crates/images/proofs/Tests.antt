-- The three tests, joined, tell whether the bytes are those that the state in them writes.
-- Assumes nothing.
use mathlib.Core.Path.{◌≡◌, sym, ap, ◌∙◌}
use mathlib.Core.Bool.{Bool, ◌&&◌}
use mathlib.Core.List.{List}
use Prim.Native.Nat.{ℕ}
use lib.ListN.{length}
use Rattle.fields.specs.Columns.{part, take_column}
use Rattle.fields.proofs.Bytes.{Bytes}
use Rattle.orders.specs.Places.{order_places}
use Rattle.image.specs.Image.{image_of, image_size, order_at}
use Rattle.image.specs.Reading.{state_from, same_bytes}
use Rattle.image.specs.Tests.{header_right, flags_right, order_right}
use Rattle.image.proofs.Calls.{joined}
use Rattle.image.proofs.Tests.{written_tests}

module _ (b : List ℕ) (q : Bytes b) (h : length b ≡ image_size) where
  pub tested : (seat places : List ℕ) (header flags order : Bool) → seat ≡ take_column 2 1 17 32 b 54 → places ≡ order_places seat
      → header ≡ header_right b → flags ≡ flags_right b → order ≡ same_bytes (part 32 order_at b) places
      → (header && (flags && order)) ≡ same_bytes b (image_of (state_from b))
  unfolding order_right
  tested seat places header flags order e f eh ef eo =
      let so : order ≡ order_right b =
      eo ∙ ap (λ (l : List ℕ). same_bytes (part 32 order_at b) l) (f ∙ ap order_places e) in
      joined eh (joined ef so) ∙ sym (written_tests b q h)
