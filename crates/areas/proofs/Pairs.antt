-- Pools that share a byte: what the loop over the pairs tests at each turn, and where it stops.
-- Assumes nothing.
use Prim.Native.Nat.{ℕ, ◌+◌, ◌≤◌, ◌<◌}
use native.Mathlib.Omega.{arith}
use mathlib.Core.Path.{◌≡◌, sym, ◌∙◌}
use mathlib.Core.Bool.{Bool, true, false, not}
use lib.Dec.{ltb}
use borrow.Author.Count.{below_more}
use borrow.Author.Tests.{lt-ltb, le-ltb}
use Rattle.scope.specs.Choice.{pick, every}
use Rattle.laws.proofs.Branches.{picked_yes, picked_no, not_of_true, not_of_false}
use Rattle.laws.proofs.Searches.{every_yes, every_no}

-- `f` tells of a pair of slots whether their pools do
module _ (f : ℕ → ℕ → Bool) where
  -- a pair in its order is not one that f tells of
  abbrev pub clear : ℕ → ℕ → Bool
  clear i j = pick (ltb i j) (not (f i j)) true

  abbrev pub RowClear : ℕ → ℕ → Type 0
  RowClear i j = (l : ℕ) → l < j → clear i l ≡ true

  abbrev pub RowsClear : ℕ → Type 0
  RowsClear i = (k : ℕ) → k < i → every (clear k) 8 ≡ true

  pub row_start : (i : ℕ) → RowClear i (i + 1)
  row_start i l h = picked_no (ltb i l) (not (f i l)) true (le-ltb i l (omega arith))

  -- b is what the code's test of the pair gave
  pub row_more : (i j : ℕ) (b : Bool) → i < j → b ≡ f i j → b ≡ false → RowClear i j → RowClear i (j + 1)
  row_more i j b h d e r =
      below_more (λ (l : ℕ). clear i l ≡ true) j r
      (picked_yes (ltb i j) (not (f i j)) true (lt-ltb i j h) ∙ not_of_false (f i j) (sym d ∙ e))

  pub rows_more : (i j : ℕ) → 8 ≤ j → RowClear i j → RowsClear i → RowsClear (i + 1)
  rows_more i j h r rs =
      below_more (λ (k : ℕ). every (clear k) 8 ≡ true) i rs (every_yes (clear i) 8 (λ l b. r l (omega arith)))

  -- the two ends of the loop over the pairs: at a pair that f tells of, and past the last
  pub pairs_hit : (i j : ℕ) (b : Bool) → i < j → j < 8 → b ≡ f i j → b ≡ true → false ≡ every (λ k. every (clear k) 8) 8
  pairs_hit i j b h l d e =
      sym (every_no (λ k. every (clear k) 8) 8 i (omega arith)
      (every_no (clear i) 8 j l (picked_yes (ltb i j) (not (f i j)) true (lt-ltb i j h) ∙ not_of_true (f i j) (sym d ∙ e))))

  pub pairs_none : (i : ℕ) → 8 ≤ i → RowsClear i → true ≡ every (λ k. every (clear k) 8) 8
  pairs_none i h rs = sym (every_yes (λ k. every (clear k) 8) 8 (λ k l. rs k (omega arith)))
