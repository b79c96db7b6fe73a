-- What is read of a message lent and of a queue's first cell, and what the verbs of the store do to the list of all cells.
-- Assumes nothing.
use Prim.Native.Nat.{ℕ, ◌+◌, ◌-◌, ◌*◌, ◌≤◌, ◌<◌}
use native.Mathlib.Omega.{arith}
use mathlib.Core.Path.{◌≡◌, refl, sym, ap, ◌∙◌}
use mathlib.Core.List.{List, ◌∷◌, ◌++◌}
use lib.ListN.{length, get_or, set, take, drop, replicate, length-replicate}
use lib.Seq.{paste, take-take, drop-drop, get_or-take, get_or-drop}
use lib.Dec.{ltb, leb}
use borrow.Author.Tests.{lt-ltb, le-ltb, le-leb, lt-leb}
use Rattle.laws.proofs.Branches.{pick_yes, pick_no, both, first_fails, second_fails}
use Rattle.scope.specs.Messages.{shown_of, cell_of, cells_of, with_cells, at_end, in_front, first_gone, first_shown, store, with_queue, appended, pushed, taken}
use Rattle.laws.proofs.Messages.Parts.{drop-take, drop_zeros, pasted, in_middle, moved_up, moved_down}

-- a message lent, copied into zeros
pub shown_is : (m x : List ℕ) (n k : ℕ) → n ≤ 64 → k ≡ n → x ≡ take n m → x ++ drop k (replicate 64 0) ≡ shown_of m n
unfolding shown_of
shown_is m x n k h d e = rw (e, d) (ap (λ (l : List ℕ). take n m ++ l) (drop_zeros n 64 h))

-- and into zeros behind its length
pub cell_is : (m x : List ℕ) (n k : ℕ) → n ≤ 64 → k ≡ n → x ≡ take n m → n ∷ (x ++ drop k (replicate 64 0)) ≡ cell_of m n
unfolding cell_of
cell_is m x n k h d e = ap (λ (l : List ℕ). n ∷ l) (shown_is m x n k h d e)

-- a row's first cell, where it lies
pub first_shown_lem : (cells : List ℕ) (i : ℕ) → take 64 (drop (i * 1040 + 1) cells) ≡ first_shown (cells_of cells i)
unfolding first_shown cells_of
first_shown_lem cells i =
    ap (take 64) (sym (drop-drop 1 (i * 1040) cells))
    ∙ sym (take-take 64 1039 (drop 1 (drop (i * 1040) cells)) (omega arith))
    ∙ ap (take 64) (sym (drop-take 1 1039 (drop (i * 1040) cells)))

pub first_length_lem : (cells : List ℕ) (i : ℕ) → get_or cells (i * 1040) 0 ≡ get_or (cells_of cells i) 0 0
unfolding cells_of
first_length_lem cells i =
    let e : i * 1040 ≡ i * 1040 + 0 = omega arith in
    ap (λ (k : ℕ). get_or cells k 0) e
    ∙ sym (get_or-drop (i * 1040) cells 0 0)
    ∙ sym (get_or-take 1040 (drop (i * 1040) cells) 0 0 (omega arith))

-- what the verbs do to the list of all cells
module _ (cells : List ℕ) (i h : ℕ) (size : length cells ≡ 8320) (hi : i < 8) where
  pub append_is : (cell : List ℕ) → h < 16 → length cell ≡ 65 → paste cells (i * 1040 + h * 65) cell 65 ≡ with_cells cells i (at_end (cells_of cells i) h cell)
  unfolding with_cells at_end cells_of
  append_is cell hh e = in_middle cells (i * 1040) 1040 (omega arith) (h * 65) 65 cell (omega arith) e

  pub push_is : (cell : List ℕ) → h < 16 → length cell ≡ 65
      → paste (paste cells (i * 1040 + 65) (drop (i * 1040) cells) (h * 65)) (i * 1040) cell 65 ≡ with_cells cells i (in_front (cells_of cells i) h cell)
  unfolding with_cells in_front cells_of
  push_is cell hh e = moved_up cells (i * 1040) 1040 (omega arith) (h * 65) 65 cell (omega arith) e

  pub take_is : 0 < h → h ≤ 16
      → paste (paste cells (i * 1040) (drop (i * 1040 + 65) cells) ((h - 1) * 65)) (i * 1040 + (h - 1) * 65) (replicate 65 0) 65
      ≡ with_cells cells i (first_gone (cells_of cells i) h)
  unfolding with_cells first_gone cells_of
  take_is some few =
      let e : 65 + (h - 1) * 65 ≡ h * 65 = omega arith in
      let row : List ℕ = take 1040 (drop (i * 1040) cells) in
      moved_down cells (i * 1040) 1040 (omega arith) ((h - 1) * 65) 65 (replicate 65 0) (omega arith) (length-replicate {A = ℕ} 65 0)
      ∙ ap (λ (k : ℕ). take (i * 1040) cells ++ (drop 65 (take k row) ++ (replicate 65 0 ++ drop k row) ++ drop (i * 1040 + 1040) cells)) e

  pub clear_is : paste cells (i * 1040) (replicate 1040 0) 1040 ≡ with_cells cells i (replicate 1040 0)
  unfolding with_cells
  clear_is = pasted cells (i * 1040) (replicate 1040 0) 1040 (length-replicate {A = ℕ} 1040 0)

-- the store as a whole, by what the code has found of the number held
module _ (cells held : List ℕ) (i h x : ℕ) (size : length cells ≡ 8320) (hi : i < 8) (e : h ≡ get_or held i 0) where
  same : (c : List ℕ) (n y : ℕ) (row : ℕ → List ℕ) → c ≡ with_cells cells i (row h) → n ≡ y → store c (set held i n) ≡ with_queue (store cells held) i (row (get_or held i 0)) y
  same c n y row p q = rw (p ∙ ap (λ (k : ℕ). with_cells cells i (row k)) e, q)

  pub append_told : (cell c : List ℕ) → length cell ≡ 65 → h < 16 → c ≡ paste cells (i * 1040 + h * 65) cell 65 → x ≡ h + 1
      → store c (set held i x) ≡ appended (store cells held) i cell
  unfolding appended
  append_told cell c l few p q =
      pick_yes _ _ _ (lt-ltb (get_or held i 0) 16 (omega arith))
      (same c x (get_or held i 0 + 1) (λ k. at_end (cells_of cells i) k cell) (p ∙ append_is cells i h size hi cell few l) (omega arith))

  pub push_told : (cell c d : List ℕ) → length cell ≡ 65 → h < 16 → d ≡ paste cells (i * 1040 + 65) (drop (i * 1040) cells) (h * 65) → c ≡ paste d (i * 1040) cell 65 → x ≡ h + 1
      → store c (set held i x) ≡ pushed (store cells held) i cell
  unfolding pushed
  push_told cell c d l few r p q =
      pick_yes _ _ _ (lt-ltb (get_or held i 0) 16 (omega arith))
      (same c x (get_or held i 0 + 1) (λ k. in_front (cells_of cells i) k cell)
      (p ∙ ap (λ (k : List ℕ). paste k (i * 1040) cell 65) r ∙ push_is cells i h size hi cell few l)
      (omega arith))

  pub take_told : (c d : List ℕ) → 0 < h → h ≤ 16 → d ≡ paste cells (i * 1040) (drop (i * 1040 + 65) cells) ((h - 1) * 65)
      → c ≡ paste d (i * 1040 + (h - 1) * 65) (replicate 65 0) 65 → x ≡ h - 1
      → store c (set held i x) ≡ taken (store cells held) i
  unfolding taken
  take_told c d some few r p q =
      pick_yes _ _ _ (both _ _ (lt-ltb 0 (get_or held i 0) (omega arith)) (le-leb (get_or held i 0) 16 (omega arith)))
      (same c x (get_or held i 0 - 1) (λ k. first_gone (cells_of cells i) k)
      (p ∙ ap (λ (k : List ℕ). paste k (i * 1040 + (h - 1) * 65) (replicate 65 0) 65) r ∙ take_is cells i h size hi some few)
      (omega arith))

-- where the number held is none that a verb asks for
module _ (cells held : List ℕ) (i h : ℕ) (e : h ≡ get_or held i 0) where
  pub append_full : (cell : List ℕ) → 16 ≤ h → store cells held ≡ appended (store cells held) i cell
  unfolding appended
  append_full cell l = pick_no _ _ _ (le-ltb (get_or held i 0) 16 (omega arith)) refl

  pub push_full : (cell : List ℕ) → 16 ≤ h → store cells held ≡ pushed (store cells held) i cell
  unfolding pushed
  push_full cell l = pick_no _ _ _ (le-ltb (get_or held i 0) 16 (omega arith)) refl

  pub take_none : h ≤ 0 → store cells held ≡ taken (store cells held) i
  unfolding taken
  take_none l = pick_no _ _ _ (first_fails (ltb 0 (get_or held i 0)) (leb (get_or held i 0) 16) (le-ltb 0 (get_or held i 0) (omega arith))) refl

  pub take_many : 16 < h → store cells held ≡ taken (store cells held) i
  unfolding taken
  take_many l = pick_no _ _ _ (second_fails (ltb 0 (get_or held i 0)) (leb (get_or held i 0) 16) (lt-leb (get_or held i 0) 16 (omega arith))) refl
