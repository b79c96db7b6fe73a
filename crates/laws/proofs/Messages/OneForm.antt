-- One meaning has one form: two stores in form that hold the same messages are the same bytes.
-- Assumes nothing.
use Prim.Native.Nat.{ℕ, zero, suc, ◌+◌, ◌-◌, ◌*◌, ◌/◌, ◌%◌, ◌≤◌, ◌<◌}
use native.Mathlib.Omega.{arith}
use native.Mathlib.Nat.{mod-lt, div-add-mod'}
use mathlib.Core.Path.{◌≡◌, refl, sym, ap, ◌∙◌}
use mathlib.Core.List.{List, [], ◌∷◌, ◌++◌, map}
use lib.ListN.{length, get_or, take, drop, length-drop, replicate, take-append-drop}
use lib.Seq.{length-take-le, drop-drop, get_or-take, get_or-drop, ext_get_or}
use Rattle.scope.specs.Messages.{cell_of, cells_of, cells_in, message_in, messages_in, Store, store, held_in, row_in, messages_of}
use Rattle.laws.proofs.Messages.Views.{count_messages}
use Rattle.laws.proofs.Messages.Stores.{Sized, length_row}
use Rattle.laws.proofs.Messages.Keeps.{AllRight, InForm, cell_of_message}

-- the cells, by the messages
abbrev whole : List ℕ → List ℕ
whole m = cell_of m (length m)

cells_of_lem : (longest : ℕ) → longest ≤ 64 → (h : ℕ) (row : List ℕ) → h * 65 ≤ length row → AllRight longest (cells_in row h)
    → cells_in row h ≡ map whole (messages_in row h)
unfolding cells_in messages_in
cells_of_lem longest few zero row l a = refl
cells_of_lem longest few (suc h) row l a =
    ap (λ (c : List ℕ). c ∷ cells_in (drop 65 row) h) (cell_of_message longest (take 65 row) few (length-take-le 65 row (omega arith)) a.0)
    ∙ ap (λ (cs : List (List ℕ)). whole (message_in (take 65 row)) ∷ cs) (cells_of_lem longest few h (drop 65 row) (omega (arith, length-drop 65 row)) a.1)

-- a row, by its cells and what is behind them
row_of : (h : ℕ) (a b : List ℕ) → cells_in a h ≡ cells_in b h → drop (h * 65) a ≡ drop (h * 65) b → a ≡ b
unfolding cells_in
row_of zero a b e d = d
row_of (suc h) a b e d =
    let n : suc h * 65 ≡ 65 + h * 65 = omega arith in
    let first : take 65 a ≡ take 65 b = ap (λ (l : List (List ℕ)). get_or l 0 []) e in
    let next : drop (h * 65) (drop 65 a) ≡ drop (h * 65) (drop 65 b) =
    drop-drop (h * 65) 65 a ∙ ap (λ (k : ℕ). drop k a) (sym n) ∙ d ∙ ap (λ (k : ℕ). drop k b) n ∙ sym (drop-drop (h * 65) 65 b) in
    sym (take-append-drop 65 a)
    ∙ ap (λ (l : List ℕ). l ++ drop 65 a) first
    ∙ ap (λ (l : List ℕ). take 65 b ++ l) (row_of h (drop 65 a) (drop 65 b) (ap (λ (l : List (List ℕ)). drop 1 l) e) next)
    ∙ take-append-drop 65 b

-- a queue
module _ (a b : List ℕ) (g h la lb : ℕ) (na : length a ≡ 1040) (nb : length b ≡ 1040) (fa : la ≤ 64) (fb : lb ≤ 64) where
  pub one_count : messages_in a g ≡ messages_in b h → g ≡ h
  one_count e = sym (count_messages a g) ∙ ap length e ∙ count_messages b h

  pub one_row : InForm a g la → InForm b h lb → messages_in a g ≡ messages_in b h → a ≡ b
  one_row wa wb e = row_of h a b cells rest
    where
      same : g ≡ h
      same = one_count e

      cells : cells_in a h ≡ cells_in b h
      cells =
          ap (cells_in a) (sym same)
          ∙ cells_of_lem la fa g a (omega (arith, wa.few)) wa.cells
          ∙ ap (map whole) e
          ∙ sym (cells_of_lem lb fb h b (omega (arith, wb.few)) wb.cells)

      rest : drop (h * 65) a ≡ drop (h * 65) b
      rest = ap (λ (k : ℕ). drop (k * 65) a) (sym same) ∙ wa.rest ∙ ap (λ (k : ℕ). replicate (1040 - k * 65) 0) same ∙ sym wb.rest

-- the store; `la` and `lb` say how long the messages of each queue may be
module _ (a b : Store) (la lb : ℕ → ℕ) (za : Sized a) (zb : Sized b) (fa : (i : ℕ) → i < 8 → la i ≤ 64) (fb : (i : ℕ) → i < 8 → lb i ≤ 64)
    (wa : (i : ℕ) → i < 8 → InForm (row_in a i) (held_in a i) (la i)) (wb : (i : ℕ) → i < 8 → InForm (row_in b i) (held_in b i) (lb i))
    (same : (i : ℕ) → i < 8 → messages_of a i ≡ messages_of b i) where
  held_same : (i : ℕ) → i < 8 → held_in a i ≡ held_in b i
  unfolding messages_of
  held_same i h = one_count (row_in a i) (row_in b i) (held_in a i) (held_in b i) (la i) (lb i) (length_row a za i h) (length_row b zb i h) (fa i h) (fb i h) (same i h)

  row_same : (i : ℕ) → i < 8 → row_in a i ≡ row_in b i
  unfolding messages_of
  row_same i h = one_row (row_in a i) (row_in b i) (held_in a i) (held_in b i) (la i) (lb i) (length_row a za i h) (length_row b zb i h) (fa i h) (fb i h) (wa i h) (wb i h) (same i h)

  byte_of : (s : Store) (i k : ℕ) → k < 1040 → get_or s.cells (i * 1040 + k) 0 ≡ get_or (row_in s i) k 0
  unfolding cells_of
  byte_of s i k h = sym (get_or-take 1040 (drop (i * 1040) s.cells) k 0 h ∙ get_or-drop (i * 1040) s.cells k 0)

  pub one_held : a.held ≡ b.held
  one_held = ext_get_or 0 a.held b.held (za.held ∙ sym zb.held) (λ i h. held_same i (omega (arith, za.held)))

  pub one_cells : a.cells ≡ b.cells
  one_cells = ext_get_or 0 a.cells b.cells (za.cells ∙ sym zb.cells) (λ j h. at j (omega (arith, za.cells)))
    where
      go : (j i k : ℕ) → j < 8320 → i * 1040 + k ≡ j → k < 1040 → get_or a.cells j 0 ≡ get_or b.cells j 0
      go j i k h e l =
          ap (λ (n : ℕ). get_or a.cells n 0) (sym e)
          ∙ byte_of a i k l
          ∙ ap (λ (r : List ℕ). get_or r k 0) (row_same i (omega arith))
          ∙ sym (byte_of b i k l)
          ∙ ap (λ (n : ℕ). get_or b.cells n 0) e

      at : (j : ℕ) → j < 8320 → get_or a.cells j 0 ≡ get_or b.cells j 0
      at j h = go j (j / 1040) (j % 1040) h (div-add-mod' j 1040) (mod-lt j (omega arith))

  pub one_form : store a.cells a.held ≡ store b.cells b.held
  one_form = rw (one_cells, one_held)
