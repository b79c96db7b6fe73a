-- The store: another row of one queue is that queue's, and every other queue has its own; what each verb does to the messages.
-- Assumes nothing.
use Prim.Native.Nat.{ℕ, suc, ◌+◌, ◌-◌, ◌*◌, ◌≤◌, ◌<◌}
use native.Mathlib.Omega.{arith}
use native.Mathlib.Numerals.{add-one}
use native.Mathlib.Nat.{eq-or-lt_of_le}
use mathlib.Core.Path.{◌≡◌, refl, sym, ap, ◌∙◌}
use mathlib.Core.Logic.{◌⊎◌, inl, inr, ⊎_elim}
use mathlib.Core.Bool.{Bool, true, false, ◌&&◌}
use mathlib.Core.List.{List, [], ◌∷◌, ◌++◌, append_assoc}
use lib.ListN.{length, take, drop, replicate, length-append, length-drop, length-set, length-replicate}
use lib.Seq.{length-take-le, take-append-le, drop-append-le, drop-append-add, take_at, drop_at, take-take, drop-drop, get_or-set_same, get_or-set_other}
use lib.Dec.{ltb, leb}
use borrow.Author.Tests.{lt-ltb, le-ltb, le-leb, ltb-true, leb-true}
use Rattle.laws.proofs.Branches.{lt_or_le, picked_yes, picked_no, both, both_true}
use Rattle.scope.specs.Choice.{pick}
use Rattle.scope.specs.Messages.{cells_of, with_cells, at_end, in_front, first_gone, cells_in, message_in, messages_in, Store, held_in, row_in, messages_of, with_queue, appended, pushed, taken, cleared}
use Rattle.laws.proofs.Messages.Parts.{drop-take}
use Rattle.laws.proofs.Messages.Views.{count_messages, end_messages, front_messages, rest_messages}

pub record Sized (s : Store) : Type 0 where
  pub cells : length s.cells ≡ 8320
  pub held : length s.held ≡ 8

pub apart : (j i : ℕ) → (j ≡ i → ⊥) → (j < i) ⊎ (i < j)
apart j i ne = ⊎_elim (λ h. inl h) (λ h. ⊎_elim (λ e. absurd (ne (sym e))) (λ l. inr l) (eq-or-lt_of_le h)) (lt_or_le j i)

module _ (s : Store) (z : Sized s) where
  pub length_row : (i : ℕ) → i < 8 → length (row_in s i) ≡ 1040
  unfolding cells_of
  length_row i h = length-take-le 1040 (drop (i * 1040) s.cells) (omega (arith, length-drop (i * 1040) s.cells, z.cells))

  module _ (i : ℕ) (hi : i < 8) (row : List ℕ) (long : length row ≡ 1040) (h : ℕ) where
    start : length (take (i * 1040) s.cells) ≡ i * 1040
    start = length-take-le (i * 1040) s.cells (omega (arith, z.cells))

    pub with_sized : Sized (with_queue s i row h)
    unfolding with_cells
    with_sized = record {
      cells =
          length-append (take (i * 1040) s.cells) (row ++ drop (i * 1040 + 1040) s.cells)
          ∙ omega (arith, start, length-append row (drop (i * 1040 + 1040) s.cells), length-drop (i * 1040 + 1040) s.cells, z.cells, long);
      held = length-set s.held i h ∙ z.held;
    }

    pub with_row : row_in (with_queue s i row h) i ≡ row
    unfolding cells_of with_cells
    with_row =
        ap (take 1040) (drop_at (take (i * 1040) s.cells) (row ++ drop (i * 1040 + 1040) s.cells) (i * 1040) start)
        ∙ take_at row (drop (i * 1040 + 1040) s.cells) 1040 long

    pub with_held : held_in (with_queue s i row h) i ≡ h
    with_held = get_or-set_same s.held i h 0 (omega (arith, z.held))

    -- a queue before it, and one behind it
    before : (j : ℕ) → j < i → row_in (with_queue s i row h) j ≡ row_in s j
    unfolding cells_of with_cells
    before j l =
        let a : List ℕ = take (i * 1040) s.cells in
        let b : List ℕ = row ++ drop (i * 1040 + 1040) s.cells in
        let e : i * 1040 ≡ j * 1040 + (i * 1040 - j * 1040) = omega arith in
        ap (take 1040) (drop-append-le (j * 1040) a b (omega (arith, start)))
        ∙ take-append-le 1040 (drop (j * 1040) a) b (omega (arith, start, length-drop (j * 1040) a))
        ∙ ap (λ (n : ℕ). take 1040 (drop (j * 1040) (take n s.cells))) e
        ∙ ap (take 1040) (drop-take (j * 1040) (i * 1040 - j * 1040) s.cells)
        ∙ take-take 1040 (i * 1040 - j * 1040) (drop (j * 1040) s.cells) (omega arith)

    behind : (j : ℕ) → i < j → row_in (with_queue s i row h) j ≡ row_in s j
    unfolding cells_of with_cells
    behind j l =
        let a : List ℕ = take (i * 1040) s.cells ++ row in
        let b : List ℕ = drop (i * 1040 + 1040) s.cells in
        let n : length a ≡ i * 1040 + 1040 = length-append (take (i * 1040) s.cells) row ∙ omega (arith, start, long) in
        let e : j * 1040 ≡ length a + (j * 1040 - (i * 1040 + 1040)) = omega (arith, n) in
        let f : i * 1040 + 1040 + (j * 1040 - (i * 1040 + 1040)) ≡ j * 1040 = omega arith in
        ap (λ (x : List ℕ). take 1040 (drop (j * 1040) x)) (sym (append_assoc (take (i * 1040) s.cells) row b))
        ∙ ap (λ (m : ℕ). take 1040 (drop m (a ++ b))) e
        ∙ ap (take 1040) (drop-append-add a b (j * 1040 - (i * 1040 + 1040)))
        ∙ ap (take 1040) (drop-drop (j * 1040 - (i * 1040 + 1040)) (i * 1040 + 1040) s.cells)
        ∙ ap (λ (m : ℕ). take 1040 (drop m s.cells)) f

    pub other_row : (j : ℕ) → (j ≡ i → ⊥) → row_in (with_queue s i row h) j ≡ row_in s j
    other_row j ne = ⊎_elim (λ l. before j l) (λ l. behind j l) (apart j i ne)

    pub other_held : (j : ℕ) → (j ≡ i → ⊥) → held_in (with_queue s i row h) j ≡ held_in s j
    other_held j ne = get_or-set_other s.held i j h 0 ne

    other_messages : (j : ℕ) → (j ≡ i → ⊥) → messages_of (with_queue s i row h) j ≡ messages_of s j
    unfolding messages_of
    other_messages j ne =
        ap (λ (r : List ℕ). messages_in r (held_in (with_queue s i row h) j)) (other_row j ne)
        ∙ ap (messages_in (row_in s j)) (other_held j ne)

    pub if_others : (b : Bool) (j : ℕ) → (j ≡ i → ⊥) → messages_of (pick b (with_queue s i row h) s) j ≡ messages_of s j
    unfolding pick
    if_others true j ne = other_messages j ne
    if_others false j ne = refl

    pub with_messages_lem : messages_of (with_queue s i row h) i ≡ messages_in row h
    unfolding messages_of
    with_messages_lem =
        ap (λ (r : List ℕ). messages_in r (held_in (with_queue s i row h) i)) with_row
        ∙ ap (messages_in row) with_held

-- a row keeps its length
module _ (row cell : List ℕ) (h : ℕ) (long : length row ≡ 1040) where
  pub length_end : h < 16 → length cell ≡ 65 → length (at_end row h cell) ≡ 1040
  unfolding at_end
  length_end l e =
      length-append (take (h * 65) row) (cell ++ drop (h * 65 + 65) row)
      ∙ omega (arith, length-take-le (h * 65) row (omega arith), length-append cell (drop (h * 65 + 65) row), length-drop (h * 65 + 65) row)

  pub length_front : h < 16 → length cell ≡ 65 → length (in_front row h cell) ≡ 1040
  unfolding in_front
  length_front l e =
      length-append cell (take (h * 65) row ++ drop (h * 65 + 65) row)
      ∙ omega (arith, length-take-le (h * 65) row (omega arith), length-append (take (h * 65) row) (drop (h * 65 + 65) row), length-drop (h * 65 + 65) row)

  pub length_gone : 0 < h → h ≤ 16 → length (first_gone row h) ≡ 1040
  unfolding first_gone
  length_gone some few =
      length-append (drop 65 (take (h * 65) row)) (replicate 65 0 ++ drop (h * 65) row)
      ∙ omega (
        arith,
        length-take-le (h * 65) row (omega arith),
        length-drop 65 (take (h * 65) row),
        length-append (replicate 65 0) (drop (h * 65) row),
        length-replicate {A = ℕ} 65 0,
        length-drop (h * 65) row,
      )

-- "messages held": as many as the view has
pub held_counts : (s : Store) (i : ℕ) → length (messages_of s i) ≡ held_in s i
unfolding messages_of
held_counts s i = count_messages (row_in s i) (held_in s i)

module _ (s : Store) (z : Sized s) (i : ℕ) (hi : i < 8) where
  -- "A message goes .. to the end"
  pub append_messages : (cell : List ℕ) → held_in s i < 16 → length cell ≡ 65 → messages_of (appended s i cell) i ≡ messages_of s i ++ (message_in cell ∷ [])
  unfolding appended messages_of
  append_messages cell l e =
      let n : length (row_in s i) ≡ 1040 = length_row s z i hi in
      ap (λ (t : Store). messages_of t i) (picked_yes _ (with_queue s i (at_end (row_in s i) (held_in s i) cell) (held_in s i + 1)) s (lt-ltb (held_in s i) 16 l))
      ∙ with_messages_lem s z i hi (at_end (row_in s i) (held_in s i) cell) (length_end (row_in s i) cell (held_in s i) n l e) (held_in s i + 1)
      ∙ ap (messages_in (at_end (row_in s i) (held_in s i) cell)) (add-one (held_in s i))
      ∙ end_messages (row_in s i) (held_in s i) cell (omega (arith, n)) e

  -- "jump puts it in front"
  pub push_messages : (cell : List ℕ) → held_in s i < 16 → length cell ≡ 65 → messages_of (pushed s i cell) i ≡ message_in cell ∷ messages_of s i
  unfolding pushed messages_of
  push_messages cell l e =
      let n : length (row_in s i) ≡ 1040 = length_row s z i hi in
      ap (λ (t : Store). messages_of t i) (picked_yes _ (with_queue s i (in_front (row_in s i) (held_in s i) cell) (held_in s i + 1)) s (lt-ltb (held_in s i) 16 l))
      ∙ with_messages_lem s z i hi (in_front (row_in s i) (held_in s i) cell) (length_front (row_in s i) cell (held_in s i) n l e) (held_in s i + 1)
      ∙ ap (messages_in (in_front (row_in s i) (held_in s i) cell)) (add-one (held_in s i))
      ∙ front_messages (row_in s i) (held_in s i) cell (omega (arith, n)) e

  -- a receive takes the first, and leaves the others in order
  pub take_messages : 0 < held_in s i → held_in s i ≤ 16 → messages_of s i ≡ message_in (take 65 (row_in s i)) ∷ messages_of (taken s i) i
  unfolding taken messages_of
  take_messages some few =
      let n : length (row_in s i) ≡ 1040 = length_row s z i hi in
      let e : held_in s i ≡ suc (held_in s i - 1) = omega arith in
      ap (messages_in (row_in s i)) e
      ∙ rest_messages (row_in s i) (held_in s i - 1) (omega (arith, n))
      ∙ ap (λ (k : ℕ). message_in (take 65 (row_in s i)) ∷ messages_in (first_gone (row_in s i) k) (held_in s i - 1)) (sym e)
      ∙ ap (λ (l : List (List ℕ)). message_in (take 65 (row_in s i)) ∷ l)
      (sym
      (ap (λ (t : Store). messages_of t i)
      (picked_yes _ (with_queue s i (first_gone (row_in s i) (held_in s i)) (held_in s i - 1)) s
      (both (ltb 0 (held_in s i)) (leb (held_in s i) 16) (lt-ltb 0 (held_in s i) some) (le-leb (held_in s i) 16 few)))
      ∙ with_messages_lem s z i hi (first_gone (row_in s i) (held_in s i)) (length_gone (row_in s i) [] (held_in s i) n some few) (held_in s i - 1)))

  -- "Delete drops what is held"
  pub clear_messages : messages_of (cleared s i) i ≡ []
  unfolding cleared messages_in cells_in
  clear_messages = with_messages_lem s z i hi (replicate 1040 0) (length-replicate {A = ℕ} 1040 0) 0

  -- no verb of a queue touches another's messages
  module _ (j : ℕ) (ne : j ≡ i → ⊥) where
    pub append_others : (cell : List ℕ) → length cell ≡ 65 → messages_of (appended s i cell) j ≡ messages_of s j
    unfolding appended
    append_others cell e =
        ⊎_elim
        (λ l. if_others s z i hi (at_end (row_in s i) (held_in s i) cell) (length_end (row_in s i) cell (held_in s i) (length_row s z i hi) l e) (held_in s i + 1) (ltb (held_in s i) 16) j ne)
        (λ l. ap (λ (t : Store). messages_of t j) (picked_no _ (with_queue s i (at_end (row_in s i) (held_in s i) cell) (held_in s i + 1)) s (le-ltb (held_in s i) 16 l)))
        (lt_or_le (held_in s i) 16)

    pub push_others : (cell : List ℕ) → length cell ≡ 65 → messages_of (pushed s i cell) j ≡ messages_of s j
    unfolding pushed
    push_others cell e =
        ⊎_elim
        (λ l. if_others s z i hi (in_front (row_in s i) (held_in s i) cell) (length_front (row_in s i) cell (held_in s i) (length_row s z i hi) l e) (held_in s i + 1) (ltb (held_in s i) 16) j ne)
        (λ l. ap (λ (t : Store). messages_of t j) (picked_no _ (with_queue s i (in_front (row_in s i) (held_in s i) cell) (held_in s i + 1)) s (le-ltb (held_in s i) 16 l)))
        (lt_or_le (held_in s i) 16)

    pub take_others : messages_of (taken s i) j ≡ messages_of s j
    unfolding taken
    take_others = go (ltb 0 (held_in s i) && leb (held_in s i) 16) refl
      where
        go : (b : Bool) → (ltb 0 (held_in s i) && leb (held_in s i) 16) ≡ b → messages_of (taken s i) j ≡ messages_of s j
        go true e =
            let p = both_true (ltb 0 (held_in s i)) (leb (held_in s i) 16) e in
            if_others s z i hi (first_gone (row_in s i) (held_in s i))
            (length_gone (row_in s i) [] (held_in s i) (length_row s z i hi) (ltb-true 0 (held_in s i) p.0) (leb-true (held_in s i) 16 p.1))
            (held_in s i - 1) (ltb 0 (held_in s i) && leb (held_in s i) 16) j ne
        go false e = ap (λ (t : Store). messages_of t j) (picked_no _ (with_queue s i (first_gone (row_in s i) (held_in s i)) (held_in s i - 1)) s e)

    pub clear_others : messages_of (cleared s i) j ≡ messages_of s j
    unfolding cleared
    clear_others = other_messages s z i hi (replicate 1040 0) (length-replicate {A = ℕ} 1040 0) 0 j ne
