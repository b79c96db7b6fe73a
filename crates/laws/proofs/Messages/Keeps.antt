-- What the test of the form says, that each verb keeps the form, and what a receive shows of a queue in form.
-- Assumes nothing.
use Prim.Native.Nat.{ℕ, zero, suc, ◌+◌, ◌-◌, ◌*◌, ◌≤◌, ◌<◌}
use native.Mathlib.Omega.{arith}
use native.Mathlib.Numerals.{add-one}
use native.Mathlib.Nat.{not-suc-le-zero}
use mathlib.Core.Path.{◌≡◌, refl, sym, subst, ap, ◌∙◌}
use mathlib.Core.Bool.{true, ◌&&◌}
use mathlib.Core.List.{List, [], ◌∷◌, ◌++◌, append_assoc}
use lib.ListN.{length, get_or, take, drop, replicate, length-append, length-drop, length-replicate, get_or-replicate, take-append-drop, replicate-append-replicate}
use lib.Seq.{length-take-le, take-take, drop_at, drop-drop, get_or-take, ext_get_or}
use lib.Dec.{leb, eqb}
use borrow.Author.Tests.{le-leb, leb-true, eq-eqb, eqb-true}
use Rattle.laws.proofs.Branches.{both, both_true}
use Rattle.laws.proofs.Searches.{every_at, every_yes}
use Rattle.scope.specs.Choice.{every}
use Rattle.scope.specs.Messages.{shown_of, cell_of, at_end, in_front, first_gone, first_length, first_shown, cells_in, message_in, is_zeros, cell_at, cell_right, row_right}
use Rattle.laws.proofs.Messages.Parts.{drop-take, drop_zeros}
use Rattle.laws.proofs.Messages.Forms.{zeros_are}
use Rattle.laws.proofs.Messages.Views.{end_cells, front_cells, rest_cells}

-- zeros are one list of a length
pub zeros_told : (xs : List ℕ) (n : ℕ) → length xs ≡ n → is_zeros xs ≡ true → xs ≡ replicate n 0
zeros_told xs n l e =
    ext_get_or 0 xs (replicate n 0) (l ∙ sym (length-replicate {A = ℕ} n 0))
    (λ k h. eqb-true (get_or xs k 0) 0 (every_at (λ k. eqb (get_or xs k 0) 0) (length xs) (sym (zeros_are xs) ∙ e) k h) ∙ sym (get_or-replicate n k 0 0 (omega (arith, l))))

pub zeros_tell : (n : ℕ) → is_zeros (replicate n 0) ≡ true
zeros_tell n =
    zeros_are (replicate n 0)
    ∙ every_yes (λ k. eqb (get_or (replicate n 0) k 0) 0) (length (replicate {A = ℕ} n 0))
    (λ k h. eq-eqb (get_or (replicate n 0) k 0) 0 (get_or-replicate n k 0 0 (omega (arith, length-replicate {A = ℕ} n 0))))

-- every cell of a list holds a message of at most `longest` bytes, and zeros past it
abbrev pub AllRight : ℕ → List (List ℕ) → Type 0
AllRight longest [] = Unit
AllRight longest (c ∷ cs) = (cell_right longest c ≡ true) × AllRight longest cs

all_more : (longest : ℕ) (cs : List (List ℕ)) (c : List ℕ) → AllRight longest cs → cell_right longest c ≡ true → AllRight longest (cs ++ (c ∷ []))
all_more longest [] c a e = (e, tt)
all_more longest (x ∷ cs) c a e = (a.0, all_more longest cs c a.1 e)

-- the one form of a row of a queue that holds h
pub record InForm (row : List ℕ) (h longest : ℕ) : Type 0 where
  pub few : h ≤ 16
  pub cells : AllRight longest (cells_in row h)
  pub rest : drop (h * 65) row ≡ replicate (1040 - h * 65) 0

cell_next : (row : List ℕ) (k : ℕ) → cell_at (drop 65 row) k ≡ cell_at row (suc k)
unfolding cell_at
cell_next row k =
    let e : 65 + k * 65 ≡ suc k * 65 = omega arith in
    ap (take 65) (drop-drop (k * 65) 65 row) ∙ ap (λ (n : ℕ). take 65 (drop n row)) e

all_told : (longest h : ℕ) (row : List ℕ) → ((k : ℕ) → k < h → cell_right longest (cell_at row k) ≡ true) → AllRight longest (cells_in row h)
unfolding cells_in cell_at
all_told longest zero row all = tt
all_told longest (suc h) row all =
    (all 0 (omega arith), all_told longest h (drop 65 row) (λ k l. ap (cell_right longest) (cell_next row k) ∙ all (suc k) (omega arith)))

all_tell : (longest h : ℕ) (row : List ℕ) → AllRight longest (cells_in row h) → (k : ℕ) → k < h → cell_right longest (cell_at row k) ≡ true
unfolding cells_in cell_at
all_tell longest zero row a k l = absurd (not-suc-le-zero l)
all_tell longest (suc h) row a zero l = a.0
all_tell longest (suc h) row a (suc k) l = ap (cell_right longest) (sym (cell_next row k)) ∙ all_tell longest h (drop 65 row) a.1 k (omega arith)

module _ (row : List ℕ) (h longest : ℕ) (long : length row ≡ 1040) where
  -- the test says the form, and back
  pub form_told : row_right row h longest ≡ true → InForm row h longest
  unfolding row_right
  form_told e =
      let p = both_true (leb h 16) (every (λ k. cell_right longest (cell_at row k)) h && is_zeros (drop (h * 65) row)) e in
      let q = both_true (every (λ k. cell_right longest (cell_at row k)) h) (is_zeros (drop (h * 65) row)) p.1 in
      record {
        few = leb-true h 16 p.0;
        cells = all_told longest h row (every_at (λ k. cell_right longest (cell_at row k)) h q.0);
        rest = zeros_told (drop (h * 65) row) (1040 - h * 65) (omega (arith, length-drop (h * 65) row)) q.1;
      }

  pub form_tells : InForm row h longest → row_right row h longest ≡ true
  unfolding row_right
  form_tells f =
      both (leb h 16) (every (λ k. cell_right longest (cell_at row k)) h && is_zeros (drop (h * 65) row)) (le-leb h 16 f.few)
      (both (every (λ k. cell_right longest (cell_at row k)) h) (is_zeros (drop (h * 65) row))
      (every_yes (λ k. cell_right longest (cell_at row k)) h (all_tell longest h row f.cells))
      (ap is_zeros f.rest ∙ zeros_tell (1040 - h * 65)))

-- each verb keeps the form
module _ (row : List ℕ) (h longest : ℕ) (long : length row ≡ 1040) (f : InForm row h longest) where
  room : h < 16 → drop (h * 65 + 65) row ≡ replicate (1040 - suc h * 65) 0
  room l =
      let e : 1040 - h * 65 - 65 ≡ 1040 - suc h * 65 = omega arith in
      sym (drop-drop 65 (h * 65) row)
      ∙ ap (drop 65) f.rest
      ∙ drop_zeros 65 (1040 - h * 65) (omega arith)
      ∙ ap (λ (n : ℕ). replicate n 0) e

  front : length (take (h * 65) row) ≡ h * 65
  front = length-take-le (h * 65) row (omega (arith, f.few))

  pub end_keeps : (cell : List ℕ) → h < 16 → length cell ≡ 65 → cell_right longest cell ≡ true → InForm (at_end row h cell) (suc h) longest
  unfolding at_end
  end_keeps cell l n e = record {
    few = omega arith;
    cells = subst (AllRight longest) (sym (end_cells row h cell (omega arith) n)) (all_more longest (cells_in row h) cell f.cells e);
    rest =
        let m : length (take (h * 65) row ++ cell) ≡ suc h * 65 = length-append (take (h * 65) row) cell ∙ omega (arith, front, n) in
        ap (drop (suc h * 65)) (sym (append_assoc (take (h * 65) row) cell (drop (h * 65 + 65) row)))
        ∙ drop_at (take (h * 65) row ++ cell) (drop (h * 65 + 65) row) (suc h * 65) m
        ∙ room l;
  }

  pub front_keeps : (cell : List ℕ) → h < 16 → length cell ≡ 65 → cell_right longest cell ≡ true → InForm (in_front row h cell) (suc h) longest
  unfolding in_front
  front_keeps cell l n e = record {
    few = omega arith;
    cells = subst (AllRight longest) (sym (front_cells row h cell (omega arith) n)) (e, f.cells);
    rest =
        let m : length (cell ++ take (h * 65) row) ≡ suc h * 65 = length-append cell (take (h * 65) row) ∙ omega (arith, front, n) in
        ap (drop (suc h * 65)) (sym (append_assoc cell (take (h * 65) row) (drop (h * 65 + 65) row)))
        ∙ drop_at (cell ++ take (h * 65) row) (drop (h * 65 + 65) row) (suc h * 65) m
        ∙ room l;
  }

pub gone_keeps : (row : List ℕ) (h longest : ℕ) → length row ≡ 1040 → InForm row (suc h) longest → InForm (first_gone row (suc h)) h longest
unfolding first_gone
gone_keeps row h longest long f = record { few = omega (arith, f.few); cells = cells.1; rest = rest }
  where
    cells : AllRight longest (take 65 row ∷ cells_in (first_gone row (suc h)) h)
    cells = subst (AllRight longest) (rest_cells row h (omega (arith, f.few))) f.cells

    front : length (drop 65 (take (suc h * 65) row)) ≡ h * 65
    front = length-drop 65 (take (suc h * 65) row) ∙ omega (arith, length-take-le (suc h * 65) row (omega (arith, f.few)))

    count : 65 + (1040 - suc h * 65) ≡ 1040 - h * 65
    count = omega (arith, f.few)

    rest : drop (h * 65) (drop 65 (take (suc h * 65) row) ++ (replicate 65 0 ++ drop (suc h * 65) row)) ≡ replicate (1040 - h * 65) 0
    rest =
        drop_at (drop 65 (take (suc h * 65) row)) (replicate 65 0 ++ drop (suc h * 65) row) (h * 65) front
        ∙ ap (λ (l : List ℕ). replicate 65 0 ++ l) f.rest
        ∙ replicate-append-replicate 65 (1040 - suc h * 65) 0
        ∙ ap (λ (n : ℕ). replicate n 0) count

pub none_keeps : (longest : ℕ) → InForm (replicate 1040 0) 0 longest
unfolding cells_in
none_keeps longest = record { few = omega arith; cells = tt; rest = refl }

-- what is lent makes a right cell
pub lent_right : (m : List ℕ) (n longest : ℕ) → n ≤ longest → n ≤ length m → cell_right longest (cell_of m n) ≡ true
unfolding cell_right cell_of shown_of
lent_right m n longest l h =
    both (leb n longest) (is_zeros (drop (n + 1) (n ∷ (take n m ++ replicate (64 - n) 0)))) (le-leb n longest l)
    (ap (λ (k : ℕ). is_zeros (drop k (n ∷ (take n m ++ replicate (64 - n) 0)))) (add-one n)
    ∙ ap is_zeros (drop_at (take n m) (replicate (64 - n) 0) n (length-take-le n m h))
    ∙ zeros_tell (64 - n))

-- a right cell is that of the message in it
pub cell_of_message : (longest : ℕ) (cell : List ℕ) → longest ≤ 64 → length cell ≡ 65 → cell_right longest cell ≡ true
    → cell ≡ cell_of (message_in cell) (length (message_in cell))
unfolding cell_right cell_of shown_of message_in
cell_of_message longest [] few l e = absurd (omega arith)
cell_of_message longest (x ∷ bs) few l e = ap (λ (t : List ℕ). x ∷ t) bytes ∙ sym (ap (λ (k : ℕ). k ∷ (take k (take x bs) ++ replicate (64 - k) 0)) size)
  where
    p : (leb x longest ≡ true) × (is_zeros (drop (x + 1) (x ∷ bs)) ≡ true)
    p = both_true (leb x longest) (is_zeros (drop (x + 1) (x ∷ bs))) e

    short : x ≤ 64
    short = omega (arith, leb-true x longest p.0)

    many : length bs ≡ 64
    many = omega arith

    size : length (take x bs) ≡ x
    size = length-take-le x bs (omega (arith, short, many))

    past : drop x bs ≡ replicate (64 - x) 0
    past =
        zeros_told (drop x bs) (64 - x) (omega (arith, length-drop x bs, many))
        (ap (λ (k : ℕ). is_zeros (drop k (x ∷ bs))) (sym (add-one x)) ∙ p.1)

    bytes : bs ≡ take x (take x bs) ++ replicate (64 - x) 0
    bytes =
        sym (take-append-drop x bs)
        ∙ ap (λ (t : List ℕ). take x bs ++ t) past
        ∙ ap (λ (t : List ℕ). t ++ replicate (64 - x) 0) (sym (take-take x x bs (omega arith)))

-- what a receive shows: the first message's length, and its bytes with zeros past them
module _ (row : List ℕ) (h longest : ℕ) (few : longest ≤ 64) (long : length row ≡ 1040) (f : InForm row (suc h) longest) where
  first_right : cell_right longest (take 65 row) ≡ true
  unfolding cells_in
  first_right = f.cells.0

  first_cell : take 65 row ≡ cell_of (message_in (take 65 row)) (length (message_in (take 65 row)))
  first_cell = cell_of_message longest (take 65 row) few (length-take-le 65 row (omega arith)) first_right

  pub shows_length : first_length row ≡ length (message_in (take 65 row))
  unfolding cell_of
  shows_length = sym (get_or-take 65 row 0 0 (omega arith)) ∙ ap (λ (c : List ℕ). get_or c 0 0) first_cell

  pub shows_message : first_shown row ≡ shown_of (message_in (take 65 row)) (length (message_in (take 65 row)))
  unfolding first_shown cell_of
  shows_message = sym (drop-take 1 64 row) ∙ ap (drop 1) first_cell
