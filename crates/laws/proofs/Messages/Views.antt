-- A queue as a list of cells, and so as a list of messages: what each verb does to it. By the number held, a cell at a time.
-- Assumes nothing.
use Prim.Native.Nat.{ℕ, zero, suc, ◌+◌, ◌-◌, ◌*◌, ◌≤◌}
use native.Mathlib.Omega.{arith}
use mathlib.Core.Path.{◌≡◌, refl, sym, ap, ◌∙◌}
use mathlib.Core.List.{List, [], ◌∷◌, ◌++◌, map}
use lib.ListN.{length, take, drop, replicate, length-append, length-drop, length-map, length-replicate, take-append-drop}
use lib.Seq.{length-take-le, take-append-le, drop-append-le, take_at, drop_at}
use Rattle.scope.specs.Messages.{cell_of, shown_of, at_end, in_front, first_gone, cells_in, message_in, messages_in}
use Rattle.laws.proofs.Messages.Parts.{drop-take}

-- the first h cells lie in the first h * 65 bytes
cells_front : (h : ℕ) (a b : List ℕ) → length a ≡ h * 65 → cells_in (a ++ b) h ≡ cells_in a h
unfolding cells_in
cells_front zero a b e = refl
cells_front (suc h) a b e =
    ap (λ (c : List ℕ). c ∷ cells_in (drop 65 (a ++ b)) h) (take-append-le 65 a b (omega arith))
    ∙ ap (λ (r : List ℕ). take 65 a ∷ cells_in r h) (drop-append-le 65 a b (omega arith))
    ∙ ap (λ (l : List (List ℕ)). take 65 a ∷ l) (cells_front h (drop 65 a) b (omega (arith, length-drop 65 a)))

cells_kept : (h : ℕ) (row b : List ℕ) → h * 65 ≤ length row → cells_in (take (h * 65) row ++ b) h ≡ cells_in row h
cells_kept h row b l =
    let e : length (take (h * 65) row) ≡ h * 65 = length-take-le (h * 65) row l in
    cells_front h (take (h * 65) row) b e
    ∙ sym (cells_front h (take (h * 65) row) (drop (h * 65) row) e)
    ∙ ap (λ (r : List ℕ). cells_in r h) (take-append-drop (h * 65) row)

-- one cell more behind h
cells_more : (h : ℕ) (a c b : List ℕ) → length a ≡ h * 65 → length c ≡ 65 → cells_in (a ++ (c ++ b)) (suc h) ≡ cells_in a h ++ (c ∷ [])
unfolding cells_in
cells_more zero [] c b e d = ap (λ (x : List ℕ). x ∷ []) (take_at c b 65 d)
cells_more zero (x ∷ a) c b e d = absurd (omega arith)
cells_more (suc h) a c b e d =
    ap (λ (x : List ℕ). x ∷ cells_in (drop 65 (a ++ (c ++ b))) (suc h)) (take-append-le 65 a (c ++ b) (omega arith))
    ∙ ap (λ (r : List ℕ). take 65 a ∷ cells_in r (suc h)) (drop-append-le 65 a (c ++ b) (omega arith))
    ∙ ap (λ (l : List (List ℕ)). take 65 a ∷ l) (cells_more h (drop 65 a) c b (omega (arith, length-drop 65 a)) d)

module _ (row : List ℕ) (h : ℕ) where
  pub end_cells : (cell : List ℕ) → h * 65 ≤ length row → length cell ≡ 65 → cells_in (at_end row h cell) (suc h) ≡ cells_in row h ++ (cell ∷ [])
  unfolding at_end
  end_cells cell l e =
      let a : List ℕ = take (h * 65) row in
      let b : List ℕ = drop (h * 65 + 65) row in
      let n : length a ≡ h * 65 = length-take-le (h * 65) row l in
      cells_more h a cell b n e
      ∙ ap (λ (x : List (List ℕ)). x ++ (cell ∷ [])) (sym (cells_front h a (drop (h * 65) row) n) ∙ ap (λ (r : List ℕ). cells_in r h) (take-append-drop (h * 65) row))

  pub front_cells : (cell : List ℕ) → h * 65 ≤ length row → length cell ≡ 65 → cells_in (in_front row h cell) (suc h) ≡ cell ∷ cells_in row h
  unfolding in_front cells_in
  front_cells cell l e =
      let b : List ℕ = take (h * 65) row ++ drop (h * 65 + 65) row in
      ap (λ (x : List ℕ). x ∷ cells_in (drop 65 (cell ++ b)) h) (take_at cell b 65 e)
      ∙ ap (λ (r : List ℕ). cell ∷ cells_in r h) (drop_at cell b 65 e)
      ∙ ap (λ (x : List (List ℕ)). cell ∷ x) (cells_kept h row (drop (h * 65 + 65) row) l)

  pub rest_cells : suc h * 65 ≤ length row → cells_in row (suc h) ≡ take 65 row ∷ cells_in (first_gone row (suc h)) h
  unfolding first_gone cells_in
  rest_cells l =
      let e : suc h * 65 ≡ 65 + h * 65 = omega arith in
      let b : List ℕ = replicate 65 0 ++ drop (suc h * 65) row in
      ap (λ (x : List (List ℕ)). take 65 row ∷ x)
      (sym
      (ap (λ (n : ℕ). cells_in (drop 65 (take n row) ++ b) h) e
      ∙ ap (λ (r : List ℕ). cells_in (r ++ b) h) (drop-take 65 (h * 65) row)
      ∙ cells_kept h (drop 65 row) b (omega (arith, length-drop 65 row))))

-- the same of the messages
map_join : (f : List ℕ → List ℕ) (a : List (List ℕ)) (c : List ℕ) → map f (a ++ (c ∷ [])) ≡ map f a ++ (f c ∷ [])
map_join f [] c = refl
map_join f (x ∷ a) c = ap (λ (l : List (List ℕ)). f x ∷ l) (map_join f a c)

module _ (row : List ℕ) (h : ℕ) where
  pub end_messages : (cell : List ℕ) → h * 65 ≤ length row → length cell ≡ 65 → messages_in (at_end row h cell) (suc h) ≡ messages_in row h ++ (message_in cell ∷ [])
  unfolding messages_in
  end_messages cell l e = ap (map message_in) (end_cells row h cell l e) ∙ map_join message_in (cells_in row h) cell

  pub front_messages : (cell : List ℕ) → h * 65 ≤ length row → length cell ≡ 65 → messages_in (in_front row h cell) (suc h) ≡ message_in cell ∷ messages_in row h
  unfolding messages_in
  front_messages cell l e = ap (map message_in) (front_cells row h cell l e)

  pub rest_messages : suc h * 65 ≤ length row → messages_in row (suc h) ≡ message_in (take 65 row) ∷ messages_in (first_gone row (suc h)) h
  unfolding messages_in
  rest_messages l = ap (map message_in) (rest_cells row h l)

pub count_cells : (h : ℕ) (row : List ℕ) → length (cells_in row h) ≡ h
unfolding cells_in
count_cells zero row = refl
count_cells (suc h) row = let e : suc (length (cells_in (drop 65 row) h)) ≡ suc h = ap (λ (n : ℕ). suc n) (count_cells h (drop 65 row)) in e

pub count_messages : (row : List ℕ) (h : ℕ) → length (messages_in row h) ≡ h
unfolding messages_in
count_messages row h = length-map (cells_in row h) message_in ∙ count_cells h row

-- the message in a cell is the one lent
pub as_lent : (m : List ℕ) (n : ℕ) → n ≤ length m → message_in (cell_of m n) ≡ take n m
unfolding message_in cell_of shown_of
as_lent m n l = take_at (take n m) (replicate (64 - n) 0) n (length-take-le n m l)

pub length_shown : (m : List ℕ) (n : ℕ) → n ≤ 64 → n ≤ length m → length (shown_of m n) ≡ 64
unfolding shown_of
length_shown m n h l = length-append (take n m) (replicate (64 - n) 0) ∙ omega (arith, length-take-le n m l, length-replicate {A = ℕ} (64 - n) 0)

pub length_cell : (m : List ℕ) (n : ℕ) → n ≤ 64 → n ≤ length m → length (cell_of m n) ≡ 65
unfolding cell_of
length_cell m n h l = let e : suc (length (shown_of m n)) ≡ 65 = omega (arith, length_shown m n h l) in e
