-- What a grant and a clearing do to each cell, and that the grid keeps its 32 rows of 16: each changes one element of a list, or one
-- of each of its lists.
-- Assumes nothing.
use Prim.Native.Nat.{ℕ, ◌+◌, ◌≤◌, ◌<◌}
use native.Mathlib.Omega.{arith}
use mathlib.Core.Path.{◌≡◌, refl, sym, ap, ◌∙◌}
use mathlib.Core.Logic.{⊎_elim}
use mathlib.Core.List.{List, [], map}
use lib.ListN.{length, get_or, set, length-set, get_or-replicate, length-map, get_or-map}
use lib.Seq.{get_or-set_same, get_or-set_other}
use lib.Dec.{ltb}
use borrow.Author.Tests.{lt-ltb, le-ltb}
use Rattle.scope.specs.Choice.{pick}
use Rattle.laws.proofs.Branches.{eq_or_not, lt_or_le, picked_yes, picked_no}
use Rattle.grid.specs.Grid.{Grid, no_grants, cleared, cell, most, stopped, granted, row_cleared, column_cleared}
use Rattle.grid.proofs.Laws.{granted_more, granted_full}

-- 32 rows of 16
pub record Sized (g : Grid) : Type 0 where
  pub rows : length g ≡ 32
  pub cells : (t : ℕ) → t < 32 → length (get_or g t []) ≡ 16

row_cell : (t : ℕ) → t < 32 → get_or cleared t [] ≡ no_grants
row_cell t h = get_or-replicate 32 t no_grants [] h

no_cell : (i : ℕ) → i < 16 → get_or no_grants i 0 ≡ 0
no_cell i h = get_or-replicate 16 i 0 0 h

pub cleared_sized : Sized cleared
cleared_sized = record { rows = refl; cells = λ t h. ap length (row_cell t h) }

pub cleared-cell : (t i : ℕ) → t < 32 → i < 16 → cell cleared t i ≡ 0
cleared-cell t i h l = ap (λ (row : List ℕ). get_or row i 0) (row_cell t h) ∙ no_cell i l

-- a row is put in place of another
module _ (g : Grid) (ok : Sized g) (t : ℕ) (h : t < 32) (row : List ℕ) where
  row_same : get_or (set g t row) t [] ≡ row
  row_same = get_or-set_same g t row [] (omega (arith, ok.rows))

  row_sized : length row ≡ 16 → Sized (set g t row)
  row_sized e =
      record {
        rows = length-set g t row ∙ ok.rows;
        cells = λ u l. ⊎_elim
            (λ d. ap (λ (v : ℕ). length (get_or (set g t row) v [])) d ∙ ap length row_same ∙ e)
            (λ ne. ap length (get_or-set_other g t u row [] ne) ∙ ok.cells u l)
            (eq_or_not u t);
      }

  row_other : (u i : ℕ) → (u ≡ t → ⊥) → cell (set g t row) u i ≡ cell g u i
  row_other u i ne = ap (λ (r : List ℕ). get_or r i 0) (get_or-set_other g t u row [] ne)

-- what a count of n is after one more
pub stop_more : (n : ℕ) → stopped (n + 1) ≡ pick (ltb (stopped n) most) (stopped n + 1) (stopped n)
unfolding stopped
stop_more n = ⊎_elim below above (lt_or_le n most)
  where
    full : (m : ℕ) → most ≤ m → pick (ltb m most) m most ≡ most
    full m h = picked_no (ltb m most) m most (le-ltb m most h)

    free : (m : ℕ) → m < most → pick (ltb m most) m most ≡ m
    free m h = picked_yes (ltb m most) m most (lt-ltb m most h)

    below : n < most → pick (ltb (n + 1) most) (n + 1) most ≡ pick (ltb (pick (ltb n most) n most) most) (pick (ltb n most) n most + 1) (pick (ltb n most) n most)
    below h =
        ⊎_elim (λ l. free (n + 1) l) (λ l. let e : n + 1 ≡ most = omega (arith, h, l) in full (n + 1) l ∙ sym e) (lt_or_le (n + 1) most)
        ∙ sym (picked_yes (ltb n most) (n + 1) n (lt-ltb n most h))
        ∙ ap (λ (v : ℕ). pick (ltb v most) (v + 1) v) (sym (free n h))

    above : most ≤ n → pick (ltb (n + 1) most) (n + 1) most ≡ pick (ltb (pick (ltb n most) n most) most) (pick (ltb n most) n most + 1) (pick (ltb n most) n most)
    above h =
        full (n + 1) (omega (arith, h))
        ∙ sym (picked_no (ltb most most) (most + 1) most refl)
        ∙ ap (λ (v : ℕ). pick (ltb v most) (v + 1) v) (sym (full n h))

pub stop_none : stopped 0 ≡ 0
unfolding stopped pick
stop_none = refl

-- a grant
module _ (g : Grid) (ok : Sized g) (t i : ℕ) (h : t < 32) (l : i < 16) where
  abbrev grown : List ℕ
  grown = set (get_or g t []) i (cell g t i + 1)

  grown_sized : length grown ≡ 16
  grown_sized = length-set (get_or g t []) i (cell g t i + 1) ∙ ok.cells t h

  more : cell g t i < 65535 → granted g t i ≡ set g t grown
  more b = sym (granted_more t i g h l b)

  pub granted_sized : Sized (granted g t i)
  granted_sized =
      ⊎_elim (λ b. subst_sized (sym (more b)) (row_sized g ok t h grown grown_sized)) (λ b. subst_sized (granted_full t i g b) ok) (lt_or_le (cell g t i) 65535)
    where
      subst_sized : {a b : Grid} → a ≡ b → Sized a → Sized b
      subst_sized e s = record { rows = ap length (sym e) ∙ s.rows; cells = λ u m. ap (λ (v : Grid). length (get_or v u [])) (sym e) ∙ s.cells u m }

  pub granted-cell : cell (granted g t i) t i ≡ pick (ltb (cell g t i) most) (cell g t i + 1) (cell g t i)
  granted-cell =
      ⊎_elim
      (λ b. ap (λ (v : Grid). cell v t i) (more b) ∙ ap (λ (row : List ℕ). get_or row i 0) (row_same g ok t h grown)
      ∙ get_or-set_same (get_or g t []) i (cell g t i + 1) 0 (omega (arith, ok.cells t h))
      ∙ sym (picked_yes (ltb (cell g t i) most) (cell g t i + 1) (cell g t i) (lt-ltb (cell g t i) most b)))
      (λ b. ap (λ (v : Grid). cell v t i) (sym (granted_full t i g b)) ∙ sym (picked_no (ltb (cell g t i) most) (cell g t i + 1) (cell g t i) (le-ltb (cell g t i) most b)))
      (lt_or_le (cell g t i) 65535)

  pub granted_other : (u j : ℕ) → ((u ≡ t) × (j ≡ i) → ⊥) → cell (granted g t i) u j ≡ cell g u j
  granted_other u j ne =
      ⊎_elim
      (λ b. ap (λ (v : Grid). cell v u j) (more b)
      ∙ ⊎_elim
      (λ d. ap (λ (v : ℕ). cell (set g t grown) v j) d ∙ ap (λ (row : List ℕ). get_or row j 0) (row_same g ok t h grown)
      ∙ get_or-set_other (get_or g t []) i j (cell g t i + 1) 0 (λ e. ne (d, e)) ∙ ap (λ (v : ℕ). cell g v j) (sym d))
      (λ d. row_other g ok t h grown u j d)
      (eq_or_not u t))
      (λ b. ap (λ (v : Grid). cell v u j) (sym (granted_full t i g b)))
      (lt_or_le (cell g t i) 65535)

-- a row cleared
module _ (g : Grid) (ok : Sized g) (t : ℕ) (h : t < 32) where
  emptied : row_cleared g t ≡ set g t no_grants
  unfolding row_cleared
  emptied = picked_yes (ltb t 32) (set g t no_grants) g (lt-ltb t 32 h)

  pub row_cleared_sized : Sized (row_cleared g t)
  row_cleared_sized =
      let s : Sized (set g t no_grants) = row_sized g ok t h no_grants refl in
      record { rows = ap length emptied ∙ s.rows; cells = λ u m. ap (λ (v : Grid). length (get_or v u [])) emptied ∙ s.cells u m }

  pub row_cleared_cell : (j : ℕ) → j < 16 → cell (row_cleared g t) t j ≡ 0
  row_cleared_cell j m = ap (λ (v : Grid). cell v t j) emptied ∙ ap (λ (row : List ℕ). get_or row j 0) (row_same g ok t h no_grants) ∙ no_cell j m

  pub row_cleared_other : (u j : ℕ) → (u ≡ t → ⊥) → cell (row_cleared g t) u j ≡ cell g u j
  row_cleared_other u j ne = ap (λ (v : Grid). cell v u j) emptied ∙ row_other g ok t h no_grants u j ne

-- a column cleared
module _ (g : Grid) (ok : Sized g) (i : ℕ) (l : i < 16) where
  abbrev emptied_row : List ℕ → List ℕ
  emptied_row row = set row i 0

  all_emptied : column_cleared g i ≡ map emptied_row g
  unfolding column_cleared
  all_emptied = picked_yes (ltb i 16) (map emptied_row g) g (lt-ltb i 16 l)

  at_row : (u : ℕ) → get_or (column_cleared g i) u [] ≡ set (get_or g u []) i 0
  at_row u = ap (λ (v : Grid). get_or v u []) all_emptied ∙ get_or-map emptied_row g u []

  pub column_cleared_sized : Sized (column_cleared g i)
  column_cleared_sized =
      record {
        rows = ap length all_emptied ∙ length-map g emptied_row ∙ ok.rows;
        cells = λ u m. ap length (at_row u) ∙ length-set (get_or g u []) i 0 ∙ ok.cells u m;
      }

  pub column_cleared_cell : (u : ℕ) → u < 32 → cell (column_cleared g i) u i ≡ 0
  column_cleared_cell u m = ap (λ (row : List ℕ). get_or row i 0) (at_row u) ∙ get_or-set_same (get_or g u []) i 0 0 (omega (arith, ok.cells u m))

  pub column_cleared_other : (u j : ℕ) → (j ≡ i → ⊥) → cell (column_cleared g i) u j ≡ cell g u j
  column_cleared_other u j ne = ap (λ (row : List ℕ). get_or row j 0) (at_row u) ∙ get_or-set_other (get_or g u []) i j 0 0 ne
