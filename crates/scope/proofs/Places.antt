-- The places of free buffers: a row of one pool among the rows of all, and what leaving, joining and a new pool do to each place.
-- A row is a part of the list, so a change of it is read place by place.
-- Assumes nothing.
use Prim.Native.Nat.{ℕ, zero, suc, ◌+◌, ◌-◌, ◌*◌, ◌≤◌, ◌<◌}
use native.Mathlib.Omega.{arith}
use native.Mathlib.Nat.{eq-zero-or-pos, not-suc-le-zero, le_of_suc-le-suc}
use mathlib.Core.Path.{◌≡◌, refl, sym, ap, ◌∙◌}
use mathlib.Core.Logic.{◌⊎◌, inl, inr, ⊎_elim}
use mathlib.Core.List.{List, ◌++◌}
use lib.ListN.{length, get_or, take, drop, length-append, length-drop, length-set, length-map, get_or-append, get_or-map}
use lib.Seq.{length-take-le, take_at, drop_at, get_or-append-add, get_or-take, get_or-drop, get_or-set_same, get_or-set_other, ext_get_or}
use lib.Dec.{ltb}
use Rattle.scope.specs.Choice.{pick}
use Rattle.scope.specs.Places.{row_of, with_row, first_leaves, joins_last, places_from, new_row}

-- the rows of `places`, of which there are more than i
module _ (places : List ℕ) (i : ℕ) (room : i * 64 + 64 ≤ length places) where
  pub length_row : length (row_of places i) ≡ 64
  unfolding row_of
  length_row = length-take-le 64 (drop (i * 64) places) (omega (arith, length-drop (i * 64) places))

  pub row_at : (k : ℕ) → k < 64 → get_or (row_of places i) k 0 ≡ get_or places (i * 64 + k) 0
  unfolding row_of
  row_at k h = get_or-take 64 (drop (i * 64) places) k 0 h ∙ get_or-drop (i * 64) places k 0

-- pool i has another row
module _ (places : List ℕ) (i : ℕ) (room : i * 64 + 64 ≤ length places) (row : List ℕ) (long : length row ≡ 64) where
  front : length (take (i * 64) places) ≡ i * 64
  front = length-take-le (i * 64) places (omega arith)

  rest : length (row ++ drop (i * 64 + 64) places) ≡ length places - i * 64
  rest = length-append row (drop (i * 64 + 64) places) ∙ omega (arith, long, length-drop (i * 64 + 64) places)

  pub length_with : length (with_row places i row) ≡ length places
  unfolding with_row
  length_with = length-append (take (i * 64) places) (row ++ drop (i * 64 + 64) places) ∙ omega (arith, front, rest)

  -- the row put in is there
  pub row_same : row_of (with_row places i row) i ≡ row
  unfolding row_of with_row
  row_same =
      ap (take 64) (drop_at (take (i * 64) places) (row ++ drop (i * 64 + 64) places) (i * 64) front)
      ∙ take_at row (drop (i * 64 + 64) places) 64 long

  -- no other place is changed
  before : (m : ℕ) → m < i * 64 → get_or (with_row places i row) m 0 ≡ get_or places m 0
  unfolding with_row
  before m h =
      get_or-append (take (i * 64) places) (row ++ drop (i * 64 + 64) places) 0 m (omega (arith, front))
      ∙ get_or-take (i * 64) places m 0 h

  past : (n : ℕ) → get_or (with_row places i row) (i * 64 + (64 + n)) 0 ≡ get_or places (i * 64 + 64 + n) 0
  unfolding with_row
  past n =
      ap (λ (m : ℕ). get_or (with_row places i row) (m + (64 + n)) 0) (sym front)
      ∙ get_or-append-add (take (i * 64) places) (row ++ drop (i * 64 + 64) places) (64 + n) 0
      ∙ ap (λ (m : ℕ). get_or (row ++ drop (i * 64 + 64) places) (m + n) 0) (sym long)
      ∙ get_or-append-add row (drop (i * 64 + 64) places) n 0
      ∙ get_or-drop (i * 64 + 64) places n 0

  elsewhere : (m : ℕ) → i * 64 + 64 ≤ m → get_or (with_row places i row) m 0 ≡ get_or places m 0
  elsewhere m h =
      let e : i * 64 + (64 + (m - (i * 64 + 64))) ≡ m = omega arith in
      let d : i * 64 + 64 + (m - (i * 64 + 64)) ≡ m = omega arith in
      ap (λ (n : ℕ). get_or (with_row places i row) n 0) (sym e) ∙ past (m - (i * 64 + 64)) ∙ ap (λ (n : ℕ). get_or places n 0) d

  pub row_other : (j : ℕ) → j * 64 + 64 ≤ length places → (j ≡ i → ⊥) → row_of (with_row places i row) j ≡ row_of places j
  row_other j h ne =
      let room_new : j * 64 + 64 ≤ length (with_row places i row) = omega (arith, length_with) in
      let long_new : length (row_of (with_row places i row) j) ≡ 64 = length_row (with_row places i row) j room_new in
      ext_get_or 0 (row_of (with_row places i row) j) (row_of places j) (long_new ∙ sym (length_row places j h))
      (λ k l. let m : k < 64 = omega (arith, l, long_new) in
      row_at (with_row places i row) j room_new k m ∙ other k m ∙ sym (row_at places j h k m))
    where
      below_or_not : (a b : ℕ) → (a < b) ⊎ (b ≤ a)
      below_or_not a b = ⊎_elim (λ z. inr (omega arith)) (λ z. inl (omega arith)) (eq-zero-or-pos (b - a))

      other : (k : ℕ) → k < 64 → get_or (with_row places i row) (j * 64 + k) 0 ≡ get_or places (j * 64 + k) 0
      other k l =
          ⊎_elim (λ e. before (j * 64 + k) (omega arith)) (λ e. elsewhere (j * 64 + k) (omega arith)) (below_or_not j i)

-- the first leaves: every place comes forward, and 0 stays 0
pub leaves_at : (row : List ℕ) (j : ℕ) → get_or (first_leaves row) j 0 ≡ get_or row j 0 - 1
unfolding first_leaves
leaves_at row j = get_or-map (λ x. x - 1) row j 0

pub length_leaves : (row : List ℕ) → length (first_leaves row) ≡ length row
unfolding first_leaves
length_leaves row = length-map row (λ x. x - 1)

-- buffer k joins at the end, behind those that are free
module _ (row : List ℕ) (free k : ℕ) where
  pub joins_at : k < length row → get_or (joins_last row free k) k 0 ≡ free + 1
  unfolding joins_last
  joins_at h = get_or-set_same row k (free + 1) 0 h

  pub joins_other : (j : ℕ) → (j ≡ k → ⊥) → get_or (joins_last row free k) j 0 ≡ get_or row j 0
  unfolding joins_last
  joins_other j ne = get_or-set_other row k j (free + 1) 0 ne

  pub length_joins : length (joins_last row free k) ≡ length row
  unfolding joins_last
  length_joins = length-set row k (free + 1)

-- a new pool of n buffers
module _ (n : ℕ) where
  from_at : (m k j : ℕ) → j < m → get_or (places_from n m k) j 0 ≡ pick (ltb (k + j) n) (k + j + 1) 0
  from_at zero k j h = absurd (not-suc-le-zero h)
  from_at (suc m) k zero h = ap (λ (x : ℕ). pick (ltb x n) (x + 1) 0) {x = k} {y = k + zero} (omega arith)
  from_at (suc m) k (suc j) h =
      from_at m (k + 1) j (le_of_suc-le-suc h) ∙ ap (λ (x : ℕ). pick (ltb x n) (x + 1) 0) {x = k + 1 + j} {y = k + suc j} (omega arith)

  from_length : (m k : ℕ) → length (places_from n m k) ≡ m
  from_length zero k = refl
  from_length (suc m) k = ap suc (from_length m (k + 1))

  pub length_new : length (new_row n) ≡ 64
  unfolding new_row
  length_new = from_length 64 0

  pub new_at : (k : ℕ) → k < 64 → get_or (new_row n) k 0 ≡ pick (ltb k n) (k + 1) 0
  unfolding new_row
  new_at k h = from_at 64 0 k h ∙ ap (λ (x : ℕ). pick (ltb x n) (x + 1) 0) {x = 0 + k} {y = k} (omega arith)
