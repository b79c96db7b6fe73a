-- A state stands in the bytes of an image: no column reads further, so what lies past them does not matter.
-- Assumes nothing.
use mathlib.Core.Path.{◌≡◌, refl, ap, ◌∙◌}
use mathlib.Core.List.{List, ◌∷◌, [], ◌++◌, map}
use Prim.Native.Nat.{ℕ, zero, suc, ◌+◌, ◌*◌, ◌≤◌, ◌<◌}
use native.Mathlib.Nat.{suc-mul}
use native.Mathlib.Omega.{arith}
use lib.Dec.{lit≤}
use lib.ListN.{take, get_or}
use lib.Seq.{get_or-take}
use Rattle.scope.specs.Seats.{ring_mask}
use Rattle.fields.specs.Numbers.{is_on, number, numbers}
use Rattle.fields.specs.Columns.{take_column}
use Rattle.image.specs.Image.{image_size}
use Rattle.image.specs.Reading.{of_task, of_sem, of_pool, of_queue, state_with, state_from}

module _ (b : List ℕ) (m : ℕ) where
  number_front : (w at : ℕ) → at + w ≤ m → number w (take m b) at ≡ number w b at
  unfolding number
  number_front zero at h = refl
  number_front (suc w) at h =
      let l : at < m = omega arith in
      let r : suc at + w ≤ m = omega arith in
      ap (λ (x : ℕ). x + 256 * number w (take m b) (suc at)) (get_or-take m b at 0 l)
      ∙ ap (λ (x : ℕ). get_or b at 0 + 256 * x) (number_front w (suc at) r)

  numbers_front : (w n at : ℕ) → at + n * w ≤ m → numbers w n (take m b) at ≡ numbers w n b at
  unfolding numbers
  numbers_front w zero at h = refl
  numbers_front w (suc n) at h =
      let l : at + w ≤ m = omega (arith, suc-mul n w) in
      let r : at + w + n * w ≤ m = omega (arith, suc-mul n w) in
      ap (λ (x : ℕ). x ∷ numbers w n (take m b) (at + w)) (number_front w at l)
      ∙ ap (λ (xs : List ℕ). number w b at ∷ xs) (numbers_front w n (at + w) r)

  -- a column that lies in the first m bytes
  pub column_front : (w many S n at : ℕ) → at + n * S + many * w ≤ m + S → take_column w many S n (take m b) at ≡ take_column w many S n b at
  unfolding take_column
  column_front w many S zero at h = refl
  column_front w many S (suc n) at h =
      let l : at + n * S + many * w ≤ m = omega (arith, suc-mul n S) in
      let r : at + n * S + many * w ≤ m + S = omega arith in
      ap (λ (xs : List ℕ). xs ++ numbers w many (take m b) (at + n * S)) (column_front w many S n at r)
      ∙ ap (λ (xs : List ℕ). take_column w many S n b at ++ xs) (numbers_front w many (at + n * S) l)

module _ (b : List ℕ) where
  -- ( Printed by tools/generate/run: front
  task : (w at : ℕ) → 40 + at + 32 * 17 + 1 * w ≤ image_size + 17 → of_task w (take image_size b) at ≡ of_task w b at
  task w at = column_front b image_size w 1 17 32 (40 + at)

  sem : (w at : ℕ) → 584 + at + 16 * 10 + 1 * w ≤ image_size + 10 → of_sem w (take image_size b) at ≡ of_sem w b at
  sem w at = column_front b image_size w 1 10 16 (584 + at)

  pool : (w many at : ℕ) → 744 + at + 8 * 92 + many * w ≤ image_size + 92 → of_pool w many (take image_size b) at ≡ of_pool w many b at
  pool w many at = column_front b image_size w many 92 8 (744 + at)

  queue : (w many at : ℕ) → 1480 + at + 8 * 1051 + many * w ≤ image_size + 1051 → of_queue w many (take image_size b) at ≡ of_queue w many b at
  queue w many at = column_front b image_size w many 1051 8 (1480 + at)

  pub state_front : state_from (take image_size b) ≡ state_from b
  unfolding state_from
  state_front = λ i.
      state_with
      (record {
        left = task 4 10 (lit≤ tt) i;
        seat = task 2 14 (lit≤ tt) i;
        joined = task 1 16 (lit≤ tt) i;
        rings = ring_mask (task 2 14 (lit≤ tt) i) ∷ [];
      })
      (record {
        name = task 4 0 (lit≤ tt) i;
        serial = task 2 4 (lit≤ tt) i;
        live = map is_on (task 1 6 (lit≤ tt) i);
        started = map is_on (task 1 7 (lit≤ tt) i);
        suspended = map is_on (task 1 8 (lit≤ tt) i);
        priority = task 1 9 (lit≤ tt) i;
      })
      (record {
        name = sem 4 0 (lit≤ tt) i;
        serial = sem 2 4 (lit≤ tt) i;
        units = sem 2 6 (lit≤ tt) i;
        live = map is_on (sem 1 8 (lit≤ tt) i);
        fifo = map is_on (sem 1 9 (lit≤ tt) i);
      })
      (record {
        out = pool 8 1 0 (lit≤ tt) i;
        name = pool 4 1 8 (lit≤ tt) i;
        address = pool 4 1 12 (lit≤ tt) i;
        length = pool 4 1 16 (lit≤ tt) i;
        size = pool 4 1 20 (lit≤ tt) i;
        serial = pool 2 1 24 (lit≤ tt) i;
        live = map is_on (pool 1 1 26 (lit≤ tt) i);
        forced = map is_on (pool 1 1 27 (lit≤ tt) i);
        place = pool 1 64 28 (lit≤ tt) i;
      })
      (record {
        name = queue 4 1 0 (lit≤ tt) i;
        serial = queue 2 1 4 (lit≤ tt) i;
        live = map is_on (queue 1 1 6 (lit≤ tt) i);
        fifo = map is_on (queue 1 1 7 (lit≤ tt) i);
        limits = queue 1 2 8 (lit≤ tt) i;
        held = queue 1 1 10 (lit≤ tt) i;
        cells = queue 1 1040 11 (lit≤ tt) i;
      })
  -- )
