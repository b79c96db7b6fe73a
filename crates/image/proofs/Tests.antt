-- Bytes are those that the state read from them writes exactly if header, flags and order are right: every other column is read as it is
-- written, so that putting it again changes nothing.
-- Assumes nothing.
use mathlib.Core.Path.{◌≡◌, refl, sym, ap, ◌∙◌}
use mathlib.Core.Bool.{◌&&◌}
use mathlib.Core.List.{List, map}
use Prim.Native.Nat.{ℕ, ◌≤◌}
use native.Mathlib.Omega.{arith}
use lib.ListN.{length}
use lib.Seq.{take_all}
use Rattle.fields.specs.Numbers.{bit, is_on}
use Rattle.fields.specs.Columns.{part, take_column}
use Rattle.fields.specs.Fields.{Fine, TablesRead}
use Rattle.fields.specs.Tests.{only_flags, Tells}
use Rattle.fields.proofs.Bytes.{Bytes}
use Rattle.fields.proofs.Tables.{read_back}
use Rattle.fields.proofs.Testing.{tells_both, tells_one, flags_tell, one_row}
use Rattle.fields.proofs.Again.{read_written, number_fits, flag_fits}
use Rattle.orders.specs.Places.{order_places}
use Rattle.image.specs.Image.{Fits, task_fields, sem_fields, pool_fields, queue_fields, header_numbers, order_at, tables, image_of, image_size}
use Rattle.image.specs.Reading.{of_task, line_from, tasks_from, sems_from, pools_from, queues_from, state_from, same_bytes}
use Rattle.image.specs.Tests.{header_right, flags_right, order_right}
use Rattle.image.proofs.Back.{all_fine}
use Rattle.image.proofs.Image.{same_yes, same_is}

-- ---- what the tests tell

pub same_tells : (xs ys : List ℕ) → Tells (same_bytes xs ys) (xs ≡ ys)
same_tells xs ys = (same_is xs ys, λ e. ap (λ (l : List ℕ). same_bytes l ys) e ∙ same_yes ys)

-- a column of yes and no is written as it stands
abbrev Kept : List ℕ → (S n at : ℕ) → Type 0
Kept b S n at = take_column 1 1 S n b at ≡ map bit (map is_on (take_column 1 1 S n b at))

kept_tells : (b : List ℕ) (S n at : ℕ) → Tells (only_flags (take_column 1 1 S n b at)) (Kept b S n at)
kept_tells b S n at = flags_tell (take_column 1 1 S n b at)

-- ( Printed by tools/generate/run: kept
abbrev AllKept : List ℕ → Type 0
AllKept b =
    ((((((((Kept b 17 32 46 × Kept b 17 32 47) × Kept b 17 32 48) × Kept b 10 16 592) × Kept b 10 16 593) × Kept b 92 8 770) × Kept b 92 8 771) × Kept b 1051 8 1486) × Kept b 1051 8 1487)

flags_tells : (b : List ℕ) → Tells (flags_right b) (AllKept b)
unfolding flags_right
flags_tells b =
    tells_both _ _ (tells_both _ _ (tells_both _ _ (tells_both _ _ (tells_both _ _ (tells_both _ _ (tells_both _ _ (tells_both _ _ (kept_tells b 17 32 46) (kept_tells b 17 32 47)) (kept_tells b 17 32 48)) (kept_tells b 10 16 592)) (kept_tells b 10 16 593)) (kept_tells b 92 8 770)) (kept_tells b 92 8 771)) (kept_tells b 1051 8 1486)) (kept_tells b 1051 8 1487)

-- )

abbrev Right : List ℕ → Type 0
Right b = (take_column 4 1 4 10 b 0 ≡ header_numbers) × (AllKept b × (part 32 order_at b ≡ order_places (of_task 2 b 14)))

right_tells : (b : List ℕ) → Tells (header_right b && (flags_right b && order_right b)) (Right b)
unfolding header_right order_right
right_tells b =
    tells_both (header_right b) (flags_right b && order_right b) (same_tells (take_column 4 1 4 10 b 0) header_numbers)
    (tells_both (flags_right b) (order_right b) (flags_tells b) (same_tells (part 32 order_at b) (order_places (of_task 2 b 14))))

-- ---- the state read from bytes fits

more : {A B C : Type 0} → A × B → C → A × B × C
more p c = (p.0, p.1, c)

module _ (b : List ℕ) (q : Bytes b) where
  -- ( Printed by tools/generate/run: fine
  tasks_fine : Fine 32 (task_fields (line_from b) (tasks_from b))
  tasks_fine =
      let num = number_fits b q in
      let flag = flag_fits b q in
      more (num 4 1 17 32 40) (more (num 2 1 17 32 44) (more (flag 17 32 46)
      (more (flag 17 32 47) (more (flag 17 32 48) (more (num 1 1 17 32 49)
      (more (num 4 1 17 32 50) (more (num 2 1 17 32 54) (more (num 1 1 17 32 56) tt))))))))

  sems_fine : Fine 16 (sem_fields (sems_from b))
  sems_fine =
      let num = number_fits b q in
      let flag = flag_fits b q in
      more (num 4 1 10 16 584) (more (num 2 1 10 16 588) (more (num 2 1 10 16 590)
      (more (flag 10 16 592) (more (flag 10 16 593) tt))))

  pools_fine : Fine 8 (pool_fields (pools_from b))
  pools_fine =
      let num = number_fits b q in
      let flag = flag_fits b q in
      more (num 8 1 92 8 744) (more (num 4 1 92 8 752) (more (num 4 1 92 8 756)
      (more (num 4 1 92 8 760) (more (num 4 1 92 8 764) (more (num 2 1 92 8 768)
      (more (flag 92 8 770) (more (flag 92 8 771) (more (num 1 64 92 8 772) tt))))))))

  queues_fine : Fine 8 (queue_fields (queues_from b))
  queues_fine =
      let num = number_fits b q in
      let flag = flag_fits b q in
      more (num 4 1 1051 8 1480) (more (num 2 1 1051 8 1484) (more (flag 1051 8 1486)
      (more (flag 1051 8 1487) (more (num 1 2 1051 8 1488) (more (num 1 1 1051 8 1490)
      (more (num 1 1040 1051 8 1491) tt))))))

  -- )

  pub from_fits : Fits (state_from b)
  unfolding state_from
  from_fits = record { columns = (tasks_fine, (sems_fine, (pools_fine, (queues_fine, tt)))); rings = refl }

  -- ---- the tables of that state, read from the bytes

  -- ( Printed by tools/generate/run: right
  right_read : Right b → TablesRead b (tables (state_from b)) 0
  unfolding state_from
  right_read r =
      let f = r.1.0 in (
        (r.0, tt),
        (
          (refl, (refl, (f.0.0.0.0.0.0.0.0, (f.0.0.0.0.0.0.0.1, (f.0.0.0.0.0.0.1, (refl, (refl, (refl, (refl, tt))))))))),
          (
            (refl, (refl, (refl, (f.0.0.0.0.0.1, (f.0.0.0.0.1, tt))))),
            (
              (refl, (refl, (refl, (refl, (refl, (refl, (f.0.0.0.1, (f.0.0.1, (refl, tt))))))))),
              (
                (refl, (refl, (f.0.1, (f.1, (refl, (refl, (refl, tt))))))),
                ((one_row 32 32 b order_at ∙ r.1.1, tt), tt),
              ),
            ),
          ),
        ),
      )

  read_right : TablesRead b (tables (state_from b)) 0 → Right b
  unfolding state_from
  read_right r =
      let flags : AllKept b =
      ((((((((r.1.0.1.1.0, r.1.0.1.1.1.0), r.1.0.1.1.1.1.0), r.1.1.0.1.1.1.0), r.1.1.0.1.1.1.1.0), r.1.1.1.0.1.1.1.1.1.1.0), r.1.1.1.0.1.1.1.1.1.1.1.0), r.1.1.1.1.0.1.1.0), r.1.1.1.1.0.1.1.1.0) in
      (r.0.0, (flags, sym (one_row 32 32 b order_at) ∙ r.1.1.1.1.1.0.0))

  -- )

  module _ (h : length b ≡ image_size) where
    written_tells : Tells (header_right b && (flags_right b && order_right b)) (b ≡ image_of (state_from b))
    unfolding image_of
    written_tells =
        let s = state_from b in
        let l : length b ≤ image_size = omega arith in
        let t = right_tells b in (
          λ e. read_written b q (tables s) h (right_read (t.0 e)),
          λ e. t.1 (read_right (read_back b (tables s) (all_fine s from_fits) (take_all image_size b l ∙ e))),
        )

    pub written_tests : same_bytes b (image_of (state_from b)) ≡ (header_right b && (flags_right b && order_right b))
    written_tests =
        tells_one (same_bytes b (image_of (state_from b))) (header_right b && (flags_right b && order_right b)) (same_tells b (image_of (state_from b))) written_tells
