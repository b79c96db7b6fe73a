-- The semaphore calls keep a state sound: each changes one slot of the semaphores, where nobody stands in its queue, or moves
-- one task. A deleted semaphore's waiters are woken first.
-- Assumes nothing.
use Prim.Native.Nat.{ℕ, ◌+◌, ◌-◌, ◌≤◌, ◌<◌}
use native.Mathlib.Omega.{arith}
use mathlib.Core.Path.{◌≡◌, refl, sym, subst, ap, ◌∙◌}
use mathlib.Core.Logic.{⊎_elim}
use mathlib.Core.Bool.{Bool, true, false, not}
use mathlib.Core.List.{List}
use lib.ListN.{length, get_or, length-set}
use lib.Seq.{get_or-set_same, get_or-set_other}
use lib.Dec.{ltb, leb, eqb}
use borrow.Author.Tests.{ltb-true, ltb-false, leb-false}
use Rattle.scope.specs.declared.State.{State}
use Rattle.scope.specs.declared.Tasks.{Tasks}
use Rattle.scope.specs.declared.Semaphores.{Semaphores}
use Rattle.scope.specs.declared.Waking.{Waking}
use Rattle.scope.specs.declared.Found.TheVariants.{At}
use Rattle.scope.specs.Seats.{queue_seats, first_standing, standing, mask_of}
use Rattle.scope.specs.Objects.{objects_end, objects_of}
use Rattle.scope.specs.Views.{with_line, with_semaphores}
use Rattle.scope.specs.Answers.{wakes_with}
use Rattle.scope.specs.Waiting.{is_time_out, waits, wake_next, none_woken, wake_all}
use Rattle.scope.specs.Semaphores.{last_count, sem_born, sem_gone, with_units, sem_found, sem_delete_at}
use Rattle.laws.proofs.Arrays.{cleared}
use Rattle.laws.proofs.Branches.{lt_or_le, eq_or_not, true-false, true_or_false, second_decides, not_of_false}
use Rattle.laws.proofs.Tables.{found_below, found-live, usable_at, usable_free}
use Rattle.laws.proofs.Seats.Counting.{standing-le}
use Rattle.laws.proofs.Seats.First.{runner_ring}
use Rattle.histories.specs.Sound.{Ready, LineSound, TasksSound, SemSound, SemsSound, Sound}
use Rattle.histories.proofs.Lengths.{sems_as_long}
use Rattle.histories.proofs.Objects.{sem_live, sem_fifo, sem_stock, no_units, born_elsewhere, gone_elsewhere, units_elsewhere}
use Rattle.histories.proofs.Moves.{waits_sound, queue_waits, ring_ready}
use Rattle.histories.proofs.Waking.{first_in_lem, first_empty, dead_empty, empty_changes, next_sound, all_woken}
use Rattle.histories.proofs.Parts.{all_sound, line_sound, semaphores_sound}
use Rattle.histories.specs.History.{Event}
use Rattle.histories.proofs.Deeds.{new_semaphore, SemChange, sem_created, unit_claimed, unit_released}

-- each slot is sound where slot i is and the others are as they were
slots_sound : (m n : Semaphores) (i : ℕ) → SemsSound m → ((j : ℕ) → (j ≡ i → ⊥) → SemSound m j → SemSound n j) → SemSound n i
    → (j : ℕ) → j < 16 → SemSound n j
slots_sound m n i ok kept here j h = ⊎_elim (λ e. subst (SemSound n) (sym e) here) (λ ne. kept j ne (ok.each j h)) (eq_or_not j i)

module _ (m : Semaphores) (sems : SemsSound m) (i : ℕ) (hi : i < 16) where
  -- a semaphore is born in a free slot
  module _ (name count : ℕ) (fifo : Bool) where
    born_live : get_or (sem_born m i name count fifo).live i false ≡ true
    born_live = get_or-set_same m.live i true false (omega (arith, sems.sized.lives))

    born_sems : count ≤ 32767 → SemsSound (sem_born m i name count fifo)
    born_sems fits =
        record {
          sized = sems_as_long m (sem_born m i name count fifo) (simp length-set) sems.sized;
          each = slots_sound m (sem_born m i name count fifo) i sems (λ j ne row. simp get_or-set_other row)
              (record {
                alive = λ e. omega (arith, get_or-set_same m.serial i (get_or m.serial i 0 + 1) 0 (omega (arith, sems.sized.serials)));
                units = omega (arith, get_or-set_same m.units i count 0 (omega (arith, sems.sized.unitss)));
                name = λ e. absurd (true-false born_live e);
                fifo = λ e. absurd (true-false born_live e);
                none = λ e. absurd (true-false born_live e);
              });
        }

  -- a semaphore goes
  gone_sems : SemsSound (sem_gone m i)
  gone_sems =
      record {
        sized = sems_as_long m (sem_gone m i) (simp length-set) sems.sized;
        each = slots_sound m (sem_gone m i) i sems (λ j ne row. simp get_or-set_other row)
            (simp cleared
            (record { alive = λ e. absurd (true-false e refl); units = omega arith; name = λ e. refl; fifo = λ e. refl; none = λ e. refl }));
      }

  -- a live semaphore has other units
  units_sems : (n : ℕ) → n ≤ 32767 → get_or m.live i false ≡ true → SemsSound (with_units m i n)
  units_sems n fits alive =
      record {
        sized = sems_as_long m (with_units m i n) (simp length-set) sems.sized;
        each = slots_sound m (with_units m i n) i sems (λ j ne row. simp get_or-set_other row)
            (record {
              alive = (sems.each i hi).alive;
              units = omega (arith, get_or-set_same m.units i n 0 (omega (arith, sems.sized.unitss)));
              name = (sems.each i hi).name;
              fifo = (sems.each i hi).fifo;
              none = λ e. absurd (true-false alive e);
            });
      }

-- a started task has a priority in range
started-priority : (k : Tasks) (t : ℕ) → TasksSound k → t < 32 → get_or k.started t false ≡ true → get_or k.priority t 0 ≤ 15
started-priority k t ok h started =
    ⊎_elim (λ a. ((ok.each t h).alive a).1) (λ d. absurd (true-false started ((ok.each t h).started d))) (true_or_false (get_or k.live t false))

-- who runs is ready
pub runs_ready : (s : State) → Sound s → s.running < 32 → Ready s.line s.tasks s.running
runs_ready s ok h =
    let q : List ℕ = s.line.seat in
    let m : ℕ = mask_of s.line.rings in
    ring_ready s.line s.tasks (objects_of s) ok.line s.running h
    (omega (arith, runner_ring q m (omega (arith, h, ok.running)), ap (λ (v : ℕ). get_or q v 0) ok.running))

-- an object that tasks may wait for
module _ (s : State) (ok : Sound s) (i : ℕ) (hi : i < objects_end) where
  -- the running task waits for it, which lives and has no stock
  pub waiter_sound : (fifo : Bool) → (objects_of s).fifo i ≡ fifo → (objects_of s).live i ≡ true → (objects_of s).stock i ≡ 0
      → (ticks : ℕ) → is_time_out ticks ≡ true → s.running < 32
      → Sound (with_line s (waits s.line i fifo (get_or s.tasks.priority s.running 0) ticks s.running))
  waiter_sound fifo e alive none ticks time h =
      let r : Ready s.line s.tasks s.running = runs_ready s ok h in
      line_sound s ok _
      (subst (λ (f : Bool). LineSound (waits s.line i f (get_or s.tasks.priority s.running 0) ticks s.running) s.tasks (objects_of s)) e
      (waits_sound s.line s.tasks (objects_of s) ok.line s.running h i (get_or s.tasks.priority s.running 0) ticks r hi alive none time
      (started-priority s.tasks s.running ok.tasks h r.started)))

  -- the first who waits for it is woken
  pub first_sound : first_standing s.line.seat (queue_seats i) < 32
      → Sound (with_line s (wake_next s.tasks (none_woken s.line) (first_standing s.line.seat (queue_seats i))).line)
  first_sound h =
      line_sound s ok _
      (next_sound s.tasks (objects_of s) (none_woken s.line) _ h ok.line
      (queue_waits s.line s.tasks (objects_of s) ok.line _ h i hi (first_in_lem s.line s.tasks (objects_of s) ok.line i h)).0)

module _ (s : State) (ok : Sound s) where
  -- what an identifier names is a live semaphore
  pub named_slot : (id i : ℕ) → sem_found s id ≡ At i → (i < 16) × (get_or s.semaphores.live i false ≡ true)
  named_slot id i e = (
    omega (arith, found_below s.semaphores.serial s.semaphores.live id e, ok.semaphores.sized.serials),
    found-live s.semaphores.serial s.semaphores.live id e,
  )

  module _ (i : ℕ) (hi : i < 16) (alive : get_or s.semaphores.live i false ≡ true) where
    pub sem_delete_at_lem : Sound (sem_delete_at s i).state
    unfolding sem_delete_at wakes_with
    sem_delete_at_lem =
        let w : Waking = wake_all s.tasks i 32 (none_woken s.line) in
        let d : LineSound w.line s.tasks (objects_of s) × (standing w.line.seat (queue_seats i) ≡ 0) =
        all_woken s.tasks (objects_of s) i (omega arith) 32 (none_woken s.line) ok.line (standing-le s.line.seat (queue_seats i)) in
        all_sound s ok w.line s.tasks (sem_gone s.semaphores i)
        (empty_changes w.line s.tasks (objects_of s) d.0 i _ (gone_elsewhere s.semaphores s.queues i) d.1)
        ok.tasks
        (gone_sems s.semaphores ok.semaphores i hi)

    units_sound : (n : ℕ) → n ≤ 32767 → standing s.line.seat (queue_seats i) ≡ 0 → Sound (with_semaphores s (with_units s.semaphores i n))
    units_sound n fits none =
        semaphores_sound s ok (with_units s.semaphores i n)
        (empty_changes s.line s.tasks (objects_of s) ok.line i _ (units_elsewhere s.semaphores s.queues i n) none)
        (units_sems s.semaphores ok.semaphores i hi n fits alive)

    -- the running task waits for it, which has no unit
    pub caller_sound : (ticks : ℕ) → is_time_out ticks ≡ true → get_or s.semaphores.units i 0 ≡ 0 → s.running < 32
        → Sound (with_line s (waits s.line i (get_or s.semaphores.fifo i false) (get_or s.tasks.priority s.running 0) ticks s.running))
    caller_sound ticks time none h =
        waiter_sound s ok i (omega arith) _ (sem_fifo s.semaphores s.queues i hi) (sem_live s.semaphores s.queues i hi ∙ alive)
        (sem_stock s.semaphores s.queues i hi ∙ none) ticks time h

  -- what the semaphore calls do to the table, by what their tests showed
  pub sem_sound : (x : Event) {m : Semaphores} {v : ℕ} → SemChange s x m v → Sound (with_semaphores s m)
  sem_sound x (sem_created at e f g) =
      let i : ℕ = new_semaphore s in
      let serial : List ℕ = s.semaphores.serial in
      let live : List Bool = s.semaphores.live in
      let l : i < length serial = leb-false (length serial) i g in
      let h : i < 16 = omega (arith, l, ok.semaphores.sized.serials) in
      semaphores_sound s ok (sem_born s.semaphores i x.a x.b (eqb x.c 1))
      (empty_changes s.line s.tasks (objects_of s) ok.line i _ (born_elsewhere s.semaphores s.queues i x.a x.b (eqb x.c 1))
      (dead_empty s.line s.tasks (objects_of s) ok.line i (omega arith)
      (sem_live s.semaphores s.queues i h ∙ usable_free serial live i (usable_at serial live l))))
      (born_sems s.semaphores ok.semaphores i h x.a x.b (eqb x.c 1) (ltb-false last_count x.b e))
  sem_sound x (unit_claimed at i e f) =
      let n : ℕ = get_or s.semaphores.units i 0 in
      let a = named_slot x.a i e in
      let some : 0 < n = ltb-true 0 n f in
      units_sound i a.0 a.1 (n - 1) (omega (arith, (ok.semaphores.each i a.0).units))
      (⊎_elim (λ c. absurd (omega (arith, some, no_units s.line s.tasks s.semaphores s.queues ok.line i a.0 c))) (λ c. omega arith)
      (lt_or_le 0 (standing s.line.seat (queue_seats i))))
  sem_sound x (unit_released at i e f g) =
      let t : ℕ = first_standing s.line.seat (queue_seats i) in
      let n : ℕ = get_or s.semaphores.units i 0 in
      let a = named_slot x.a i e in
      let h : leb 32767 n ≡ false = sym (second_decides (not (ltb t 32)) (leb 32767 n) (not_of_false (ltb t 32) g)) ∙ f in
      units_sound i a.0 a.1 (n + 1) (omega (arith, leb-false 32767 n h))
      (first_empty s.line s.tasks (objects_of s) ok.line i (ltb-false t 32 g))
