-- A state passes the test `sound` just if it is sound as Sound.antt has it: each rule's test, at each slot, by its choices.
-- Assumes nothing.
use Prim.Native.Nat.{ℕ, ◌-◌, ◌%◌, ◌≤◌, ◌<◌}
use native.Mathlib.Omega.{arith}
use mathlib.Core.Path.{◌≡◌, refl, sym, subst, ap, ◌∙◌}
use mathlib.Core.Logic.{◌⊎◌, inl, inr, ⊎_elim}
use mathlib.Core.Bool.{Bool, true, false, not, ◌&&◌}
use mathlib.Core.List.{List, [], ◌∷◌}
use lib.ListN.{length, get_or}
use lib.Dec.{ltb, leb, eqb}
use borrow.Author.Tests.{le-ltb, le-leb, eq-eqb, leb-true, eqb-true, not-true}
use Rattle.scope.specs.declared.State.{State}
use Rattle.scope.specs.declared.Line.{Line}
use Rattle.scope.specs.declared.Tasks.{Tasks}
use Rattle.scope.specs.declared.Semaphores.{Semaphores}
use Rattle.scope.specs.Seats.{queue_seats, waits_on, queue_of, standing, ring_mask, mask_of}
use Rattle.scope.specs.Views.{ready_with, waiters_of, count}
use Rattle.scope.specs.Objects.{objects_end, queue_object, Objects, objects_of}
use Rattle.scope.specs.Queues.{most_of}
use Rattle.scope.specs.Rules.{seats_right, rings_right, ready_right, ready_order_right, wait_right, waits_right, joined_right, queues_sorted, count_right, counts_right, holds_right, held_right, start_right, starts_right, task_right, tasks_right, sem_right, sems_right, queue_right, queues_right, messages_right, pool_right, pools_right, order_right, orders_right, pools_apart, running_right, order_rules, table_rules, keeps, sound}
use Rattle.scope.proofs.Counts.{right_says, says_right}
use Rattle.laws.proofs.Branches.{both, both_true, first_fails, second_fails, not_of_true, not_of_false, true-false, true_or_false, lt_or_le}
use Rattle.laws.proofs.Searches.{every_yes, every_at}
use Rattle.laws.proofs.Arrays.{inside}
use Rattle.scope.specs.Pools.{pool_buffers, pool_row}
use Rattle.scope.proofs.Buffers.{buffers_few}
use Rattle.scope.proofs.Places.{length_row}
use Rattle.laws.proofs.Orders.{order_says, order_right_lem}
use Rattle.laws.specs.Seating.{In, Sorted, AllSeated}
use Rattle.laws.proofs.Seats.Rule.{queues_from_rule, rule_from_queues}
use Rattle.laws.proofs.Seats.Sorting.{steps_from_sorted, sorted_from_steps}
use Rattle.histories.specs.Sound.{Waits, Ready, Stands, LineSound, TaskSound, TasksSound, SemSound, SemsSound, PoolsSound, QueuesSound, Sound, Sized}
use Rattle.histories.proofs.Tests.{chosen_yes, chosen_no, choose, waits_is, waits_says, ready_says, idle_says, ready_right_lem, start_says, start_right_lem, wait_says, rest_says, wait_right_lem, joined_says, joined_right_lem, holds_says, holds_right_lem}
use Rattle.histories.proofs.Ruled.{Row, rows, row_holds, none, more, each_keeps, sound-keeps, keeps-sound}
use Rattle.histories.proofs.Objects.{sem_stock, queue_stock, no_stock, no_units, holds_nothing}

-- a seat that nobody waits on
waits_not : (x : ℕ) → (x ≡ 0) ⊎ (2048 ≤ x) → waits_on x ≡ false
unfolding waits_on
waits_not x h =
    ⊎_elim (λ e. first_fails _ (ltb x 2048) (le-ltb 0 x (omega arith))) (λ l. second_fails (ltb 0 x) _ (le-ltb x 2048 l)) h

idles_says : (x : ℕ) → waits_on x ≡ false → (x ≡ 0) ⊎ (2048 ≤ x)
idles_says x e =
    ⊎_elim
    (λ h. ⊎_elim (λ l. absurd (true-false (waits_is x h l) e)) inr (lt_or_le x 2048))
    (λ h. inl (omega arith))
    (lt_or_le 0 x)

-- who is ready, idle or waits, by its flags and its seat
module _ (started suspended : Bool) (x : ℕ) where
  -- it is started and not suspended
  abbrev Runnable : Type 0
  Runnable = (started ≡ true) × (suspended ≡ false)

  runnable_or_not : Runnable ⊎ ((started ≡ false) ⊎ (suspended ≡ true))
  runnable_or_not =
      ⊎_elim (λ a. ⊎_elim (λ b. inr (inr b)) (λ b. inl (a, b)) (true_or_false suspended)) (λ a. inr (inl a)) (true_or_false started)

  ready_with_lem : Runnable → waits_on x ≡ false → ready_with started suspended x ≡ true
  unfolding ready_with
  ready_with_lem r w = both _ _ r.0 (both _ _ (not_of_false _ r.1) (not_of_false _ w))

  idle_with : (started ≡ false) ⊎ (suspended ≡ true) → ready_with started suspended x ≡ false
  unfolding ready_with
  idle_with h =
      ⊎_elim (λ a. first_fails started _ a) (λ b. second_fails started _ (first_fails (not suspended) _ (not_of_true _ b))) h

  waits_with : waits_on x ≡ true → ready_with started suspended x ≡ false
  unfolding ready_with
  waits_with w = second_fails started _ (second_fails (not suspended) _ (not_of_true _ w))

  waits_started : start_right started suspended x ≡ true → waits_on x ≡ true → started ≡ true
  waits_started e w =
      ⊎_elim (λ a. a) (λ a. absurd (true-false w (start_says started suspended x e a).0)) (true_or_false started)

-- where a task stands, from the rules at it
module _ (l : Line) (k : Tasks) (m : Objects) (t : ℕ) where
  abbrev seat : ℕ
  seat = get_or l.seat t 0

  abbrev is_started : Bool
  is_started = get_or k.started t false

  abbrev is_suspended : Bool
  is_suspended = get_or k.suspended t false

  abbrev ReadyRight : Type 0
  ReadyRight = ready_right is_started is_suspended (get_or k.priority t 0) seat ≡ true

  abbrev WaitRight : Type 0
  WaitRight = wait_right m.live seat (get_or l.left t 0) (get_or l.joined t 0) ≡ true

  abbrev StartRight : Type 0
  StartRight = start_right is_started is_suspended seat ≡ true

  stands_says : (seat ≡ 0) ⊎ ((0 < seat % 64) × (seat % 64 < 63)) → ReadyRight → WaitRight → StartRight → Stands l k m t
  stands_says places ready wait start = ⊎_elim waiting resting (true_or_false (waits_on seat))
    where
      waiting : waits_on seat ≡ true → Stands l k m t
      waiting w =
          let h : (0 < seat) × (seat < 2048) = waits_says seat w in
          let r = wait_says m.live seat (get_or l.left t 0) (get_or l.joined t 0) wait w in
          let i : ℕ = queue_of seat in
          let p : (0 < seat % 64) × (seat % 64 < 63) = ⊎_elim (λ z. absurd (omega arith)) (λ z. z) places in
          inr (inl (record {
            on = i;
            within = omega (arith, h, r.0);
            alive = r.1;
            stands = (omega (arith, r.0, p), omega (arith, r.0, p));
            started = waits_started is_started is_suspended seat start w;
            time = r.2;
            joined = r.3;
          }))

      resting : waits_on seat ≡ false → Stands l k m t
      resting w =
          let r = rest_says m.live seat (get_or l.left t 0) (get_or l.joined t 0) wait w in
          ⊎_elim
          (λ a. inr (inr (record {
            stands = ready_says is_started is_suspended _ seat ready (ready_with_lem is_started is_suspended seat a w);
            started = a.0;
            awake = a.1;
            left = r.0;
            joined = r.1;
          })))
          (λ a. let low : seat < 2048 = idle_says is_started is_suspended _ seat ready (idle_with is_started is_suspended seat a) in
          inl (record {
            seat = ⊎_elim (λ z. z) (λ z. absurd (omega arith)) (idles_says seat w);
            left = r.0;
            joined = r.1;
            idle = a;
          }))
          (runnable_or_not is_started is_suspended seat)

  -- who waits sits on a seat that one waits on, who is ready does not
  waiter_on : Waits l k m t → waits_on seat ≡ true
  waiter_on w = waits_is seat (omega (arith, w.stands.0)) (omega (arith, w.stands.1, w.within))

  ready_off : Ready l k t → waits_on seat ≡ false
  ready_off r = waits_not seat (inr (omega (arith, r.stands.0)))

  -- and back: the rules at it, from where it stands
  stands_ready : Stands l k m t → ReadyRight
  stands_ready h =
      ready_right_lem is_started is_suspended (get_or k.priority t 0) seat
      (λ e. ⊎_elim (λ n. absurd (true-false e (idle_with is_started is_suspended seat n.idle)))
      (λ h. ⊎_elim (λ w. absurd (true-false e (waits_with is_started is_suspended seat (waiter_on w)))) (λ r. r.stands) h)
      h)
      (λ e. ⊎_elim (λ n. omega (arith, n.seat))
      (λ h. ⊎_elim (λ w. omega (arith, w.stands.1, w.within))
      (λ r. absurd (true-false (ready_with_lem is_started is_suspended seat (r.started, r.awake) (ready_off r)) e))
      h)
      h)

  stands_wait : Stands l k m t → WaitRight
  stands_wait h =
      wait_right_lem m.live seat _ _
      (λ e. ⊎_elim (λ n. absurd (true-false e (waits_not seat (inl n.seat))))
      (λ h. ⊎_elim
      (λ w. let d : queue_of seat ≡ w.on = omega (arith, w.stands) in (omega (arith, w.stands.0), ap m.live d ∙ w.alive, w.time, w.joined))
      (λ r. absurd (true-false e (ready_off r)))
      h)
      h)
      (λ e. ⊎_elim (λ n. (n.left, n.joined))
      (λ h. ⊎_elim (λ w. absurd (true-false (waiter_on w) e)) (λ r. (r.left, r.joined)) h)
      h)

  stands_start : (is_started ≡ false → is_suspended ≡ false) → Stands l k m t → StartRight
  stands_start f h =
      start_right_lem is_started is_suspended seat
      (λ a. (
        ⊎_elim (λ n. waits_not seat (inl n.seat))
            (λ h. ⊎_elim (λ w. absurd (true-false w.started a)) (λ r. absurd (true-false r.started a)) h)
            h,
        f a,
      ))

-- a queue by joining priority: a test of each task says it of each pair
module _ (l : Line) (k : Tasks) (m : Objects) (queues : AllSeated l.seat) where
  sorted_says : queues_sorted l m.fifo ≡ true → (i : ℕ) → i < objects_end → m.fifo i ≡ false → Sorted l.seat l.joined (queue_seats i)
  unfolding queues_sorted
  sorted_says e i b f =
      sorted_from_steps l.seat l.joined (queue_seats i) _ queues.tasks (queues.seated (queue_seats i) (omega arith))
      (λ t at h. let d : queue_of (get_or l.seat t 0) ≡ i = omega (arith, at) in
      joined_says l.seat l.joined m.fifo (get_or l.seat t 0) (get_or l.joined t 0)
      (every_at (λ u. joined_right l.seat l.joined m.fifo (get_or l.seat u 0) (get_or l.joined u 0)) 32 e t
      (inside 32 l.seat t queues.tasks (λ z. omega arith)))
      (waits_is (get_or l.seat t 0) (omega (arith, at)) (omega (arith, at, b)))
      (omega (arith, at, h))
      (ap m.fifo d ∙ f))

  sorted_right : (t : ℕ) → Stands l k m t
      → ((i : ℕ) → i < objects_end → m.fifo i ≡ false → Sorted l.seat l.joined (queue_seats i))
      → joined_right l.seat l.joined m.fifo (get_or l.seat t 0) (get_or l.joined t 0) ≡ true
  sorted_right t h order =
      joined_right_lem l.seat l.joined m.fifo (get_or l.seat t 0) (get_or l.joined t 0)
      (λ on second a.
      ⊎_elim (λ n. absurd (omega (arith, n.seat, second)))
      (λ h. ⊎_elim
      (λ w. let s : In l.seat (queue_seats w.on) t = w.stands in
      let d : queue_of (get_or l.seat t 0) ≡ w.on = omega arith in
      steps_from_sorted l.seat l.joined (queue_seats w.on) _ queues.tasks (queues.seated (queue_seats w.on) (omega arith))
      (order w.on w.within (sym (ap m.fifo d) ∙ a))
      t s (omega arith))
      (λ r. absurd (omega (arith, r.stands.0, (waits_says (get_or l.seat t 0) on).1)))
      h)
      h)

-- a slot of the tasks and one of the semaphores
module _ (k : Tasks) (t : ℕ) where
  task_says : task_right k t ≡ true → (get_or k.started t false ≡ false → get_or k.suspended t false ≡ false) → TaskSound k t
  unfolding task_right
  task_says e f =
      record {
        alive = λ a. let b = both_true (leb 1 (get_or k.serial t 0)) _ (chosen_yes (get_or k.live t false) _ _ e a) in
            (leb-true _ _ b.0, leb-true _ _ b.1);
        name = λ a. eqb-true _ _ (zeros a).0;
        started = λ a. not-true _ (both_true (not (get_or k.started t false)) _ (zeros a).1).0;
        priority = λ a.
            eqb-true _ _
            (both_true (not (get_or k.suspended t false)) _ (both_true (not (get_or k.started t false)) _ (zeros a).1).1).1;
        suspended = f;
      }
    where
      zeros : get_or k.live t false ≡ false
          → (eqb (get_or k.name t 0) 0 ≡ true)
          × ((not (get_or k.started t false) && (not (get_or k.suspended t false) && eqb (get_or k.priority t 0) 0)) ≡ true)
      zeros a = both_true _ _ (chosen_no (get_or k.live t false) _ _ e a)

  task_right_lem : TaskSound k t → task_right k t ≡ true
  unfolding task_right
  task_right_lem h =
      choose (get_or k.live t false) (λ a. both _ _ (le-leb _ _ (h.alive a).0) (le-leb _ _ (h.alive a).1))
      (λ a. both _ _ (eq-eqb _ _ (h.name a))
      (both _ _ (not_of_false _ (h.started a))
      (both _ _ (not_of_false _ (h.suspended (h.started a))) (eq-eqb _ _ (h.priority a)))))

module _ (m : Semaphores) (i : ℕ) where
  sem_says : sem_right m i ≡ true → get_or m.units i 0 ≤ 32767 → SemSound m i
  unfolding sem_right
  sem_says e u =
      record {
        alive = λ a. leb-true _ _ (chosen_yes (get_or m.live i false) _ _ e a);
        units = u;
        name = λ a. eqb-true _ _ (zeros a).0;
        fifo = λ a. not-true _ (both_true _ _ (zeros a).1).0;
        none = λ a. eqb-true _ _ (both_true (not (get_or m.fifo i false)) _ (zeros a).1).1;
      }
    where
      zeros : get_or m.live i false ≡ false
          → (eqb (get_or m.name i 0) 0 ≡ true) × ((not (get_or m.fifo i false) && eqb (get_or m.units i 0) 0) ≡ true)
      zeros a = both_true _ _ (chosen_no (get_or m.live i false) _ _ e a)

  sem_right_lem : SemSound m i → sem_right m i ≡ true
  unfolding sem_right
  sem_right_lem h =
      choose (get_or m.live i false) (λ a. le-leb _ _ (h.alive a))
      (λ a. both _ _ (eq-eqb _ _ (h.name a)) (both _ _ (not_of_false _ (h.fifo a)) (eq-eqb _ _ (h.none a))))

-- a column of one place
one_place : (xs : List ℕ) → length xs ≡ 1 → xs ≡ get_or xs 0 0 ∷ []
one_place [] e = absurd (omega arith)
one_place (x ∷ []) e = refl
one_place (x ∷ y ∷ ys) e = absurd (omega arith)

-- what the test says of a state whose arrays have their sizes
module _ (s : State) (sized : Sized s) (orders : keeps order_rules s ≡ true) (tables : keeps table_rules s ≡ true) where
  order_rule : (rule : State → Bool) → Row rule order_rules → rule s ≡ true
  order_rule rule row = row_holds order_rules s orders rule row

  table_rule : (rule : State → Bool) → Row rule table_rules → rule s ≡ true
  table_rule rule row = row_holds table_rules s tables rule row

  says_queues : AllSeated s.line.seat
  says_queues = queues_from_rule s.line.seat sized.line.seats (order_rule (λ x. seats_right x.line.seat) (search rows depth 12))

  start_at : (t : ℕ) → t < 32 → StartRight s.line s.tasks (objects_of s) t
  unfolding starts_right
  start_at t h =
      every_at
      (λ u. start_right (get_or s.tasks.started u false) (get_or s.tasks.suspended u false) (get_or s.line.seat u 0))
      32 (order_rule (λ x. starts_right x.line x.tasks) (search rows depth 12)) t h

  ready_at : (t : ℕ) → t < 32 → ReadyRight s.line s.tasks (objects_of s) t
  unfolding ready_order_right
  ready_at t h =
      every_at
      (λ u. ready_right (get_or s.tasks.started u false) (get_or s.tasks.suspended u false) (get_or s.tasks.priority u 0) (get_or s.line.seat u 0))
      32 (order_rule (λ x. ready_order_right x.line x.tasks) (search rows depth 12)) t h

  wait_at : (t : ℕ) → t < 32 → WaitRight s.line s.tasks (objects_of s) t
  unfolding waits_right
  wait_at t h =
      every_at
      (λ u. wait_right (objects_of s).live (get_or s.line.seat u 0) (get_or s.line.left u 0) (get_or s.line.joined u 0))
      32 (order_rule (λ x. waits_right x.line (objects_of x).live) (search rows depth 12)) t h

  count_at : (i : ℕ) → i < 16
      → (get_or s.semaphores.units i 0 ≤ 32767)
      × (0 < standing s.line.seat (queue_seats i) → get_or s.semaphores.units i 0 ≡ 0)
  unfolding counts_right
  count_at i h =
      right_says (waiters_of s.line i) (get_or s.semaphores.units i 0)
      (every_at (λ j. count_right (waiters_of s.line j) (count s.line s.semaphores j)) 16 (order_rule (λ x. counts_right x.line x.semaphores) (search rows depth 12)) i h)

  held_at : (i : ℕ) → i < 8
      → (get_or s.queues.held i 0 ≤ most_of s.queues i)
      × (0 < standing s.line.seat (queue_seats (queue_object i)) → get_or s.queues.held i 0 ≡ 0)
  unfolding held_right
  held_at i h =
      holds_says (waiters_of s.line (queue_object i)) (get_or s.queues.held i 0) (most_of s.queues i)
      (every_at (λ j. holds_right (waiters_of s.line (queue_object j)) (get_or s.queues.held j 0) (most_of s.queues j)) 8
      (order_rule (λ x. held_right x.line x.queues) (search rows depth 12)) i h)

  -- an object that tasks wait for has no stock
  stock_at : (i : ℕ) → i < objects_end → 0 < standing s.line.seat (queue_seats i) → (objects_of s).stock i ≡ 0
  stock_at i h some =
      ⊎_elim (λ l. sem_stock s.semaphores s.queues i l ∙ (count_at i l).1 some)
      (λ l. ⊎_elim (λ r. of_queue_lem (i - 16) (omega arith) (omega (arith, l, r)) some) (no_stock s.semaphores s.queues i sized.queues.helds) (lt_or_le i 24))
      (lt_or_le i 16)
    where
      of_queue_lem : (j : ℕ) → i ≡ queue_object j → j < 8 → 0 < standing s.line.seat (queue_seats i) → (objects_of s).stock i ≡ 0
      of_queue_lem j e r some =
          ap (objects_of s).stock e ∙ queue_stock s.semaphores s.queues j
          ∙ (held_at j r).1 (subst (λ (v : ℕ). 0 < standing s.line.seat (queue_seats v)) e some)

  says_rings : s.line.rings ≡ ring_mask s.line.seat ∷ []
  unfolding rings_right
  says_rings = one_place s.line.rings sized.line.rings ∙ ap (λ (m : ℕ). m ∷ []) (eqb-true _ _ (order_rule (λ x. rings_right x.line) (search rows depth 12)))

  says_line : LineSound s.line s.tasks (objects_of s)
  says_line =
      record {
        lefts = sized.line.lefts;
        joineds = sized.line.joineds;
        queues = says_queues;
        rings = says_rings;
        stands = λ t h.
            stands_says s.line s.tasks (objects_of s) t (says_queues.places t) (ready_at t h) (wait_at t h) (start_at t h);
        sorted = sorted_says s.line s.tasks (objects_of s) says_queues (order_rule (λ x. queues_sorted x.line (objects_of x).fifo) (search rows depth 12));
        counts = stock_at;
      }

  says_tasks : TasksSound s.tasks
  unfolding tasks_right
  says_tasks =
      record {
        sized = sized.tasks;
        each = λ t h.
            task_says s.tasks t (every_at (task_right s.tasks) 32 (table_rule (λ x. tasks_right x.tasks) (search rows depth 12)) t h)
            (λ a. (start_says _ _ _ (start_at t h) a).1);
      }

  says_sems : SemsSound s.semaphores
  unfolding sems_right
  says_sems =
      record {
        sized = sized.semaphores;
        each = λ i h. sem_says s.semaphores i (every_at (sem_right s.semaphores) 16 (table_rule (λ x. sems_right x.semaphores) (search rows depth 12)) i h) (count_at i h).0;
      }

  says_pools : PoolsSound s.pools
  unfolding pools_right orders_right
  says_pools =
      record {
        sized = sized.pools;
        each = every_at (pool_right s.pools) 8 (table_rule (λ x. pools_right x.pools) (search rows depth 12));
        orders = λ i h.
            order_says (pool_row s.pools i) (get_or s.pools.out i 0) (pool_buffers s.pools i)
            (length_row s.pools.place i (omega (arith, sized.pools.places)))
            (buffers_few (get_or s.pools.length i 0) (get_or s.pools.size i 0))
            (every_at (λ j. order_right (pool_row s.pools j) (get_or s.pools.out j 0) (pool_buffers s.pools j)) 8
            (table_rule (λ x. orders_right x.pools) (search rows depth 12)) i h);
        apart = table_rule (λ x. pools_apart x.pools) (search rows depth 12);
      }

  says_queue_table : QueuesSound s.queues
  unfolding queues_right
  says_queue_table =
      record {
        sized = sized.queues;
        each = every_at (queue_right s.queues) 8 (table_rule (λ x. queues_right x.queues) (search rows depth 12));
        held = λ i h. (held_at i h).0;
        messages = table_rule (λ x. messages_right x.queues) (search rows depth 12);
      }

  held_says : Sound s
  unfolding running_right
  held_says =
      record {
        line = says_line;
        tasks = says_tasks;
        semaphores = says_sems;
        pools = says_pools;
        queues = says_queue_table;
        running = eqb-true _ _ (order_rule (λ x. running_right x) (search rows depth 12));
      }

pub sound_says : (s : State) → Sized s → sound s ≡ true → Sound s
sound_says s sized e = let h = sound-keeps s e in held_says s sized h.0 h.1

-- and back, a row each
module _ (s : State) (h : Sound s) where
  orders_right_lem : keeps order_rules s ≡ true
  unfolding rings_right ready_order_right waits_right queues_sorted counts_right held_right starts_right running_right
  orders_right_lem =
      each_keeps order_rules s
      (more (rule_from_queues s.line.seat h.line.queues)
      (more (eq-eqb _ _ (ap mask_of h.line.rings))
      (more (every_yes _ 32 (λ t l. stands_ready s.line s.tasks (objects_of s) t (h.line.stands t l)))
      (more (every_yes _ 32 (λ t l. stands_wait s.line s.tasks (objects_of s) t (h.line.stands t l)))
      (more (every_yes _ 32 (λ t l. sorted_right s.line s.tasks (objects_of s) h.line.queues t (h.line.stands t l) h.line.sorted))
      (more (every_yes _ 16 (λ i l. says_right (waiters_of s.line i) _ (h.semaphores.each i l).units (no_units s.line s.tasks s.semaphores s.queues h.line i l)))
      (more (every_yes _ 8 (λ i l. holds_right_lem (waiters_of s.line (queue_object i)) _ _ (h.queues.held i l) (holds_nothing s.line s.tasks s.semaphores s.queues h.line i l)))
      (more (every_yes _ 32 (λ t l. stands_start s.line s.tasks (objects_of s) t (h.tasks.each t l).suspended (h.line.stands t l)))
      (more (eq-eqb _ _ h.running)
      none)))))))))

  tables_right : keeps table_rules s ≡ true
  unfolding tasks_right sems_right queues_right pools_right orders_right
  tables_right =
      each_keeps table_rules s
      (more (every_yes _ 32 (λ t l. task_right_lem s.tasks t (h.tasks.each t l)))
      (more (every_yes _ 16 (λ i l. sem_right_lem s.semaphores i (h.semaphores.each i l)))
      (more (every_yes _ 8 h.queues.each)
      (more h.queues.messages
      (more (every_yes _ 8 h.pools.each)
      (more (every_yes _ 8 (λ i l. order_right_lem (h.pools.orders i l)))
      (more h.pools.apart
      none)))))))

  pub sound_right : sound s ≡ true
  sound_right = keeps-sound s orders_right_lem tables_right
