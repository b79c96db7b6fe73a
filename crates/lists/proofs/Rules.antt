-- The rules of a state over the paper's lists hold just if the tests that run pass, where the seats say queues, the mask is that of
-- the rings and priorities are in range: slot by slot, by who is on which list.
-- Assumes nothing.
use Prim.Native.Nat.{ℕ, ◌≤◌, ◌<◌}
use native.Mathlib.Omega.{arith}
use mathlib.Core.Path.{◌≡◌, sym, ap, ◌∙◌}
use mathlib.Core.Logic.{⊎_elim, ◌↔◌}
use mathlib.Core.Bool.{Bool, true, false}
use mathlib.Core.List.{List}
use lib.ListN.{length, get_or}
use borrow.Author.Tests.{eq-eqb, eqb-true}
use Rattle.scope.specs.declared.State.{State}
use Rattle.scope.specs.Lists.{has}
use Rattle.scope.specs.Seats.{queue_seats, ring_seats, first_ring, queue_of, standing, queue, mask_of, runner_of}
use Rattle.scope.specs.Objects.{queue_object, objects_of}
use Rattle.scope.specs.Queues.{most_of}
use Rattle.scope.specs.Views.{Signed, less, is_ready, waiters_of, count}
use Rattle.scope.specs.Waiting.{is_time_out}
use Rattle.scope.specs.Semaphores.{last_count}
use Rattle.scope.specs.Rules.{seats_right, rings_right, ready_right, ready_order_right, wait_right, waits_right, joined_right, queues_sorted, count_right, counts_right, holds_right, held_right, start_right, starts_right, task_right, tasks_right, running_right, order_rules, keeps}
use Rattle.scope.proofs.Counts.{minus, natural, less_below, less_above, less-negative, less_not_negative, right_says, says_right}
use Rattle.laws.proofs.Branches.{true-false, true_or_false, lt_or_le}
use Rattle.laws.proofs.Searches.{every_yes, every_at}
use Rattle.laws.proofs.Arrays.{past, inside}
use Rattle.laws.specs.Seating.{In, Sorted, AllSeated}
use Rattle.laws.proofs.Seats.Rule.{queues_from_rule}
use Rattle.laws.proofs.Seats.Sorting.{steps_from_sorted, sorted_from_steps}
use Rattle.histories.specs.Sound.{Sized}
use Rattle.histories.proofs.Ruled.{Row, rows, row_holds, none, more, each_keeps}
use Rattle.histories.proofs.Tests.{waits_is, waits_says, ready_says, idle_says, ready_right_lem, ready_started, start_says, start_right_lem, wait_says, rest_says, wait_right_lem, joined_says, joined_right_lem, holds_says, holds_right_lem, task_range}
use Rattle.lists.specs.Along.{Once, NeverRising, queue_above, first_in}
use Rattle.lists.specs.Rules.{ready_of, queue_in, waiting, HoldsTheReady, PrioritiesFall, FirstRuns, StandsInOne, NoOther, JoinedFall, CountBelow, CountEmpty, Ordered, OwnRing, PrioritiesInRange}
use Rattle.lists.proofs.Plain.{same_test, along_turn, along_at}
use Rattle.lists.proofs.Members.{queue_rising, queue_once, queue_says, queue_has, queue_length}
use Rattle.lists.proofs.Ready.{order_says, order_once, order_falls, order_has, order_first}

-- the test of the tasks says it of priorities
pub priorities_in_range : (s : State) → tasks_right s.tasks ≡ true → PrioritiesInRange s
unfolding tasks_right
priorities_in_range s e t h = task_range s.tasks t (every_at (task_right s.tasks) 32 e t h)

-- a state whose arrays have their sizes, whose seats say queues, whose mask is that of its rings, and whose priorities are in range
module _ (s : State) (sized : Sized s) (seats : seats_right s.line.seat ≡ true) (masked : rings_right s.line ≡ true) (in_range : PrioritiesInRange s) where
  abbrev q : List ℕ
  q = s.line.seat

  abbrev seat : ℕ → ℕ
  seat t = get_or q t 0

  abbrev priority : ℕ → ℕ
  priority t = get_or s.tasks.priority t 0

  abbrev units : ℕ → ℕ
  units i = get_or s.semaphores.units i 0

  abbrev held : ℕ → ℕ
  held i = get_or s.queues.held i 0

  abbrev receivers : ℕ → ℕ
  receivers i = waiters_of s.line (queue_object i)

  rule : AllSeated q
  rule = queues_from_rule q sized.line.seats seats

  range : (t : ℕ) → priority t ≤ 15
  range t =
      ⊎_elim (in_range t) (λ h. let e : 0 ≡ priority t = past 32 s.tasks.priority t 0 sized.tasks.priorities h in omega (arith, e)) (lt_or_le t 32)

  here : (t : ℕ) → 0 < seat t → t < 32
  here t h = inside 32 q t sized.line.seats (λ z. omega arith)

  -- the queue's list and its seats
  in_queue : (i t : ℕ) → has (queue_in s i) t ≡ true → In q (queue_seats i) t
  unfolding queue
  in_queue i t h = queue_says q (queue_seats i) t h

  on_queue : (i t : ℕ) → In q (queue_seats i) t → has (queue_in s i) t ≡ true
  unfolding queue
  on_queue i t a = queue_has q (queue_seats i) (standing q (queue_seats i)) rule.tasks (rule.seated (queue_seats i) (omega arith)) t a

  long : (i : ℕ) → length (queue_in s i) ≡ standing q (queue_seats i)
  unfolding queue
  long i = queue_length q (queue_seats i) (standing q (queue_seats i)) rule.tasks (rule.seated (queue_seats i) (omega arith))

  falls_from : (i : ℕ) → Sorted q s.line.joined (queue_seats i) → NeverRising s.line.joined (queue_in s i)
  unfolding queue
  falls_from i order =
      along_turn (λ x u. seat x < seat u) (λ x u. get_or s.line.joined u 0 ≤ get_or s.line.joined x 0) (queue_above q (queue_seats i))
      (λ u v h k l. order.falls u v (queue_says q (queue_seats i) u h) (queue_says q (queue_seats i) v k) l)
      (queue_rising q (queue_seats i))

  sorted_from : (i : ℕ) → NeverRising s.line.joined (queue_in s i) → Sorted q s.line.joined (queue_seats i)
  unfolding queue
  sorted_from i a = record {
    falls = λ t u h k l.
        along_at seat (λ x v. get_or s.line.joined v 0 ≤ get_or s.line.joined x 0) (queue_above q (queue_seats i)) a
        (queue_rising q (queue_seats i)) t u (on_queue i t h) (on_queue i u k) l;
  }

  -- who is on the ready order sits in the ring of its priority
  module _ (own : OwnRing s) where
    of_ring : (p t : ℕ) → In q (ring_seats p) t → priority t ≡ p
    of_ring p t a = let b : In q (ring_seats (priority t)) t = own t (omega (arith, a)) in omega (arith, a, b)

    in_order : (t : ℕ) → first_ring ≤ seat t → has (ready_of s) t ≡ true
    in_order t h = order_has q rule t (priority t, omega (arith, range t), own t h)

    top : (t : ℕ) → seat t < ring_seats 16
    top t =
        ⊎_elim (λ l. omega arith) (λ l. let b : In q (ring_seats (priority t)) t = own t l in omega (arith, b, range t))
        (lt_or_le (seat t) first_ring)

    first_runs : first_in (ready_of s) ≡ runner_of q (mask_of s.line.rings)
    unfolding rings_right
    first_runs = order_first q rule top ∙ ap (runner_of q) (sym (eqb-true _ _ masked))

  on_order : (t : ℕ) → has (ready_of s) t ≡ true → first_ring ≤ seat t
  on_order t h = let r = order_says q t h in omega (arith, r.2)

  -- the tests pass: so the rules hold
  module _ (passed : keeps order_rules s ≡ true) where
    kept : (rule : State → Bool) → Row rule order_rules → rule s ≡ true
    kept rule row = row_holds order_rules s passed rule row

    ready_at : (t : ℕ) → t < 32
        → ready_right (get_or s.tasks.started t false) (get_or s.tasks.suspended t false) (priority t) (seat t) ≡ true
    unfolding ready_order_right
    ready_at t h =
        every_at (λ u. ready_right (get_or s.tasks.started u false) (get_or s.tasks.suspended u false) (priority u) (seat u)) 32 (kept (λ x. ready_order_right x.line x.tasks) (search rows depth 12)) t h

    wait_at : (t : ℕ) → t < 32 → wait_right (objects_of s).live (seat t) (get_or s.line.left t 0) (get_or s.line.joined t 0) ≡ true
    unfolding waits_right
    wait_at t h =
        every_at (λ u. wait_right (objects_of s).live (seat u) (get_or s.line.left u 0) (get_or s.line.joined u 0)) 32 (kept (λ x. waits_right x.line (objects_of x).live) (search rows depth 12)) t h

    joined_at : (t : ℕ) → t < 32 → joined_right q s.line.joined (objects_of s).fifo (seat t) (get_or s.line.joined t 0) ≡ true
    unfolding queues_sorted
    joined_at t h =
        every_at (λ u. joined_right q s.line.joined (objects_of s).fifo (seat u) (get_or s.line.joined u 0)) 32 (kept (λ x. queues_sorted x.line (objects_of x).fifo) (search rows depth 12)) t h

    count_at : (i : ℕ) → i < 16 → (units i ≤ last_count) × (0 < waiters_of s.line i → units i ≡ 0)
    unfolding counts_right
    count_at i h =
        right_says (waiters_of s.line i) (units i)
        (every_at (λ j. count_right (waiters_of s.line j) (count s.line s.semaphores j)) 16 (kept (λ x. counts_right x.line x.semaphores) (search rows depth 12)) i h)

    held_at : (i : ℕ) → i < 8 → (held i ≤ most_of s.queues i) × (0 < receivers i → held i ≡ 0)
    unfolding held_right
    held_at i h =
        holds_says (receivers i) (held i) (most_of s.queues i)
        (every_at (λ j. holds_right (receivers j) (held j) (most_of s.queues j)) 8 (kept (λ x. held_right x.line x.queues) (search rows depth 12)) i h)

    start_at : (t : ℕ) → t < 32 → start_right (get_or s.tasks.started t false) (get_or s.tasks.suspended t false) (seat t) ≡ true
    unfolding starts_right
    start_at t h =
        every_at (λ u. start_right (get_or s.tasks.started u false) (get_or s.tasks.suspended u false) (seat u)) 32 (kept (λ x. starts_right x.line x.tasks) (search rows depth 12)) t h

    is_ready_lem : (t : ℕ) → first_ring ≤ seat t → is_ready s.line s.tasks t ≡ true
    is_ready_lem t h =
        ⊎_elim (λ r. r)
        (λ r. absurd (omega (arith, h, idle_says _ _ (priority t) (seat t) (ready_at t (here t (omega arith))) r)))
        (true_or_false (is_ready s.line s.tasks t))

    pub own_ring : OwnRing s
    own_ring t h = ready_says _ _ (priority t) (seat t) (ready_at t (here t (omega arith))) (is_ready_lem t h)

    holds : HoldsTheReady s
    holds =
        record {
          each = λ t.
              same_test (has (ready_of s) t) (is_ready s.line s.tasks t)
              (λ h. is_ready_lem t (on_order t h))
              (λ r. let l : t < 32 =
              ⊎_elim (λ b. b)
              (λ b. absurd (true-false (ready_started _ _ (priority t) (seat t) r)
              (sym (past 32 s.tasks.started t false sized.tasks.starteds b))))
              (lt_or_le t 32) in
              let a : In q (ring_seats (priority t)) t = ready_says _ _ (priority t) (seat t) (ready_at t l) r in
              in_order own_ring t (omega (arith, a)));
          once = order_once q;
        }

    falls : PrioritiesFall s
    falls = order_falls q s.tasks.priority (of_ring own_ring)

    runs : FirstRuns s
    unfolding running_right
    runs = eqb-true _ _ (kept (λ x. running_right x) (search rows depth 12)) ∙ sym (first_runs own_ring)

    -- what the test of one who waits says
    waits : (t : ℕ) → waiting s t ≡ true
        → (64 ≤ seat t) × ((objects_of s).live (queue_of (seat t)) ≡ true) × (is_time_out (get_or s.line.left t 0) ≡ true) × (get_or s.line.joined t 0 ≤ 15)
    waits t w =
        wait_says (objects_of s).live (seat t) (get_or s.line.left t 0) (get_or s.line.joined t 0)
        (wait_at t (here t (waits_says (seat t) w).0)) w

    queues_once : (i : ℕ) → Once (queue_in s i)
    unfolding queue
    queues_once i = queue_once q (queue_seats i)

    stands : StandsInOne s
    stands =
        record {
          stands = λ t w.
              let r = waits t w in
              let i : ℕ = queue_of (seat t) in
              let a : In q (queue_seats i) t =
              ⊎_elim (λ z. absurd (omega (arith, z, r.0))) (λ p. (omega (arith, p, r.0), omega (arith, p, r.0))) (rule.places t) in (
                i,
                omega (arith, r.0, (waits_says (seat t) w).1),
                r.1,
                on_queue i t a,
              );
          one = λ t i j h k. omega (arith, in_queue i t h, in_queue j t k);
          once = queues_once;
        }

    others : NoOther s
    others i l t h = let a : In q (queue_seats i) t = in_queue i t h in waits_is (seat t) (omega (arith, a)) (omega (arith, a, l))

    joined_falls : JoinedFall s
    joined_falls i l f =
        falls_from i
        (sorted_from_steps q s.line.joined (queue_seats i) (standing q (queue_seats i)) rule.tasks (rule.seated (queue_seats i) (omega arith))
        (λ t a b. let d : queue_of (seat t) ≡ i = omega (arith, a) in
        joined_says q s.line.joined (objects_of s).fifo (seat t) (get_or s.line.joined t 0) (joined_at t (here t (omega (arith, a))))
        (waits_is (seat t) (omega (arith, a)) (omega (arith, a, l)))
        (omega (arith, a, b))
        (ap (objects_of s).fifo d ∙ f)))

    count_below : CountBelow s
    count_below i n l e h =
        let some : 0 < waiters_of s.line i = omega (arith, h, e, long i) in
        let none : units i ≡ 0 = (count_at i l).1 some in
        less_below (units i) (waiters_of s.line i) n (omega (arith, none, some)) (omega (arith, none, e, long i))

    count_empty : CountEmpty s
    count_empty i l e =
        let is : less (units i) (waiters_of s.line i) ≡ natural (units i) =
        less_above (units i) (waiters_of s.line i) (units i) (omega (arith, e, long i)) in
        (ap (λ (c : Signed). c.negative) is, omega (arith, ap (λ (c : Signed). c.size) is, (count_at i l).0))

    -- "Rules of a state", of the lists
    pub tests_say : Ordered s
    tests_say =
        record {
          ready = holds;
          priorities = falls;
          running = runs;
          stands = stands;
          left = λ t w. (waits t w).2;
          joined = λ t w. (waits t w).3;
          others = others;
          sorted = joined_falls;
          below = count_below;
          empty = count_empty;
          nothing = λ i l h. (held_at i l).1 (omega (arith, h, long (queue_object i)));
          within = λ i l e. (held_at i l).0;
          idle = λ t l e. start_says _ _ (seat t) (start_at t l) e;
          zeros = λ t l e. rest_says (objects_of s).live (seat t) _ _ (wait_at t l) e;
        }

  -- and back: the rules hold, so the tests pass
  module _ (own : OwnRing s) (rules : Ordered s) where
    order_right_lem : ready_order_right s.line s.tasks ≡ true
    unfolding ready_order_right
    order_right_lem =
        every_yes (λ t. ready_right (get_or s.tasks.started t false) (get_or s.tasks.suspended t false) (priority t) (seat t)) 32
        (λ t l. ready_right_lem _ _ (priority t) (seat t)
        (λ r. own t (on_order t (rules.ready.each t ∙ r)))
        (λ r. ⊎_elim (λ b. b) (λ b. absurd (true-false (in_order own t b) (rules.ready.each t ∙ r))) (lt_or_le (seat t) first_ring)))

    waits_right_lem : waits_right s.line (objects_of s).live ≡ true
    unfolding waits_right
    waits_right_lem =
        every_yes (λ t. wait_right (objects_of s).live (seat t) (get_or s.line.left t 0) (get_or s.line.joined t 0)) 32
        (λ t l. wait_right_lem (objects_of s).live (seat t) _ _
        (λ w. let r = rules.stands.stands t w in
        let a : In q (queue_seats r.0) t = in_queue r.0 t r.3 in
        let d : queue_of (seat t) ≡ r.0 = omega (arith, a) in (
          omega (arith, a),
          ap (objects_of s).live d ∙ r.2,
          rules.left t w,
          rules.joined t w,
        ))
        (λ w. rules.zeros t l w))

    sorted_right : queues_sorted s.line (objects_of s).fifo ≡ true
    unfolding queues_sorted
    sorted_right =
        every_yes (λ t. joined_right q s.line.joined (objects_of s).fifo (seat t) (get_or s.line.joined t 0)) 32
        (λ t l. joined_right_lem q s.line.joined (objects_of s).fifo (seat t) (get_or s.line.joined t 0)
        (λ w b f. let r = rules.stands.stands t w in
        let a : In q (queue_seats r.0) t = in_queue r.0 t r.3 in
        let d : queue_of (seat t) ≡ r.0 = omega (arith, a) in
        steps_from_sorted q s.line.joined (queue_seats r.0) (standing q (queue_seats r.0)) rule.tasks
        (rule.seated (queue_seats r.0) (omega arith))
        (sorted_from r.0 (rules.sorted r.0 r.1 (sym (ap (objects_of s).fifo d) ∙ f)))
        t a (omega (arith, a, b))))

    none_left : (i : ℕ) → i < 16 → 0 < waiters_of s.line i → units i ≡ 0
    none_left i l h =
        let is : less (units i) (waiters_of s.line i) ≡ minus (waiters_of s.line i) = rules.below i (waiters_of s.line i) l (long i) h in
        omega (
          arith,
          (less-negative (units i) (waiters_of s.line i) (ap (λ (c : Signed). c.negative) is)).1,
          ap (λ (c : Signed). c.size) is,
        )

    few_left : (i : ℕ) → i < 16 → waiters_of s.line i ≡ 0 → units i ≤ last_count
    few_left i l e =
        let r = rules.empty i l (long i ∙ e) in
        omega (arith, less_not_negative (units i) (waiters_of s.line i) r.0, r.1, e)

    counts_right_lem : counts_right s.line s.semaphores ≡ true
    unfolding counts_right
    counts_right_lem =
        every_yes (λ i. count_right (waiters_of s.line i) (count s.line s.semaphores i)) 16
        (λ i l. let taken : 0 < waiters_of s.line i → units i ≡ 0 = none_left i l in
        says_right (waiters_of s.line i) (units i)
        (⊎_elim (λ h. omega (arith, taken h)) (λ h. few_left i l (omega (arith, h))) (lt_or_le 0 (waiters_of s.line i)))
        taken)

    held_right_lem : held_right s.line s.queues ≡ true
    unfolding held_right
    held_right_lem =
        every_yes (λ i. holds_right (receivers i) (held i) (most_of s.queues i)) 8
        (λ i l. let taken : 0 < receivers i → held i ≡ 0 = λ h. rules.nothing i l (omega (arith, h, long (queue_object i))) in
        holds_right_lem (receivers i) (held i) (most_of s.queues i)
        (⊎_elim (λ h. omega (arith, taken h)) (λ h. rules.within i l (omega (arith, h, long (queue_object i)))) (lt_or_le 0 (receivers i)))
        taken)

    starts_right_lem : starts_right s.line s.tasks ≡ true
    unfolding starts_right
    starts_right_lem =
        every_yes (λ t. start_right (get_or s.tasks.started t false) (get_or s.tasks.suspended t false) (seat t)) 32
        (λ t l. start_right_lem _ _ (seat t) (λ e. rules.idle t l e))

    pub rules_right : keeps order_rules s ≡ true
    unfolding running_right
    rules_right =
        each_keeps order_rules s
        (more seats
        (more masked
        (more order_right_lem
        (more waits_right_lem
        (more sorted_right
        (more counts_right_lem
        (more held_right_lem
        (more starts_right_lem
        (more (eq-eqb _ _ (rules.running ∙ first_runs own))
        none)))))))))

  -- the tests pass just if the rules hold
  pub tests_are_rules : (keeps order_rules s ≡ true) ↔ (OwnRing s × Ordered s)
  tests_are_rules = ((λ p. (own_ring p, tests_say p)), (λ r. rules_right r.0 r.1))
