-- A tick over the paper's lists: those due leave their queues, are on the wake list in ascending slot order, and become ready in that
-- order unless they are suspended. To wake one does not change whether another waits. By induction on the slots.
-- Assumes nothing.
use Prim.Native.Nat.{ℕ, zero, suc, ◌+◌, ◌-◌, ◌*◌, ◌/◌, ◌%◌, ◌≤◌, ◌<◌}
use native.Mathlib.Omega.{arith}
use mathlib.Core.Path.{◌≡◌, refl, sym, subst, ap, ◌∙◌}
use mathlib.Core.Logic.{⊎_elim}
use mathlib.Core.Bool.{Bool, true, false, not, ◌&&◌}
use mathlib.Core.List.{List, [], ◌∷◌, ◌++◌, map, append-nil, append_assoc}
use lib.ListN.{length, get_or, length-replicate}
use lib.Dec.{eqb}
use borrow.Author.Tests.{lt-ltb, le-ltb, eq-eqb, ne_eqb}
use Rattle.scope.specs.declared.State.{State}
use Rattle.scope.specs.declared.Line.{Line}
use Rattle.scope.specs.declared.Tasks.{Tasks}
use Rattle.scope.specs.declared.Waking.{Waking}
use Rattle.scope.specs.Lists.{has, keep, without}
use Rattle.scope.specs.Statuses.{TIME_OUT}
use Rattle.scope.specs.Seats.{ring_seats, first_ring, seat_behind, waits_on, leaves, becomes_ready, queue, ready_order}
use Rattle.scope.specs.Objects.{objects_end, objects_of}
use Rattle.scope.specs.Answers.{wakes_with}
use Rattle.scope.specs.Waiting.{FOREVER, is_time_out, woken_seats, wake, wake_next, none_woken}
use Rattle.scope.specs.Replies.{Wake, wake_list}
use Rattle.scope.specs.Ticks.{ticked, is_due, wake_due, tick}
use Rattle.scope.proofs.Rows.{by_choice}
use Rattle.scope.proofs.Seats.{ahead_from}
use Rattle.scope.proofs.Times.{forever_stays, takes_one}
use Rattle.laws.proofs.Branches.{both_true, first_fails, not_of_true, not_of_false, true-false, true_or_false, eq_or_not}
use Rattle.laws.specs.Seating.{In}
use Rattle.laws.proofs.Seats.Leaving.{leaves_is}
use Rattle.laws.proofs.Seats.Joining.{joins_is}
use Rattle.laws.proofs.Seats.Rule.{stands_in_lem}
use Rattle.histories.specs.Sound.{TasksSound, Sound}
use Rattle.histories.proofs.Moves.{on_waits}
use Rattle.histories.proofs.Staying.{Good}
use Rattle.histories.proofs.Ticks.{time_out_says}
use Rattle.histories.proofs.Tests.{waits_says}
use Rattle.lists.specs.Rules.{ready_of, queue_in}
use Rattle.lists.specs.Calls.{ListsAfter, all_woken_into, wake_of, slots_from, reaches, due_in, without_all}
use Rattle.lists.proofs.Plain.{has_head, has_other, keep_yes, keep_no, keep_all, keep_twice}
use Rattle.lists.proofs.Again.{Own, good_line, own_line}
use Rattle.lists.proofs.Wakes.{woken, woken_good, woken_own, woken_order, woken-queue, wakes_of, next_wakes, next_line, next_count, next_size}

-- a seat on which one waits, or not, by where it lies
waits_same : (x y : ℕ) → (0 < x) × (x < 2048) → (0 < y) × (y < 2048) → waits_on y ≡ waits_on x
unfolding waits_on
waits_same x y a b = rw (lt-ltb _ _ a.0, lt-ltb _ _ a.1, lt-ltb _ _ b.0, lt-ltb _ _ b.1)

rests_same : (x y : ℕ) → 2048 ≤ x → 2048 ≤ y → waits_on y ≡ waits_on x
unfolding waits_on
rests_same x y a b =
    let c : 0 < x = omega arith in
    let d : 0 < y = omega arith in rw (lt-ltb 0 x c, lt-ltb 0 y d, le-ltb x 2048 a, le-ltb y 2048 b)

-- when t, who waits, is woken, every other one waits just if it did
module _ (q key : List ℕ) (good : Good q) (t : ℕ) (stands : 0 < get_or q t 0) (low : get_or q t 0 < 2048) (u : ℕ) (ne : u ≡ t → ⊥) where
  left_waits : waits_on (get_or (leaves q t) u 0) ≡ waits_on (get_or q u 0)
  left_waits =
      let o : ℕ = get_or q t 0 / 64 * 64 in
      let round : o % 64 ≡ 0 = omega arith in
      let at : In q o t = stands_in_lem q good.queues t stands in
      ⊎_elim
      (λ p. absurd (ne ((good.queues.seated o round).once u t (omega (arith, p, at), omega (arith, p, at)) p.0)))
      (λ p. ⊎_elim
      (λ x. waits_same (get_or q u 0) (get_or (leaves q t) u 0) (omega (arith, x), omega (arith, x, at, low)) (omega (arith, x, stands), omega (arith, x, at, low)))
      (λ x. ap waits_on x.1)
      p)
      (leaves_is q o t round at u)

  again_waits : (p : ℕ) → waits_on (get_or (becomes_ready (leaves q t) key t p) u 0) ≡ waits_on (get_or q u 0)
  again_waits p =
      let left : List ℕ = leaves q t in
      let behind : ring_seats p < seat_behind left key (ring_seats p) 0 = omega (arith, ahead_from left key (ring_seats p) (ring_seats p + 63) 0 32) in
      ⊎_elim
      (λ x. rests_same (get_or left u 0) (get_or (becomes_ready left key t p) u 0) (omega (arith, x, behind)) (omega (arith, x, behind)))
      (λ x. ap waits_on x.1)
      (joins_is left key t (ring_seats p) 0 u ne)
      ∙ left_waits

waits_other : (k : Tasks) (w : Waking) → Good w.line.seat → (t : ℕ) → waits_on (get_or w.line.seat t 0) ≡ true → (u : ℕ) → (u ≡ t → ⊥)
    → waits_on (get_or (wake_next k w t).line.seat u 0) ≡ waits_on (get_or w.line.seat u 0)
unfolding wake_next wake woken_seats
waits_other k w good t waits u ne =
    let q : List ℕ = w.line.seat in
    let h : (0 < get_or q t 0) × (get_or q t 0 < 2048) = waits_says (get_or q t 0) waits in
    by_choice (λ (r : List ℕ). waits_on (get_or r u 0) ≡ waits_on (get_or q u 0)) (get_or k.suspended t false)
    (λ y. left_waits q w.line.joined good t h.0 h.1 u ne)
    (λ n. again_waits q w.line.joined good t h.0 h.1 u ne (get_or k.priority t 0))

-- a list without each of these, one after another
all_none : (xs : List ℕ) → without_all [] xs ≡ xs
all_none xs = keep_all (λ u. not (has [] u)) xs (λ u h. refl)

all_more : (t : ℕ) (ts xs : List ℕ) → without_all ts (without t xs) ≡ without_all (t ∷ ts) xs
all_more t ts xs =
    keep_twice (λ u. not (has ts u)) (λ u. not (eqb u t)) (λ u. not (has (t ∷ ts) u))
    (λ u h. ap not (sym (has_other t u ts (λ e. true-false h (not_of_true (eqb u t) (eq-eqb u t (sym e)))))))
    (λ u h. not_of_true (has (t ∷ ts) u)
    (⊎_elim (λ e. subst (λ (v : ℕ). has (t ∷ ts) v ≡ true) (sym e) (has_head t ts))
    (λ ne. absurd (true-false (not_of_false (eqb u t) (ne_eqb u t ne)) h))
    (eq_or_not u t)))
    xs

-- these were woken
record Timed (k : Tasks) (why : ℕ) (xs : List ℕ) (w r : Waking) : Type 0 where
  order : ready_order r.line.seat ≡ all_woken_into k xs (ready_order w.line.seat)
  queues : (j : ℕ) → j < objects_end → queue r.line.seat j ≡ without_all xs (queue w.line.seat j)
  list : wakes_of why r ≡ wakes_of why w ++ map (wake_of k why) xs

due_waits : (l : Line) (t : ℕ) → is_due l t ≡ true → waits_on (get_or l.seat t 0) ≡ true
unfolding is_due
due_waits l t e = (both_true (waits_on (get_or l.seat t 0)) _ e).0

-- from task t on, those who were due before the tick wait still
module _ (k : Tasks) (tasks : TasksSound k) (why : ℕ) (before : Line) where
  abbrev due : ℕ → ℕ → List ℕ
  due n t = keep (is_due before) (slots_from n t)

  timed : (n t : ℕ) (w : Waking) → n + t ≡ 32 → Good w.line.seat → Own w.line.seat k.priority
      → ((u : ℕ) → t ≤ u → is_due before u ≡ true → waits_on (get_or w.line.seat u 0) ≡ true) → length w.wakes ≡ 32 → w.woken + n ≤ 32
      → Timed k why (due n t) w (wake_due k before n t w)
  unfolding wake_due
  timed zero t w e good own still long fits =
      record { order = refl; queues = λ j h. sym (all_none (queue w.line.seat j)); list = sym (append-nil (wakes_of why w)) }
  timed (suc n) t w e good own still long fits =
      ⊎_elim
      (λ (d : is_due before t ≡ true). let waits : waits_on (get_or w.line.seat t 0) ≡ true = still t (omega arith) d in
      let low : get_or w.line.seat t 0 < first_ring = (waits_says (get_or w.line.seat t 0) waits).1 in
      let room : t < 32 = omega arith in
      let v : Waking = wake_next k w t in
      let line : v.line ≡ woken k tasks w.line good own t room low = next_line k w t in
      let rest : List ℕ = due n (suc t) in
      let rec : Timed k why rest v (wake_due k before n (suc t) v) =
      timed n (suc t) v (omega arith)
      (subst (λ (l : Line). Good l.seat) (sym line) (woken_good k tasks w.line good own t room low))
      (subst (λ (l : Line). Own l.seat k.priority) (sym line) (woken_own k tasks w.line good own t room low))
      (λ u h f. waits_other k w good t waits u (λ g. omega (arith, g, h)) ∙ still u (omega arith) f)
      (next_size k w t ∙ long) (omega (arith, next_count k w t, fits)) in
      rw (keep_yes (is_due before) t (slots_from n (suc t)) d, wake_due, d)
      (record {
        order = rec.order
            ∙ ap (all_woken_into k rest)
            (ap (λ (l : Line). ready_order l.seat) line ∙ woken_order k tasks w.line good own t room low);
        queues = λ j h.
            rec.queues j h
            ∙ ap (without_all rest)
            (ap (λ (l : Line). queue l.seat j) line ∙ woken-queue k tasks w.line good own t room low j h)
            ∙ all_more t rest (queue w.line.seat j);
        list = rec.list
            ∙ ap (λ (l : List Wake). l ++ map (wake_of k why) rest) (next_wakes k w t why long (omega arith))
            ∙ append_assoc (wakes_of why w) (wake_of k why t ∷ []) (map (wake_of k why) rest);
      }))
      (λ (d : is_due before t ≡ false). rw (keep_no (is_due before) t (slots_from n (suc t)) d, wake_due, d)
      (timed n (suc t) w (omega arith) good own (λ u h. still u (omega arith)) long (omega arith)))
      (true_or_false (is_due before t))

-- two tests that agree of every slot keep the same
kept_same : (p q : ℕ → Bool) → ((u : ℕ) → u < 32 → p u ≡ q u) → (n t : ℕ) → n + t ≡ 32 → keep p (slots_from n t) ≡ keep q (slots_from n t)
kept_same p q same zero t e = refl
kept_same p q same (suc n) t e =
    let rest : List ℕ = slots_from n (suc t) in
    let rec : keep p rest ≡ keep q rest = kept_same p q same n (suc t) (omega arith) in
    let here : p t ≡ q t = same t (omega arith) in
    ⊎_elim
    (λ y. keep_yes p t rest (here ∙ y) ∙ ap (λ (l : List ℕ). t ∷ l) rec ∙ sym (keep_yes q t rest y))
    (λ z. keep_no p t rest (here ∙ z) ∙ rec ∙ sym (keep_no q t rest z))
    (true_or_false (q t))

one_left : (x y : ℕ) → y ≡ x - 1 → 1 ≤ x → eqb y 0 ≡ eqb x 1
one_left x y e some =
    ⊎_elim
    (λ a. eq-eqb y 0 (omega arith) ∙ sym (eq-eqb x 1 a))
    (λ ne. ne_eqb y 0 (λ z. ne (omega arith)) ∙ sym (ne_eqb x 1 ne))
    (eq_or_not x 1)

module _ (s : State) (ok : Sound s) where
  abbrev due_now : List ℕ
  due_now = keep (is_due s.line) (slots_from 32 0)

  abbrev start : Waking
  start = none_woken (ticked s.line)

  ticks : Timed s.tasks TIME_OUT due_now start (wake_due s.tasks s.line 32 0 start)
  ticks =
      timed s.tasks ok.tasks TIME_OUT s.line 32 0 start refl
      (good_line s.line s.tasks (objects_of s) ok.line) (own_line s.line s.tasks (objects_of s) ok.line)
      (λ u h. due_waits s.line u) (length-replicate {A = ℕ} 32 0) (omega arith)

  -- of one who waits nothing is left after the tick exactly if one was left before
  time_tells : (t : ℕ) → is_time_out (get_or s.line.left t 0) ≡ true → eqb (get_or (ticked s.line).left t 0) 0 ≡ eqb (get_or s.line.left t 0) 1
  time_tells t e =
      let now : ℕ = get_or s.line.left t 0 in
      let then : ℕ = get_or (ticked s.line).left t 0 in
      ⊎_elim
      (λ f. let stays : then ≡ FOREVER = forever_stays s.line t f in
      ne_eqb then 0 (λ z. omega (arith, stays, z)) ∙ sym (ne_eqb now 1 (λ z. omega (arith, f, z))))
      (λ f. one_left now then (takes_one s.line t (λ g. omega (arith, f.1, g))) f.0)
      (time_out_says (get_or s.line.left t 0) e)

  reaches_due : (t : ℕ) → t < 32 → reaches s t ≡ is_due s.line t
  unfolding is_due
  reaches_due t h =
      let seat : ℕ = get_or s.line.seat t 0 in
      ⊎_elim
      (λ y. ap (λ (b : Bool). waits_on seat && b) (time_tells t (on_waits s.line s.tasks (objects_of s) ok.line t h y).time))
      (λ z. first_fails _ _ z ∙ sym (first_fails _ _ z))
      (true_or_false (waits_on seat))

  due_reaches : due_in s ≡ due_now
  due_reaches = kept_same (reaches s) (is_due s.line) reaches_due 32 0 refl

  -- "Those reaching 0 are woken with 13 in ascending slot order"
  pub tick_wakes : wake_list (tick s) ≡ map (wake_of s.tasks TIME_OUT) (due_in s)
  unfolding tick wakes_with
  tick_wakes = subst (λ (xs : List ℕ). wake_list (tick s) ≡ map (wake_of s.tasks TIME_OUT) xs) (sym due_reaches) ticks.list

  pub tick_lists : ListsAfter (tick s) (all_woken_into s.tasks (due_in s) (ready_of s)) (λ i. without_all (due_in s) (queue_in s i))
  unfolding tick wakes_with
  tick_lists =
      subst (λ (xs : List ℕ). ListsAfter (tick s) (all_woken_into s.tasks xs (ready_of s)) (λ i. without_all xs (queue_in s i))) (sym due_reaches)
      (record { ready = ticks.order; waiting = ticks.queues })
