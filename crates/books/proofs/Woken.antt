-- The wake list names exactly those who left a queue: a task that is woken leaves its queue and joins none, all others stay, and so
-- it is after any number of tasks are woken, one after the other.
-- Assumes nothing.
use Prim.Native.Nat.{ℕ, zero, suc, ◌+◌, ◌*◌, ◌/◌, ◌%◌, ◌≤◌, ◌<◌}
use native.Mathlib.Omega.{arith}
use mathlib.Core.Path.{◌≡◌, refl, sym, subst, ap, ◌∙◌}
use mathlib.Core.Logic.{◌⊎◌, inl, inr, ⊎_elim}
use mathlib.Core.Bool.{Bool, true, false}
use mathlib.Core.List.{List}
use lib.ListN.{length, get_or, length-set}
use lib.Seq.{get_or-set_same, get_or-set_other}
use lib.Dec.{ltb, eqb}
use borrow.Author.Tests.{ltb-true, eqb-true, eq-eqb}
use Rattle.scope.specs.declared.Line.{Line}
use Rattle.scope.specs.declared.Tasks.{Tasks}
use Rattle.scope.specs.declared.Waking.{Waking}
use Rattle.scope.specs.Choice.{pick}
use Rattle.scope.specs.Identifiers.{identifier}
use Rattle.scope.specs.Seats.{queue_seats, ring_seats, first_standing, leaves, becomes_ready}
use Rattle.scope.specs.Objects.{objects_end}
use Rattle.scope.specs.Waiting.{woken_seats, wake, wake_next, wake_all, none_woken}
use Rattle.scope.specs.Ticks.{is_due, wake_due}
use Rattle.scope.specs.Replies.{wakes_from}
use Rattle.scope.proofs.Rows.{branch}
use Rattle.laws.proofs.Branches.{lt_or_le, eq_or_not, true-false, true_or_false, picked_yes, picked_no}
use Rattle.laws.specs.Seating.{In}
use Rattle.laws.proofs.Seats.Leaving.{leaves_out, leaves_nowhere, leaves_is}
use Rattle.laws.proofs.Seats.Joining.{joins_untouched}
use Rattle.laws.proofs.Seats.Rule.{stands_in_lem}
use Rattle.histories.proofs.Staying.{Good, leaves_good, ready_stays, ready_good, next_fewer}
use Rattle.books.specs.Waiting.{wakes}

-- who is on the wake list, by place
pub wakes_at : (n k : ℕ) (tasks : List ℕ) (why y : ℕ) → wakes (wakes_from n k tasks why) y ≡ true → (j : ℕ) × (j < k + n) × (get_or tasks j 0 ≡ y)
wakes_at zero k tasks why y h = absurd (true-false h refl)
wakes_at (suc n) k tasks why y h =
    ⊎_elim
    (λ e. (k, omega arith, eqb-true (get_or tasks k 0) y e))
    (λ e. let r : (j : ℕ) × (j < suc k + n) × (get_or tasks j 0 ≡ y) =
    wakes_at n (suc k) tasks why y (sym (picked_no (eqb (get_or tasks k 0) y) true _ e) ∙ h) in
    (r.0, omega (arith, r.1), r.2))
    (true_or_false (eqb (get_or tasks k 0) y))

pub at_wakes : (n k : ℕ) (tasks : List ℕ) (why y j : ℕ) → k ≤ j → j < k + n → get_or tasks j 0 ≡ y → wakes (wakes_from n k tasks why) y ≡ true
at_wakes zero k tasks why y j a b e = absurd (omega arith)
at_wakes (suc n) k tasks why y j a b e =
    ⊎_elim
    (λ d. picked_yes (eqb (get_or tasks k 0) y) true _ d)
    (λ d. picked_no (eqb (get_or tasks k 0) y) true _ d
    ∙ ⊎_elim
    (λ f. absurd (true-false (eq-eqb (get_or tasks k 0) y (ap (λ (v : ℕ). get_or tasks v 0) (sym f) ∙ e)) d))
    (λ f. at_wakes n (suc k) tasks why y j (omega arith) (omega arith) e)
    (eq_or_not j k))
    (true_or_false (eqb (get_or tasks k 0) y))

-- task t leaves the queue it stands in: all others stay
module _ (q : List ℕ) (good : Good q) (t : ℕ) where
  pub leaves_others : (o : ℕ) → o % 64 ≡ 0 → (u : ℕ) → (u ≡ t → ⊥) → In q o u → In (leaves q t) o u
  leaves_others o flat u ne a =
      ⊎_elim
      (λ h. let b : ℕ = get_or q t 0 / 64 * 64 in
      let level : b % 64 ≡ 0 = omega arith in
      let at : In q b t = stands_in_lem q good.queues t h in
      ⊎_elim
      (λ p. absurd (ne ((good.queues.seated o flat).once u t a p.0)))
      (λ p. ⊎_elim (λ s. (omega (arith, s, at, a), omega (arith, s, at, a))) (λ s. (omega (arith, s.1, a), omega (arith, s.1, a))) p)
      (leaves_is q b t level at u))
      (λ h. subst (λ (r : List ℕ). In r o u) (sym (leaves_nowhere q t (omega arith) good.low)) a)
      (lt_or_le 0 (get_or q t 0))

-- a task that stands nowhere becomes ready: all others stay
module _ (q key : List ℕ) (t p : ℕ) (good : Good q) (room : t < 32) (out : get_or q t 0 ≡ 0) where
  pub ready_others : (o : ℕ) → o % 64 ≡ 0 → o < 2048 → (u : ℕ) → In q o u → In (becomes_ready q key t p) o u
  ready_others o flat low u a =
      let e : get_or (becomes_ready q key t p) u 0 ≡ get_or q u 0 =
      joins_untouched q key t (ring_seats p) 0 _ good.queues.tasks room out (good.queues.seated (ring_seats p) (omega arith)) (omega arith)
      o flat (λ d. omega arith) u (inl a) in
      (omega (arith, e, a.0), omega (arith, e, a.1))

-- task t alone left the queues
pub record Left (q r : List ℕ) (t : ℕ) : Type 0 where
  pub good : Good r
  pub others : (i : ℕ) → i < objects_end → (u : ℕ) → (u ≡ t → ⊥) → In q (queue_seats i) u → In r (queue_seats i) u
  pub out : (i : ℕ) → i < objects_end → In r (queue_seats i) t → ⊥

pub leaves_left : (q : List ℕ) → Good q → (t : ℕ) → Left q (leaves q t) t
leaves_left q good t =
    record {
      good = leaves_good q good t;
      others = λ i h u ne a. leaves_others q good t (queue_seats i) (omega arith) u ne a;
      out = λ i h a. omega (arith, leaves_out q t, a.0);
    }

pub ready_left : (q : List ℕ) → Good q → (key : List ℕ) (t p : ℕ) → t < 32 → Left q (becomes_ready (leaves q t) key t p) t
ready_left q good key t p room =
    record {
      good = ready_good (leaves q t) key t p (leaves_good q good t) room (leaves_out q t);
      others = λ i h u ne a.
          ready_others (leaves q t) key t p (leaves_good q good t) room (leaves_out q t) (queue_seats i) (omega arith) (omega arith) u
          (leaves_others q good t (queue_seats i) (omega arith) u ne a);
      out = λ i h a.
          let b : In (leaves q t) (queue_seats i) t =
          (ready_stays (leaves q t) key t p (leaves_good q good t) room (leaves_out q t)).stood (queue_seats i) (omega arith) (omega arith) t a in
          omega (arith, leaves_out q t, b.0);
    }

pub wake_left : (l : Line) → Good l.seat → (b : Bool) (p t : ℕ) → t < 32 → Left l.seat (wake l b p t).seat t
unfolding wake woken_seats pick
wake_left l good true p t room = leaves_left l.seat good t
wake_left l good false p t room = ready_left l.seat good l.joined t p room

-- since line l, the wake list names those who left, and they stand in no queue
pub record Woke (k : Tasks) (l : Line) (w : Waking) : Type 0 where
  pub size : length w.wakes ≡ 32
  pub good : Good w.line.seat
  pub out : (j : ℕ) → j < w.woken
      → (t : ℕ) × (t < 32) × (get_or w.wakes j 0 ≡ identifier (get_or k.serial t 0) t) × ((i : ℕ) → i < objects_end → In w.line.seat (queue_seats i) t → ⊥)
  pub left : (i : ℕ) → i < objects_end → (t : ℕ) → In l.seat (queue_seats i) t
      → (In w.line.seat (queue_seats i) t) ⊎ ((j : ℕ) × (j < w.woken) × (get_or w.wakes j 0 ≡ identifier (get_or k.serial t 0) t))

pub none_woke : (k : Tasks) (l : Line) → Good l.seat → Woke k l (none_woken l)
none_woke k l good =
    record {
      size = refl;
      good = good;
      out = λ j h. absurd (omega arith);
      left = λ i h t a. inl a;
    }

pub next_woke : (k : Tasks) (l : Line) (w : Waking) (t : ℕ) → t < 32 → w.woken < 32 → Woke k l w → Woke k l (wake_next k w t)
unfolding wake_next
next_woke k l w t room h ok =
    record {
      size = length-set w.wakes w.woken id ∙ ok.size;
      good = step.good;
      out = λ j a. ⊎_elim
          (λ e. (t, room, ap (λ (v : ℕ). get_or (wake_next k w t).wakes v 0) e ∙ new, step.out))
          (λ ne. let r = ok.out j (omega (arith, a, ne)) in (
            r.0,
            r.1,
            old j ne ∙ r.2,
            λ i b c. r.3 i b ((next_fewer k w t room ok.good).seats.stood (queue_seats i) (omega arith) (omega arith) r.0 c),
          ))
          (eq_or_not j w.woken);
      left = λ i a u b. ⊎_elim
          (λ c. ⊎_elim
          (λ e. inr (w.woken, omega arith, new ∙ ap (λ (v : ℕ). identifier (get_or k.serial v 0) v) (sym e)))
          (λ ne. inl (step.others i a u ne c))
          (eq_or_not u t))
          (λ c. inr (c.0, omega (arith, c.1), old c.0 (λ e. omega (arith, e, c.1)) ∙ c.2))
          (ok.left i a u b);
    }
  where
    id : ℕ
    id = identifier (get_or k.serial t 0) t

    step : Left w.line.seat (wake_next k w t).line.seat t
    step = wake_left w.line ok.good (get_or k.suspended t false) (get_or k.priority t 0) t room

    new : get_or (wake_next k w t).wakes w.woken 0 ≡ id
    new = get_or-set_same w.wakes w.woken id 0 (omega (arith, ok.size))

    old : (j : ℕ) → (j ≡ w.woken → ⊥) → get_or (wake_next k w t).wakes j 0 ≡ get_or w.wakes j 0
    old j ne = get_or-set_other w.wakes w.woken j id 0 ne

more_woken : (k : Tasks) (w : Waking) (t : ℕ) → (wake_next k w t).woken ≡ w.woken + 1
unfolding wake_next
more_woken k w t = refl

-- all who wait for a semaphore are woken
pub all_woke : (k : Tasks) (l : Line) (i n : ℕ) (w : Waking) → n + w.woken ≤ 32 → Woke k l w → Woke k l (wake_all k i n w)
unfolding wake_all
all_woke k l i zero w h ok = ok
all_woke k l i (suc n) w h ok = go (λ v a g. all_woke k l i n v a g) (ltb t 32) refl
  where
    t : ℕ
    t = first_standing w.line.seat (queue_seats i)

    go : ((v : Waking) → n + v.woken ≤ 32 → Woke k l v → Woke k l (wake_all k i n v)) → (b : Bool) → ltb t 32 ≡ b
        → Woke k l (elim b as (λ x. Waking) [ true ↦ wake_all k i n (wake_next k w t) | false ↦ w ])
    go rec true e = rec (wake_next k w t) (omega (arith, more_woken k w t)) (next_woke k l w t (ltb-true t 32 e) (omega arith) ok)
    go rec false e = ok

-- all who were due are woken
pub due_woke : (k : Tasks) (l before : Line) (n t : ℕ) (w : Waking) → n + t ≤ 32 → w.woken ≤ t → Woke k l w → Woke k l (wake_due k before n t w)
unfolding wake_due
due_woke k l before zero t w h a ok = ok
due_woke k l before (suc n) t w h a ok =
    branch (λ (v : Waking). Woke k l v) (is_due before t) _ _
    (due_woke k l before n (suc t) (wake_next k w t) (omega arith) (omega (arith, more_woken k w t)) (next_woke k l w t (omega arith) (omega arith) ok))
    (due_woke k l before n (suc t) w (omega arith) (omega arith) ok)
