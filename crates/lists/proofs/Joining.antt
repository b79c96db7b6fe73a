-- Joining is insertion: behind all whose key is as great, where keys never rise along the queue, or at the end; becoming ready is
-- insertion behind all of equal or higher priority. Both lists have the same members, and seats rise along both.
-- Assumes nothing.
use Prim.Native.Nat.{ℕ, zero, suc, ◌+◌, ◌%◌, ◌≤◌, ◌<◌}
use native.Mathlib.Omega.{arith}
use native.Mathlib.Nat.{eq-or-lt_of_le}
use mathlib.Core.Path.{◌≡◌, refl, sym, subst, ap, ◌∙◌}
use mathlib.Core.Logic.{⊎_elim}
use mathlib.Core.Bool.{Bool, true}
use mathlib.Core.List.{List, [], ◌∷◌, ◌++◌, append_assoc}
use lib.ListN.{length, get_or}
use lib.Dec.{leb}
use borrow.Author.Tests.{le-leb, lt-leb, leb-true, leb-false}
use Rattle.scope.specs.Lists.{has, insert}
use Rattle.scope.specs.Seats.{queue_seats, ring_seats, standing, ahead_of, seat_behind, joins, becomes_ready, queue, ready_below, ready_order}
use Rattle.scope.proofs.Seats.{ahead_from}
use Rattle.scope.specs.Objects.{objects_end}
use Rattle.laws.proofs.Branches.{eq_or_not}
use Rattle.laws.specs.Seating.{In, Seated, Sorted, AllSeated}
use Rattle.laws.proofs.Seats.Counting.{standing-le}
use Rattle.laws.proofs.Seats.Joining.{Raised, joins_is, joins_in, joins_behind, joins_before, joins_untouched, joins_others}
use Rattle.laws.proofs.Seats.Rule.{joins_queues}
use Rattle.lists.specs.Along.{queue_above}
use Rattle.lists.proofs.Plain.{same_list, along_turn, along_insert, has-insert, insert_new, insert_old, insert_past, insert_front, insert_last}
use Rattle.lists.proofs.Members.{queue_rising, queue_says, queue_has}
use Rattle.lists.proofs.Leaving.{untouched_queue}
use Rattle.lists.proofs.Ready.{below_says}

-- task t, which stands nowhere, joins the queue above o behind all whose key is p or more
module _ (q key : List ℕ) (t o p : ℕ) (rule : AllSeated q) (room : t < 32) (out : get_or q t 0 ≡ 0) (level : o % 64 ≡ 0) where
  abbrev after : List ℕ
  after = joins q key t o p

  abbrev ahead : ℕ → Bool
  ahead u = leb p (get_or key u 0)

  kept : AllSeated after
  kept = joins_queues q key t o p rule room out level

  here : Seated q o (standing q o)
  here = rule.seated o level

  first : o ≤ ahead_of q key o (o + 63) p 32
  first = ahead_from q key o (o + 63) p 32

  differs : (m u : ℕ) → In q m u → u ≡ t → ⊥
  differs m u a e = omega (arith, a, out, ap (λ (v : ℕ). get_or q v 0) e)

  comes : (u : ℕ) → (u ≡ t → ⊥) → Raised (seat_behind q key o p) (o + 63) (get_or q u 0) (get_or after u 0)
  comes u ne = joins_is q key t o p u ne

  order : (u v : ℕ) → In q o u → In q o v → get_or q u 0 < get_or q v 0 → get_or after u 0 < get_or after v 0
  order u v a b l =
      ⊎_elim
      (λ x. ⊎_elim (λ y. omega arith) (λ y. ⊎_elim (λ w. omega arith) (λ w. omega (arith, w, b)) y.0) (comes v (differs o v b)))
      (λ x. ⊎_elim (λ y. omega arith) (λ y. omega arith) (comes v (differs o v b)))
      (comes u (differs o u a))

  stays : (u : ℕ) → In q o u → In after o u
  stays u a =
      ⊎_elim
      (λ x. (omega (arith, x, a), omega (arith, x, here.small u a, standing-le q o)))
      (λ x. (omega (arith, x, a), omega (arith, x, a)))
      (comes u (differs o u a))

  was : (u : ℕ) → (u ≡ t → ⊥) → In after o u → In q o u
  was u ne a =
      ⊎_elim (λ x. (omega (arith, x, first), omega (arith, x))) (λ x. (omega (arith, x, a), omega (arith, x, a))) (comes u ne)

  -- where those who stay ahead stand ahead of all others
  module _ (before : (u : ℕ) → In q o u → get_or key u 0 < p → get_or after t 0 < get_or after u 0)
      (falls : (u v : ℕ) → In q o u → In q o v → get_or q u 0 < get_or q v 0 → p ≤ get_or key v 0 → p ≤ get_or key u 0) where
    joins_here : queue_above after o ≡ insert ahead t (queue_above q o)
    joins_here =
        same_list (λ u. get_or after u 0) (queue_above after o) (insert ahead t (queue_above q o))
        (queue_rising after o)
        (along_insert ahead t (λ u v. get_or after u 0 < get_or after v 0) (queue_above q o)
        (along_turn (λ u v. get_or q u 0 < get_or q v 0) (λ u v. get_or after u 0 < get_or after v 0) (queue_above q o)
        (λ u v h k l. order u v (queue_says q o u h) (queue_says q o v k) l)
        (queue_rising q o))
        (along_turn (λ u v. get_or q u 0 < get_or q v 0) (λ u v. ahead v ≡ true → ahead u ≡ true) (queue_above q o)
        (λ u v h k l e. le-leb _ _ (falls u v (queue_says q o u h) (queue_says q o v k) l (leb-true p (get_or key v 0) e)))
        (queue_rising q o))
        (λ u h e. (joins_behind q key t o p (standing q o) rule.tasks room out here u (queue_says q o u h) (leb-true p (get_or key u 0) e)).1)
        (λ u h e. before u (queue_says q o u h) (leb-false p (get_or key u 0) e)))
        (λ u h. ⊎_elim
        (λ e. subst (λ (v : ℕ). has (insert ahead t (queue_above q o)) v ≡ true) (sym e) (insert_new ahead t (queue_above q o)))
        (λ ne. insert_old ahead t (queue_above q o) u
        (queue_has q o (standing q o) rule.tasks here u (was u ne (queue_says after o u h))))
        (eq_or_not u t))
        (λ u h. queue_has after o (standing after o) kept.tasks (kept.seated o level) u
        (⊎_elim
        (λ e. subst (λ (v : ℕ). In after o v) e (joins_in q key t o p (standing q o) rule.tasks room out here))
        (λ l. stays u (queue_says q o u l))
        (has-insert ahead t (queue_above q o) u h)))

  -- where keys never rise along the queue
  pub joins_sorted_above : length key ≡ 32 → Sorted q key o → queue_above after o ≡ insert ahead t (queue_above q o)
  joins_sorted_above keys sorted =
      joins_here
      (λ u a l. (joins_before q key t o p (standing q o) rule.tasks room out here keys sorted u a l).1)
      (λ u v a b l h. omega (arith, h, sorted.falls u v a b l))

  -- with p = 0, at the end
  pub joins_end_above : p ≡ 0 → queue_above after o ≡ queue_above q o ++ (t ∷ [])
  joins_end_above z =
      joins_here (λ u a l. absurd (omega (arith, l, z))) (λ u v a b l h. omega (arith, z))
      ∙ insert_last ahead t (queue_above q o) (λ u h. le-leb p (get_or key u 0) (omega (arith, z)))

  -- every other queue stays
  pub joins_other_above : (m : ℕ) → m % 64 ≡ 0 → (m ≡ o → ⊥) → queue_above after m ≡ queue_above q m
  joins_other_above m flat ne =
      untouched_queue q after m (standing q m) rule.tasks (rule.seated m flat) kept.tasks
      (joins_others q key t o p (standing q o) rule.tasks room out here level m flat ne (standing q m) (rule.seated m flat))
      (joins_untouched q key t o p (standing q o) rule.tasks room out here level m flat ne)

  pub joins_other_rings : (n : ℕ) → ((m : ℕ) → m < n → ring_seats m ≡ o → ⊥) → ready_below after n ≡ ready_below q n
  joins_other_rings zero away = refl
  joins_other_rings (suc m) away =
      ap (λ (l : List ℕ). l ++ ready_below after m) (joins_other_above (ring_seats m) (omega arith) (away m (omega arith)))
      ∙ ap (λ (l : List ℕ). queue_above q (ring_seats m) ++ l) (joins_other_rings m (λ k h. away k (omega arith)))

-- in an object's queue
module _ (q key : List ℕ) (t i p : ℕ) (rule : AllSeated q) (room : t < 32) (out : get_or q t 0 ≡ 0) where
  pub joins-queue : length key ≡ 32 → Sorted q key (queue_seats i)
      → queue (joins q key t (queue_seats i) p) i ≡ insert (λ u. leb p (get_or key u 0)) t (queue q i)
  unfolding queue
  joins-queue keys sorted = joins_sorted_above q key t (queue_seats i) p rule room out (omega arith) keys sorted

  pub joins-queue_end : p ≡ 0 → queue (joins q key t (queue_seats i) p) i ≡ queue q i ++ (t ∷ [])
  unfolding queue
  joins-queue_end z = joins_end_above q key t (queue_seats i) p rule room out (omega arith) z

  pub joins-queue_other : (j : ℕ) → (j ≡ i → ⊥) → queue (joins q key t (queue_seats i) p) j ≡ queue q j
  unfolding queue
  joins-queue_other j ne =
      joins_other_above q key t (queue_seats i) p rule room out (omega arith) (queue_seats j) (omega arith) (λ e. ne (omega (arith, e)))

  -- and the ready order stays
  pub joins_queue_order : i < objects_end → ready_order (joins q key t (queue_seats i) p) ≡ ready_order q
  unfolding ready_order
  joins_queue_order h =
      joins_other_rings q key t (queue_seats i) p rule room out (omega arith) 16 (λ m l e. omega (arith, e, h))

-- among the ready
module _ (q key priority : List ℕ) (t p : ℕ) (rule : AllSeated q) (room : t < 32) (out : get_or q t 0 ≡ 0)
    (own : (m u : ℕ) → In q (ring_seats m) u → get_or priority u 0 ≡ m) where
  abbrev behind : ℕ → Bool
  behind u = leb p (get_or priority u 0)

  abbrev ready : List ℕ
  ready = becomes_ready q key t p

  ready_below_lem : (n : ℕ) → p < n → ready_below ready n ≡ insert behind t (ready_below q n)
  ready_below_lem zero h = absurd (omega arith)
  ready_below_lem (suc m) h =
      ⊎_elim
      (λ e. let z : ring_seats m ≡ ring_seats p = omega (arith, e) in
      ap (λ (l : List ℕ). l ++ ready_below ready m)
      (subst (λ (o : ℕ). queue_above ready o ≡ queue_above q o ++ (t ∷ [])) (sym z)
      (joins_end_above q key t (ring_seats p) 0 rule room out (omega arith) refl))
      ∙ append_assoc (queue_above q (ring_seats m)) (t ∷ []) (ready_below ready m)
      ∙ ap (λ (l : List ℕ). queue_above q (ring_seats m) ++ (t ∷ l))
      (joins_other_rings q key t (ring_seats p) 0 rule room out (omega arith) m (λ k l d. omega (arith, d, l, e)))
      ∙ ap (λ (l : List ℕ). queue_above q (ring_seats m) ++ l)
      (sym (insert_front behind t (ready_below q m)
      (λ u k. let r = below_says q m u k in lt-leb p (get_or priority u 0) (omega (arith, own r.0 u r.2, r.1, e)))))
      ∙ sym (insert_past behind t (queue_above q (ring_seats m)) (ready_below q m)
      (λ u k. le-leb p (get_or priority u 0) (omega (arith, own m u (queue_says q (ring_seats m) u k), e)))))
      (λ l. ap (λ (l : List ℕ). l ++ ready_below ready m)
      (joins_other_above q key t (ring_seats p) 0 rule room out (omega arith) (ring_seats m) (omega arith) (λ e. omega (arith, e, l)))
      ∙ ap (λ (l : List ℕ). queue_above q (ring_seats m) ++ l) (ready_below_lem m l)
      ∙ sym (insert_past behind t (queue_above q (ring_seats m)) (ready_below q m)
      (λ u k. le-leb p (get_or priority u 0) (omega (arith, own m u (queue_says q (ring_seats m) u k), l)))))
      (eq-or-lt_of_le {n = p} {m = m} (omega arith))

  -- "A task becoming ready goes behind all of equal or higher priority."
  pub ready_order_lem : p < 16 → ready_order (becomes_ready q key t p) ≡ insert (λ u. leb p (get_or priority u 0)) t (ready_order q)
  unfolding ready_order
  ready_order_lem h = ready_below_lem 16 h

  -- and the queues stay
  pub ready_queue : (i : ℕ) → i < objects_end → queue (becomes_ready q key t p) i ≡ queue q i
  unfolding queue
  ready_queue i h = joins_other_above q key t (ring_seats p) 0 rule room out (omega arith) (queue_seats i) (omega arith) (λ e. omega (arith, e, h))
