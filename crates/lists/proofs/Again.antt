-- On a sound line each stands in the ring of its priority, so to take a task out and put it in again is `without` and then `insert` of
-- the ready order.
-- Assumes nothing.
use Prim.Native.Nat.{ℕ, ◌≤◌, ◌<◌}
use native.Mathlib.Omega.{arith}
use mathlib.Core.Path.{◌≡◌, refl, sym, subst, ap, ◌∙◌}
use mathlib.Core.Logic.{⊎_elim}
use mathlib.Core.Bool.{true, false}
use mathlib.Core.List.{List, [], ◌∷◌, ◌++◌}
use lib.ListN.{get_or}
use lib.Dec.{leb}
use Rattle.scope.specs.declared.Line.{Line}
use Rattle.scope.specs.declared.Tasks.{Tasks}
use Rattle.scope.specs.Lists.{has, without, insert}
use Rattle.scope.specs.Seats.{ring_seats, queue_seats, first_ring, standing, leaves, becomes_ready, queue, ready_order}
use Rattle.scope.specs.Objects.{objects_end, Objects}
use Rattle.laws.proofs.Branches.{true-false, true_or_false, eq_or_not}
use Rattle.laws.proofs.Arrays.{inside}
use Rattle.laws.specs.Seating.{In, AllSeated}
use Rattle.laws.proofs.Seats.Leaving.{leaves_out}
use Rattle.histories.specs.Sound.{LineSound, TasksSound}
use Rattle.histories.proofs.Moves.{seats_low, ring_ready}
use Rattle.histories.proofs.Staying.{Good, leaves_good, ready_good}
use Rattle.lists.specs.Along.{queue_above}
use Rattle.lists.proofs.Plain.{has_says, has-append, has-without, without_none}
use Rattle.lists.proofs.Members.{queue_says, queue_has}
use Rattle.lists.proofs.Leaving.{leaves_above, leaves-queue, leaves_order}
use Rattle.lists.proofs.Joining.{joins_end_above, joins_other_above, ready_order_lem, ready_queue}
use Rattle.lists.proofs.Ready.{order_says}

-- each stands in the ring of its priority
abbrev pub Own : List ℕ → List ℕ → Type 0
Own q priority = (m u : ℕ) → In q (ring_seats m) u → get_or priority u 0 ≡ m

-- task t is taken out and put in again
module _ (q key priority : List ℕ) (good : Good q) (own : Own q priority) (t : ℕ) (room : t < 32) where
  pub own_left : Own (leaves q t) priority
  own_left m u a =
      let g : Good (leaves q t) = leaves_good q good t in
      let h : has (queue_above (leaves q t) (ring_seats m)) u ≡ true =
      queue_has (leaves q t) (ring_seats m) (standing (leaves q t) (ring_seats m)) g.queues.tasks (g.queues.seated (ring_seats m) (omega arith)) u a in
      own m u
      (queue_says q (ring_seats m) u
      (has-without t u (queue_above q (ring_seats m))
      (subst (λ (l : List ℕ). has l u ≡ true) (leaves_above q good.queues good.low t (ring_seats m) (omega arith)) h)
      ).0)

  pub again_order : (p : ℕ) → p < 16
      → ready_order (becomes_ready (leaves q t) key t p) ≡ insert (λ u. leb p (get_or priority u 0)) t (without t (ready_order q))
  again_order p h =
      ready_order_lem (leaves q t) key priority t p (leaves_good q good t).queues room (leaves_out q t) own_left h
      ∙ ap (λ (l : List ℕ). insert (λ u. leb p (get_or priority u 0)) t l) (leaves_order q good.queues good.low t)

  pub again_queue : (p i : ℕ) → i < objects_end → queue (becomes_ready (leaves q t) key t p) i ≡ without t (queue q i)
  again_queue p i h =
      ready_queue (leaves q t) key priority t p (leaves_good q good t).queues room (leaves_out q t) own_left i h
      ∙ leaves-queue q good.queues good.low t i

  -- all say queues as before, and each stands in the ring of its priority
  pub again_good : (p : ℕ) → Good (becomes_ready (leaves q t) key t p)
  again_good p = ready_good (leaves q t) key t p (leaves_good q good t) room (leaves_out q t)

  pub again_own : (p : ℕ) → get_or priority t 0 ≡ p → Own (becomes_ready (leaves q t) key t p) priority
  again_own p e m u a =
      let r : List ℕ = becomes_ready (leaves q t) key t p in
      let g : Good r = again_good p in
      let h : has (queue_above r (ring_seats m)) u ≡ true =
      queue_has r (ring_seats m) (standing r (ring_seats m)) g.queues.tasks (g.queues.seated (ring_seats m) (omega arith)) u a in
      let left : AllSeated (leaves q t) = (leaves_good q good t).queues in
      ⊎_elim
      (λ d. let z : ring_seats m ≡ ring_seats p = omega (arith, d) in
      ⊎_elim
      (λ l. own_left m u (queue_says (leaves q t) (ring_seats m) u l))
      (λ l. ⊎_elim (λ f. ap (λ (v : ℕ). get_or priority v 0) (sym f) ∙ e ∙ sym d) (λ f. absurd (true-false f refl)) (has_says t u [] l))
      (has-append (queue_above (leaves q t) (ring_seats m)) (t ∷ []) u
      (subst (λ (l : List ℕ). has l u ≡ true)
      (subst (λ (o : ℕ). queue_above r o ≡ queue_above (leaves q t) o ++ (t ∷ [])) (sym z)
      (joins_end_above (leaves q t) key t (ring_seats p) 0 left room (leaves_out q t) (omega arith) refl))
      h)))
      (λ ne. own_left m u
      (queue_says (leaves q t) (ring_seats m) u
      (subst (λ (l : List ℕ). has l u ≡ true)
      (joins_other_above (leaves q t) key t (ring_seats p) 0 left room (leaves_out q t) (omega arith) (ring_seats m) (omega arith) (λ d. ne (omega (arith, d))))
      h)))
      (eq_or_not m p)

-- who stands in a ring is on no queue, and the other way round
module _ (q : List ℕ) (t : ℕ) where
  pub off_queue : (i : ℕ) → i < objects_end → first_ring ≤ get_or q t 0 → without t (queue q i) ≡ queue q i
  unfolding queue
  off_queue i h high =
      without_none t (queue q i) (λ k. let a : In q (queue_seats i) t = queue_says q (queue_seats i) t k in omega (arith, a, h, high))

  pub off_order : get_or q t 0 < first_ring → without t (ready_order q) ≡ ready_order q
  off_order low = without_none t (ready_order q) (λ k. let a = order_says q t k in omega (arith, a.2, low))

-- a sound line
module _ (l : Line) (k : Tasks) (m : Objects) (ok : LineSound l k m) where
  pub good_line : Good l.seat
  good_line = record { queues = ok.queues; low = seats_low l k m ok }

  pub own_line : Own l.seat k.priority
  own_line p u a =
      let room : u < 32 = inside 32 l.seat u ok.queues.tasks (λ z. omega (arith, z, a)) in
      omega (arith, a, (ring_ready l k m ok u room (omega (arith, a))).stands)

pub range_below : (k : Tasks) → TasksSound k → (t : ℕ) → t < 32 → get_or k.priority t 0 < 16
range_below k ok t h =
    ⊎_elim (λ e. omega (arith, ((ok.each t h).alive e).1)) (λ e. omega (arith, (ok.each t h).priority e))
    (true_or_false (get_or k.live t false))
