-- The ready order of seats that say queues: it holds just those who stand in a ring, each once, those of a higher ring ahead, and
-- its first is the one that runs. By induction on the rings.
-- Assumes nothing.
use Prim.Native.Nat.{ℕ, zero, suc, ◌≤◌, ◌<◌}
use native.Mathlib.Omega.{arith}
use native.Mathlib.Nat.{eq-or-lt_of_le}
use mathlib.Core.Path.{◌≡◌, refl, sym, subst, ap, ◌∙◌}
use mathlib.Core.Logic.{⊎_elim}
use mathlib.Core.Bool.{true}
use mathlib.Core.List.{List, ◌++◌}
use lib.ListN.{get_or}
use Rattle.scope.specs.Lists.{has}
use Rattle.scope.specs.Seats.{ring_seats, first_standing, standing, ready_below, ready_order, ring_mask, runner_of}
use Rattle.laws.proofs.Branches.{true-false, lt_or_le}
use Rattle.laws.specs.Seating.{In, Seated, AllSeated, Runs}
use Rattle.laws.proofs.Seats.First.{first_is, first_none, runner_none, runs_runner}
use Rattle.lists.specs.Along.{Along, Once, NeverRising, queue_above, first_in}
use Rattle.lists.proofs.Plain.{along_append, along_turn, has-append, append_first, append_second}
use Rattle.lists.proofs.Members.{from_yes, from_no, queue_rising, queue_once, queue_says, queue_below, queue_has}

-- t stands in one of the rings below n
abbrev pub InRings : List ℕ → ℕ → ℕ → Type 0
InRings q n t = (p : ℕ) × (p < n) × In q (ring_seats p) t

module _ (q : List ℕ) where
  pub below_says : (n t : ℕ) → has (ready_below q n) t ≡ true → InRings q n t
  below_says zero t h = absurd (true-false h refl)
  below_says (suc p) t h =
      ⊎_elim
      (λ l. (p, omega arith, queue_says q (ring_seats p) t l))
      (λ l. let r = below_says p t l in (r.0, omega (arith, r.1), r.2))
      (has-append (queue_above q (ring_seats p)) (ready_below q p) t h)

  below_small : (n t : ℕ) → has (ready_below q n) t ≡ true → t < 32
  below_small zero t h = absurd (true-false h refl)
  below_small (suc p) t h =
      ⊎_elim (λ l. queue_below q (ring_seats p) t l) (λ l. below_small p t l)
      (has-append (queue_above q (ring_seats p)) (ready_below q p) t h)

  -- a relation along each ring, and from each ring to those below, goes along the ready order
  module _ (R : ℕ → ℕ → Type 0) (inner : (p : ℕ) → Along R (queue_above q (ring_seats p)))
      (outer : (p m u v : ℕ) → m < p → In q (ring_seats p) u → In q (ring_seats m) v → R u v) where
    below_along : (n : ℕ) → Along R (ready_below q n)
    below_along zero = tt
    below_along (suc p) =
        along_append R (queue_above q (ring_seats p)) (ready_below q p) (inner p) (below_along p)
        (λ u v h k. let r = below_says p v k in outer p r.0 u v r.1 (queue_says q (ring_seats p) u h) r.2)

  -- who is on it stands in a ring
  pub order_says : (t : ℕ) → has (ready_order q) t ≡ true → InRings q 16 t
  unfolding ready_order
  order_says t h = below_says 16 t h

  pub order_small : (t : ℕ) → has (ready_order q) t ≡ true → t < 32
  unfolding ready_order
  order_small t h = below_small 16 t h

  -- each stands there once
  pub order_once : Once (ready_order q)
  unfolding ready_order
  order_once =
      below_along (λ x u. x ≡ u → ⊥) (λ p. queue_once q (ring_seats p))
      (λ p m u v l a b e. omega (arith, l, a, b, ap (λ (w : ℕ). get_or q w 0) e))
      16

  -- where each stands in the ring of its key, keys never rise along it
  pub order_falls : (key : List ℕ) → ((p t : ℕ) → In q (ring_seats p) t → get_or key t 0 ≡ p) → NeverRising key (ready_order q)
  unfolding ready_order
  order_falls key own =
      below_along (λ x u. get_or key u 0 ≤ get_or key x 0)
      (λ p. along_turn (λ x u. get_or q x 0 < get_or q u 0) (λ x u. get_or key u 0 ≤ get_or key x 0) (queue_above q (ring_seats p))
      (λ u v h k l. omega (arith, own p u (queue_says q (ring_seats p) u h), own p v (queue_says q (ring_seats p) v k)))
      (queue_rising q (ring_seats p)))
      (λ p m u v l a b. omega (arith, l, own p u a, own m v b))
      16

module _ (q : List ℕ) (rule : AllSeated q) where
  ring : (p : ℕ) → Seated q (ring_seats p) (standing q (ring_seats p))
  ring p = rule.seated (ring_seats p) (omega arith)

  below_has : (n t : ℕ) → InRings q n t → has (ready_below q n) t ≡ true
  below_has zero t r = absurd (omega (arith, r.1))
  below_has (suc n) t r =
      ⊎_elim
      (λ e. append_first (queue_above q (ring_seats n)) (ready_below q n) t
      (queue_has q (ring_seats n) (standing q (ring_seats n)) rule.tasks (ring n) t (subst (λ (p : ℕ). In q (ring_seats p) t) e r.2)))
      (λ l. append_second (queue_above q (ring_seats n)) (ready_below q n) t (below_has n t (r.0, l, r.2)))
      (eq-or-lt_of_le {n = r.0} {m = n} (omega (arith, r.1)))

  -- and everybody who stands in a ring is on it
  pub order_has : (t : ℕ) → InRings q 16 t → has (ready_order q) t ≡ true
  unfolding ready_order
  order_has t r = below_has 16 t r

  -- an empty ring, and one with a first
  below_first : (n : ℕ) → n ≤ 16 → ((u : ℕ) → get_or q u 0 < ring_seats n) → first_in (ready_below q n) ≡ runner_of q (ring_mask q)
  below_first zero h top = sym (runner_none q top)
  below_first (suc p) h top =
      ⊎_elim
      (λ l. let f = first_is q (ring_seats p) (standing q (ring_seats p)) rule.tasks (ring p) l in
      let runs : Runs q (first_standing q (ring_seats p)) p = record { first = f.1; highest = λ u. omega (arith, top u) } in
      ap (λ (xs : List ℕ). first_in (xs ++ ready_below q p)) (from_yes q (ring_seats p) 31 1 f.0)
      ∙ sym (runs_runner q rule (first_standing q (ring_seats p)) p (omega (arith, h)) runs))
      (λ l. let z : standing q (ring_seats p) ≡ 0 = omega arith in
      let e : first_standing q (ring_seats p) ≡ 32 = first_none q (ring_seats p) (standing q (ring_seats p)) rule.tasks (ring p) z in
      ap (λ (xs : List ℕ). first_in (xs ++ ready_below q p)) (from_no q (ring_seats p) 31 1 (omega (arith, e)))
      ∙ below_first p (omega (arith, h))
      (λ u. ⊎_elim (λ a. a)
      (λ a. absurd (⊎_elim (λ n. omega (arith, n, a))
      (λ w. omega (arith, a, w, z, top u, (ring p).small u (omega (arith, a, w, top u), omega (arith, a, w, top u))))
      (rule.places u)))
      (lt_or_le (get_or q u 0) (ring_seats p))))
      (lt_or_le 0 (standing q (ring_seats p)))

  -- its first runs
  pub order_first : ((u : ℕ) → get_or q u 0 < ring_seats 16) → first_in (ready_order q) ≡ runner_of q (ring_mask q)
  unfolding ready_order
  order_first top = below_first 16 (omega arith) top
