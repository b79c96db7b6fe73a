-- Leaving is removal: where seats say queues, the list of each queue, and the ready order, lose the one who leaves and keep the
-- order of all others. Both lists have the same members, and seats rise along both.
-- Assumes nothing.
use Prim.Native.Nat.{ℕ, zero, suc, ◌*◌, ◌/◌, ◌%◌, ◌<◌}
use native.Mathlib.Omega.{arith}
use mathlib.Core.Path.{◌≡◌, refl, sym, subst, ap, ◌∙◌}
use mathlib.Core.Logic.{inl, inr, ⊎_elim}
use mathlib.Core.Bool.{not}
use mathlib.Core.List.{List, ◌++◌}
use lib.ListN.{length, get_or}
use lib.Dec.{eqb}
use Rattle.scope.specs.Lists.{without}
use Rattle.scope.specs.Seats.{queue_seats, ring_seats, standing, leaves, queue, ready_below, ready_order}
use Rattle.laws.proofs.Branches.{eq_or_not, lt_or_le}
use Rattle.laws.specs.Seating.{In, Seated, AllSeated}
use Rattle.laws.proofs.Seats.Apart.{Untouched}
use Rattle.laws.proofs.Seats.Leaving.{leaves_is, leaves_untouched, leaves_others, leaves_nowhere}
use Rattle.laws.proofs.Seats.Rule.{stands_in_lem, leaves_queues}
use Rattle.lists.specs.Along.{queue_above}
use Rattle.lists.proofs.Plain.{same_list, along_turn, along_keep, keep_append, has-without, without-has, without_none}
use Rattle.lists.proofs.Members.{queue_rising, queue_says, queue_has}

-- two lists of seats with the same queue above m
module _ (q r : List ℕ) (m n : ℕ) (long : length q ≡ 32) (rule : Seated q m n) (size : length r ≡ 32) (after : Seated r m n) (same : Untouched q r m) where
  pub untouched_queue : queue_above r m ≡ queue_above q m
  untouched_queue =
      same_list (λ t. get_or q t 0) (queue_above r m) (queue_above q m)
      (along_turn (λ x u. get_or r x 0 < get_or r u 0) (λ x u. get_or q x 0 < get_or q u 0) (queue_above r m)
      (λ u v h k l. omega (arith, l, same u (inr (queue_says r m u h)), same v (inr (queue_says r m v k))))
      (queue_rising r m))
      (queue_rising q m)
      (λ t h. let a : In r m t = queue_says r m t h in
      queue_has q m n long rule t (omega (arith, a, same t (inr a)), omega (arith, a, same t (inr a))))
      (λ t h. let a : In q m t = queue_says q m t h in
      queue_has r m n size after t (omega (arith, a, same t (inl a)), omega (arith, a, same t (inl a))))

-- the queue that t leaves
module _ (q : List ℕ) (rule : AllSeated q) (o t : ℕ) (round : o % 64 ≡ 0) (at : In q o t) where
  abbrev after : List ℕ
  after = leaves q t

  kept : AllSeated after
  kept = leaves_queues q rule t (omega (arith, at))

  order : (u v : ℕ) → In q o u → In q o v → (v ≡ t → ⊥) → get_or q u 0 < get_or q v 0 → (u ≡ t → ⊥) → get_or after u 0 < get_or after v 0
  order u v a b nv l nu =
      ⊎_elim
      (λ p. absurd (nu ((rule.seated o round).once u t a p.0)))
      (λ p. ⊎_elim
      (λ d. absurd (nv ((rule.seated o round).once v t b d.0)))
      (λ d. ⊎_elim
      (λ x. ⊎_elim (λ y. omega arith) (λ y. ⊎_elim (λ w. omega arith) (λ w. omega arith) y.0) d)
      (λ x. ⊎_elim (λ y. ⊎_elim (λ w. omega arith) (λ w. omega arith) x.0) (λ y. omega arith) d)
      p)
      (leaves_is q o t round at v))
      (leaves_is q o t round at u)

  stays : (u : ℕ) → (u ≡ t → ⊥) → In q o u → In after o u
  stays u ne a =
      ⊎_elim (λ p. absurd (ne ((rule.seated o round).once u t a p.0)))
      (λ p. ⊎_elim (λ x. (omega (arith, a, at), omega (arith, a, at))) (λ x. (omega (arith, a), omega (arith, a))) p)
      (leaves_is q o t round at u)

  was : (u : ℕ) → In after o u → (In q o u) × (u ≡ t → ⊥)
  was u a = (
    ⊎_elim (λ p. absurd (omega (arith, p, a)))
        (λ p. ⊎_elim (λ x. (omega (arith, a, at), omega (arith, a, at))) (λ x. (omega (arith, a), omega (arith, a))) p)
        (leaves_is q o t round at u),
    (λ e. ⊎_elim (λ p. omega (arith, p, a))
        (λ p. let d : get_or q u 0 ≡ get_or q t 0 = ap (λ (v : ℕ). get_or q v 0) e in
        ⊎_elim (λ x. omega arith) (λ x. ⊎_elim (λ w. omega arith) (λ w. omega (arith, w, at, d)) x.0) p)
        (leaves_is q o t round at u)),
  )

  leaves_here : queue_above after o ≡ without t (queue_above q o)
  leaves_here =
      same_list (λ u. get_or after u 0) (queue_above after o) (without t (queue_above q o))
      (queue_rising after o)
      (along_turn (λ x u. get_or q x 0 < get_or q u 0) (λ x u. get_or after x 0 < get_or after u 0) (without t (queue_above q o))
      (λ u v h k l. let a = has-without t u (queue_above q o) h in
      let b = has-without t v (queue_above q o) k in
      order u v (queue_says q o u a.0) (queue_says q o v b.0) b.1 l a.1)
      (along_keep (λ x. not (eqb x t)) (λ x u. get_or q x 0 < get_or q u 0) (queue_above q o) (queue_rising q o)))
      (λ u h. let a = was u (queue_says after o u h) in
      without-has t u (queue_above q o) (queue_has q o (standing q o) rule.tasks (rule.seated o round) u a.0) a.1)
      (λ u h. let a = has-without t u (queue_above q o) h in
      queue_has after o (standing after o) kept.tasks (kept.seated o round) u (stays u a.1 (queue_says q o u a.0)))

  -- and every other queue
  leaves_other : (m : ℕ) → m % 64 ≡ 0 → (m ≡ o → ⊥) → queue_above after m ≡ without t (queue_above q m)
  leaves_other m level ne =
      untouched_queue q after m (standing q m) rule.tasks (rule.seated m level) kept.tasks
      (leaves_others q o t round at m level ne (standing q m) rule.tasks (rule.seated m level))
      (leaves_untouched q o t round at m level ne)
      ∙ sym (without_none t (queue_above q m) (λ h. let b : In q m t = queue_says q m t h in ne (omega (arith, b, at, round, level))))

-- whoever leaves, wherever it stands, as long as no queue has its seats below 63
module _ (q : List ℕ) (rule : AllSeated q) (none : (u : ℕ) → In q 0 u → ⊥) (t : ℕ) where
  pub leaves_above : (base : ℕ) → base % 64 ≡ 0 → queue_above (leaves q t) base ≡ without t (queue_above q base)
  leaves_above base level =
      ⊎_elim
      (λ l. let at : In q (get_or q t 0 / 64 * 64) t = stands_in_lem q rule t l in
      let round : get_or q t 0 / 64 * 64 % 64 ≡ 0 = omega arith in
      ⊎_elim
      (λ e. subst (λ (o : ℕ). queue_above (leaves q t) o ≡ without t (queue_above q o)) (sym e)
      (leaves_here q rule (get_or q t 0 / 64 * 64) t round at))
      (λ ne. leaves_other q rule (get_or q t 0 / 64 * 64) t round at base level ne)
      (eq_or_not base (get_or q t 0 / 64 * 64)))
      (λ l. ap (λ (r : List ℕ). queue_above r base) (leaves_nowhere q t (omega arith) none)
      ∙ sym (without_none t (queue_above q base) (λ h. let b : In q base t = queue_says q base t h in omega (arith, b, l))))
      (lt_or_le 0 (get_or q t 0))

  pub leaves-queue : (i : ℕ) → queue (leaves q t) i ≡ without t (queue q i)
  unfolding queue
  leaves-queue i = leaves_above (queue_seats i) (omega arith)

  ready_below_lem : (p : ℕ) → ready_below (leaves q t) p ≡ without t (ready_below q p)
  ready_below_lem zero = refl
  ready_below_lem (suc p) =
      ap (λ (l : List ℕ). l ++ ready_below (leaves q t) p) (leaves_above (ring_seats p) (omega arith))
      ∙ ap (λ (l : List ℕ). without t (queue_above q (ring_seats p)) ++ l) (ready_below_lem p)
      ∙ sym (keep_append (λ x. not (eqb x t)) (queue_above q (ring_seats p)) (ready_below q p))

  pub leaves_order : ready_order (leaves q t) ≡ without t (ready_order q)
  unfolding ready_order
  leaves_order = ready_below_lem 16
