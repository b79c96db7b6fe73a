-- Where seats say queues, the list of a queue holds just those who stand in it, each once, in order of seats; its length is their
-- number. By induction on the places.
-- Assumes nothing.
use Prim.Native.Nat.{ℕ, zero, suc, ◌+◌, ◌≤◌, ◌<◌}
use native.Mathlib.Omega.{arith}
use native.Mathlib.Nat.{eq-or-lt_of_le}
use mathlib.Core.Path.{◌≡◌, refl, sym, subst, ap, ◌∙◌}
use mathlib.Core.Logic.{⊎_elim}
use mathlib.Core.Bool.{Bool, true, false}
use mathlib.Core.List.{List, [], ◌∷◌}
use lib.ListN.{length, get_or}
use borrow.Author.Tests.{lt-ltb, le-ltb}
use Rattle.scope.specs.Lists.{has}
use Rattle.scope.specs.Seats.{on_seat, tasks_from}
use Rattle.laws.proofs.Branches.{true-false, lt_or_le}
use Rattle.laws.specs.Seating.{In, Seated}
use Rattle.laws.proofs.Seats.Counting.{seated_le}
use Rattle.laws.proofs.Seats.First.{on_seat_lem, on_seat_hit, on_seat_is}
use Rattle.lists.specs.Along.{Once, queue_above}
use Rattle.lists.proofs.Plain.{Rising, has_head, has_tail, has_says, along_turn}

-- the list of the tasks on seats base + k, base + k + 1, .., by who sits on the first of these
module _ (q : List ℕ) (base : ℕ) where
  pub from_yes : (n k : ℕ) → on_seat q (base + k) < 32 → tasks_from q base (suc n) k ≡ on_seat q (base + k) ∷ tasks_from q base n (suc k)
  from_yes n k h =
      ap (λ (b : Bool). elim b as (λ x. List ℕ) [ true ↦ on_seat q (base + k) ∷ tasks_from q base n (suc k) | false ↦ [] ]) (lt-ltb _ _ h)

  pub from_no : (n k : ℕ) → 32 ≤ on_seat q (base + k) → tasks_from q base (suc n) k ≡ []
  from_no n k h =
      ap (λ (b : Bool). elim b as (λ x. List ℕ) [ true ↦ on_seat q (base + k) ∷ tasks_from q base n (suc k) | false ↦ [] ]) (le-ltb (on_seat q (base + k)) 32 h)

  from_says : (n k t : ℕ) → has (tasks_from q base n k) t ≡ true → (t < 32) × (base + k ≤ get_or q t 0) × (get_or q t 0 < base + k + n)
  from_says zero k t h = absurd (true-false h refl)
  from_says (suc n) k t h =
      ⊎_elim
      (λ l. ⊎_elim
      (λ e. let s : get_or q t 0 ≡ base + k = sym (ap (λ (v : ℕ). get_or q v 0) e) ∙ on_seat_lem q (base + k) l in
      (subst (λ (v : ℕ). v < 32) e l, omega arith, omega arith))
      (λ m. let r = from_says n (suc k) t m in (r.0, omega (arith, r.1), omega (arith, r.2)))
      (has_says (on_seat q (base + k)) t (tasks_from q base n (suc k)) (subst (λ (l : List ℕ). has l t ≡ true) (from_yes n k l) h)))
      (λ l. absurd (true-false (subst (λ (l : List ℕ). has l t ≡ true) (from_no n k l) h) refl))
      (lt_or_le (on_seat q (base + k)) 32)

  from_rising : (n k : ℕ) → Rising (λ t. get_or q t 0) (tasks_from q base n k)
  from_rising zero k = tt
  from_rising (suc n) k =
      ⊎_elim
      (λ l. subst (λ (l : List ℕ). Rising (λ t. get_or q t 0) l) (sym (from_yes n k l)) (
        (λ u h. omega (arith, on_seat_lem q (base + k) l, (from_says n (suc k) u h).1)),
        from_rising n (suc k),
      ))
      (λ l. subst (λ (l : List ℕ). Rising (λ t. get_or q t 0) l) (sym (from_no n k l)) tt)
      (lt_or_le (on_seat q (base + k)) 32)

  -- its order is the order of seats
  pub queue_rising : Rising (λ t. get_or q t 0) (queue_above q base)
  queue_rising = from_rising 32 1

  -- each stands there once
  pub queue_once : Once (queue_above q base)
  queue_once =
      along_turn (λ x u. get_or q x 0 < get_or q u 0) (λ x u. x ≡ u → ⊥) (queue_above q base)
      (λ u v h k l e. omega (arith, l, ap (λ (w : ℕ). get_or q w 0) e))
      queue_rising

  -- who is on the list is a task that stands in the queue
  pub queue_says : (t : ℕ) → has (queue_above q base) t ≡ true → In q base t
  queue_says t h = let r = from_says 32 1 t h in (omega (arith, r.1), omega (arith, r.2))

  pub queue_below : (t : ℕ) → has (queue_above q base) t ≡ true → t < 32
  queue_below t h = (from_says 32 1 t h).0

  module _ (m : ℕ) (long : length q ≡ 32) (rule : Seated q base m) where
    taken : (k : ℕ) → 0 < k → k ≤ m → on_seat q (base + k) < 32
    taken k a b = let f = rule.full k a b in on_seat_hit q (base + k) f.0 long (omega arith) f.1

    from_has : (n k t : ℕ) → 0 < k → In q base t → base + k ≤ get_or q t 0 → get_or q t 0 < base + k + n → has (tasks_from q base n k) t ≡ true
    from_has zero k t pos at lo hi = absurd (omega arith)
    from_has (suc n) k t pos at lo hi =
        subst (λ (l : List ℕ). has l t ≡ true) (sym (from_yes n k (taken k pos (omega (arith, rule.small t at)))))
        (⊎_elim
        (λ e. let d : on_seat q (base + k) ≡ t = ap (on_seat q) e ∙ on_seat_is q base m t long rule at in
        subst (λ (v : ℕ). has (on_seat q (base + k) ∷ tasks_from q base n (suc k)) v ≡ true) d (has_head (on_seat q (base + k)) (tasks_from q base n (suc k))))
        (λ l. has_tail (on_seat q (base + k)) t (tasks_from q base n (suc k)) (from_has n (suc k) t (omega arith) at (omega arith) (omega arith)))
        (eq-or-lt_of_le lo))

    from_length : (n k : ℕ) → 0 < k → k ≤ m + 1 → m < k + n → length (tasks_from q base n k) + k ≡ m + 1
    from_length zero k pos a b = omega arith
    from_length (suc n) k pos a b =
        ⊎_elim
        (λ l. omega (arith, ap length (from_yes n k (taken k pos (omega arith))), from_length n (suc k) (omega arith) (omega arith) (omega arith)))
        (λ l. let free : 32 ≤ on_seat q (base + k) =
        ⊎_elim
        (λ g. let e : get_or q (on_seat q (base + k)) 0 ≡ base + k = on_seat_lem q (base + k) g in
        absurd (omega (arith, e, seated_le q base m long rule, rule.small (on_seat q (base + k)) (omega arith, omega (arith, seated_le q base m long rule)))))
        (λ g. g)
        (lt_or_le (on_seat q (base + k)) 32) in
        omega (arith, ap length (from_no n k free)))
        (lt_or_le k (m + 1))

    -- and everybody who stands in the queue is on the list
    pub queue_has : (t : ℕ) → In q base t → has (queue_above q base) t ≡ true
    queue_has t at = from_has 32 1 t (omega arith) at (omega arith) (omega (arith, rule.small t at, seated_le q base m long rule))

    pub queue_length : length (queue_above q base) ≡ m
    queue_length = omega (arith, from_length 32 1 (omega arith) (omega arith) (omega (arith, seated_le q base m long rule)))
