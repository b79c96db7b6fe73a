-- Keys never rise along a queue just if nobody has a greater one than who sits directly ahead: by steps of one place.
-- Assumes nothing.
use Prim.Native.Nat.{ℕ, zero, suc, ◌+◌, ◌-◌, ◌≤◌, ◌<◌}
use native.Mathlib.Omega.{arith}
use mathlib.Core.Path.{◌≡◌, subst, ap, ◌∙◌}
use mathlib.Core.List.{List}
use lib.ListN.{length, get_or}
use Rattle.scope.specs.Seats.{on_seat}
use Rattle.laws.specs.Seating.{In, Seated, Sorted}
use Rattle.laws.proofs.Seats.First.{on_seat_lem, on_seat_hit, on_seat_is}

-- nobody in the queue has a greater key than who sits directly ahead
abbrev pub Steps : List ℕ → List ℕ → ℕ → Type 0
Steps q key o = (t : ℕ) → In q o t → o + 1 < get_or q t 0 → get_or key t 0 ≤ get_or key (on_seat q (get_or q t 0 - 1)) 0

module _ (q key : List ℕ) (o n : ℕ) (long : length q ≡ 32) (rule : Seated q o n) where
  -- who sits directly ahead
  ahead_is : (t : ℕ) → In q o t → o + 1 < get_or q t 0 → get_or q (on_seat q (get_or q t 0 - 1)) 0 + 1 ≡ get_or q t 0
  ahead_is t at h =
      let f : (u : ℕ) × (get_or q u 0 ≡ o + (get_or q t 0 - 1 - o)) =
      rule.full (get_or q t 0 - 1 - o) (omega arith) (omega (arith, rule.small t at)) in
      let e : get_or q (on_seat q (get_or q t 0 - 1)) 0 ≡ get_or q t 0 - 1 =
      on_seat_lem q (get_or q t 0 - 1) (on_seat_hit q (get_or q t 0 - 1) f.0 long (omega arith) (f.1 ∙ omega arith)) in
      omega (arith, e)

  pub steps_from_sorted : Sorted q key o → Steps q key o
  steps_from_sorted order t at h =
      let e : get_or q (on_seat q (get_or q t 0 - 1)) 0 + 1 ≡ get_or q t 0 = ahead_is t at h in
      order.falls (on_seat q (get_or q t 0 - 1)) t (omega arith, omega arith) at (omega arith)

  module _ (steps : Steps q key o) where
    chain : (j t u : ℕ) → In q o t → In q o u → get_or q u 0 ≡ get_or q t 0 + (j + 1) → get_or key u 0 ≤ get_or key t 0
    chain zero t u a b e =
        let d : on_seat q (get_or q u 0 - 1) ≡ t = ap (on_seat q) (omega arith) ∙ on_seat_is q o n t long rule a in
        subst (λ (v : ℕ). get_or key u 0 ≤ get_or key v 0) d (steps u b (omega arith))
    chain (suc j) t u a b e =
        let h : o + 1 < get_or q u 0 = omega arith in
        let d : get_or q (on_seat q (get_or q u 0 - 1)) 0 + 1 ≡ get_or q u 0 = ahead_is u b h in
        omega (arith, steps u b h, chain j t (on_seat q (get_or q u 0 - 1)) a (omega arith, omega arith) (omega arith))

    pub sorted_from_steps : Sorted q key o
    sorted_from_steps = record { falls = λ t u a b l. chain (get_or q u 0 - get_or q t 0 - 1) t u a b (omega arith) }
