-- Who is first: the first of a queue sits on its first seat, all others come forward when it leaves, and who runs is the first
-- of the highest ring in use.
-- Assumes nothing.
use Prim.Native.Nat.{ℕ, ◌+◌, ◌-◌, ◌%◌, ◌≤◌, ◌<◌}
use native.Mathlib.Omega.{arith}
use native.Mathlib.Nat.{eq-or-lt_of_le}
use mathlib.Core.Path.{◌≡◌, refl, sym, ap, ◌∙◌}
use mathlib.Core.Logic.{◌⊎◌, ⊎_elim}
use mathlib.Core.Bool.{true, false}
use mathlib.Core.List.{List}
use lib.ListN.{length, get_or}
use lib.Dec.{ltb}
use borrow.Author.Tests.{ltb-true, ltb-false, eqb-true, eq-eqb, ne_eqb, lt-ltb, le-ltb}
use Rattle.laws.proofs.Branches.{picked_yes, picked_no, lt_or_le, eq_or_not, true-false, true_or_false}
use Rattle.laws.proofs.Bits.{bits_none, bits-zero, bits_top, Greatest}
use Rattle.laws.proofs.Searches.{least-true, least_upto, least-le}
use Rattle.laws.proofs.Arrays.{inside}
use Rattle.scope.specs.Choice.{bits}
use Rattle.scope.specs.Seats.{is_on, on_seat, first_standing, leaves, ring_seats, holds_task, ring_mask, most_urgent, runner_of}
use Rattle.laws.specs.Seating.{In, Seated, AllSeated, Runs}
use Rattle.laws.proofs.Seats.Leaving.{leaves_behind}

-- the task found sits on the seat
pub on_seat_lem : (q : List ℕ) (x : ℕ) → on_seat q x < 32 → get_or q (on_seat q x) 0 ≡ x
unfolding on_seat
on_seat_lem q x h = eqb-true (get_or q (on_seat q x) 0) x (least-true (is_on q x) 32 h)

pub on_seat_le : (q : List ℕ) (x : ℕ) → on_seat q x ≤ 32
unfolding on_seat
on_seat_le q x = least-le (is_on q x) 32

-- a search that finds nobody
pub on_seat_none : (q : List ℕ) (x : ℕ) → ltb (on_seat q x) 32 ≡ false → 32 ≡ on_seat q x
on_seat_none q x e = omega (arith, ltb-false (on_seat q x) 32 e, on_seat_le q x)

-- where one sits there, one is found
pub on_seat_hit : (q : List ℕ) (x t : ℕ) → length q ≡ 32 → 0 < x → get_or q t 0 ≡ x → on_seat q x < 32
unfolding on_seat
on_seat_hit q x t long pos e =
    omega (arith, inside 32 q t long (λ z. omega arith), least_upto (is_on q x) 32 t (eq-eqb (get_or q t 0) x e))

-- and it is that one
pub on_seat_is : (q : List ℕ) (o n t : ℕ) → length q ≡ 32 → Seated q o n → In q o t → on_seat q (get_or q t 0) ≡ t
on_seat_is q o n t long rule at =
    let e : get_or q t 0 ≡ get_or q (on_seat q (get_or q t 0)) 0 =
    sym (on_seat_lem q (get_or q t 0) (on_seat_hit q (get_or q t 0) t long (omega arith) refl)) in
    sym (rule.once t (on_seat q (get_or q t 0)) at e)

-- the first of a queue
module _ (q : List ℕ) (o n : ℕ) (long : length q ≡ 32) (rule : Seated q o n) where
  pub first_is : 0 < n → (first_standing q o < 32) × (get_or q (first_standing q o) 0 ≡ o + 1)
  first_is h =
      let f : (t : ℕ) × (get_or q t 0 ≡ o + 1) = rule.full 1 (omega arith) h in
      let l : first_standing q o < 32 = on_seat_hit q (o + 1) f.0 long (omega arith) f.1 in
      (l, on_seat_lem q (o + 1) l)

  pub first_has : first_standing q o < 32 → 0 < n
  first_has h =
      let e : get_or q (first_standing q o) 0 ≡ o + 1 = on_seat_lem q (o + 1) h in
      omega (arith, e, rule.small (first_standing q o) (omega arith, omega arith))

  pub first_none : n ≡ 0 → first_standing q o ≡ 32
  first_none z =
      ⊎_elim (λ h. absurd (omega (arith, first_has h))) (λ h. omega (arith, on_seat_le q (o + 1))) (lt_or_le (first_standing q o) 32)

  pub first_test : ltb (first_standing q o) 32 ≡ ltb 0 n
  first_test =
      ⊎_elim (λ h. lt-ltb _ _ (first_is h).0 ∙ sym (lt-ltb _ _ h))
      (λ h. le-ltb (first_standing q o) 32 (omega (arith, first_none (omega arith))) ∙ sym (le-ltb _ _ h))
      (lt_or_le 0 n)

  -- when it leaves, every other stands exactly one place further forward
  pub first_leaves_lem : o % 64 ≡ 0 → first_standing q o < 32 → (u : ℕ) → In q o u → (u ≡ first_standing q o → ⊥)
      → get_or (leaves q (first_standing q o)) u 0 + 1 ≡ get_or q u 0
  first_leaves_lem round h u at ne =
      let e : get_or q (first_standing q o) 0 ≡ o + 1 = on_seat_lem q (o + 1) h in
      leaves_behind q o (first_standing q o) round (omega arith, omega arith) u
      (⊎_elim
      (λ d. absurd (ne (rule.once u (first_standing q o) at (sym d))))
      (λ l. l)
      (eq-or-lt_of_le {n = get_or q (first_standing q o) 0} {m = get_or q u 0} (omega arith)))
      at.1

-- who runs, by a mask that is the seats'
runner_nobody : (q : List ℕ) (mask : ℕ) → mask ≡ 0 → runner_of q mask ≡ 32
unfolding runner_of
runner_nobody q mask z = picked_yes _ _ _ (eq-eqb _ _ z)

runner_first : (q : List ℕ) (mask : ℕ) → (mask ≡ 0 → ⊥) → runner_of q mask ≡ first_standing q (ring_seats (most_urgent mask))
unfolding runner_of
runner_first q mask ne = picked_no _ _ _ (ne_eqb _ _ ne)

-- whatever the mask says, who runs sits in a ring
pub runner_ring : (q : List ℕ) (mask : ℕ) → runner_of q mask < 32 → 2048 ≤ get_or q (runner_of q mask) 0
runner_ring q mask h =
    ⊎_elim
    (λ z. absurd (omega (arith, h, runner_nobody q mask z)))
    (λ ne. let x : ℕ = ring_seats (most_urgent mask) + 1 in
    let e : runner_of q mask ≡ on_seat q x = runner_first q mask ne in
    omega (arith, on_seat_lem q x (omega (arith, h, e)), ap (λ (v : ℕ). get_or q v 0) e))
    (eq_or_not mask 0)

-- where somebody is on the first seat of a ring, it holds a task
holds_yes : (q : List ℕ) (t p : ℕ) → length q ≡ 32 → get_or q t 0 ≡ ring_seats p + 1 → holds_task q p ≡ true
unfolding holds_task
holds_yes q t p long e = lt-ltb _ _ (on_seat_hit q (ring_seats p + 1) t long (omega arith) e)

holds_says : (q : List ℕ) (p : ℕ) → holds_task q p ≡ true → get_or q (first_standing q (ring_seats p)) 0 ≡ ring_seats p + 1
unfolding holds_task
holds_says q p e = on_seat_lem q (ring_seats p + 1) (ltb-true _ _ e)

-- where nobody stands in a ring, nobody runs
pub runner_none : (q : List ℕ) → ((u : ℕ) → get_or q u 0 < 2048) → runner_of q (ring_mask q) ≡ 32
unfolding ring_mask
runner_none q low =
    runner_nobody q (bits (holds_task q) 16)
    (bits-zero (holds_task q) 16
    (λ p h. ⊎_elim (λ e. absurd (omega (arith, holds_says q p e, low (first_standing q (ring_seats p))))) (λ e. e) (true_or_false (holds_task q p))))

module _ (q : List ℕ) (rule : AllSeated q) where
  -- where seats say queues, the first of the highest ring in use is the one that the leading zeros of the mask name
  pub runs_runner : (t p : ℕ) → p < 16 → Runs q t p → runner_of q (ring_mask q) ≡ t
  unfolding ring_mask
  runs_runner t p small runs =
      let s : get_or q t 0 ≡ ring_seats p + 1 = runs.first in
      let mask : ℕ = bits (holds_task q) 16 in
      let here : holds_task q p ≡ true = holds_yes q t p rule.tasks s in
      let some : mask ≡ 0 → ⊥ = λ z. true-false here (bits_none (holds_task q) 16 z p small) in
      let top : Greatest (holds_task q) 16 (most_urgent mask) = bits_top (holds_task q) 16 some in
      let up : p ≤ most_urgent mask =
      ⊎_elim (λ l. absurd (true-false here (top.none p l small))) (λ l. l) (lt_or_le (most_urgent mask) p) in
      let g : ℕ = most_urgent mask in
      let down : g ≤ p = omega (arith, holds_says q g top.passes, runs.highest (first_standing q (ring_seats g))) in
      let e : ring_seats g + 1 ≡ get_or q t 0 = omega arith in
      runner_first q mask some ∙ ap (on_seat q) e
      ∙ on_seat_is q (ring_seats p) _ t rule.tasks (rule.seated (ring_seats p) (omega arith)) (omega arith, omega arith)
