-- The mask of the rings, one change at a time, in any state: a ring that gets a task has its bit, one that is empty has not, every
-- other bit stays, and who runs is the first of the highest ring that the mask names.
-- Assumes nothing.
use Prim.Native.Nat.{ℕ, suc, ◌-◌, ◌^◌, ◌≤◌, ◌<◌}
use native.Mathlib.Omega.{arith}
use native.Mathlib.Nat.{eq-or-lt_of_le, eq-zero-or-pos}
use mathlib.Core.Path.{◌≡◌, refl, sym, subst, ap, ◌∙◌}
use mathlib.Core.Logic.{◌⊎◌, inl, inr, ⊎_elim}
use mathlib.Core.Bool.{Bool, true, false, not}
use mathlib.Core.List.{List}
use lib.Dec.{T, ltb, eqb}
use lib.Pow.{pow_pos, pow_mono}
use lib.Count.{leading_top}
use borrow.Author.Tests.{ltb-true, ltb-false, eqb-true, not-true}
use Rattle.scope.specs.Choice.{pick, has_bit}
use Rattle.scope.specs.Areas.{is_out, is_free}
use Rattle.scope.specs.Seats.{ring_seats, first_standing, ring_of, holds_task, mask_filled, mask_emptied, mask_left, most_urgent, runner_of}
use Rattle.scope.proofs.Marks.{take_same, take_other, back_same, back_other}

-- a choice by a test that is known
chosen : {A : Type 0} (b : Bool) (x y : A) (P : A → Type 0) → (b ≡ true → P x) → (b ≡ false → P y) → P (pick b x y)
unfolding pick
chosen true x y P f g = f refl
chosen false x y P f g = g refl

-- "a mask of rings that hold a task": a ring that gets a task is in it, and every other is as it was
pub filled_here : (mask p : ℕ) → p < 16 → has_bit (mask_filled mask p) p ≡ true
unfolding mask_filled is_free is_out
filled_here mask p h =
    chosen (ltb p 16) _ _ (λ x. has_bit x p ≡ true)
    (λ y. chosen (has_bit mask p) _ _ (λ x. has_bit x p ≡ true) (λ e. e) (λ e. take_same mask p (ap not e)))
    (λ n. absurd (omega (arith, h, ltb-false p 16 n)))

pub filled_other : (mask p k : ℕ) → (k ≡ p → ⊥) → has_bit (mask_filled mask p) k ≡ has_bit mask k
unfolding mask_filled is_free is_out
filled_other mask p k ne =
    chosen (ltb p 16) _ _ (λ x. has_bit x k ≡ has_bit mask k)
    (λ h. chosen (has_bit mask p) _ _ (λ x. has_bit x k ≡ has_bit mask k) (λ e. refl) (λ e. take_other mask p (ap not e) k ne))
    (λ h. refl)

-- one that lost its last task is not
pub emptied_here : (mask p : ℕ) → has_bit (mask_emptied mask p) p ≡ false
unfolding mask_emptied is_free is_out
emptied_here mask p =
    chosen (has_bit mask p) _ _ (λ x. has_bit x p ≡ false) (λ e. not-true _ (back_same mask p e)) (λ e. e)

pub emptied_other : (mask p k : ℕ) → (k ≡ p → ⊥) → has_bit (mask_emptied mask p) k ≡ has_bit mask k
unfolding mask_emptied is_out
emptied_other mask p k ne =
    chosen (has_bit mask p) _ _ (λ x. has_bit x k ≡ has_bit mask k) (λ e. back_other mask p e k ne) (λ e. refl)

-- a seat of a ring is left, and nobody is left there
pub left_empty : (mask : ℕ) (q : List ℕ) (x : ℕ) → 2048 ≤ x → holds_task q (ring_of x) ≡ false → has_bit (mask_left mask q x) (ring_of x) ≡ false
unfolding mask_left
left_empty mask q x h e =
    chosen (ltb x 2048) _ _ (λ y. has_bit y (ring_of x) ≡ false)
    (λ l. absurd (omega (arith, h, ltb-true x 2048 l)))
    (λ l. chosen (holds_task q (ring_of x)) _ _ (λ y. has_bit y (ring_of x) ≡ false)
    (λ some. absurd (subst T (sym some ∙ e) tt))
    (λ none. emptied_here mask (ring_of x)))

-- "the most urgent priority is found by the leading zeros of the mask": who runs is the first of the ring whose bit is the highest
pub urgent_runs : (q : List ℕ) (mask p : ℕ) → p < 16 → 2 ^ p ≤ mask → mask < 2 ^ suc p → runner_of q mask ≡ first_standing q (ring_seats p)
unfolding runner_of
urgent_runs q mask p h low high =
    let pos : 0 < mask = omega (arith, low, pow_pos p) in
    let top : 2 ^ suc p ≤ 2 ^ 16 = pow_mono {j = 16} h in
    let t = leading_top 16 mask pos (omega (arith, high, top)) in
    let same : t.0 ≡ p =
    ⊎_elim
    (λ l. absurd (omega (arith, t.3, low, pow_mono {i = suc t.0} {j = p} l)))
    (λ l. ⊎_elim sym
    (λ g. absurd (omega (arith, t.2, high, pow_mono {i = suc p} {j = t.0} g)))
    (eq-or-lt_of_le {n = p} {m = t.0} l))
    (split t.0 p) in
    let e : most_urgent mask ≡ p = omega (arith, t.1, same) in
    chosen (eqb mask 0) _ _ (λ r. r ≡ first_standing q (ring_seats p)) (λ z. absurd (omega (arith, pos, eqb-true mask 0 z)))
    (λ n. ap (λ (k : ℕ). first_standing q (ring_seats k)) e)
  where
    split : (a b : ℕ) → (a < b) ⊎ (b ≤ a)
    split a b = ⊎_elim (λ z. inr (omega arith)) (λ z. inl (omega arith)) (eq-zero-or-pos (b - a))
