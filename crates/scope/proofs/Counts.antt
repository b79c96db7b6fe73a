-- A number with a sign: what x less y is where x is below y and where it is not, that as much more on both sides changes nothing,
-- and that the rule of counts asks of the units what it says of the count.
-- Assumes nothing.
use Prim.Native.Nat.{ℕ, ◌+◌, ◌-◌, ◌≤◌, ◌<◌}
use native.Mathlib.Omega.{arith}
use native.Mathlib.Nat.{add_comm, eq-zero-or-pos}
use mathlib.Core.Path.{◌≡◌, refl, sym, ap, ◌∙◌}
use mathlib.Core.Logic.{⊎_elim}
use mathlib.Core.Bool.{Bool, true, false, ◌&&◌}
use lib.Dec.{leb, eqb}
use borrow.Author.Tests.{ltb-true, ltb-false, leb-true, lt-ltb, le-ltb, le-leb, eqb-true, eq-eqb, ne_eqb}
use Rattle.scope.specs.Choice.{pick}
use Rattle.scope.specs.Views.{Signed, less}
use Rattle.scope.specs.Semaphores.{last_count}
use Rattle.scope.specs.Rules.{count_right}

abbrev pub minus : ℕ → Signed
minus n = record { negative = true; size = n }

abbrev pub natural : ℕ → Signed
natural n = record { negative = false; size = n }

-- what it is, by which of the two is greater
module _ (x y n : ℕ) where
  pub less_below : x < y → x + n ≡ y → less x y ≡ minus n
  unfolding less pick
  less_below h e = let d : y - x ≡ n = omega arith in rw (lt-ltb x y h, d)

  pub less_above : y + n ≡ x → less x y ≡ natural n
  unfolding less pick
  less_above e = let d : x - y ≡ n = omega arith in rw (le-ltb x y (omega arith), d)

-- and back
module _ (x y : ℕ) where
  pub less-negative : (less x y).negative ≡ true → (x < y) × (x + (less x y).size ≡ y)
  unfolding less pick
  less-negative e = let h : x < y = ltb-true x y e in (h, rw e (omega arith))

  pub less_not_negative : (less x y).negative ≡ false → y + (less x y).size ≡ x
  unfolding less pick
  less_not_negative e = let h : y ≤ x = ltb-false x y e in rw e (omega arith)

-- as much more on both sides
pub less_more : (x y n : ℕ) → less (x + n) (y + n) ≡ less x y
less_more x y n =
    ⊎_elim (λ z. less_above (x + n) (y + n) (x - y) (omega arith) ∙ sym (less_above x y (x - y) (omega arith)))
    (λ p. less_below (x + n) (y + n) (y - x) (omega arith) (omega arith) ∙ sym (less_below x y (y - x) (omega arith) (omega arith)))
    (eq-zero-or-pos (y - x))

-- one more, and one less
abbrev pub plus_one : Signed → Signed
plus_one c = pick c.negative (less 1 c.size) (natural (c.size + 1))

abbrev pub less_one : Signed → Signed
less_one c = pick c.negative (minus (c.size + 1)) (less c.size 1)

-- a unit more
pub unit_more : (x y : ℕ) → less (x + 1) y ≡ plus_one (less x y)
unfolding pick
unit_more x y =
    ⊎_elim (λ z. less_above (x + 1) y (x - y + 1) (omega arith) ∙ rw (less_above x y (x - y) (omega arith)))
    (λ h. let d : y - x + x ≡ y = omega arith in
    rw (less_below x y (y - x) (omega arith) (omega arith), ← less_more 1 (y - x) x, d) (ap (λ (v : ℕ). less v y) (add_comm x 1)))
    (eq-zero-or-pos (y - x))

-- a waiter more
pub waiter_more : (x y : ℕ) → less x (y + 1) ≡ less_one (less x y)
unfolding pick
waiter_more x y =
    ⊎_elim
    (λ z. let d : x - y + y ≡ x = omega arith in
    rw (less_above x y (x - y) (omega arith), ← less_more (x - y) 1 y, d) (ap (λ (v : ℕ). less x v) (add_comm y 1)))
    (λ h. less_below x (y + 1) (y - x + 1) (omega arith) (omega arith) ∙ rw (less_below x y (y - x) (omega arith) (omega arith)))
    (eq-zero-or-pos (y - x))

-- a waiter less, and a unit less
pub waiter_less : (x y z : ℕ) → z + 1 ≡ y → less x z ≡ plus_one (less x y)
waiter_less x y z e = sym (less_more x z 1) ∙ ap (λ (v : ℕ). less (x + 1) v) e ∙ unit_more x y

pub unit_less : (x y z : ℕ) → z + 1 ≡ x → less z y ≡ less_one (less x y)
unit_less x y z e = sym (less_more z y 1) ∙ ap (λ (v : ℕ). less v (y + 1)) e ∙ waiter_more x y

-- the rule, of a queue of n tasks and u units: where tasks wait, and where none does
module _ (n u : ℕ) where
  pub right_waiting : 0 < n → eqb u 0 ≡ count_right n (less u n)
  unfolding count_right pick
  right_waiting h = rw (lt-ltb 0 n h) (⊎_elim zero (λ p. ne_eqb u 0 (λ z. omega arith) ∙ sym (go (less u n).negative refl p)) (eq-zero-or-pos u))
    where
      zero : u ≡ 0 → eqb u 0 ≡ ((less u n).negative && eqb (less u n).size n)
      zero z = rw (less_below u n n (omega arith) (omega arith)) (eq-eqb u 0 z ∙ sym (eq-eqb n n refl))

      go : (b : Bool) → (less u n).negative ≡ b → 0 < u → (b && eqb (less u n).size n) ≡ false
      go true e p = let l = less-negative u n e in ne_eqb (less u n).size n (λ d. omega arith)
      go false e p = refl

  pub right_free : n ≤ 0 → leb u last_count ≡ count_right n (less u n)
  unfolding count_right pick
  right_free h = rw (le-ltb 0 n h, less_above u n u (omega arith))

  pub right_says : count_right n (less u n) ≡ true → (u ≤ last_count) × (0 < n → u ≡ 0)
  right_says e =
      ⊎_elim (λ z. (leb-true u last_count (right_free (omega arith) ∙ e), λ h. absurd (omega arith)))
      (λ h. let z : u ≡ 0 = eqb-true u 0 (right_waiting h ∙ e) in (omega arith, λ g. z))
      (eq-zero-or-pos n)

  pub says_right : u ≤ last_count → (0 < n → u ≡ 0) → count_right n (less u n) ≡ true
  says_right l f =
      ⊎_elim (λ z. sym (right_free (omega arith)) ∙ le-leb u last_count l) (λ h. sym (right_waiting h) ∙ eq-eqb u 0 (f h)) (eq-zero-or-pos n)
