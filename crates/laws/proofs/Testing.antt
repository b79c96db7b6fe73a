-- A loop that tests without stopping holds the test of all that it passed.
-- Assumes nothing.
use Prim.Native.Nat.{ℕ, ◌+◌, ◌≤◌, ◌<◌}
use native.Mathlib.Omega.{arith}
use native.Mathlib.Numerals.{add-one}
use mathlib.Core.Path.{◌≡◌, refl}
use mathlib.Core.Bool.{Bool, true, false, ◌&&◌}
use Rattle.scope.specs.Choice.{every}
use Rattle.laws.proofs.Arrays.{at_end_lem}

-- a loop over the numbers below n that tests them all, and does not stop at one that fails
pub record Testing (n : ℕ) (p : ℕ → Bool) (ok : Bool) (t : ℕ) : Type 0 where
  pub upto : t ≤ n
  pub sofar : ok ≡ every p t

pub every_more : (p : ℕ → Bool) (t : ℕ) → (p t && every p t) ≡ every p (t + 1)
unfolding every
every_more p t = rw (add-one t, every) (go (p t))
  where
    go : (b : Bool) → (b && every p t) ≡ elim b as (λ x. Bool) [ true ↦ every p t | false ↦ false ]
    go true = refl
    go false = refl

pub testing_start : (n : ℕ) (p : ℕ → Bool) → Testing n p true 0
unfolding every
testing_start n p = record { upto = omega arith; sofar = refl }

pub testing_more : {n : ℕ} {p : ℕ → Bool} {ok : Bool} {t : ℕ} {here : Bool} → Testing n p ok t → t < n → here ≡ p t → Testing n p (here && ok) (t + 1)
testing_more {n} {p} {ok} {t} m h e = record { upto = omega arith; sofar = rw (e, m.sofar) (every_more p t) }

pub testing_done : {n : ℕ} {p : ℕ → Bool} {ok : Bool} {t : ℕ} → Testing n p ok t → n ≤ t → ok ≡ every p n
testing_done {n} {p} {ok} {t} m h = at_end_lem (λ (x : ℕ). ok ≡ every p x) n t m.upto h m.sofar
