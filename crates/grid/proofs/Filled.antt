-- Where no record is refused, each counts once in its own cell, "stopping at 65,535": record after record.
-- Assumes nothing.
use Prim.Native.Nat.{ℕ, ◌+◌, ◌≤◌, ◌<◌}
use native.Mathlib.Omega.{arith}
use mathlib.Core.Path.{◌≡◌, refl, sym, ap, ◌∙◌}
use mathlib.Core.Logic.{⊎_elim}
use mathlib.Core.Bool.{Bool, true, false, ◌&&◌}
use mathlib.Core.List.{List, [], ◌∷◌}
use lib.Dec.{ltb, eqb}
use borrow.Author.Tests.{ltb-true, lt-ltb, le-ltb, eq-eqb, ne_eqb}
use Rattle.scope.specs.Choice.{pick}
use Rattle.scope.specs.Statuses.{OK}
use Rattle.laws.proofs.Branches.{both, both_true, first_fails, second_fails, eq_or_not, lt_or_le, picked_yes, picked_no}
use Rattle.grid.specs.declared.Grant.{Grant}
use Rattle.grid.specs.Grid.{Grid, cell, most, stopped, inside, granted}
use Rattle.grid.specs.Filling.{BAD_RECORD, within, fill_status, counted, filled, naming}
use Rattle.grid.proofs.Cells.{Sized, stop_more, granted_sized, granted-cell, granted_other}

-- a count that has not stopped
stop_below : (n : ℕ) → n ≤ most → stopped n ≡ n
unfolding stopped
stop_below n h =
    ⊎_elim (λ l. picked_yes (ltb n most) n most (lt-ltb n most l)) (λ l. picked_no (ltb n most) n most (le-ltb n most l) ∙ (let e : most ≡ n = omega (arith, h, l) in e)) (lt_or_le n most)

-- the slots of a record that is not refused
slots_in : (r : Grant) → within r ≡ true → (r.task < 32) × (r.semaphore < 16)
unfolding inside
slots_in r e = let b = both_true (ltb r.task 32) (ltb r.semaphore 16) e in (ltb-true r.task 32 b.0, ltb-true r.semaphore 16 b.1)

first_good : (r : Grant) (rs : List Grant) → fill_status (r ∷ rs) ≡ OK → (within r ≡ true) × (fill_status rs ≡ OK)
unfolding pick
first_good r rs = go (within r)
  where
    go : (b : Bool) → pick b (fill_status rs) BAD_RECORD ≡ OK → (b ≡ true) × (fill_status rs ≡ OK)
    go true e = (refl, e)
    go false e = absurd (omega (arith, e))

module _ (t i : ℕ) where
  one_more : (g : Grid) → Sized g → (r : Grant) → within r ≡ true → (n : ℕ) → cell g t i ≡ stopped n
      → cell (granted g r.task r.semaphore) t i ≡ stopped (n + pick (eqb r.task t && eqb r.semaphore i) 1 0)
  one_more g ok r e n d =
      ⊎_elim
      (λ a. ⊎_elim (λ b. here a b) (λ ne. other (λ c. ne (sym c.1)) (second_fails (eqb r.task t) _ (ne_eqb r.semaphore i ne))) (eq_or_not r.semaphore i))
      (λ ne. other (λ c. ne (sym c.0)) (first_fails (eqb r.task t) (eqb r.semaphore i) (ne_eqb r.task t ne)))
      (eq_or_not r.task t)
    where
      in_both : (r.task < 32) × (r.semaphore < 16)
      in_both = slots_in r e

      here : r.task ≡ t → r.semaphore ≡ i → cell (granted g r.task r.semaphore) t i ≡ stopped (n + pick (eqb r.task t && eqb r.semaphore i) 1 0)
      here a b =
          ap (λ (v : ℕ). cell (granted g r.task r.semaphore) v i) (sym a) ∙ ap (cell (granted g r.task r.semaphore) r.task) (sym b)
          ∙ granted-cell g ok r.task r.semaphore in_both.0 in_both.1
          ∙ ap (λ (v : ℕ). pick (ltb v most) (v + 1) v) (ap (λ (v : ℕ). cell g v r.semaphore) a ∙ ap (cell g t) b ∙ d)
          ∙ sym (stop_more n)
          ∙ ap (λ (v : ℕ). stopped (n + v)) (sym (picked_yes {A = ℕ} (eqb r.task t && eqb r.semaphore i) 1 0 (both _ _ (eq-eqb r.task t a) (eq-eqb r.semaphore i b))))

      other : ((t ≡ r.task) × (i ≡ r.semaphore) → ⊥) → (eqb r.task t && eqb r.semaphore i) ≡ false
          → cell (granted g r.task r.semaphore) t i ≡ stopped (n + pick (eqb r.task t && eqb r.semaphore i) 1 0)
      other ne f =
          granted_other g ok r.task r.semaphore in_both.0 in_both.1 t i ne ∙ d
          ∙ ap stopped (let z : n ≡ n + pick {A = ℕ} (eqb r.task t && eqb r.semaphore i) 1 0 = omega (arith, picked_no {A = ℕ} (eqb r.task t && eqb r.semaphore i) 1 0 f) in z)

  counted-cell : (rs : List Grant) → fill_status rs ≡ OK → (g : Grid) → Sized g → (n : ℕ) → cell g t i ≡ stopped n → cell (counted rs g) t i ≡ stopped (n + naming t i rs)
  counted-cell [] e g ok n d = d ∙ ap stopped (let z : n ≡ n + 0 = omega arith in z)
  counted-cell (r ∷ rs) e g ok n d =
      let f = first_good r rs e in
      let l = slots_in r f.0 in
      counted-cell rs f.1 (granted g r.task r.semaphore) (granted_sized g ok r.task r.semaphore l.0 l.1) (n + pick (eqb r.task t && eqb r.semaphore i) 1 0) (one_more g ok r f.0 n d)
      ∙ ap stopped (let z : n + pick {A = ℕ} (eqb r.task t && eqb r.semaphore i) 1 0 + naming t i rs ≡ n + (pick (eqb r.task t && eqb r.semaphore i) 1 0 + naming t i rs) = omega arith in z)

  -- a grid filled from a list that is not refused
  pub filled-cell : (rs : List Grant) → fill_status rs ≡ OK → (g : Grid) → Sized g → cell g t i ≤ most → cell (filled rs g) t i ≡ stopped (cell g t i + naming t i rs)
  unfolding filled
  filled-cell rs e g ok h =
      ap (λ (v : Grid). cell v t i) (picked_yes (eqb (fill_status rs) OK) (counted rs g) g (eq-eqb (fill_status rs) OK e))
      ∙ counted-cell rs e g ok (cell g t i) (sym (stop_below (cell g t i) h))
