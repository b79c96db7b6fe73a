-- Laws of the grid: a cell, a row or a column changed, inside the grid and past its edge. Assumes nothing.
use Prim.Native.Nat.{ℕ, ◌+◌, ◌≤◌, ◌<◌}
use mathlib.Core.Path.{◌≡◌, refl, sym, ap, ◌∙◌}
use mathlib.Core.Bool.{Bool, true, false, not}
use mathlib.Core.List.{List}
use lib.Dec.{T, eqb}
use borrow.Author.Tests.{lt-ltb, le-ltb, eq-eqb, ne_eqb}
use Rattle.scope.specs.Choice.{pick}
use Rattle.scope.specs.Statuses.{OK}
use Rattle.scope.specs.Identifiers.{slot_of}
use Rattle.scope.specs.Replies.{Wake}
use Rattle.laws.proofs.Branches.{pick_yes, pick_no, both, second_fails, not_of_true, not_of_false}
use Rattle.grid.specs.declared.Grant.{Grant}
use Rattle.grid.specs.Keeping.{released, kept}
use Rattle.grid.specs.Filling.{fill_status, filled}
use Rattle.grid.specs.Grid.{Grid, cell, with_cell, inside, granted, row_cleared, column_cleared}

module _ (t i : ℕ) where
  pub inside_yes : t < 32 → i < 16 → inside t i ≡ true
  unfolding inside
  inside_yes a b = both _ _ (lt-ltb t 32 a) (lt-ltb i 16 b)

  module _ (g : Grid) where
    pub granted_more : t < 32 → i < 16 → cell g t i < 65535 → with_cell g t i (cell g t i + 1) ≡ granted g t i
    unfolding granted
    granted_more a b h = pick_yes _ _ _ (both _ _ (inside_yes a b) (lt-ltb (cell g t i) 65535 h)) refl

    pub granted_full : 65535 ≤ cell g t i → g ≡ granted g t i
    unfolding granted
    granted_full h = pick_no _ _ _ (second_fails (inside t i) _ (le-ltb (cell g t i) 65535 h)) refl

-- a call that is done, by its number
module _ (g : Grid) (caller call a status value : ℕ) (wakes : List Wake) where
  pub kept_refused : (status ≡ OK → ⊥) → g ≡ kept g caller call a status value wakes
  unfolding kept
  kept_refused ne = pick_yes _ _ _ (not_of_false _ (ne_eqb status OK ne)) refl

  module _ (done : status ≡ OK) where
    not_refused : not (eqb status OK) ≡ false
    not_refused = not_of_true _ (eq-eqb status OK done)

    pub kept_task : call ≡ 1 → row_cleared g (slot_of value) ≡ kept g caller call a status value wakes
    unfolding kept
    kept_task e = pick_no _ _ _ not_refused (pick_yes _ _ _ (eq-eqb call 1 e) refl)

    pub kept_semaphore : call ≡ 8 → column_cleared g (slot_of value) ≡ kept g caller call a status value wakes
    unfolding kept
    kept_semaphore e = pick_no _ _ _ not_refused (pick_no _ _ _ (ap (λ (k : ℕ). eqb k 1) e) (pick_yes _ _ _ (eq-eqb call 8 e) refl))

    pub kept_claim : call ≡ 11 → granted g (slot_of caller) (slot_of a) ≡ kept g caller call a status value wakes
    unfolding kept
    kept_claim e =
        pick_no _ _ _ not_refused (pick_no _ _ _ (ap (λ (k : ℕ). eqb k 1) e) (pick_no _ _ _ (ap (λ (k : ℕ). eqb k 8) e) (pick_yes _ _ _ (eq-eqb call 11 e) refl)))

    pub kept_release : call ≡ 12 → released g (slot_of a) wakes ≡ kept g caller call a status value wakes
    unfolding kept
    kept_release e =
        pick_no _ _ _ not_refused (pick_no _ _ _ (ap (λ (k : ℕ). eqb k 1) e) (pick_no _ _ _ (ap (λ (k : ℕ). eqb k 8) e)
        (pick_no _ _ _ (ap (λ (k : ℕ). eqb k 11) e) (pick_yes _ _ _ (eq-eqb call 12 e) refl))))

  pub kept_other : eqb call 1 ≡ false → eqb call 8 ≡ false → eqb call 11 ≡ false → eqb call 12 ≡ false → g ≡ kept g caller call a status value wakes
  unfolding kept pick
  kept_other e f h i = go (not (eqb status OK))
    where
      go : (b : Bool) → g ≡ pick b g
          (pick (eqb call 1) (row_cleared g (slot_of value)) (pick (eqb call 8) (column_cleared g (slot_of value))
          (pick (eqb call 11) (granted g (slot_of caller) (slot_of a)) (pick (eqb call 12) (released g (slot_of a) wakes) g))))
      go true = refl
      go false = pick_no _ _ _ e (pick_no _ _ _ f (pick_no _ _ _ h (pick_no _ _ _ i refl)))

-- a list that is refused leaves the grid as given, by what a test of its status r shows
module _ (rs : List Grant) (g : Grid) (r : ℕ) (e : r ≡ fill_status rs) where
  is_status : {b : Bool} → eqb r OK ≡ b → eqb (fill_status rs) OK ≡ b
  is_status d = ap (λ (k : ℕ). eqb k OK) (sym e) ∙ d

  pub filled_bad : T (not (eqb r OK)) → g ≡ filled rs g
  unfolding filled
  filled_bad t = pick_no _ _ _ (is_status (go (eqb r OK) t)) refl
    where
      go : (b : Bool) → T (not b) → b ≡ false
      go true t = absurd t
      go false t = refl
