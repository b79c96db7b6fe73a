-- The store as a whole: its sizes and the one form of every queue are kept by each verb.
-- Assumes nothing.
use Prim.Native.Nat.{ℕ, suc, ◌+◌, ◌-◌, ◌*◌, ◌<◌}
use native.Mathlib.Omega.{arith}
use native.Mathlib.Numerals.{add-one}
use mathlib.Core.Path.{◌≡◌, refl, sym, subst}
use mathlib.Core.Logic.{⊎_elim}
use mathlib.Core.Bool.{Bool, true, false, ◌&&◌}
use mathlib.Core.List.{List, []}
use lib.ListN.{length, get_or, replicate, length-replicate}
use lib.Dec.{ltb, leb}
use borrow.Author.Tests.{ltb-true, leb-true}
use Rattle.laws.proofs.Branches.{eq_or_not, both_true}
use Rattle.laws.proofs.Searches.{every_at, every_yes}
use Rattle.scope.specs.Choice.{pick}
use Rattle.scope.specs.Messages.{at_end, in_front, first_gone, cell_right, row_right, store_right, Store, held_in, row_in, with_queue, appended, pushed, taken, cleared}
use Rattle.laws.proofs.Messages.Stores.{Sized, length_row, with_sized, with_row, with_held, other_row, other_held, length_end, length_front, length_gone}
use Rattle.laws.proofs.Messages.Keeps.{InForm, form_told, form_tells, end_keeps, front_keeps, gone_keeps, none_keeps}

-- every queue is in form; `longest` says how long a queue's messages may be
pub record Kept (longest : ℕ → ℕ) (s : Store) : Type 0 where
  pub sized : Sized s
  pub form : (j : ℕ) → j < 8 → InForm (row_in s j) (held_in s j) (longest j)

-- the test of all queues says so, and back
pub store_told : (s : Store) (limits : List ℕ) → Sized s → store_right s limits ≡ true → Kept (λ i. get_or limits (2 * i + 1) 0) s
unfolding store_right
store_told s limits z e = record {
  sized = z;
  form = λ j h. form_told (row_in s j) (held_in s j) (get_or limits (2 * j + 1) 0) (length_row s z j h)
      (every_at (λ i. row_right (row_in s i) (held_in s i) (get_or limits (2 * i + 1) 0)) 8 e j h);
}

pub store_tells : (s : Store) (limits : List ℕ) → Kept (λ i. get_or limits (2 * i + 1) 0) s → store_right s limits ≡ true
unfolding store_right
store_tells s limits w =
    every_yes (λ i. row_right (row_in s i) (held_in s i) (get_or limits (2 * i + 1) 0)) 8
    (λ j h. form_tells (row_in s j) (held_in s j) (get_or limits (2 * j + 1) 0) (length_row s w.sized j h) (w.form j h))

module _ (longest : ℕ → ℕ) (s : Store) (w : Kept longest s) (i : ℕ) (hi : i < 8) where
  row_long : length (row_in s i) ≡ 1040
  row_long = length_row s w.sized i hi

  with_kept : (row : List ℕ) (h : ℕ) → length row ≡ 1040 → InForm row h (longest i) → Kept longest (with_queue s i row h)
  with_kept row h l f = record { sized = with_sized s w.sized i hi row l h; form = form }
    where
      here : (j : ℕ) → j ≡ i → InForm (row_in (with_queue s i row h) j) (held_in (with_queue s i row h) j) (longest j)
      here j e = rw (e, with_row s w.sized i hi row l h, with_held s w.sized i hi row l h) f

      there : (j : ℕ) → j < 8 → (j ≡ i → ⊥) → InForm (row_in (with_queue s i row h) j) (held_in (with_queue s i row h) j) (longest j)
      there j hj ne = rw (other_row s w.sized i hi row l h j ne, other_held s w.sized i hi row l h j ne) (w.form j hj)

      form : (j : ℕ) → j < 8 → InForm (row_in (with_queue s i row h) j) (held_in (with_queue s i row h) j) (longest j)
      form j hj = ⊎_elim (λ e. here j e) (λ ne. there j hj ne) (eq_or_not j i)

  -- a verb that asks for a number held
  if_kept : (b : Bool) (t : Store) → (b ≡ true → Kept longest t) → Kept longest (pick b t s)
  unfolding pick
  if_kept true t k = k refl
  if_kept false t k = w

  pub append_kept : (cell : List ℕ) → length cell ≡ 65 → cell_right (longest i) cell ≡ true → Kept longest (appended s i cell)
  unfolding appended
  append_kept cell n e =
      if_kept (ltb (held_in s i) 16) (with_queue s i (at_end (row_in s i) (held_in s i) cell) (held_in s i + 1))
      (λ b. let l = ltb-true (held_in s i) 16 b in
      with_kept (at_end (row_in s i) (held_in s i) cell) (held_in s i + 1) (length_end (row_in s i) cell (held_in s i) row_long l n)
      (subst (λ (k : ℕ). InForm (at_end (row_in s i) (held_in s i) cell) k (longest i)) (sym (add-one (held_in s i)))
      (end_keeps (row_in s i) (held_in s i) (longest i) row_long (w.form i hi) cell l n e)))

  pub push_kept : (cell : List ℕ) → length cell ≡ 65 → cell_right (longest i) cell ≡ true → Kept longest (pushed s i cell)
  unfolding pushed
  push_kept cell n e =
      if_kept (ltb (held_in s i) 16) (with_queue s i (in_front (row_in s i) (held_in s i) cell) (held_in s i + 1))
      (λ b. let l = ltb-true (held_in s i) 16 b in
      with_kept (in_front (row_in s i) (held_in s i) cell) (held_in s i + 1) (length_front (row_in s i) cell (held_in s i) row_long l n)
      (subst (λ (k : ℕ). InForm (in_front (row_in s i) (held_in s i) cell) k (longest i)) (sym (add-one (held_in s i)))
      (front_keeps (row_in s i) (held_in s i) (longest i) row_long (w.form i hi) cell l n e)))

  pub take_kept : Kept longest (taken s i)
  unfolding taken
  take_kept =
      if_kept (ltb 0 (held_in s i) && leb (held_in s i) 16) (with_queue s i (first_gone (row_in s i) (held_in s i)) (held_in s i - 1))
      (λ b. let p = both_true (ltb 0 (held_in s i)) (leb (held_in s i) 16) b in
      let some : 0 < held_in s i = ltb-true 0 (held_in s i) p.0 in
      let e : held_in s i ≡ suc (held_in s i - 1) = omega arith in
      with_kept (first_gone (row_in s i) (held_in s i)) (held_in s i - 1)
      (length_gone (row_in s i) [] (held_in s i) row_long some (leb-true (held_in s i) 16 p.1))
      (subst (λ (k : ℕ). InForm (first_gone (row_in s i) k) (held_in s i - 1) (longest i)) (sym e)
      (gone_keeps (row_in s i) (held_in s i - 1) (longest i) row_long
      (subst (λ (k : ℕ). InForm (row_in s i) k (longest i)) e (w.form i hi)))))

  pub clear_kept : Kept longest (cleared s i)
  unfolding cleared
  clear_kept = with_kept (replicate 1040 0) 0 (length-replicate {A = ℕ} 1040 0) (none_keeps (longest i))
