-- What the grid's cells say while a history goes on: the grants told between the latest objects of their slots. A new object has a
-- serial that no grant so far was to or from, so its cells are 0; a grant is between live objects, which are the latest of their slots.
-- Assumes nothing.
use Prim.Native.Nat.{ℕ, ◌+◌, ◌<◌}
use native.Mathlib.Omega.{arith}
use mathlib.Core.Path.{◌≡◌, refl, sym, subst, ap, ◌∙◌}
use mathlib.Core.Logic.{⊎_elim}
use mathlib.Core.Bool.{true, false}
use mathlib.Core.List.{List, [], ◌∷◌, ◌++◌}
use lib.ListN.{length, get_or, set}
use lib.Seq.{get_or-set_same, get_or-set_other}
use lib.Dec.{ltb}
use borrow.Author.Tests.{eq-eqb, ne_eqb}
use Rattle.scope.specs.Choice.{pick}
use Rattle.scope.specs.Statuses.{OK}
use Rattle.scope.specs.Identifiers.{identifier, slot_of}
use Rattle.laws.proofs.Branches.{eq_or_not, both, first_fails, second_fails, picked_yes, picked_no}
use Rattle.books.specs.Past.{Turn, is_answer, value}
use Rattle.books.proofs.Claiming.{apart_slots}
use Rattle.grid.specs.Grid.{Grid, cleared, cell, most, stopped, granted, row_cleared, column_cleared}
use Rattle.grid.proofs.Cells.{Sized, cleared_sized, cleared-cell, stop_more, stop_none, granted_sized, granted-cell, granted_other, row_cleared_sized, row_cleared_cell, row_cleared_other}
use Rattle.grid.proofs.Cells.{column_cleared_sized, column_cleared_cell, column_cleared_other}
use Rattle.grids.specs.Grants.{Given, between, born_in}
use Rattle.grids.proofs.Counting.{ended, between_both, one-between, other_task, other_semaphore}
use Rattle.grids.proofs.Noted.{next, slot_is}

-- the latest object of a slot, by the serials of the table
abbrev pub object_in : List ℕ → ℕ → ℕ
object_in serial t = identifier (get_or serial t 0) t

-- the grid g, and the grants xs since it was cleared, where the tables have these serials
pub record Holds (tasks sems : List ℕ) (g : Grid) (xs : List Given) : Type 0 where
  pub sized : Sized g
  pub cells : (t i : ℕ) → t < 32 → i < 16 → cell g t i ≡ stopped (between (object_in tasks t) (object_in sems i) xs)
  pub to : (t k id : ℕ) → t < 32 → get_or tasks t 0 < k → between (identifier k t) id xs ≡ 0
  pub from : (i k task : ℕ) → i < 16 → get_or sems i 0 < k → between task (identifier k i) xs ≡ 0

pub holds_same : {ts ts2 ss ss2 : List ℕ} {g g2 : Grid} {xs xs2 : List Given} → ts ≡ ts2 → ss ≡ ss2 → g ≡ g2 → xs ≡ xs2 → Holds ts ss g xs → Holds ts2 ss2 g2 xs2
holds_same {ts} {ts2} {ss} {ss2} {g} {g2} {xs} {xs2} a b c d h =
    subst (λ (v : List Given). Holds ts2 ss2 g2 v) d
    (subst (λ (v : Grid). Holds ts2 ss2 v xs) c (subst (λ (v : List ℕ). Holds ts2 v g xs) b (subst (λ (v : List ℕ). Holds v ss g xs) a h)))

module _ (ts ss : List ℕ) where
  pub cleared_holds : Holds ts ss cleared []
  cleared_holds =
      record {
        sized = cleared_sized;
        cells = λ t i h l. cleared-cell t i h l ∙ sym stop_none;
        to = λ t k id h l. refl;
        from = λ i k task h l. refl;
      }

  module _ (g : Grid) (xs : List Given) (ok : Holds ts ss g xs) where
    pub quiet_holds : Holds ts ss g (xs ++ [])
    quiet_holds = holds_same refl refl refl (sym (ended xs)) ok

    -- "Creating a task clears its row"
    pub task_holds : (t : ℕ) → t < 32 → length ts ≡ 32 → Holds (set ts t (next ts t)) ss (row_cleared g t) (xs ++ [])
    task_holds t h size =
        holds_same refl refl refl (sym (ended xs))
        (record {
          sized = row_cleared_sized g ok.sized t h;
          cells = λ u j m l. ⊎_elim
              (λ e. ap (λ (v : ℕ). cell (row_cleared g t) v j) e ∙ row_cleared_cell g ok.sized t h j l ∙ sym stop_none
              ∙ ap stopped (sym (ok.to t (next ts t) (object_in ss j) h (omega arith)) ∙ ap (λ (v : ℕ). between v (object_in ss j) xs) (sym (ap (object_in grown) e ∙ born))))
              (λ ne. row_cleared_other g ok.sized t h u j ne ∙ ok.cells u j m l ∙ ap (λ (v : ℕ). stopped (between (identifier v u) (object_in ss j) xs)) (sym (old u ne)))
              (eq_or_not u t);
          to = λ u k id m l. ⊎_elim
              (λ e. ok.to u k id m (omega (arith, ap (λ (v : ℕ). get_or grown v 0) e, ap (λ (v : ℕ). get_or ts v 0) e, new, l)))
              (λ ne. ok.to u k id m (omega (arith, old u ne, l)))
              (eq_or_not u t);
          from = ok.from;
        })
      where
        grown : List ℕ
        grown = set ts t (next ts t)

        new : get_or grown t 0 ≡ next ts t
        new = get_or-set_same ts t (next ts t) 0 (omega (arith, size, h))

        born : object_in grown t ≡ identifier (next ts t) t
        born = ap (λ (v : ℕ). identifier v t) new

        old : (u : ℕ) → (u ≡ t → ⊥) → get_or grown u 0 ≡ get_or ts u 0
        old u ne = get_or-set_other ts t u (next ts t) 0 ne

    -- "a semaphore its column"
    pub semaphore_holds : (i : ℕ) → i < 16 → length ss ≡ 16 → Holds ts (set ss i (next ss i)) (column_cleared g i) (xs ++ [])
    semaphore_holds i l size =
        holds_same refl refl refl (sym (ended xs))
        (record {
          sized = column_cleared_sized g ok.sized i l;
          cells = λ u j m h. ⊎_elim
              (λ e. ap (cell (column_cleared g i) u) e ∙ column_cleared_cell g ok.sized i l u m ∙ sym stop_none
              ∙ ap stopped (sym (ok.from i (next ss i) (object_in ts u) l (omega arith)) ∙ ap (λ (v : ℕ). between (object_in ts u) v xs) (sym (ap (object_in grown) e ∙ born))))
              (λ ne. column_cleared_other g ok.sized i l u j ne ∙ ok.cells u j m h ∙ ap (λ (v : ℕ). stopped (between (object_in ts u) (identifier v j) xs)) (sym (old j ne)))
              (eq_or_not j i);
          to = ok.to;
          from = λ j k task m h. ⊎_elim
              (λ e. ok.from j k task m (omega (arith, ap (λ (v : ℕ). get_or grown v 0) e, ap (λ (v : ℕ). get_or ss v 0) e, new, h)))
              (λ ne. ok.from j k task m (omega (arith, old j ne, h)))
              (eq_or_not j i);
        })
      where
        grown : List ℕ
        grown = set ss i (next ss i)

        new : get_or grown i 0 ≡ next ss i
        new = get_or-set_same ss i (next ss i) 0 (omega (arith, size, l))

        born : object_in grown i ≡ identifier (next ss i) i
        born = ap (λ (v : ℕ). identifier v i) new

        old : (j : ℕ) → (j ≡ i → ⊥) → get_or grown j 0 ≡ get_or ss j 0
        old j ne = get_or-set_other ss i j (next ss i) 0 ne

    -- one grant more
    pub grant_holds : (t i : ℕ) → t < 32 → i < 16 → Holds ts ss (granted g t i) (xs ++ (record { task = object_in ts t; semaphore = object_in ss i } ∷ []))
    grant_holds t i h l =
        record {
          sized = granted_sized g ok.sized t i h l;
          cells = λ u j m n. ⊎_elim
              (λ d. ⊎_elim (λ e. same u j d e) (λ ne. apart u j m n (λ b. ne b.1) (other_semaphore (object_in ts u) (object_in ss j) one (λ b. ne (sym (slots i j l n b))))) (eq_or_not j i))
              (λ ne. apart u j m n (λ b. ne b.0) (other_task (object_in ts u) (object_in ss j) one (λ b. ne (sym (slots2 t u h m b)))))
              (eq_or_not u t);
          to = λ u k id m b. omega (arith, between_both (identifier k u) id xs (one ∷ []), ok.to u k id m b, other_task (identifier k u) id one (λ e. later_task u k m b e));
          from = λ j k task m b. omega (arith, between_both task (identifier k j) xs (one ∷ []), ok.from j k task m b, other_semaphore task (identifier k j) one (λ e. later_semaphore j k m b e));
        }
      where
        one : Given
        one = record { task = object_in ts t; semaphore = object_in ss i }

        slots : (a b : ℕ) → a < 16 → b < 16 → object_in ss a ≡ object_in ss b → a ≡ b
        slots a b p q e = apart_slots _ _ a b (omega arith) (omega arith) e

        slots2 : (a b : ℕ) → a < 32 → b < 32 → object_in ts a ≡ object_in ts b → a ≡ b
        slots2 a b p q e = apart_slots _ _ a b (omega arith) (omega arith) e

        later_task : (u k : ℕ) → u < 32 → get_or ts u 0 < k → object_in ts t ≡ identifier k u → ⊥
        later_task u k m b e =
            let d : t ≡ u = apart_slots (get_or ts t 0) k t u (omega (arith, h)) (omega (arith, m)) e in
            omega (arith, b, e, d, ap (λ (v : ℕ). get_or ts v 0) d)

        later_semaphore : (j k : ℕ) → j < 16 → get_or ss j 0 < k → object_in ss i ≡ identifier k j → ⊥
        later_semaphore j k m b e =
            let d : i ≡ j = apart_slots (get_or ss i 0) k i j (omega (arith, l)) (omega (arith, m)) e in
            omega (arith, b, e, d, ap (λ (v : ℕ). get_or ss v 0) d)

        apart : (u j : ℕ) → u < 32 → j < 16 → ((u ≡ t) × (j ≡ i) → ⊥) → between (object_in ts u) (object_in ss j) (one ∷ []) ≡ 0
            → cell (granted g t i) u j ≡ stopped (between (object_in ts u) (object_in ss j) (xs ++ (one ∷ [])))
        apart u j m n ne z =
            granted_other g ok.sized t i h l u j ne ∙ ok.cells u j m n
            ∙ ap stopped (sym (between_both (object_in ts u) (object_in ss j) xs (one ∷ []) ∙ add_none z))
          where
            add_none : {a b : ℕ} → b ≡ 0 → a + b ≡ a
            add_none e = omega (arith, e)

        here : cell (granted g t i) t i ≡ stopped (between (object_in ts t) (object_in ss i) (xs ++ (one ∷ [])))
        here =
            granted-cell g ok.sized t i h l ∙ ap (λ (v : ℕ). pick (ltb v most) (v + 1) v) (ok.cells t i h l)
            ∙ sym (stop_more (between (object_in ts t) (object_in ss i) xs))
            ∙ ap stopped (sym (between_both (object_in ts t) (object_in ss i) xs (one ∷ []) ∙ ap (λ (v : ℕ). between (object_in ts t) (object_in ss i) xs + v) (one-between (object_in ts t) (object_in ss i) one refl refl)))

        same : (u j : ℕ) → u ≡ t → j ≡ i → cell (granted g t i) u j ≡ stopped (between (object_in ts u) (object_in ss j) (xs ++ (one ∷ [])))
        same u j d e =
            subst (λ (v : ℕ). cell (granted g t i) v j ≡ stopped (between (object_in ts v) (object_in ss j) (xs ++ (one ∷ [])))) (sym d)
            (subst (λ (v : ℕ). cell (granted g t i) t v ≡ stopped (between (object_in ts t) (object_in ss v) (xs ++ (one ∷ [])))) (sym e) here)

-- a turn that created nothing in the slot, and one that did
module _ (call slot : ℕ) (y : Turn) where
  pub not_born : is_answer call OK y ≡ false → born_in call slot y ≡ false
  unfolding born_in
  not_born e = first_fails _ _ e

  pub born_other : (slot_of (value y) ≡ slot → ⊥) → born_in call slot y ≡ false
  unfolding born_in
  born_other ne = second_fails (is_answer call OK y) _ (ne_eqb (slot_of (value y)) slot ne)

  pub is_born : is_answer call OK y ≡ true → slot_of (value y) ≡ slot → born_in call slot y ≡ true
  unfolding born_in
  is_born e d = both _ _ e (eq-eqb (slot_of (value y)) slot d)

-- the latest object of each slot of a table, as it is told, where a turn creates one in slot t
module _ (call n : ℕ) (small : n < 64) (y : Turn) (told : ℕ → ℕ) (serial : List ℕ) (are : (t : ℕ) → t < n → told t ≡ object_in serial t) where
  pub latest_same : is_answer call OK y ≡ false → (u : ℕ) → u < n → pick (born_in call u y) (value y) (told u) ≡ object_in serial u
  latest_same e u h = picked_no _ (value y) (told u) (not_born call u y e) ∙ are u h

  pub latest_born : (t : ℕ) → t < n → length serial ≡ n → is_answer call OK y ≡ true → value y ≡ identifier (next serial t) t
      → (u : ℕ) → u < n → pick (born_in call u y) (value y) (told u) ≡ object_in (set serial t (next serial t)) u
  latest_born t h size e v u m =
      ⊎_elim
      (λ d. picked_yes _ (value y) (told u) (is_born call u y e (slot ∙ sym d)) ∙ v
      ∙ ap (λ (k : ℕ). identifier k t) (sym (get_or-set_same serial t (next serial t) 0 (omega (arith, size, h))))
      ∙ ap (object_in (set serial t (next serial t))) (sym d))
      (λ ne. picked_no _ (value y) (told u) (born_other call u y (λ d. ne (sym d ∙ slot))) ∙ are u m
      ∙ ap (λ (k : ℕ). identifier k u) (sym (get_or-set_other serial t u (next serial t) 0 ne)))
      (eq_or_not u t)
    where
      slot : slot_of (value y) ≡ t
      slot = ap slot_of v ∙ slot_is (next serial t) t (omega (arith, h, small))
