-- "both ways agree when nothing was created since clearing": the history's grants, as records, are all within their tables and fill a
-- cleared grid to the one that is kept. Each turn that creates nothing counts its grants as their records do.
-- Assumes nothing.
use Prim.Native.Nat.{ℕ, zero, suc, ◌≤◌, ◌<◌}
use native.Mathlib.Omega.{arith}
use mathlib.Core.Path.{◌≡◌, refl, sym, ap, ◌∙◌}
use mathlib.Core.Bool.{Bool, true, false, ◌||◌}
use mathlib.Core.List.{List, [], ◌∷◌, ◌++◌}
use lib.ListN.{length, get_or}
use lib.Dec.{eqb}
use borrow.Author.Tests.{eq-eqb}
use Rattle.scope.specs.declared.State.{State}
use Rattle.scope.specs.declared.Answer.{Answer}
use Rattle.scope.specs.Choice.{pick}
use Rattle.scope.specs.Statuses.{OK}
use Rattle.scope.specs.Identifiers.{slot_of}
use Rattle.scope.specs.Views.{running_task}
use Rattle.scope.specs.Fresh.{fresh_state}
use Rattle.laws.proofs.Branches.{true-false, picked_yes}
use Rattle.histories.specs.Sound.{Sound}
use Rattle.histories.specs.History.{Event, answer_to, after}
use Rattle.books.specs.Past.{Turn, is_answer, past_of, running_in}
use Rattle.books.specs.Told.{task_id, sem_id}
use Rattle.books.proofs.Agreeing.{turn_of}
use Rattle.grid.specs.declared.Grant.{Grant}
use Rattle.grid.specs.Grid.{Grid, cleared, granted}
use Rattle.grid.specs.Filling.{BAD_RECORD, within, fill_status, counted, filled}
use Rattle.grid.proofs.Laws.{inside_yes}
use Rattle.grids.specs.Grants.{Given, grants_at, grants_since, created_since}
use Rattle.grids.specs.Kept.{kept_by, grid_since, kept_from, records_of}
use Rattle.grids.proofs.Counting.{ended}
use Rattle.grids.proofs.Along.{history_has}
use Rattle.grids.proofs.Noted.{Noted, nothing_noted, task_noted, semaphore_noted, grant_noted, event_noted, slot_is}
use Rattle.grids.proofs.Grids.{kept_is}

-- lists one after the other
records_both : (xs ys : List Given) → records_of (xs ++ ys) ≡ records_of xs ++ records_of ys
records_both [] ys = refl
records_both (x ∷ xs) ys = ap (λ (l : List Grant). record { task = slot_of x.task; semaphore = slot_of x.semaphore } ∷ l) (records_both xs ys)

counted_both : (xs ys : List Grant) (g : Grid) → counted (xs ++ ys) g ≡ counted ys (counted xs g)
counted_both [] ys g = refl
counted_both (x ∷ xs) ys g = counted_both xs ys (granted g x.task x.semaphore)

-- one good record more
status_more : (xs : List Grant) (r : Grant) → within r ≡ true → fill_status xs ≡ OK → fill_status (xs ++ (r ∷ [])) ≡ OK
unfolding pick
status_more [] r e d = picked_yes (within r) OK _ e
status_more (x ∷ xs) r e d = go (within x) (status_more xs r e) d
  where
    go : (b : Bool) → (fill_status xs ≡ OK → fill_status (xs ++ (r ∷ [])) ≡ OK) → pick b (fill_status xs) BAD_RECORD ≡ OK
        → pick b (fill_status (xs ++ (r ∷ []))) BAD_RECORD ≡ OK
    go true more f = more f
    go false more f = absurd (omega (arith, f))

-- what is filled
pub record Fills (s : State) (past : List Turn) : Type 0 where
  pub good : (n : ℕ) → fill_status (records_of (grants_since n past)) ≡ OK
  pub same : (n : ℕ) → created_since n past ≡ false → counted (records_of (grants_since n past)) cleared ≡ grid_since n past

neither : (a b c : Bool) → (a || (b || c)) ≡ false → (a ≡ false) × ((b ≡ false) × (c ≡ false))
neither true b c e = absurd (true-false refl e)
neither false true c e = absurd (true-false refl e)
neither false false c e = (refl, (refl, e))

-- a turn keeps it
module _ (s : State) (ok : Sound s) (x : Event) (past : List Turn) (runs : running_in past ≡ running_task s) where
  module _ (a : Answer) (n : ℕ) (good : fill_status (records_of (grants_since n past)) ≡ OK) where
    abbrev y : Turn
    y = turn_of x a

    abbrev before : List Given
    before = grants_since n past

    -- no grant at this turn: the records are the same
    quiet : grants_at past y ≡ [] → records_of before ≡ records_of (before ++ grants_at past y)
    quiet e = ap records_of (sym (ended before) ∙ ap (λ (l : List Given). before ++ l) (sym e))

    -- one grant: one record more
    module _ (t i : ℕ) (h : t < 32) (l : i < 16) where
      abbrev one : Grant
      one = record { task = t; semaphore = i }

      slots : records_of (record { task = task_id s t; semaphore = sem_id s i } ∷ []) ≡ one ∷ []
      slots =
          ap {B = List Grant} (λ (v : ℕ). record { task = v; semaphore = slot_of (sem_id s i) } ∷ []) (slot_is (get_or s.tasks.serial t 0) t (omega (arith, h)))
          ∙ ap {B = List Grant} (λ (v : ℕ). record { task = t; semaphore = v } ∷ []) (slot_is (get_or s.semaphores.serial i 0) i (omega (arith, l)))

      longer : grants_at past y ≡ record { task = task_id s t; semaphore = sem_id s i } ∷ [] → records_of before ++ (one ∷ []) ≡ records_of (before ++ grants_at past y)
      longer e =
          ap (λ (v : List Grant). records_of before ++ v) (sym slots) ∙ sym (records_both before (record { task = task_id s t; semaphore = sem_id s i } ∷ []))
          ∙ ap (λ (v : List Given). records_of (before ++ v)) (sym e)

    good_after : Noted s x a → fill_status (records_of (before ++ grants_at past y)) ≡ OK
    good_after (nothing_noted same no1 no8 none keeps) = ap fill_status (sym (quiet (none past))) ∙ good
    good_after (task_noted t room grew same is1 no8 v none keeps) = ap fill_status (sym (quiet (none past))) ∙ good
    good_after (semaphore_noted i room grew same no1 is8 v none keeps) = ap fill_status (sym (quiet (none past))) ∙ good
    good_after (grant_noted t i room room2 same no1 no8 one keeps) =
        ap fill_status (sym (longer t i room room2 (one past runs))) ∙ status_more (records_of before) _ (inside_yes t i room room2) good

    same_after : Noted s x a → is_answer 1 OK y ≡ false → is_answer 8 OK y ≡ false → counted (records_of before) cleared ≡ grid_since n past
        → counted (records_of (before ++ grants_at past y)) cleared ≡ kept_by (grid_since n past) (running_in past) y
    same_after (nothing_noted same no1 no8 none keeps) d e f =
        ap (λ (v : List Grant). counted v cleared) (sym (quiet (none past))) ∙ f ∙ keeps (grid_since n past) (running_in past)
    same_after (task_noted t room grew same is1 no8 v none keeps) d e f = absurd (true-false is1 d)
    same_after (semaphore_noted i room grew same no1 is8 v none keeps) d e f = absurd (true-false is8 e)
    same_after (grant_noted t i room room2 same no1 no8 one keeps) d e f =
        ap (λ (v : List Grant). counted v cleared) (sym (longer t i room room2 (one past runs)))
        ∙ counted_both (records_of before) _ cleared
        ∙ ap (λ (g : Grid). granted g t i) f
        ∙ keeps (grid_since n past)
        ∙ ap (λ (v : ℕ). kept_by (grid_since n past) v y) (sym runs)

  fills_after : Fills s past → Fills (answer_to s x).state (turn_of x (answer_to s x) ∷ past)
  fills_after d = record { good = goods; same = sames }
    where
      goods : (n : ℕ) → fill_status (records_of (grants_since n (turn_of x (answer_to s x) ∷ past))) ≡ OK
      goods zero = refl
      goods (suc n) = good_after (answer_to s x) n (d.good n) (event_noted s x ok)

      sames : (n : ℕ) → created_since n (turn_of x (answer_to s x) ∷ past) ≡ false
          → counted (records_of (grants_since n (turn_of x (answer_to s x) ∷ past))) cleared ≡ grid_since n (turn_of x (answer_to s x) ∷ past)
      sames zero e = refl
      sames (suc n) e =
          let b = neither _ _ _ e in
          same_after (answer_to s x) n (d.good n) (event_noted s x ok) b.0 b.1.0 (d.same n b.1.1)

fresh_fills : (p : ℕ) → Fills (fresh_state p) []
fresh_fills p = record { good = goods; same = sames }
  where
    goods : (n : ℕ) → fill_status (records_of (grants_since n [])) ≡ OK
    goods zero = refl
    goods (suc n) = refl

    sames : (n : ℕ) → created_since n [] ≡ false → counted (records_of (grants_since n [])) cleared ≡ grid_since n []
    sames zero e = refl
    sames (suc n) e = refl

-- "For any history from a fresh state"
module _ (p : ℕ) (h : p ≤ 15) (xs : List Event) where
  abbrev past : List Turn
  past = past_of p xs

  history_fills : Fills (after (fresh_state p) xs) past
  history_fills = history_has Fills (λ s ok x past p told ag d. fills_after s ok x past ag.running d) p h xs (fresh_fills p)

  -- no record of the list is refused
  pub records_good : (n : ℕ) → fill_status (records_of (grants_since n past)) ≡ OK
  records_good n = history_fills.good n

  -- and it fills a cleared grid to the one that was cleared n turns ago and kept since
  pub ways_agree : (n : ℕ) → created_since n past ≡ false → filled (records_of (grants_since n past)) cleared ≡ grid_since n past
  unfolding filled
  ways_agree n e = picked_yes (eqb (fill_status (records_of (grants_since n past))) OK) _ cleared (eq-eqb _ OK (records_good n)) ∙ history_fills.same n e

-- A history xs, at whose end the grid is cleared, and a history ys after it in which nothing is created.
pub kept_agrees : (p : ℕ) → p ≤ 15 → (xs ys : List Event) → created_since (length ys) (past_of p (xs ++ ys)) ≡ false
    → filled (records_of (grants_since (length ys) (past_of p (xs ++ ys)))) cleared ≡ kept_from cleared (after (fresh_state p) xs) ys
kept_agrees p h xs ys e = ways_agree p h (xs ++ ys) (length ys) e ∙ sym (kept_is p h xs ys)
