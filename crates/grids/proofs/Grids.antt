-- "Each cell equals the smaller of 65,535 and the grants in the history, since clearing, between the latest objects of the two
-- slots", for every history from a fresh state and wherever it was cleared; told by the answers alone. By what each turn means for the
-- grid, turn after turn. And the grid that is kept by the call, its answer and the state before is that grid.
-- Assumes nothing.
use Prim.Native.Nat.{ℕ, zero, suc, ◌+◌, ◌≤◌, ◌<◌}
use native.Mathlib.Omega.{arith}
use mathlib.Core.Path.{◌≡◌, refl, sym, ap, ◌∙◌}
use mathlib.Core.List.{List, [], ◌∷◌, ◌++◌}
use lib.ListN.{length, replicate, get_or-replicate}
use lib.Dec.{eqb}
use borrow.Author.Tests.{ne_eqb}
use Rattle.scope.specs.declared.State.{State}
use Rattle.scope.specs.declared.Answer.{Answer}
use Rattle.scope.specs.Choice.{pick}
use Rattle.scope.specs.Identifiers.{identifier}
use Rattle.scope.specs.Views.{running_task}
use Rattle.scope.specs.Fresh.{fresh_state}
use Rattle.laws.proofs.Branches.{picked_no}
use Rattle.histories.specs.Sound.{Sound}
use Rattle.histories.specs.History.{Event, answer_to, after}
use Rattle.histories.specs.Order.{Arrivals, arrives}
use Rattle.histories.proofs.Ledger.{event_keeps}
use Rattle.histories.proofs.Demand.{end_sound}
use Rattle.books.specs.Past.{Turn, past_from, past_of, running_in}
use Rattle.books.proofs.Agreeing.{turn_of, Agrees}
use Rattle.books.proofs.Telling.{event_steps}
use Rattle.books.proofs.Told.{history_agrees}
use Rattle.grid.specs.Grid.{Grid, cleared, cell, stopped}
use Rattle.grids.specs.Grants.{grants_at, grants_since, between, latest_task, latest_semaphore}
use Rattle.grids.specs.Kept.{kept_by, grid_since, kept_from}
use Rattle.grids.proofs.Along.{history_has}
use Rattle.grids.proofs.Noted.{Noted, nothing_noted, task_noted, semaphore_noted, grant_noted, event_noted}
use Rattle.grids.proofs.Holds.{object_in, Holds, holds_same, cleared_holds, quiet_holds, task_holds, semaphore_holds, grant_holds, latest_same, latest_born}

-- the latest object of each slot is the one that the answers tell
pub record Latest (s : State) (past : List Turn) : Type 0 where
  pub task : (t : ℕ) → t < 32 → latest_task past t ≡ object_in s.tasks.serial t
  pub semaphore : (i : ℕ) → i < 16 → latest_semaphore past i ≡ object_in s.semaphores.serial i

-- wherever the grid was cleared
pub record Told (s : State) (past : List Turn) : Type 0 where
  pub latest : Latest s past
  pub holds : (n : ℕ) → Holds s.tasks.serial s.semaphores.serial (grid_since n past) (grants_since n past)

-- a turn keeps both
module _ (s : State) (ok : Sound s) (x : Event) (past : List Turn) (runs : running_in past ≡ running_task s) where
  module _ (a : Answer) where
    abbrev y : Turn
    y = turn_of x a

    latest_after : Noted s x a → Latest s past → Latest a.state (y ∷ past)
    latest_after (nothing_noted same no1 no8 none keeps) l =
        record {
          task = λ t h. latest_same 1 32 (omega arith) y (latest_task past) s.tasks.serial l.task no1 t h ∙ ap (λ (v : List ℕ). object_in v t) (sym same.0);
          semaphore = λ i h. latest_same 8 16 (omega arith) y (latest_semaphore past) s.semaphores.serial l.semaphore no8 i h ∙ ap (λ (v : List ℕ). object_in v i) (sym same.1);
        }
    latest_after (task_noted t room grew same is1 no8 v none keeps) l =
        record {
          task = λ u h. latest_born 1 32 (omega arith) y (latest_task past) s.tasks.serial l.task t room ok.tasks.sized.serials is1 v u h ∙ ap (λ (v : List ℕ). object_in v u) (sym grew);
          semaphore = λ i h. latest_same 8 16 (omega arith) y (latest_semaphore past) s.semaphores.serial l.semaphore no8 i h ∙ ap (λ (v : List ℕ). object_in v i) (sym same);
        }
    latest_after (semaphore_noted i room grew same no1 is8 v none keeps) l =
        record {
          task = λ t h. latest_same 1 32 (omega arith) y (latest_task past) s.tasks.serial l.task no1 t h ∙ ap (λ (v : List ℕ). object_in v t) (sym same);
          semaphore = λ j h. latest_born 8 16 (omega arith) y (latest_semaphore past) s.semaphores.serial l.semaphore i room ok.semaphores.sized.serials is8 v j h
              ∙ ap (λ (v : List ℕ). object_in v j) (sym grew);
        }
    latest_after (grant_noted t i room room2 same no1 no8 one keeps) l =
        record {
          task = λ t h. latest_same 1 32 (omega arith) y (latest_task past) s.tasks.serial l.task no1 t h ∙ ap (λ (v : List ℕ). object_in v t) (sym same.0);
          semaphore = λ i h. latest_same 8 16 (omega arith) y (latest_semaphore past) s.semaphores.serial l.semaphore no8 i h ∙ ap (λ (v : List ℕ). object_in v i) (sym same.1);
        }

    holds_after : Noted s x a → (n : ℕ) → Holds s.tasks.serial s.semaphores.serial (grid_since n past) (grants_since n past)
        → Holds a.state.tasks.serial a.state.semaphores.serial (kept_by (grid_since n past) (running_in past) y) (grants_since n past ++ grants_at past y)
    holds_after (nothing_noted same no1 no8 none keeps) n h =
        holds_same (sym same.0) (sym same.1) (keeps (grid_since n past) (running_in past)) (ap (λ l. grants_since n past ++ l) (sym (none past)))
        (quiet_holds _ _ _ _ h)
    holds_after (task_noted t room grew same is1 no8 v none keeps) n h =
        holds_same (sym grew) (sym same) (keeps (grid_since n past) (running_in past)) (ap (λ l. grants_since n past ++ l) (sym (none past)))
        (task_holds _ _ _ _ h t room ok.tasks.sized.serials)
    holds_after (semaphore_noted i room grew same no1 is8 v none keeps) n h =
        holds_same (sym same) (sym grew) (keeps (grid_since n past) (running_in past)) (ap (λ l. grants_since n past ++ l) (sym (none past)))
        (semaphore_holds _ _ _ _ h i room ok.semaphores.sized.serials)
    holds_after (grant_noted t i room room2 same no1 no8 one keeps) n h =
        holds_same (sym same.0) (sym same.1) (keeps (grid_since n past) ∙ ap (λ (v : ℕ). kept_by (grid_since n past) v y) (sym runs))
        (ap (λ l. grants_since n past ++ l) (sym (one past runs)))
        (grant_holds _ _ _ _ h t i room room2)

  told_after : Told s past → Told (answer_to s x).state (turn_of x (answer_to s x) ∷ past)
  told_after d =
      record {
        latest = latest_after (answer_to s x) (event_noted s x ok) d.latest;
        holds = at;
      }
    where
      at : (n : ℕ) → Holds (answer_to s x).state.tasks.serial (answer_to s x).state.semaphores.serial (grid_since n (turn_of x (answer_to s x) ∷ past)) (grants_since n (turn_of x (answer_to s x) ∷ past))
      at zero = cleared_holds _ _
      at (suc n) = holds_after (answer_to s x) (event_noted s x ok) n (d.holds n)

-- a fresh state
fresh_told : (p : ℕ) → Told (fresh_state p) []
unfolding fresh_state pick
fresh_told p =
    record {
      latest = record { task = first; semaphore = λ i h. ap (λ (v : ℕ). identifier v i) (sym (get_or-replicate 16 i 0 0 h)) };
      holds = at;
    }
  where
    first : (t : ℕ) → t < 32 → latest_task [] t ≡ object_in (1 ∷ replicate 31 0) t
    first zero h = refl
    first (suc t) h =
        ap (λ (v : ℕ). identifier v (suc t))
        (picked_no {A = ℕ} (eqb (suc t) 0) 1 0 (ne_eqb (suc t) 0 (λ e. omega (arith, e))) ∙ sym (get_or-replicate 31 t 0 0 (omega arith)))

    at : (n : ℕ) → Holds (fresh_state p).tasks.serial (fresh_state p).semaphores.serial (grid_since n []) (grants_since n [])
    at zero = cleared_holds _ _
    at (suc n) = cleared_holds _ _

-- the grid that is kept from a state on, by the states' running tasks, is the one that is kept by the turns
kept_along : (p : ℕ) (s : State) → Sound s → (ys : List Event) (n : ℕ) (past : List Turn) (told : Arrivals) → Agrees p s past told
    → kept_from (grid_since n past) s ys ≡ grid_since (n + length ys) (past_from past s ys)
kept_along p s ok [] n past told ag = ap (λ (k : ℕ). grid_since k past) (let e : n ≡ n + 0 = omega arith in e)
kept_along p s ok (x ∷ ys) n past told ag =
    ap (λ (v : ℕ). kept_from (kept_by (grid_since n past) v (turn_of x (answer_to s x))) (answer_to s x).state ys) (sym ag.running)
    ∙ kept_along p (answer_to s x).state (event_keeps s ok x) ys (suc n) (turn_of x (answer_to s x) ∷ past) (arrives told (suc (length past)) s (answer_to s x))
    ((event_steps s ok x).steps p past told ag)
    ∙ ap (λ (k : ℕ). grid_since k (past_from (turn_of x (answer_to s x) ∷ past) (answer_to s x).state ys)) (let e : suc n + length ys ≡ n + suc (length ys) = omega arith in e)

-- two histories one after the other
past_both : (past : List Turn) (s : State) (xs ys : List Event) → past_from past s (xs ++ ys) ≡ past_from (past_from past s xs) (after s xs) ys
past_both past s [] ys = refl
past_both past s (x ∷ xs) ys = past_both (turn_of x (answer_to s x) ∷ past) (answer_to s x).state xs ys

-- "For any history from a fresh state"
module _ (p : ℕ) (h : p ≤ 15) (xs : List Event) where
  abbrev past : List Turn
  past = past_of p xs

  history_told : Told (after (fresh_state p) xs) past
  history_told = history_has Told (λ s ok x past p told ag d. told_after s ok x past ag.running d) p h xs (fresh_told p)

  -- the grid that was cleared n turns ago
  pub grid_told : (n t i : ℕ) → t < 32 → i < 16
      → cell (grid_since n past) t i ≡ stopped (between (latest_task past t) (latest_semaphore past i) (grants_since n past))
  grid_told n t i a b =
      (history_told.holds n).cells t i a b
      ∙ ap (λ (v : ℕ). stopped (between v (object_in (after (fresh_state p) xs).semaphores.serial i) (grants_since n past))) (sym (history_told.latest.task t a))
      ∙ ap (λ (v : ℕ). stopped (between (latest_task past t) v (grants_since n past))) (sym (history_told.latest.semaphore i b))

-- A history xs, at whose end the grid is cleared, and a history ys after it.
module _ (p : ℕ) (h : p ≤ 15) (xs ys : List Event) where
  abbrev whole : List Turn
  whole = past_of p (xs ++ ys)

  pub kept_is : kept_from cleared (after (fresh_state p) xs) ys ≡ grid_since (length ys) whole
  kept_is =
      kept_along p (after (fresh_state p) xs) (end_sound p h xs) ys 0 (past_of p xs) _ (history_agrees p h xs)
      ∙ ap (λ (k : ℕ). grid_since k (past_from (past_of p xs) (after (fresh_state p) xs) ys)) (let e : 0 + length ys ≡ length ys = omega arith in e)
      ∙ ap (grid_since (length ys)) (sym (past_both [] (fresh_state p) xs ys))

  -- the grid that is kept by the call, its answer and the state before
  pub kept_told : (t i : ℕ) → t < 32 → i < 16
      → cell (kept_from cleared (after (fresh_state p) xs) ys) t i ≡ stopped (between (latest_task whole t) (latest_semaphore whole i) (grants_since (length ys) whole))
  kept_told t i a b = ap (λ (g : Grid). cell g t i) kept_is ∙ grid_told p h (xs ++ ys) (length ys) t i a b
