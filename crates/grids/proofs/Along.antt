-- What each turn keeps holds at the end of every history from a fresh state: turn after turn, each from a sound state that agrees with
-- what the answers tell.
-- Assumes nothing.
use Prim.Native.Nat.{ℕ, suc, ◌≤◌}
use mathlib.Core.List.{List, [], ◌∷◌}
use lib.ListN.{length}
use Rattle.scope.specs.declared.State.{State}
use Rattle.scope.specs.Fresh.{fresh_state}
use Rattle.histories.specs.Sound.{Sound}
use Rattle.histories.specs.History.{Event, answer_to, after}
use Rattle.histories.specs.Order.{Arrivals, no_arrivals, arrives}
use Rattle.histories.proofs.Fresh.{fresh_sound}
use Rattle.histories.proofs.Ledger.{event_keeps}
use Rattle.books.specs.Past.{Turn, past_from, past_of}
use Rattle.books.proofs.Agreeing.{turn_of, Agrees}
use Rattle.books.proofs.Telling.{event_steps}
use Rattle.books.proofs.Told.{fresh_agrees}

module _ (P : State → List Turn → Type 0)
    (keeps : (s : State) → Sound s → (x : Event) (past : List Turn) (p : ℕ) (told : Arrivals) → Agrees p s past told → P s past → P (answer_to s x).state (turn_of x (answer_to s x) ∷ past)) where
  along : (p : ℕ) (s : State) → Sound s → (xs : List Event) (past : List Turn) (told : Arrivals) → Agrees p s past told → P s past → P (after s xs) (past_from past s xs)
  along p s ok [] past told ag d = d
  along p s ok (x ∷ xs) past told ag d =
      along p (answer_to s x).state (event_keeps s ok x) xs (turn_of x (answer_to s x) ∷ past) (arrives told (suc (length past)) s (answer_to s x))
      ((event_steps s ok x).steps p past told ag) (keeps s ok x past p told ag d)

  pub history_has : (p : ℕ) → p ≤ 15 → (xs : List Event) → P (fresh_state p) [] → P (after (fresh_state p) xs) (past_of p xs)
  history_has p h xs d = along p (fresh_state p) (fresh_sound p h) xs [] no_arrivals (fresh_agrees p h) d
