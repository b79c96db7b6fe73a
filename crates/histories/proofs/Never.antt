-- "Hence over every history from a fresh state `step` never answers 26, and the player may use the inner step": a sound state
-- breaks no rule, and there the step is the step without the check.
-- Assumes nothing.
use Prim.Native.Nat.{ℕ, ◌≤◌}
use mathlib.Core.Path.{◌≡◌}
use mathlib.Core.List.{List}
use Rattle.scope.specs.Statuses.{BAD_STATE}
use Rattle.scope.specs.Fresh.{fresh_state}
use Rattle.laws.proofs.Branches.{true-false}
use Rattle.histories.specs.History.{Event, answer_to, after}
use Rattle.histories.proofs.Meaning.{sound_right}
use Rattle.histories.proofs.Refusals.{bad_state_lem}
use Rattle.histories.proofs.Demand.{end_sound}

pub never_bad_state : (p : ℕ) → p ≤ 15 → (xs : List Event) (x : Event) → (answer_to (after (fresh_state p) xs) x).status ≡ BAD_STATE → ⊥
never_bad_state p h xs x e =
    true-false (sound_right (after (fresh_state p) xs) (end_sound p h xs))
    (bad_state_lem (after (fresh_state p) xs) x.call x.mark x.a x.b x.c x.d x.e x.message e)
