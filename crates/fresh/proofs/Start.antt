-- What `fresh` says, by whether the priority is one.
-- Assumes nothing.
use Prim.Native.Nat.{ℕ, ◌<◌, ◌≤◌}
use mathlib.Core.Path.{◌≡◌, refl, sym}
use borrow.Author.Tests.{lt-ltb, le-ltb}
use Rattle.laws.proofs.Branches.{pick_yes, pick_no}
use Rattle.scope.specs.Statuses.{OK, INVALID_PRIORITY}
use Rattle.scope.specs.Fresh.{fresh_state, fresh}

pub fresh_above : (p : ℕ) → 15 < p → fresh p ≡ record { state = fresh_state 0; status = INVALID_PRIORITY }
unfolding fresh
fresh_above p above = sym (pick_yes _ _ _ (lt-ltb _ _ above) refl)

pub fresh_within : (p : ℕ) → p ≤ 15 → fresh p ≡ record { state = fresh_state p; status = OK }
unfolding fresh
fresh_within p within = sym (pick_no _ _ _ (le-ltb _ _ within) refl)
