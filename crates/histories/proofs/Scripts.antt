-- The listing of a script is the lines of the history that its records are, from a fresh state: so what is proved of histories is
-- proved of what a script plays. Record by record.
-- Assumes nothing.
use Prim.Native.Nat.{ℕ, zero, suc, ◌+◌}
use mathlib.Core.Path.{◌≡◌, refl, ap, ◌∙◌}
use mathlib.Core.Bool.{true}
use mathlib.Core.List.{List, ◌++◌}
use Rattle.scope.specs.declared.State.{State}
use Rattle.scope.specs.Replies.{reply_of}
use Rattle.scope.specs.Fresh.{fresh_state}
use Rattle.scope.specs.Script.{record_count, first_offset, first_priority, is_script, step_at}
use Rattle.scope.specs.Listing.{line_of, lines_from, listing}
use Rattle.histories.specs.History.{answer_to}
use Rattle.histories.specs.Scripts.{event_at, events_from, events_of, replies_along, lines_of}

-- the step that a record asks for is the answer to its event
step_is : (script : List ℕ) (at : ℕ) (s : State) → step_at script at s ≡ answer_to s (event_at script at)
unfolding step_at
step_is script at s = refl

lines_along : (script : List ℕ) (n k at : ℕ) (s : State) → lines_from script n k at s ≡ lines_of k (replies_along s (events_from script n at))
unfolding lines_from
lines_along script zero k at s = refl
lines_along script (suc n) k at s =
    rw (step_is script at s)
    (ap (λ (l : List ℕ). line_of k (reply_of (answer_to s (event_at script at))) ++ l)
    (lines_along script n (suc k) (at + 28) (answer_to s (event_at script at)).state))

lines_are : (script : List ℕ) → is_script script ≡ true
    → listing script ≡ lines_from script (record_count script) 1 (first_offset script) (fresh_state (first_priority script))
unfolding listing
lines_are script e = rw (listing, e)

pub listing_of_history : (script : List ℕ) → is_script script ≡ true
    → listing script ≡ lines_of 1 (replies_along (fresh_state (first_priority script)) (events_of script))
listing_of_history script e =
    lines_are script e ∙ lines_along script (record_count script) 1 (first_offset script) (fresh_state (first_priority script))
