-- The past that a history tells holds its events and the replies along it, so the listing of a script is the lines of the past of
-- its records: what is proved of a past is proved of what a script plays. A turn more is an element more at the end.
-- Assumes nothing.
use Prim.Native.Nat.{ℕ}
use mathlib.Core.Path.{◌≡◌, sym, ap, ◌∙◌}
use mathlib.Core.Bool.{true}
use mathlib.Core.List.{List, [], ◌∷◌, ◌++◌, append-nil, append_assoc}
use Rattle.scope.specs.declared.State.{State}
use Rattle.scope.specs.Replies.{reply_of}
use Rattle.scope.specs.Fresh.{fresh_state}
use Rattle.scope.specs.Script.{first_priority, is_script}
use Rattle.scope.specs.Listing.{listing}
use Rattle.histories.specs.History.{Event, answer_to}
use Rattle.histories.specs.Scripts.{events_of, replies_along, lines_of}
use Rattle.histories.proofs.Scripts.{listing_of_history}
use Rattle.books.specs.Past.{Turn, past_from, past_of}
use Rattle.books.specs.Link.{events_in, replies_in}

events_from_lem : (past : List Turn) (s : State) (xs : List Event) → events_in (past_from past s xs) ≡ events_in past ++ xs
events_from_lem past s [] = sym (append-nil (events_in past))
events_from_lem past s (x ∷ xs) =
    events_from_lem (record { event = x; reply = reply_of (answer_to s x) } ∷ past) (answer_to s x).state xs
    ∙ append_assoc (events_in past) (x ∷ []) xs

replies_from : (past : List Turn) (s : State) (xs : List Event) → replies_in (past_from past s xs) ≡ replies_in past ++ replies_along s xs
replies_from past s [] = sym (append-nil (replies_in past))
replies_from past s (x ∷ xs) =
    replies_from (record { event = x; reply = reply_of (answer_to s x) } ∷ past) (answer_to s x).state xs
    ∙ append_assoc (replies_in past) (reply_of (answer_to s x) ∷ []) (replies_along (answer_to s x).state xs)

pub events_of_past : (p : ℕ) (xs : List Event) → events_in (past_of p xs) ≡ xs
events_of_past p xs = events_from_lem [] (fresh_state p) xs

pub replies_of_past : (p : ℕ) (xs : List Event) → replies_in (past_of p xs) ≡ replies_along (fresh_state p) xs
replies_of_past p xs = replies_from [] (fresh_state p) xs

pub listing_of_past : (script : List ℕ) → is_script script ≡ true
    → listing script ≡ lines_of 1 (replies_in (past_of (first_priority script) (events_of script)))
listing_of_past script e =
    listing_of_history script e ∙ ap (lines_of 1) (sym (replies_of_past (first_priority script) (events_of script)))
