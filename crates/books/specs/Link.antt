-- The past read from its beginning: what was called, and what was told.
-- Assumes nothing.
use Rattle.std.specs.Prelude.{List, [], ◌∷◌, ◌++◌}
use Rattle.scope.specs.Replies.{Reply}
use Rattle.histories.specs.History.{Event}
use Rattle.books.specs.Past.{Turn}

abbrev pub events_in : List Turn → List Event
events_in [] = []
events_in (x ∷ past) = events_in past ++ (x.event ∷ [])

abbrev pub replies_in : List Turn → List Reply
replies_in [] = []
replies_in (x ∷ past) = replies_in past ++ (x.reply ∷ [])
