-- The line of a listing that tells the answer in an answer's bytes; and a text put into a lent slice: "31 NO_ROOM exactly if a slice
-- lent for .. listing is shorter than needed, nothing written".
-- Assumes nothing.
use Rattle.std.specs.Prelude.{ℕ, List, [], ◌∷◌, ◌++◌, ltb, length, get_or, drop}
use Rattle.scope.specs.Choice.{pick}
use Rattle.scope.specs.Statuses.{OK}
use Rattle.scope.specs.Replies.{Reply}
use Rattle.scope.specs.Listing.{line_of}
use Rattle.answers.specs.declared.Outcome.{Outcome}
use Rattle.text.specs.Lines.{reply_by}
use Rattle.fields.specs.Numbers.{is_on}
use Rattle.fields.specs.Columns.{take_column}
use Rattle.image.specs.Reading.{NO_ROOM}

-- What stands in the bytes, whatever they are: any number but 0 is a yes, and no more are woken than there are places.
abbrev pub numbers_in : List ℕ → List ℕ
numbers_in b = take_column 4 1 4 11 b 0

abbrev pub wakes_in : List ℕ → List ℕ
wakes_in b = take_column 4 1 4 32 b 44

abbrev pub shown_in : List ℕ → List ℕ
shown_in b = take_column 1 64 64 1 b 172

unfoldable pub at_most32 : ℕ → ℕ
at_most32 n = pick (ltb 32 n) 32 n

-- the numbers as an outcome (of no slot: a line tells the running task's identifier)
unfoldable pub outcome_in : List ℕ → Outcome
outcome_in n =
    record {
      status = get_or n 0 0;
      values = get_or n 1 0 ∷ get_or n 2 0 ∷ get_or n 3 0 ∷ get_or n 4 0 ∷ [];
      negative = is_on (get_or n 5 0);
      woken = at_most32 (get_or n 7 0);
      why = get_or n 8 0;
      runs = 32;
      delivers = is_on (get_or n 9 0);
      length = get_or n 10 0;
    }

unfoldable pub reply_in : List ℕ → Reply
reply_in b = reply_by (wakes_in b) (shown_in b) (outcome_in (numbers_in b)) (get_or (numbers_in b) 6 0)

unfoldable pub line_in : ℕ → List ℕ → List ℕ
line_in record# b = line_of record# (reply_in b)

-- what is left in a slice lent for a text, the length that the text has, and the status
pub record Told : Type 0 where
  pub bytes : List ℕ
  pub needed : List ℕ
  pub status : ℕ

-- the text at the start of the slice, or nothing; its length is told in either case
unfoldable pub tells : List ℕ → List ℕ → Told
tells text out =
    pick (ltb (length out) (length text)) (record { bytes = out; needed = length text ∷ []; status = NO_ROOM })
    (record { bytes = text ++ drop (length text) out; needed = length text ∷ []; status = OK })
