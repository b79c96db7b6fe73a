-- What playing a script in parts keeps and gives: what was written and what is still to come is what was to come.
-- Assumes nothing.
use Rattle.std.specs.Prelude.{ℕ, zero, suc, ◌+◌, ◌*◌, ◌-◌, ◌≤◌, ◌<◌, ◌≡◌, List, [], ◌++◌, length, take}
use Rattle.scope.specs.Script.{record_count, first_offset, first_priority, step_at}
use Rattle.scope.specs.Fresh.{fresh_state}
use Rattle.scope.specs.declared.State.{State}
use Rattle.scope.specs.Replies.{reply_of}
use Rattle.scope.specs.Listing.{line_of, lines_from, listing}
use Rattle.histories.specs.Sound.{Sound}
use Rattle.text.specs.Lines.{longest_line}
use Rattle.scripts.specs.declared.Place.{Place}
use Rattle.scripts.specs.declared.Part.{Part}

-- a point of a script: the state there, how many records are left, the number of the next and where it starts
pub record Point : Type 0 where
  pub state : State
  pub left : ℕ
  pub number : ℕ
  pub at : ℕ

-- the point that a state and a place make
abbrev pub point_at : State → Place → Point
point_at s p = record { state = s; left = p.left; number = p.number; at = p.at }

-- the point after a part of the listing, and how many bytes of it were written
pub record Reached : Type 0 where
  pub place : Point
  pub written : ℕ

abbrev pub reached : State → Part → Reached
reached s r = record { place = point_at s r.place; written = r.written }

-- the lines still to come
unfoldable pub to_come : List ℕ → Point → List ℕ
to_come script p = lines_from script p.left p.number p.at p.state

-- the point after the next record
unfoldable pub next : List ℕ → Point → Point
next script p =
    record { state = (step_at script p.at p.state).state; left = p.left - 1; number = p.number + 1; at = p.at + 28 }

-- and after n records
unfoldable pub after : List ℕ → ℕ → Point → Point
after script zero p = p
after script (suc n) p = next script (after script n p)

-- the lines of the first n records
unfoldable pub lines_to : List ℕ → ℕ → Point → List ℕ
lines_to script zero p = []
lines_to script (suc n) p =
    lines_to script n p ++ line_of (after script n p).number (reply_of (step_at script (after script n p).at (after script n p).state))

-- the records left lie within the script, behind its first four numbers, and the state is sound; a script of 65,536 bytes has
-- room for 2,340 records
pub record Playing (script : List ℕ) (p : Point) : Type 0 where
  pub small : length script ≤ 65536
  pub start : 16 ≤ p.at
  pub within : p.at + 28 * p.left ≤ length script
  pub numbered : p.number + p.left ≤ 2341
  pub state : Sound p.state

-- the point before the first record: the whole listing is still to come
pub record Begun (script : List ℕ) (p : Point) : Type 0 where
  pub whole : to_come script p ≡ listing script
  pub state : p.state ≡ fresh_state (first_priority script)
  pub left : p.left ≡ record_count script
  pub number : p.number ≡ 1
  pub at : p.at ≡ first_offset script
  pub playing : Playing script p

-- the record at a place was played from state s, and its line put behind the first k bytes
pub record LinePut (script : List ℕ) (at number : ℕ) (s : State) (before : List ℕ) (k : ℕ) (n : State) (lines : List ℕ) (written : ℕ) : Type 0 where
  pub state : n ≡ (step_at script at s).state
  pub grown : written ≡ k + length (line_of number (reply_of (step_at script at s)))
  pub put : take written lines ≡ take k before ++ line_of number (reply_of (step_at script at s))

-- one record was played from point p, and its line put behind the first k bytes
pub record Played (script : List ℕ) (p : Point) (before : List ℕ) (k : ℕ) (out : List ℕ) (r : Reached) : Type 0 where
  pub fitted : k + longest_line ≤ length before
  pub line : take r.written out ≡ take k before ++ line_of p.number (reply_of (step_at script p.at p.state))
  pub put : take r.written out ++ to_come script r.place ≡ take k before ++ to_come script p
  pub grows : k < r.written
  pub room : r.written ≤ length out
  pub short : r.written ≤ k + longest_line
  pub fewer : r.place.left + 1 ≡ p.left
  pub place : r.place ≡ next script p
  pub playing : Playing script r.place

-- Records were played from point p, one after another, while any was left and there was room for the longest line behind those so
-- far: so all that were left, where there was room for as many of the longest lines, and at least one, where any was left and there
-- was room for its line. How many is thereby fixed, and with it the point after them and the bytes written.
pub record PlayedPart (script : List ℕ) (p : Point) (out : List ℕ) (r : Reached) : Type 0 where
  pub fewer : r.place.left ≤ p.left
  pub place : r.place ≡ after script (p.left - r.place.left) p
  pub lines : take r.written out ≡ lines_to script (p.left - r.place.left) p
  pub room : r.written ≤ length out
  pub each : (n : ℕ) → n < p.left - r.place.left → length (lines_to script n p) + longest_line ≤ length out
  pub stop : 1 ≤ r.place.left → length out < r.written + longest_line
  pub put : take r.written out ++ to_come script r.place ≡ to_come script p
  pub whole : longest_line * p.left ≤ length out → r.place.left ≡ 0
  pub onward : 1 ≤ p.left → longest_line ≤ length out → (r.place.left < p.left) × (0 < r.written)
  pub playing : Playing script r.place
