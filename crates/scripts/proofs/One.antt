-- The promise of `play_part` leaves no choice: two answers that it allows, of rooms as long, are of the same number of records, for one
-- that stopped earlier would have had room for the longest line; so the places and the bytes written are the same.
-- Assumes nothing.
use Prim.Native.Nat.{ℕ, ◌-◌, ◌≤◌}
use native.Mathlib.Omega.{arith}
use mathlib.Core.Path.{◌≡◌, sym, ap, ◌∙◌}
use mathlib.Core.Logic.{⊎_elim}
use mathlib.Core.List.{List}
use lib.ListN.{length, take}
use lib.Seq.{length-take-le}
use Rattle.laws.proofs.Branches.{lt_or_le}
use Rattle.scripts.specs.Place.{Point, Reached, after, lines_to, PlayedPart}

module _ (script : List ℕ) (p : Point) where
  -- how many records were played, and how many bytes that makes
  abbrev number : Reached → ℕ
  number r = p.left - r.place.left

  long : (out : List ℕ) (r : Reached) → PlayedPart script p out r → length (lines_to script (number r) p) ≡ r.written
  long out r h = sym (ap length h.lines) ∙ length-take-le r.written out h.room

  not_fewer : (out out' : List ℕ) (r r' : Reached) → length out ≡ length out' → PlayedPart script p out r → PlayedPart script p out' r'
      → number r' ≤ number r
  not_fewer out out' r r' same h h' =
      ⊎_elim (λ l. absurd (omega (arith, same, long out r h, h.stop (omega arith), h'.each (number r) l))) (λ l. l)
      (lt_or_le (number r) (number r'))

  pub part_one : (out out' : List ℕ) (r r' : Reached) → length out ≡ length out' → PlayedPart script p out r → PlayedPart script p out' r'
      → (r ≡ r') × (take r.written out ≡ take r'.written out')
  part_one out out' r r' same h h' =
      let n : number r ≡ number r' = omega (arith, not_fewer out out' r r' same h h', not_fewer out' out r' r (sym same) h' h) in
      let place : r.place ≡ r'.place = h.place ∙ ap (λ (x : ℕ). after script x p) n ∙ sym h'.place in
      let lines : take r.written out ≡ take r'.written out' = h.lines ∙ ap (λ (x : ℕ). lines_to script x p) n ∙ sym h'.lines in
      let written : r.written ≡ r'.written = sym (long out r h) ∙ ap (λ (x : ℕ). length (lines_to script x p)) n ∙ long out' r' h' in
      (λ i. record { place = place i; written = written i }, lines)
