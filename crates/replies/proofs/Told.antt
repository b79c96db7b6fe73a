-- The line of an answer's bytes is the line of the answer: its columns are read back, and a line tells no more of them than of the answer.
-- Assumes nothing.
use Prim.Native.Nat.{ℕ, ◌≤◌}
use native.Mathlib.Omega.{arith}
use mathlib.Core.Path.{◌≡◌, refl, ap, ◌∙◌}
use mathlib.Core.Bool.{Bool, true, false}
use mathlib.Core.List.{List}
use lib.Dec.{ltb}
use lib.ListN.{length, get_or}
use lib.Seq.{take_all}
use borrow.Author.Tests.{le-ltb}
use Rattle.scope.specs.declared.Answer.{Answer}
use Rattle.scope.specs.Choice.{pick}
use Rattle.scope.specs.Answers.{bit_of}
use Rattle.scope.specs.Replies.{reply_of}
use Rattle.scope.specs.Listing.{line_of}
use Rattle.laws.proofs.Branches.{picked_no}
use Rattle.text.specs.Lines.{reply_by}
use Rattle.fields.specs.Numbers.{is_on}
use Rattle.fields.specs.Fields.{Table, AllFine, TablesRead, bytes_of, size_of}
use Rattle.fields.proofs.Tables.{size_is, read_back}
use Rattle.replies.specs.Answers.{numbers_of, answer_tables, answer_bytes, bytes_of_answer}
use Rattle.lines.specs.Lines.{wakes_in, shown_in, at_most32, outcome_in, reply_in, line_in}

on_bit : (b : Bool) → is_on (bit_of b) ≡ b
unfolding bit_of pick
on_bit true = refl
on_bit false = refl

few_are : (n : ℕ) → n ≤ 32 → at_most32 n ≡ n
unfolding at_most32
few_are n h = picked_no (ltb 32 n) 32 n (le-ltb 32 n h)

module _ (a : Answer) where
  abbrev numbers : List ℕ
  numbers =
      numbers_of a.status (get_or a.values 0 0) (get_or a.values 1 0) (get_or a.values 2 0) (get_or a.values 3 0) a.negative a.running a.woken a.why
      a.delivers a.length

  abbrev told : List Table
  told = answer_tables numbers a.wakes a.shown

  -- given that its numbers fit four bytes and its message is bytes, as those that the code holds do
  module _ (fine : AllFine told) (few : a.woken ≤ 32) where
    read : TablesRead (bytes_of_answer a) told 0
    unfolding bytes_of_answer answer_bytes
    read = read_back (bytes_of told) told fine (let l : length (bytes_of told) ≤ size_of told = omega (arith, size_is told) in take_all (size_of told) (bytes_of told) l)

    abbrev b : List ℕ
    b = bytes_of_answer a

    -- the line by the columns
    by_columns : (n : ℕ) → line_of n (reply_by a.wakes (shown_in b) (outcome_in numbers) a.running) ≡ line_of n (reply_of a)
    unfolding line_of outcome_in
    by_columns n = rw (on_bit a.negative, on_bit a.delivers, few_are a.woken few)

    pub line_told : (n : ℕ) → line_in n (bytes_of_answer a) ≡ line_of n (reply_of a)
    unfolding line_in reply_in
    line_told n =
        ap (λ (l : List ℕ). line_of n (reply_by (wakes_in b) (shown_in b) (outcome_in l) (get_or l 6 0))) read.0.0
        ∙ ap (λ (l : List ℕ). line_of n (reply_by l (shown_in b) (outcome_in numbers) a.running)) read.1.0.0
        ∙ by_columns n
