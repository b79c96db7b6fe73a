-- A text in a lent slice by whether it fits there, and the line out of an answer's columns.
-- Assumes nothing.
use Prim.Native.Nat.{ℕ, ◌+◌, ◌≤◌, ◌<◌}
use native.Mathlib.Omega.{arith}
use mathlib.Core.Path.{◌≡◌, refl, sym, ap, ◌∙◌, subst}
use mathlib.Core.List.{List, [], ◌∷◌, ◌++◌}
use lib.Dec.{ltb, lit≤}
use lib.ListN.{length, take, drop, get_or, length-take}
use borrow.Author.Tests.{lt-ltb, le-ltb}
use Rattle.scope.specs.Statuses.{OK}
use Rattle.scope.specs.Listing.{line_of}
use Rattle.laws.proofs.Branches.{pick_yes, pick_no, lt_or_le}
use mathlib.Core.Logic.{⊎_elim}
use Rattle.answers.specs.declared.Outcome.{Outcome}
use Rattle.text.specs.Lines.{reply_by}
use Rattle.image.specs.Reading.{NO_ROOM}
use Rattle.lines.specs.Lines.{numbers_in, wakes_in, shown_in, at_most32, outcome_in, reply_in, line_in, Told, tells}

abbrev told : List ℕ → ℕ → ℕ → Told
told b n r = record { bytes = b; needed = n ∷ []; status = r }

module _ (text out : List ℕ) {n : ℕ} (e : n ≡ length text) where
  pub tells_no : length out < n → told out n NO_ROOM ≡ tells text out
  unfolding tells
  tells_no h =
      pick_yes (ltb (length out) (length text)) _ _ (lt-ltb (length out) (length text) (subst (λ (k : ℕ). length out < k) e h)) (λ i. told out (e i) NO_ROOM)

  pub tells_yes : {out' : List ℕ} → n ≤ length out → out' ≡ text ++ drop n out → told out' n OK ≡ tells text out
  unfolding tells
  tells_yes h f =
      pick_no (ltb (length out) (length text)) _ _ (le-ltb (length out) (length text) (subst (λ (k : ℕ). k ≤ length out) e h))
      (λ i. told ((f ∙ ap (λ (k : ℕ). text ++ drop k out) e) i) (e i) OK)

pub at_most : (n : ℕ) → at_most32 n ≤ 32
unfolding at_most32
at_most n =
    ⊎_elim
    (λ l. subst (λ (k : ℕ). k ≤ 32) (pick_yes (ltb 32 n) 32 n (lt-ltb 32 n l) refl) (lit≤ tt))
    (λ l. subst (λ (k : ℕ). k ≤ 32) (pick_no (ltb 32 n) 32 n (le-ltb 32 n l) refl) l)
    (lt_or_le 32 n)

pub few_in : (numbers : List ℕ) (o : Outcome) → o ≡ outcome_in numbers → o.woken ≤ 32
unfolding outcome_in
few_in numbers o e = subst (λ (n : ℕ). n ≤ 32) (sym (ap (λ (x : Outcome). x.woken) e)) (at_most (get_or numbers 7 0))

-- the line that was put is the one of the bytes
module _ (b numbers wakes : List ℕ) (o : Outcome) (number : ℕ) (n : numbers ≡ numbers_in b) (w : wakes ≡ wakes_in b) (is : o ≡ outcome_in numbers) where
  line_is : line_of number (reply_by wakes (shown_in b) o (get_or numbers 6 0)) ≡ line_in number b
  unfolding line_in reply_in
  line_is =
      ap (λ (x : Outcome). line_of number (reply_by wakes (shown_in b) x (get_or numbers 6 0))) is
      ∙ ap (λ (l : List ℕ). line_of number (reply_by l (shown_in b) (outcome_in numbers) (get_or numbers 6 0))) w
      ∙ ap (λ (l : List ℕ). line_of number (reply_by (wakes_in b) (shown_in b) (outcome_in l) (get_or l 6 0))) n

  pub line_put : (line line' : List ℕ) (r : ℕ)
      → ((shown : List ℕ) → (r ≡ 0 + length (line_of number (reply_by wakes shown o (get_or numbers 6 0))))
      × (take r line' ≡ take 0 line ++ line_of number (reply_by wakes shown o (get_or numbers 6 0))))
      → (r ≡ length (line_in number b)) × (take r line' ≡ line_in number b) × (r ≤ length line')
  line_put line line' r p =
      let q = p (shown_in b) in
      let z : 0 + length (line_of number (reply_by wakes (shown_in b) o (get_or numbers 6 0))) ≡ length (line_of number (reply_by wakes (shown_in b) o (get_or numbers 6 0))) = omega arith in
      let e : r ≡ length (line_in number b) = q.0 ∙ z ∙ ap (λ (l : List ℕ). length l) line_is in
      let t : take r line' ≡ line_in number b = q.1 ∙ line_is in
      let l : length (take r line') ≡ r = ap length t ∙ sym e in
      (e, t, omega (arith, length-take r line', l))
