-- Decimal digits, what stands in a list after bytes are put one behind the other, and the length of a line.
-- Idea: a put from `at` to `r` says only what `take r` is, so two puts in a row are one put of both texts.
-- Assumes nothing.
use mathlib.Core.Path.{◌≡◌, refl, sym, ap, subst, ◌∙◌}
use mathlib.Core.Bool.{Bool, true, false}
use mathlib.Core.Logic.{⊎_elim}
use mathlib.Core.List.{List, [], ◌∷◌, ◌++◌, append-nil, append_assoc}
use Prim.Native.Nat.{ℕ, zero, suc, ◌+◌, ◌*◌, ◌/◌, ◌%◌, ◌^◌, ◌≤◌, ◌<◌}
use native.Mathlib.Nat.{pow-suc}
use native.Mathlib.Omega.{arith}
use native.Mathlib.Numerals.{add-one}
use lib.ListN.{length, take, drop, set, get_or, replicate, length-append, length-drop}
use lib.Seq.{take-suc-set, take-length, take-take, length-take-le, get_or-take, get_or-drop, paste, paste-suc, take-paste}
use borrow.Author.Tests.{lt-ltb, le-ltb}
use Rattle.scope.specs.declared.Answer.{Answer}
use Rattle.scope.specs.Choice.{pick}
use Rattle.scope.specs.Replies.{wakes_from, reply_of}
use Rattle.scope.specs.Script.{message_at}
use Rattle.scope.specs.Listing.{digits, decimal, signed, field, wake_fields, delivery_field, line_of}
use Rattle.text.specs.declared.Writer.{Writer}
use Rattle.text.specs.Lines.{last_two, longest_line}
use Rattle.text.specs.Writers.{Wrote}
use Rattle.laws.proofs.Branches.{lt_or_le}
use Rattle.laws.proofs.Arrays.{at_end_lem}

-- the first digit decides
module _ (k n : ℕ) where
  abbrev choose : Bool → List ℕ
  choose b = elim b as (λ x. List ℕ) [ true ↦ (48 + n) ∷ [] | false ↦ digits k (n / 10) ++ ((48 + n % 10) ∷ []) ]

  one_digit : n < 10 → digits (suc k) n ≡ (48 + n) ∷ []
  one_digit h = ap choose (lt-ltb n 10 h)

  more_digits : 10 ≤ n → digits (suc k) n ≡ digits k (n / 10) ++ ((48 + n % 10) ∷ [])
  more_digits h = ap choose (le-ltb n 10 h)

-- one digit more to look at changes nothing where the number has no more
fuel : (k n : ℕ) → n < 10 ^ suc k → digits (suc k) n ≡ digits (suc (suc k)) n
fuel zero n h =
    let l : n < 10 = omega (arith, h) in
    one_digit 0 n l ∙ sym (one_digit 1 n l)
fuel (suc k) n h =
    ⊎_elim
    (λ l. one_digit (suc k) n l ∙ sym (one_digit (suc (suc k)) n l))
    (λ l. more_digits (suc k) n l ∙ ap (λ (ds : List ℕ). ds ++ ((48 + n % 10) ∷ [])) (fuel k (n / 10) (omega (arith, h, pow-suc 10 (suc k)))) ∙ sym (more_digits (suc (suc k)) n l))
    (lt_or_le n 10)

pub decimal_small : (n : ℕ) → n < 10 → decimal n ≡ (48 + n) ∷ []
unfolding decimal
decimal_small n h = one_digit 9 n h

pub decimal_more : (n : ℕ) → n < 2 ^ 32 → 10 ≤ n → decimal n ≡ decimal (n / 10) ++ ((48 + n % 10) ∷ [])
unfolding decimal
decimal_more n h l =
    more_digits 9 n l ∙ ap (λ (ds : List ℕ). ds ++ ((48 + n % 10) ∷ [])) (fuel 8 (n / 10) (omega arith))

digits-length : (k n : ℕ) → length (digits k n) ≤ k
digits-length zero n = omega arith
digits-length (suc k) n =
    ⊎_elim
    (λ l. omega (arith, ap length (one_digit k n l)))
    (λ l. omega (arith, simp length-append at (ap length (more_digits k n l)), digits-length k (n / 10)))
    (lt_or_le n 10)

pub decimal-length : (n : ℕ) → length (decimal n) ≤ 10
unfolding decimal
decimal-length n = digits-length 10 n

pub signed-length : (negative : Bool) (n : ℕ) → length (signed negative n) ≤ 11
unfolding signed pick
signed-length true n = omega (arith, decimal-length n)
signed-length false n = omega (arith, decimal-length n)

-- a number of two digits, and the last two of a longer one
pub decimal_two : (n : ℕ) → 10 ≤ n → n < 100 → decimal n ≡ last_two n
decimal_two n l h =
    let a : n / 10 < 10 = omega arith in
    let b : n / 10 % 10 ≡ n / 10 = omega arith in
    decimal_more n (omega arith) l
    ∙ ap (λ (ds : List ℕ). ds ++ ((48 + n % 10) ∷ [])) (decimal_small (n / 10) a)
    ∙ ap (λ (d : ℕ). (48 + d) ∷ (48 + n % 10) ∷ []) (sym b)

pub decimal_hundreds : (n : ℕ) → n < 2 ^ 32 → 100 ≤ n → decimal n ≡ decimal (n / 100) ++ last_two n
decimal_hundreds n h l =
    let a : 10 ≤ n / 10 = omega arith in
    let b : n / 10 / 10 ≡ n / 100 = omega arith in
    decimal_more n h (omega arith)
    ∙ ap (λ (ds : List ℕ). ds ++ ((48 + n % 10) ∷ [])) (decimal_more (n / 10) (omega arith) a)
    ∙ append_assoc (decimal (n / 10 / 10)) ((48 + n / 10 % 10) ∷ []) ((48 + n % 10) ∷ [])
    ∙ ap (λ (m : ℕ). decimal m ++ last_two n) b

pub two_length : (n : ℕ) → 10 ≤ n → n < 100 → length (decimal n) ≡ 2
two_length n l h = ap length (decimal_two n l h)

pub hundreds_length : (n : ℕ) → n < 2 ^ 32 → 100 ≤ n → length (decimal n) ≡ length (decimal (n / 100)) + 2
hundreds_length n h l = ap length (decimal_hundreds n h l) ∙ length-append (decimal (n / 100)) (last_two n)

-- two texts, one behind the other
pub wrote_then : (u v w : Writer) (c d : List ℕ) → Wrote u v c → Wrote v w d → Wrote u w (c ++ d)
wrote_then u v w c d p q = (
  rw length-append (omega (arith, p.0, q.0)),
  q.1 ∙ ap (λ (l : List ℕ). l ++ d) p.1 ∙ append_assoc (take u.at u.bytes.now) c d,
  q.2 ∙ p.2,
  q.3 ∙ p.3,
)

-- the same text under another name
pub wrote_as : (v w : Writer) {c d : List ℕ} → c ≡ d → Wrote v w c → Wrote v w d
wrote_as v w e p = subst (Wrote v w) e p

-- signs of digits, as a number's digits
pub one_sign : (n b : ℕ) → n < 10 → b ≡ 48 + n % 10 → b ∷ [] ≡ decimal n
one_sign n b h e = let m : n % 10 ≡ n = omega arith in rw (e, m, decimal_small n h)

-- one wake's field
abbrev pub wake : ℕ → ℕ → List ℕ
wake task why = field (decimal task ++ (58 ∷ decimal why))

-- a wake more stands behind those before it
wakes_more : (n k j : ℕ) (wakes : List ℕ) (why : ℕ) → j ≡ k + n
    → wake_fields (wakes_from (suc n) k wakes why) ≡ wake_fields (wakes_from n k wakes why) ++ wake (get_or wakes j 0) why
unfolding wake_fields
wakes_more zero k j wakes why e =
    let q : k ≡ j = omega (arith, e) in
    append-nil (wake (get_or wakes k 0) why) ∙ ap (λ (i : ℕ). wake (get_or wakes i 0) why) q
wakes_more (suc n) k j wakes why e =
    let f : List ℕ = wake (get_or wakes k 0) why in
    ap (λ (l : List ℕ). f ++ l) (wakes_more n (suc k) j wakes why (omega (arith, e)))
    ∙ sym (append_assoc f (wake_fields (wakes_from n (suc k) wakes why)) (wake (get_or wakes j 0) why))

pub wrote_wake : (u v w : Writer) (n : ℕ) (wakes : List ℕ) (why : ℕ) → Wrote u v (wake_fields (wakes_from n 0 wakes why))
    → Wrote v w (wake (get_or wakes n 0) why) → Wrote u w (wake_fields (wakes_from (n + 1) 0 wakes why))
wrote_wake u v w n wakes why p q =
    rw (add-one n, wakes_more n 0 n wakes why (omega arith))
    (wrote_then u v w (wake_fields (wakes_from n 0 wakes why)) (wake (get_or wakes n 0) why) p q)

-- the wakes of the first n tasks are those of a list of just these
first_wakes : (n m k : ℕ) (wakes : List ℕ) (why : ℕ) → k + n ≤ m → wakes_from n k (take m wakes) why ≡ wakes_from n k wakes why
first_wakes zero m k wakes why h = refl
first_wakes (suc n) m k wakes why h =
    rw (get_or-take m wakes k 0 (omega arith), first_wakes n m (suc k) wakes why (omega arith)) refl

pub all_wakes : (n : ℕ) (wakes : List ℕ) (why : ℕ) → n ≤ length wakes
    → wakes_from (length (take n wakes)) 0 (take n wakes) why ≡ wakes_from n 0 wakes why
all_wakes n wakes why h = rw (length-take-le n wakes h) (first_wakes n n 0 wakes why (omega arith))

wake-length : (task why : ℕ) → length (wake task why) ≤ 22
wake-length task why =
    omega (arith, length-append (decimal task) (58 ∷ decimal why), decimal-length task, decimal-length why)

pub wakes_length : (n k : ℕ) (wakes : List ℕ) (why : ℕ) → length (wake_fields (wakes_from n k wakes why)) ≤ 22 * n
unfolding wake_fields
wakes_length zero k wakes why = omega arith
wakes_length (suc n) k wakes why =
    let f : List ℕ = wake (get_or wakes k 0) why in
    omega (arith, length-append f (wake_fields (wakes_from n (suc k) wakes why)), wake-length (get_or wakes k 0) why, wakes_length n (suc k) wakes why)

pub delivery_length : (delivers : Bool) (n : ℕ) → length (delivery_field delivers n) ≤ 11
unfolding delivery_field pick
delivery_length true n = omega (arith, decimal-length n)
delivery_length false n = omega arith

-- no line is longer than the longest
pub line_length : (number : ℕ) (a : Answer) → a.woken ≤ 32 → length (line_of number (reply_of a)) ≤ longest_line
unfolding line_of
line_length number a h =
    simp length-append
    (omega (
      arith,
      decimal-length number,
      decimal-length a.status,
      decimal-length (get_or a.values 0 0),
      signed-length a.negative (get_or a.values 1 0),
      decimal-length (get_or a.values 2 0),
      decimal-length (get_or a.values 3 0),
      decimal-length a.running,
      wakes_length a.woken 0 a.wakes a.why,
      delivery_length a.delivers a.length,
    ))
