-- The number of tasks that stand in a queue is the n of its rule: counted up to place k, and one place more adds one task.
-- So no queue of 32 tasks is longer than 32.
-- Assumes nothing.
use Prim.Native.Nat.{ℕ, zero, suc, ◌+◌, ◌≤◌, ◌<◌}
use native.Mathlib.Omega.{arith}
use native.Mathlib.Nat.{eq-or-lt_of_le}
use mathlib.Core.Path.{◌≡◌, refl, sym, subst, ap, ◌∙◌}
use mathlib.Core.Logic.{◌⊎◌, inl, inr, ⊎_elim}
use mathlib.Core.Bool.{Bool, true, false, ◌&&◌}
use mathlib.Core.List.{List}
use lib.ListN.{length, get_or}
use lib.Dec.{ltb}
use borrow.Author.Tests.{lt-ltb, le-ltb}
use Rattle.laws.proofs.Branches.{picked_no, both, first_fails, second_fails, lt_or_le}
use Rattle.laws.proofs.Searches.{number_hit, number-le}
use Rattle.laws.proofs.Arrays.{inside}
use Rattle.scope.specs.Choice.{pick, number}
use Rattle.scope.specs.Seats.{stands_in, standing}
use Rattle.scope.proofs.Seats.{number_more}
use Rattle.laws.specs.Seating.{Seated}

-- nothing passes
number_none : (p : ℕ → Bool) (n : ℕ) → ((t : ℕ) → p t ≡ false) → number p n ≡ 0
unfolding number
number_none p zero h = refl
number_none p (suc n) h = omega (arith, picked_no {A = ℕ} (p n) 1 0 (h n), number_none p n h)

number_same : (p r : ℕ → Bool) (n : ℕ) → ((t : ℕ) → p t ≡ r t) → number p n ≡ number r n
unfolding number
number_same p r zero h = refl
number_same p r (suc n) h = omega (arith, ap (λ (b : Bool). pick {A = ℕ} b 1 0) (h n), number_same p r n h)

-- one passes, and no other
pub number-one : (p : ℕ → Bool) (n w : ℕ) → w < n → p w ≡ true → ((t : ℕ) → (t ≡ w → ⊥) → p t ≡ false) → number p n ≡ 1
number-one p n w h was none =
    omega (arith, number_more p (λ t. false) w none was refl n h, number_none (λ t. false) n (λ t. refl))

number_mono : (p : ℕ → Bool) (m n : ℕ) → m ≤ n → number p m ≤ number p n
unfolding number
number_mono p m zero h = let e : m ≡ 0 = omega arith in rw e (omega arith)
number_mono p m (suc n) h =
    ⊎_elim (λ e. rw e (omega arith))
    (λ l. omega (arith, number_mono p m n (omega arith)))
    (eq-or-lt_of_le {n = m} {m = suc n} h)

-- where one passes, no two do
number_two : (p : ℕ → Bool) (n t u : ℕ) → number p n ≡ 1 → t < u → u < n → p t ≡ true → p u ≡ true → ⊥
number_two p n t u e h l a b =
    omega (arith, number_hit p t a, number_mono p (t + 1) u (omega arith), number_hit p u b, number_mono p (u + 1) n (omega arith))

pub number_only : (p : ℕ → Bool) (n t u : ℕ) → number p n ≡ 1 → t < n → u < n → p t ≡ true → p u ≡ true → t ≡ u
number_only p n t u e h l a b =
    ⊎_elim (λ d. absurd (number_two p n t u e d l a b))
    (λ d. ⊎_elim (λ f. sym f) (λ f. absurd (number_two p n u t e f h b a)) (eq-or-lt_of_le {n = u} {m = t} d))
    (lt_or_le t u)

-- a seat between o and e, and the test of it
within : List ℕ → ℕ → ℕ → ℕ → Bool
within q o e t = ltb o (get_or q t 0) && ltb (get_or q t 0) e

within_is : (q : List ℕ) (o e t : ℕ)
    → ((o < get_or q t 0) × (get_or q t 0 < e) × (within q o e t ≡ true)) ⊎ (((get_or q t 0 ≤ o) ⊎ (e ≤ get_or q t 0)) × (within q o e t ≡ false))
unfolding within
within_is q o e t =
    ⊎_elim
    (λ a. ⊎_elim
    (λ b. inl (a, b, both _ _ (lt-ltb _ _ a) (lt-ltb _ _ b)))
    (λ b. inr (inr b, second_fails (ltb o (get_or q t 0)) _ (le-ltb _ _ b)))
    (lt_or_le (get_or q t 0) e))
    (λ a. inr (inl a, first_fails _ (ltb (get_or q t 0) e) (le-ltb _ _ a)))
    (lt_or_le o (get_or q t 0))

module _ (q : List ℕ) (o n : ℕ) (long : length q ≡ 32) (rule : Seated q o n) where
  -- one place more has one task more
  next : (k w : ℕ) → k < n → k < 62 → get_or q w 0 ≡ o + (k + 1) → (t : ℕ) → (t ≡ w → ⊥) → within q o (o + (k + 2)) t ≡ within q o (o + (k + 1)) t
  next k w h l e t ne =
      ⊎_elim
      (λ a. ⊎_elim (λ b. a.2 ∙ sym b.2)
      (λ b. absurd (ne (rule.once t w (a.0, omega arith) (⊎_elim (λ z. absurd (omega arith)) (λ z. omega arith) b.0))))
      (within_is q o (o + (k + 1)) t))
      (λ a. ⊎_elim (λ b. absurd (⊎_elim (λ z. omega arith) (λ z. omega arith) a.0)) (λ b. a.1 ∙ sym b.1) (within_is q o (o + (k + 1)) t))
      (within_is q o (o + (k + 2)) t)

  upto : (k : ℕ) → k ≤ n → k ≤ 62 → number (within q o (o + (k + 1))) 32 ≡ k
  upto zero h l = number_none (within q o (o + 1)) 32 (λ t. ⊎_elim (λ a. absurd (omega arith)) (λ a. a.1) (within_is q o (o + 1) t))
  upto (suc k) h l =
      let f : (t : ℕ) × (get_or q t 0 ≡ o + suc k) = rule.full (suc k) (omega arith) h in
      let e : get_or q f.0 0 ≡ o + (k + 1) = omega (arith, f.1) in
      let more : number (within q o (o + (k + 2))) 32 ≡ number (within q o (o + (k + 1))) 32 + 1 =
      number_more (within q o (o + (k + 2))) (within q o (o + (k + 1))) f.0 (next k f.0 (omega arith) (omega arith) e)
      (⊎_elim (λ a. a.2) (λ a. absurd (⊎_elim (λ z. omega arith) (λ z. omega arith) a.0)) (within_is q o (o + (k + 2)) f.0))
      (⊎_elim (λ a. absurd (omega arith)) (λ a. a.1) (within_is q o (o + (k + 1)) f.0))
      32 (inside 32 q f.0 long (λ z. omega arith)) in
      let same : o + (k + 2) ≡ o + (suc k + 1) = omega arith in
      subst (λ (v : ℕ). number (within q o v) 32 ≡ suc k) same (omega (arith, more, upto k (omega arith) (omega arith)))

  counted_short : n ≤ 62 → standing q o ≡ n
  unfolding standing stands_in within
  counted_short l =
      number_same (stands_in q o) (within q o (o + (n + 1))) 32
      (λ t. ⊎_elim
      (λ a. ⊎_elim (λ b. a.2 ∙ sym b.2)
      (λ b. absurd (let s : get_or q t 0 ≤ o + n = rule.small t (a.0, a.1) in ⊎_elim (λ z. omega arith) (λ z. omega arith) b.0))
      (within_is q o (o + (n + 1)) t))
      (λ a. ⊎_elim (λ b. absurd (⊎_elim (λ z. omega arith) (λ z. omega arith) a.0)) (λ b. a.1 ∙ sym b.1) (within_is q o (o + (n + 1)) t))
      (within_is q o (o + 63) t))
      ∙ upto n (omega arith) l

pub standing-le : (q : List ℕ) (o : ℕ) → standing q o ≤ 32
unfolding standing
standing-le q o = number-le (stands_in q o) 32

-- a queue of 32 tasks is no longer than 32
pub seated_le : (q : List ℕ) (o n : ℕ) → length q ≡ 32 → Seated q o n → n ≤ 32
seated_le q o n long rule =
    ⊎_elim
    (λ h. absurd (omega (
      arith,
      standing-le q o,
      counted_short q o 62 long (record {
        small = λ t a. omega arith;
        once = rule.once;
        full = λ k a b. rule.full k a (omega arith);
      }) (omega arith),
    )))
    (λ h. omega (arith, standing-le q o, counted_short q o n long rule h))
    (lt_or_le 62 n)

-- the number standing is the n of the rule
pub standing_is : (q : List ℕ) (o n : ℕ) → length q ≡ 32 → Seated q o n → standing q o ≡ n
standing_is q o n long rule = counted_short q o n long rule (omega (arith, seated_le q o n long rule))
