-- Two lists of seats that agree on a queue agree on its rules; and two queues have no seat in common.
-- Assumes nothing.
use Prim.Native.Nat.{ℕ, ◌+◌, ◌%◌, ◌≤◌}
use native.Mathlib.Omega.{arith}
use mathlib.Core.Path.{◌≡◌, ap, ◌∙◌}
use mathlib.Core.Logic.{◌⊎◌, inl, inr, ⊎_elim}
use mathlib.Core.List.{List}
use lib.ListN.{length, get_or, set}
use lib.Seq.{get_or-set_other}
use Rattle.laws.proofs.Branches.{lt_or_le}
use Rattle.laws.specs.Seating.{In, Seated, Sorted}
use Rattle.laws.proofs.Seats.Counting.{seated_le}

-- whoever stands in the queue, before or after, has the seat that it had
abbrev pub Untouched : List ℕ → List ℕ → ℕ → Type 0
Untouched q r m = (t : ℕ) → (In q m t) ⊎ (In r m t) → get_or r t 0 ≡ get_or q t 0

pub untouched_seated : (q r : List ℕ) (m n : ℕ) → length q ≡ 32 → Untouched q r m → Seated q m n → Seated r m n
untouched_seated q r m n long same rule =
    record {
      small = λ t h.
          let e : get_or r t 0 ≡ get_or q t 0 = same t (inr h) in
          let a : get_or q t 0 ≤ m + n = rule.small t (omega arith, omega arith) in
          omega arith;
      once = λ t u h e.
          let d : get_or r t 0 ≡ get_or q t 0 = same t (inr h) in
          let f : get_or r u 0 ≡ get_or q u 0 = same u (inr (omega arith, omega arith)) in
          rule.once t u (omega arith, omega arith) (omega arith);
      full = λ k a b.
          let f : (t : ℕ) × (get_or q t 0 ≡ m + k) = rule.full k a b in
          let l : n ≤ 32 = seated_le q m n long rule in
          (f.0, same f.0 (inl (omega (arith, f.1), omega (arith, f.1))) ∙ f.1);
    }

pub untouched_sorted : (q r key : List ℕ) (m : ℕ) → Untouched q r m → Sorted q key m → Sorted r key m
untouched_sorted q r key m same rule =
    record {
      falls = λ t u a b l.
          let d : get_or r t 0 ≡ get_or q t 0 = same t (inr a) in
          let e : get_or r u 0 ≡ get_or q u 0 = same u (inr b) in
          rule.falls t u (omega arith, omega arith) (omega arith, omega arith) (omega arith);
    }

-- the key of a task that does not stand in a queue does not matter to it
pub sorted_without : (q key : List ℕ) (m i p : ℕ) → (In q m i → ⊥) → Sorted q key m → Sorted q (set key i p) m
sorted_without q key m i p out rule =
    record {
      falls = λ t u a b l.
          let d : get_or (set key i p) t 0 ≡ get_or key t 0 =
          get_or-set_other key i t p 0 (λ e. out (omega (arith, ap (λ (v : ℕ). get_or q v 0) e, a.0), omega (arith, ap (λ (v : ℕ). get_or q v 0) e, a.1))) in
          let f : get_or (set key i p) u 0 ≡ get_or key u 0 =
          get_or-set_other key i u p 0 (λ e. out (omega (arith, ap (λ (v : ℕ). get_or q v 0) e, b.0), omega (arith, ap (λ (v : ℕ). get_or q v 0) e, b.1))) in
          omega (arith, d, f, rule.falls t u a b l);
    }

-- one of two queues ends before the other begins
abbrev pub Apart : ℕ → ℕ → Type 0
Apart o m = (o + 64 ≤ m) ⊎ (m + 64 ≤ o)

pub apart : (o m : ℕ) → o % 64 ≡ 0 → m % 64 ≡ 0 → (m ≡ o → ⊥) → Apart o m
apart o m a b ne = ⊎_elim (λ l. inl (omega arith)) (λ l. inr (omega (arith, ne))) (lt_or_le o m)
