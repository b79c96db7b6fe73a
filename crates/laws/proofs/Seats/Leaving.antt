-- A task leaves its queue: the places stay 1 to n, each once, those behind come forward by one, no other queue is touched.
-- By cases of what becomes of each seat.
-- Assumes nothing.
use Prim.Native.Nat.{ℕ, ◌+◌, ◌-◌, ◌%◌, ◌≤◌, ◌<◌}
use native.Mathlib.Omega.{arith}
use mathlib.Core.Path.{◌≡◌, refl, sym, subst, ap, ◌∙◌}
use mathlib.Core.Logic.{◌⊎◌, inl, inr, ⊎_elim}
use mathlib.Core.Bool.{Bool, true, false}
use mathlib.Core.List.{List, map}
use lib.ListN.{length, get_or, length-map, get_or-map}
use lib.Seq.{ext_get_or}
use lib.Dec.{ltb, eqb}
use borrow.Author.Tests.{ltb-true, ltb-false, eqb-true, eqb-false, eq-eqb}
use Rattle.laws.proofs.Branches.{lt_or_le}
use Rattle.scope.specs.Choice.{pick}
use Rattle.scope.specs.Seats.{lower, leaves, seats_end}
use Rattle.laws.specs.Seating.{In, Seated, Sorted}
use Rattle.laws.proofs.Seats.Counting.{seated_le}
use Rattle.laws.proofs.Seats.Apart.{Untouched, Apart, apart, untouched_seated, untouched_sorted}

-- what becomes of seat y when seat x, of a queue that ends before e, is left
abbrev pub Lowered : ℕ → ℕ → ℕ → ℕ → Type 0
Lowered x e y z = ((y ≡ x) × (z ≡ 0)) ⊎ (((x < y) × (y < e) × (z + 1 ≡ y)) ⊎ (((y < x) ⊎ (e ≤ y)) × (z ≡ y)))

lower_is : (x e y : ℕ) → Lowered x e y (lower x e y)
unfolding lower pick
lower_is x e y = go (eqb y x) refl (ltb x y) refl (ltb y e) refl
  where
    go : (a : Bool) → eqb y x ≡ a → (b : Bool) → ltb x y ≡ b → (d : Bool) → ltb y e ≡ d → Lowered x e y (pick a 0 (pick b (pick d (y - 1) y) y))
    go true p b q d r = inl (eqb-true y x p, refl)
    go false p true q true r = let h : x < y = ltb-true x y q in inr (inl (h, ltb-true y e r, omega arith))
    go false p true q false r = inr (inr (inr (ltb-false y e r), refl))
    go false p false q d r = let h : y ≤ x = ltb-false x y q in inr (inr (inl (omega (arith, eqb-false y x p)), refl))

pub length-leaves : (q : List ℕ) (t : ℕ) → length (leaves q t) ≡ length q
unfolding leaves
length-leaves q t = length-map q (lower (get_or q t 0) (seats_end (get_or q t 0)))

leaves_at : (q : List ℕ) (t u : ℕ) → get_or (leaves q t) u 0 ≡ lower (get_or q t 0) (seats_end (get_or q t 0)) (get_or q u 0)
unfolding leaves
leaves_at q t u =
    ap (λ (d : ℕ). get_or (map (lower x (seats_end x)) q) u d) (sym zero_stays) ∙ get_or-map (lower x (seats_end x)) q u 0
  where
    x : ℕ
    x = get_or q t 0

    zero_stays : lower x (seats_end x) 0 ≡ 0
    zero_stays = ⊎_elim (λ p. p.1) (λ p. ⊎_elim (λ r. absurd (omega arith)) (λ r. r.1) p) (lower_is x (seats_end x) 0)

-- who left stands nowhere
pub leaves_out : (q : List ℕ) (t : ℕ) → get_or (leaves q t) t 0 ≡ 0
unfolding lower pick
leaves_out q t = leaves_at q t t ∙ rw (eq-eqb (get_or q t 0) (get_or q t 0) refl)

left_is : (q : List ℕ) (t u : ℕ) → Lowered (get_or q t 0) (seats_end (get_or q t 0)) (get_or q u 0) (get_or (leaves q t) u 0)
left_is q t u =
    subst (λ (z : ℕ). Lowered (get_or q t 0) (seats_end (get_or q t 0)) (get_or q u 0) z) (sym (leaves_at q t u))
    (lower_is (get_or q t 0) (seats_end (get_or q t 0)) (get_or q u 0))

-- who stands nowhere leaves nothing, as no queue has its seats below 63
pub leaves_nowhere : (q : List ℕ) (t : ℕ) → get_or q t 0 ≡ 0 → ((u : ℕ) → In q 0 u → ⊥) → leaves q t ≡ q
leaves_nowhere q t out none =
    ext_get_or 0 (leaves q t) q (length-leaves q t)
    (λ u h. ⊎_elim (λ p. omega arith)
    (λ p. ⊎_elim (λ r. absurd (none u (omega arith, omega arith))) (λ r. r.1) p)
    (left_is q t u))

-- seats q became seats r when seat x of the queue above o was left
module _ (q r : List ℕ) (o x : ℕ) (lo : o < x) (hi : x < o + 63) (gone : (u : ℕ) → Lowered x (o + 63) (get_or q u 0) (get_or r u 0)) where
  module _ (n : ℕ) (fits : n ≤ 62) (has : x ≤ o + n) (rule : Seated q o n) where
    less_small : (t : ℕ) → In r o t → get_or r t 0 ≤ o + (n - 1)
    less_small t (a, b) =
        ⊎_elim (λ p. absurd (omega arith))
        (λ p. ⊎_elim
        (λ s. let h : get_or q t 0 ≤ o + n = rule.small t (omega arith, omega arith) in omega arith)
        (λ s. let h : get_or q t 0 ≤ o + n = rule.small t (omega arith, omega arith) in
        ⊎_elim (λ w. omega arith) (λ w. absurd (omega arith)) s.0)
        p)
        (gone t)

    less_once : (t u : ℕ) → In r o t → get_or r t 0 ≡ get_or r u 0 → t ≡ u
    less_once t u (a, b) e =
        ⊎_elim (λ p. absurd (omega arith))
        (λ p. ⊎_elim (λ p2. absurd (omega arith))
        (λ p2. ⊎_elim
        (λ s. ⊎_elim
        (λ s2. rule.once t u (omega arith, omega arith) (omega arith))
        (λ s2. ⊎_elim (λ w. absurd (omega arith)) (λ w. absurd (omega arith)) s2.0)
        p2)
        (λ s. ⊎_elim
        (λ s2. ⊎_elim (λ w. absurd (omega arith)) (λ w. absurd (omega arith)) s.0)
        (λ s2. rule.once t u (omega arith, omega arith) (omega arith))
        p2)
        p)
        (gone u))
        (gone t)

    less_full : (j : ℕ) → 0 < j → j ≤ n - 1 → (t : ℕ) × (get_or r t 0 ≡ o + j)
    less_full j a b =
        ⊎_elim
        (λ l. let f : (t : ℕ) × (get_or q t 0 ≡ o + j) = rule.full j a (omega arith) in
        let e : get_or q f.0 0 ≡ o + j = f.1 in
        (f.0, ⊎_elim (λ p. absurd (omega arith)) (λ p. ⊎_elim (λ s. absurd (omega arith)) (λ s. omega arith) p) (gone f.0)))
        (λ l. let f : (t : ℕ) × (get_or q t 0 ≡ o + (j + 1)) = rule.full (j + 1) (omega arith) (omega arith) in
        let e : get_or q f.0 0 ≡ o + (j + 1) = f.1 in (
          f.0,
          ⊎_elim (λ p. absurd (omega arith))
              (λ p. ⊎_elim (λ s. omega arith) (λ s. ⊎_elim (λ w. absurd (omega arith)) (λ w. absurd (omega arith)) s.0) p)
              (gone f.0),
        ))
        (lt_or_le (o + j) x)

    less_seated : Seated r o (n - 1)
    less_seated = record { small = less_small; once = less_once; full = less_full }

  -- who stands in the queue afterwards stood there before, in the same order
  less_sorted : (key : List ℕ) → Sorted q key o → Sorted r key o
  less_sorted key rule = record {
    falls = λ t u a b l.
        ⊎_elim (λ p. absurd (omega arith))
        (λ p. ⊎_elim (λ p2. absurd (omega arith))
        (λ p2. ⊎_elim
        (λ s. ⊎_elim
        (λ s2. rule.falls t u (omega arith, omega arith) (omega arith, omega arith) (omega arith))
        (λ s2. ⊎_elim (λ w. absurd (omega arith)) (λ w. absurd (omega arith)) s2.0)
        p2)
        (λ s. ⊎_elim
        (λ s2. rule.falls t u (omega arith, omega arith) (omega arith, omega arith) (omega arith))
        (λ s2. rule.falls t u (omega arith, omega arith) (omega arith, omega arith) (omega arith))
        p2)
        p)
        (gone u))
        (gone t);
  }

  less_apart : (m : ℕ) → Apart o m → Untouched q r m
  less_apart m away t h =
      ⊎_elim
      (λ p. ⊎_elim (λ b. ⊎_elim (λ w. absurd (omega arith)) (λ w. absurd (omega arith)) away) (λ b. absurd (omega arith)) h)
      (λ p. ⊎_elim
      (λ s. ⊎_elim
      (λ b. ⊎_elim (λ w. absurd (omega arith)) (λ w. absurd (omega arith)) away)
      (λ b. ⊎_elim (λ w. absurd (omega arith)) (λ w. absurd (omega arith)) away)
      h)
      (λ s. s.1)
      p)
      (gone t)

-- task t leaves the queue above o
module _ (q : List ℕ) (o t : ℕ) (round : o % 64 ≡ 0) (at : In q o t) where
  -- what becomes of each seat
  pub leaves_is : (u : ℕ) → Lowered (get_or q t 0) (o + 63) (get_or q u 0) (get_or (leaves q t) u 0)
  leaves_is u =
      let e : seats_end (get_or q t 0) ≡ o + 63 = omega arith in
      subst (λ (v : ℕ). Lowered (get_or q t 0) v (get_or q u 0) (get_or (leaves q t) u 0)) e (left_is q t u)

  pub leaves_seated : (n : ℕ) → length q ≡ 32 → Seated q o n → Seated (leaves q t) o (n - 1)
  leaves_seated n long rule =
      less_seated q (leaves q t) o (get_or q t 0) at.0 at.1 leaves_is n (omega (arith, seated_le q o n long rule)) (rule.small t at) rule

  pub leaves_sorted : (key : List ℕ) → Sorted q key o → Sorted (leaves q t) key o
  leaves_sorted key rule = less_sorted q (leaves q t) o (get_or q t 0) at.0 at.1 leaves_is key rule

  -- each that stands behind comes forward by exactly one, each that stands ahead stays
  pub leaves_behind : (u : ℕ) → get_or q t 0 < get_or q u 0 → get_or q u 0 < o + 63 → get_or (leaves q t) u 0 + 1 ≡ get_or q u 0
  leaves_behind u a b =
      ⊎_elim (λ p. absurd (omega arith))
      (λ p. ⊎_elim (λ s. s.2) (λ s. ⊎_elim (λ w. absurd (omega arith)) (λ w. absurd (omega arith)) s.0) p)
      (leaves_is u)

  pub leaves_ahead : (u : ℕ) → get_or q u 0 < get_or q t 0 → get_or (leaves q t) u 0 ≡ get_or q u 0
  leaves_ahead u a = ⊎_elim (λ p. absurd (omega arith)) (λ p. ⊎_elim (λ s. absurd (omega arith)) (λ s. s.1) p) (leaves_is u)

  -- and so does each whose seat lies past the queue
  pub leaves_past : (u : ℕ) → o + 63 ≤ get_or q u 0 → get_or (leaves q t) u 0 ≡ get_or q u 0
  leaves_past u a = ⊎_elim (λ p. absurd (omega arith)) (λ p. ⊎_elim (λ s. absurd (omega arith)) (λ s. s.1) p) (leaves_is u)

  -- every other queue is as it was
  module _ (m : ℕ) (level : m % 64 ≡ 0) (ne : m ≡ o → ⊥) where
    pub leaves_untouched : Untouched q (leaves q t) m
    leaves_untouched = less_apart q (leaves q t) o (get_or q t 0) at.0 at.1 leaves_is m (apart o m round level ne)

    pub leaves_others : (n : ℕ) → length q ≡ 32 → Seated q m n → Seated (leaves q t) m n
    leaves_others n long rule = untouched_seated q (leaves q t) m n long leaves_untouched rule

    pub leaves_others_sorted : (key : List ℕ) → Sorted q key m → Sorted (leaves q t) key m
    leaves_others_sorted key rule = untouched_sorted q (leaves q t) key m leaves_untouched rule
