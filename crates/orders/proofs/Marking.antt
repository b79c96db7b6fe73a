-- Who is on each ready seat, noted slot by slot from the last one down.
-- Assumes nothing.
use Prim.Native.Nat.{ℕ, suc, ◌+◌, ◌-◌, ◌≤◌, ◌<◌}
use native.Mathlib.Omega.{arith}
use mathlib.Core.Path.{◌≡◌, sym, ap, ◌∙◌, subst}
use mathlib.Core.Logic.{⊎_elim}
use mathlib.Core.Bool.{Bool, true, false}
use mathlib.Core.List.{List}
use lib.Dec.{ltb}
use lib.ListN.{length, get_or, set, replicate, length-set, length-replicate, get_or-replicate}
use lib.Seq.{get_or-set_same, get_or-set_other}
use borrow.Author.Tests.{lt-ltb, le-ltb, eq-eqb, ne_eqb}
use Rattle.scope.specs.Choice.{pick, least, least_from}
use Rattle.scope.specs.Seats.{on_seat, is_on, first_ring}
use Rattle.laws.proofs.Branches.{picked_yes, picked_no, lt_or_le, eq_or_not}
use Rattle.orders.specs.Places.{entry, Told, marked_at}

-- an entry is of a task, or of nobody
pub entry_is : (t : ℕ) → t < 32 → entry t ≡ suc t
unfolding entry
entry_is t h = picked_yes (ltb t 32) (suc t) 0 (lt-ltb t 32 h)

pub entry_past : (t : ℕ) → 32 ≤ t → entry t ≡ 0
unfolding entry
entry_past t h = picked_no (ltb t 32) (suc t) 0 (le-ltb t 32 h)

-- the first that passes, among one more in front
first_yes : (p : ℕ → Bool) (n k : ℕ) → p k ≡ true → least_from p (suc n) k ≡ k
first_yes p n k e = ap (λ (b : Bool). elim b as (λ x. ℕ) [ true ↦ k | false ↦ least_from p n (suc k) ]) e

first_no : (p : ℕ → Bool) (n k : ℕ) → p k ≡ false → least_from p (suc n) k ≡ least_from p n (suc k)
first_no p n k e = ap (λ (b : Bool). elim b as (λ x. ℕ) [ true ↦ k | false ↦ least_from p n (suc k) ]) e

-- the bytes say who is lowest on a seat, of the slots from t on
abbrev pub Marked : List ℕ → List ℕ → ℕ → Type 0
Marked q table t = (t ≤ 32) × (length table ≡ 1024) × ((j : ℕ) → j < 1024 → get_or table j 0 ≡ entry (least_from (is_on q (first_ring + j)) (32 - t) t))

module _ (q : List ℕ) where
  pub marked_start : Marked q (replicate 1024 0) 32
  marked_start =
      (omega arith, length-replicate {A = ℕ} 1024 0, λ (j : ℕ) (h : j < 1024). get_or-replicate {A = ℕ} 1024 j 0 0 h ∙ sym (entry_past 32 (omega arith)))

  -- slot u is noted
  module _ (table : List ℕ) (u x v : ℕ) (h : u < 32) (x_is : x ≡ get_or q u 0) (v_is : v ≡ suc u) (m : Marked q table (suc u)) where
    -- where the seat is among those noted, and where it is not
    inside_is : first_ring ≤ x → x - first_ring < 1024 → marked_at table x v ≡ set table (x - first_ring) v
    unfolding marked_at
    inside_is l k =
        picked_no (ltb x first_ring) table (pick (ltb (x - first_ring) 1024) (set table (x - first_ring) v) table) (le-ltb x first_ring l)
        ∙ picked_yes (ltb (x - first_ring) 1024) (set table (x - first_ring) v) table (lt-ltb (x - first_ring) 1024 k)

    before_is : x < first_ring → marked_at table x v ≡ table
    unfolding marked_at
    before_is l = picked_yes (ltb x first_ring) table (pick (ltb (x - first_ring) 1024) (set table (x - first_ring) v) table) (lt-ltb x first_ring l)

    past_is : first_ring ≤ x → 1024 ≤ x - first_ring → marked_at table x v ≡ table
    unfolding marked_at
    past_is l k =
        picked_no (ltb x first_ring) table (pick (ltb (x - first_ring) 1024) (set table (x - first_ring) v) table) (le-ltb x first_ring l)
        ∙ picked_no (ltb (x - first_ring) 1024) (set table (x - first_ring) v) table (le-ltb (x - first_ring) 1024 k)

    here : (j : ℕ) → x ≡ first_ring + j → j < 1024 → get_or (marked_at table x v) j 0 ≡ entry (least_from (is_on q (first_ring + j)) (suc (32 - suc u)) u)
    here j e l =
        let past : first_ring ≤ x = omega arith in
        let place : x - first_ring ≡ j = omega arith in
        let inside : j < length table = omega (arith, m.1) in
        ap (λ (r : List ℕ). get_or r j 0) (inside_is past (omega arith))
        ∙ ap (λ (k : ℕ). get_or (set table k v) j 0) place
        ∙ get_or-set_same table j v 0 inside
        ∙ v_is
        ∙ sym (entry_is u h)
        ∙ ap entry (sym (first_yes (is_on q (first_ring + j)) (32 - suc u) u (eq-eqb (get_or q u 0) (first_ring + j) (sym x_is ∙ e))))

    kept : (j : ℕ) → (x ≡ first_ring + j → ⊥) → get_or (marked_at table x v) j 0 ≡ get_or table j 0
    kept j ne =
        ⊎_elim
        (λ l. ap (λ (r : List ℕ). get_or r j 0) (before_is l))
        (λ l. ⊎_elim
        (λ k. ap (λ (r : List ℕ). get_or r j 0) (inside_is l k) ∙ get_or-set_other table (x - first_ring) j v 0 (λ e. ne (omega arith)))
        (λ k. ap (λ (r : List ℕ). get_or r j 0) (past_is l k))
        (lt_or_le (x - first_ring) 1024))
        (lt_or_le x first_ring)

    other : (j : ℕ) → (x ≡ first_ring + j → ⊥) → j < 1024 → get_or (marked_at table x v) j 0 ≡ entry (least_from (is_on q (first_ring + j)) (suc (32 - suc u)) u)
    other j ne l =
        kept j ne
        ∙ m.2 j l
        ∙ ap entry (sym (first_no (is_on q (first_ring + j)) (32 - suc u) u (ne_eqb (get_or q u 0) (first_ring + j) (λ e. ne (x_is ∙ e)))))

    same_size : length (marked_at table x v) ≡ length table
    same_size =
        ⊎_elim
        (λ l. ap length (before_is l))
        (λ l. ⊎_elim
        (λ k. ap length (inside_is l k) ∙ length-set table (x - first_ring) v)
        (λ k. ap length (past_is l k))
        (lt_or_le (x - first_ring) 1024))
        (lt_or_le x first_ring)

    one_more : Marked q (marked_at table x v) u
    one_more =
        let n : suc (32 - suc u) ≡ 32 - u = omega arith in (
          omega arith,
          same_size ∙ m.1,
          λ (j : ℕ) (l : j < 1024).
              ⊎_elim (λ e. here j e l) (λ ne. other j ne l) (eq_or_not x (first_ring + j)) ∙ ap (λ (k : ℕ). entry (least_from (is_on q (first_ring + j)) k u)) n,
        )

  pub marked_more : (table table' : List ℕ) (t x v : ℕ) → 0 < t → x ≡ get_or q (t - 1) 0 → v ≡ t - 1 + 1 → table' ≡ marked_at table x v
      → Marked q table t → Marked q table' (t - 1)
  marked_more table table' t x v h x_is v_is e m =
      let s : t ≡ suc (t - 1) = omega arith in
      let l : t - 1 < 32 = omega (arith, m.0) in
      let w : v ≡ suc (t - 1) = omega (arith, v_is) in
      subst (λ (r : List ℕ). Marked q r (t - 1)) (sym e) (one_more table (t - 1) x v l x_is w (subst (λ (k : ℕ). Marked q table k) s m))

  pub marked_done : (table : List ℕ) (t : ℕ) → t ≤ 0 → Marked q table t → Told q table
  unfolding on_seat least
  marked_done table t h m =
      let z : t ≡ 0 = omega arith in
      (m.1, λ (j : ℕ) (l : j < 1024). m.2 j l ∙ ap (λ (k : ℕ). entry (least_from (is_on q (first_ring + j)) (32 - k) k)) z)
