-- The order of free buffers as a list: a get takes its first away, a return puts its buffer at the end, and a new pool's is ascending. By who
-- is on each place: after a get, who was on the next one; after a return, who was there, and behind all the one that came back.
-- Assumes nothing.
use Prim.Native.Nat.{ℕ, zero, suc, ◌+◌, ◌-◌, ◌^◌, ◌≤◌, ◌<◌}
use native.Mathlib.Omega.{arith}
use mathlib.Core.Path.{◌≡◌, refl, sym, ap, ◌∙◌}
use mathlib.Core.Logic.{⊎_elim}
use mathlib.Core.Bool.{Bool, true, false}
use mathlib.Core.List.{List, [], ◌∷◌, ◌++◌}
use lib.ListN.{get_or}
use lib.Dec.{ltb}
use borrow.Author.Tests.{lt-ltb, le-ltb}
use Rattle.scope.specs.Seats.{is_on}
use Rattle.scope.specs.Areas.{is_out, is_free, free_of}
use Rattle.scope.specs.Places.{on_place, longest_free, first_leaves, joins_last, new_row}
use Rattle.scope.proofs.Gets.{on_place_lem}
use Rattle.laws.proofs.Branches.{lt_or_le, true-false, not_of_true}
use Rattle.laws.proofs.Arrays.{inside}
use Rattle.laws.proofs.Searches.{least-le, number-le}
use Rattle.laws.proofs.Areas.Marks.{take_free, back_free}
use Rattle.laws.specs.Order.{Ordered}
use Rattle.laws.proofs.Orders.{placed_free, found_on, first_found, leaves_ordered, joins_ordered, new_ordered, new_place}
use Rattle.scope.proofs.Places.{leaves_at, joins_at, joins_other}
use Rattle.lists.specs.Orders.{buffers_from, free_order, ascending}

-- the list from a place on, where somebody is there and where nobody is
module _ (row : List ℕ) (n x : ℕ) where
  from_more : on_place row x < 64 → buffers_from row (suc n) x ≡ on_place row x ∷ buffers_from row n (suc x)
  from_more h = ap (λ (b : Bool). elim b as (λ y. List ℕ) [ true ↦ on_place row x ∷ buffers_from row n (suc x) | false ↦ [] ]) (lt-ltb (on_place row x) 64 h)

  from_end : 64 ≤ on_place row x → buffers_from row n x ≡ []
  from_end h = go n
    where
      go : (m : ℕ) → buffers_from row m x ≡ []
      go zero = refl
      go (suc m) = ap (λ (b : Bool). elim b as (λ y. List ℕ) [ true ↦ on_place row x ∷ buffers_from row m (suc x) | false ↦ [] ]) (le-ltb (on_place row x) 64 h)

-- two rows where the same are on the places from x on and from y on
from_same : (r q : List ℕ) (m x y : ℕ) → ((d : ℕ) → on_place r (x + d) ≡ on_place q (y + d)) → buffers_from r m x ≡ buffers_from q m y
from_same r q zero x y same = refl
from_same r q (suc m) x y same =
    ap (λ (k : ℕ). elim (ltb k 64) as (λ b. List ℕ) [ true ↦ k ∷ buffers_from r m (suc x) | false ↦ [] ]) (at 0)
    ∙ ap (λ (l : List ℕ). elim (ltb (on_place q y) 64) as (λ b. List ℕ) [ true ↦ on_place q y ∷ l | false ↦ [] ]) (from_same r q m (suc x) (suc y) next)
  where
    at : (d : ℕ) → on_place r x ≡ on_place q y
    at d = ap (on_place r) {x = x} {y = x + 0} (omega arith) ∙ same 0 ∙ ap (on_place q) {x = y + 0} {y = y} (omega arith)

    next : (d : ℕ) → on_place r (suc x + d) ≡ on_place q (suc y + d)
    next d = ap (on_place r) {x = suc x + d} {y = x + suc d} (omega arith) ∙ same (suc d) ∙ ap (on_place q) {x = y + suc d} {y = suc y + d} (omega arith)

-- an order: who is on places 1 to the number of the free, and on no other
module _ {row : List ℕ} {out n : ℕ} (o : Ordered row out n) where
  on_is : (x k : ℕ) → 1 ≤ x → get_or row k 0 ≡ x → on_place row x ≡ k
  on_is x k h e = ap (on_place row) (sym e) ∙ found_on o k (omega arith)

  taken : (x : ℕ) → 1 ≤ x → x ≤ free_of out n → on_place row x < 64
  taken x h l =
      let f : (k : ℕ) × (get_or row k 0 ≡ x) = o.full x h l in
      omega (arith, on_is x f.0 h f.1, inside 64 row f.0 o.long (λ z. omega (arith, f.1)))

  empty : (x : ℕ) → free_of out n < x → on_place row x ≡ 64
  unfolding on_place
  empty x h =
      ⊎_elim (λ l. absurd (omega (arith, o.small (on_place row x), on_place_lem row x l)))
      (λ l. omega (arith, l, least-le (is_on row x) 64))
      (lt_or_le (on_place row x) 64)

  few_free : free_of out n ≤ 64
  unfolding free_of
  few_free = omega (arith, number-le (is_free out) n, o.few)

  -- one place more to look at is no matter where all have been seen
  enough : (m x : ℕ) → free_of out n < x + m → buffers_from row m x ≡ buffers_from row (suc m) x
  enough zero x h = sym (from_end row 1 x (omega (arith, empty x (omega arith))))
  enough (suc m) x h =
      ap (λ (l : List ℕ). elim (ltb (on_place row x) 64) as (λ b. List ℕ) [ true ↦ on_place row x ∷ l | false ↦ [] ]) (enough m (suc x) (omega arith))

-- "pool_get_buff now gives the buffer that has been free longest": the first of the order, which is then the rest
pub get_takes_first : {row : List ℕ} {out n : ℕ} → Ordered row out n → 1 ≤ free_of out n → free_order row ≡ longest_free row ∷ free_order (first_leaves row)
unfolding free_order
get_takes_first {row} {out} {n} o some =
    from_more row 63 1 (taken o 1 (omega arith) some)
    ∙ ap (λ (l : List ℕ). longest_free row ∷ l) (sym (from_same (first_leaves row) row 63 1 2 same) ∙ enough after 63 1 (omega (arith, fewer, few_free o)))
  where
    first : get_or row (longest_free row) 0 ≡ 1
    first = (first_found o some).1

    after : Ordered (first_leaves row) (out + 2 ^ longest_free row) n
    after = leaves_ordered o (longest_free row) first

    fewer : free_of (out + 2 ^ longest_free row) n + 1 ≡ free_of out n
    fewer = let f = placed_free o (longest_free row) (omega (arith, first)) in take_free out (longest_free row) n f.1 f.0

    same : (d : ℕ) → on_place (first_leaves row) (1 + d) ≡ on_place row (2 + d)
    same d =
        ⊎_elim
        (λ h. empty after (1 + d) (omega (arith, fewer)) ∙ sym (empty o (2 + d) h))
        (λ h. let f : (k : ℕ) × (get_or row k 0 ≡ 2 + d) = o.full (2 + d) (omega arith) h in
        on_is after (1 + d) f.0 (omega arith) (leaves_at row f.0 ∙ omega (arith, f.1)) ∙ sym (on_is o (2 + d) f.0 (omega arith) f.1))
        (lt_or_le (free_of out n) (2 + d))

-- a buffer that is out is not free
out_not_free : (out k : ℕ) → is_out out k ≡ true → is_free out k ≡ false
unfolding is_free
out_not_free out k e = not_of_true _ e

-- a return puts its buffer at the end
pub return_joins_end : {row : List ℕ} {out n : ℕ} → Ordered row out n → (k : ℕ) → k < n → is_out out k ≡ true
    → free_order (joins_last row (free_of out n) k) ≡ free_order row ++ (k ∷ [])
unfolding free_order
return_joins_end {row} {out} {n} o k h marked = go 64 1 (omega arith) (omega arith) (omega (arith, more, few_free after))
  where
    after : Ordered (joins_last row (free_of out n) k) (out - 2 ^ k) n
    after = joins_ordered o k h marked

    more : free_of (out - 2 ^ k) n ≡ free_of out n + 1
    more = back_free out k marked n h

    last : get_or (joins_last row (free_of out n) k) k 0 ≡ free_of out n + 1
    last = joins_at row (free_of out n) k (omega (arith, o.long, o.few))

    before : (x : ℕ) → 1 ≤ x → x ≤ free_of out n → on_place (joins_last row (free_of out n) k) x ≡ on_place row x
    before x a b =
        let f : (j : ℕ) × (get_or row j 0 ≡ x) = o.full x a b in
        let ne : f.0 ≡ k → ⊥ = λ e. absurd (omega (arith, f.1, ap (λ (z : ℕ). get_or row z 0) e, o.none k (λ g. true-false g.1 (out_not_free out k marked)))) in
        on_is after x f.0 a (joins_other row (free_of out n) k f.0 ne ∙ f.1) ∙ sym (on_is o x f.0 a f.1)

    go : (m x : ℕ) → 1 ≤ x → x ≤ free_of out n + 1 → free_of out n + 1 < x + m → buffers_from (joins_last row (free_of out n) k) m x ≡ buffers_from row m x ++ (k ∷ [])
    go zero x a b c = absurd (omega arith)
    go (suc m) x a b c =
        ⊎_elim
        (λ l. from_more (joins_last row (free_of out n) k) m x (omega (arith, before x a (omega arith), taken o x a (omega arith)))
        ∙ ap (λ (j : ℕ). j ∷ buffers_from (joins_last row (free_of out n) k) m (suc x)) (before x a (omega arith))
        ∙ ap (λ (t : List ℕ). on_place row x ∷ t) (go m (suc x) (omega arith) (omega arith) (omega arith))
        ∙ sym (ap (λ (t : List ℕ). t ++ (k ∷ [])) (from_more row m x (taken o x a (omega arith)))))
        (λ l. let e : on_place (joins_last row (free_of out n) k) x ≡ k = on_is after x k a (last ∙ omega arith) in
        from_more (joins_last row (free_of out n) k) m x (omega (arith, e, o.few))
        ∙ ap (λ (j : ℕ). j ∷ buffers_from (joins_last row (free_of out n) k) m (suc x)) e
        ∙ ap (λ (t : List ℕ). k ∷ t) (from_end (joins_last row (free_of out n) k) m (suc x) (omega (arith, empty after (suc x) (omega (arith, more)))))
        ∙ sym (ap (λ (t : List ℕ). t ++ (k ∷ [])) (from_end row (suc m) x (omega (arith, empty o x (omega arith))))))
        (lt_or_le x (free_of out n + 1))

free_most : (n : ℕ) → free_of 0 n ≤ n
unfolding free_of
free_most n = number-le (is_free 0) n

-- "in a new pool, ascending addresses"
pub new_ascends : (n : ℕ) → n ≤ 64 → free_order (new_row n) ≡ ascending n 0
unfolding free_order
new_ascends n few = go 64 n 0 (omega arith) few
  where
    o : Ordered (new_row n) 0 n
    o = new_ordered n few

    most : free_of 0 n ≤ n
    most = free_most n

    go : (m d x : ℕ) → x + d ≡ n → d ≤ m → buffers_from (new_row n) m (suc x) ≡ ascending d x
    go m zero x e h = from_end (new_row n) m (suc x) (omega (arith, empty o (suc x) (omega (arith, most))))
    go zero (suc d) x e h = absurd (omega arith)
    go (suc m) (suc d) x e h =
        let b : x < n = omega arith in
        let i : on_place (new_row n) (suc x) ≡ x = on_is o (suc x) x (omega arith) (new_place n x few b ∙ omega arith) in
        from_more (new_row n) m (suc x) (omega (arith, i))
        ∙ ap (λ (j : ℕ). j ∷ buffers_from (new_row n) m (suc (suc x))) i
        ∙ ap (λ (t : List ℕ). x ∷ t) (go m d (suc x) (omega arith) (omega arith))
