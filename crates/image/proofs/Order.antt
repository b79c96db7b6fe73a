-- The ready order in an image: 32 bytes.
-- Assumes nothing.
use mathlib.Core.Path.{◌≡◌, sym, subst}
use mathlib.Core.Logic.{⊎_elim}
use mathlib.Core.Bool.{Bool, true, false}
use mathlib.Core.List.{List, [], ◌∷◌, ◌++◌, map}
use Prim.Native.Nat.{ℕ, zero, suc, ◌+◌, ◌-◌, ◌<◌}
use native.Mathlib.Omega.{arith}
use lib.ListN.{length, take, get_or, replicate}
use borrow.Author.Tests.{lt-ltb, le-ltb}
use Rattle.scope.specs.Seats.{on_seat, tasks_from, ring_seats, ready_below, ready_order}
use Rattle.laws.proofs.Branches.{lt_or_le}
use Rattle.fields.proofs.Bytes.{Bytes, bytes_none, bytes_append}
use Rattle.orders.specs.Places.{places_of, order_places}
use Rattle.orders.proofs.Placing.{places_length}

-- every number of a list is a task's slot
abbrev Slots : List ℕ → Type 0
Slots xs = (k : ℕ) → get_or xs k 0 < 32

slots_none : Slots []
slots_none k = omega arith

slots_more : (x : ℕ) (xs : List ℕ) → x < 32 → Slots xs → Slots (x ∷ xs)
slots_more x xs h m zero = h
slots_more x xs h m (suc k) = m k

slots_append : (xs ys : List ℕ) → Slots xs → Slots ys → Slots (xs ++ ys)
slots_append [] ys p q k = q k
slots_append (x ∷ xs) ys p q zero = p 0
slots_append (x ∷ xs) ys p q (suc k) = slots_append xs ys (λ (j : ℕ). p (suc j)) q k

module _ (q : List ℕ) where
  slots_from_lem : (base n k : ℕ) → Slots (tasks_from q base n k)
  slots_from_lem base zero k = slots_none
  slots_from_lem base (suc n) k =
      ⊎_elim
      (λ l. subst (λ (b : Bool). Slots (elim b as (λ x. List ℕ) [ true ↦ on_seat q (base + k) ∷ tasks_from q base n (suc k) | false ↦ [] ]))
      (sym (lt-ltb (on_seat q (base + k)) 32 l)) (slots_more (on_seat q (base + k)) (tasks_from q base n (suc k)) l (slots_from_lem base n (suc k))))
      (λ l. subst (λ (b : Bool). Slots (elim b as (λ x. List ℕ) [ true ↦ on_seat q (base + k) ∷ tasks_from q base n (suc k) | false ↦ [] ]))
      (sym (le-ltb (on_seat q (base + k)) 32 l)) slots_none)
      (lt_or_le (on_seat q (base + k)) 32)

  slots_below : (p : ℕ) → Slots (ready_below q p)
  slots_below zero = slots_none
  slots_below (suc p) = slots_append (tasks_from q (ring_seats p) 32 1) (ready_below q p) (slots_from_lem (ring_seats p) 32 1) (slots_below p)

  slots_order : Slots (ready_order q)
  unfolding ready_order
  slots_order = slots_below 16

next_bytes : (xs : List ℕ) → Slots xs → Bytes (map suc xs)
next_bytes [] h k = bytes_none k
next_bytes (x ∷ xs) h zero = let l : x < 32 = h 0 in omega arith
next_bytes (x ∷ xs) h (suc k) = next_bytes xs (λ (j : ℕ). h (suc j)) k

zero_bytes : (n : ℕ) → Bytes (replicate n 0)
zero_bytes zero k = bytes_none k
zero_bytes (suc n) zero = omega arith
zero_bytes (suc n) (suc k) = zero_bytes n k

bytes_take : (n : ℕ) (xs : List ℕ) → Bytes xs → Bytes (take n xs)
bytes_take zero xs h k = bytes_none k
bytes_take (suc n) [] h k = bytes_none k
bytes_take (suc n) (x ∷ xs) h zero = h 0
bytes_take (suc n) (x ∷ xs) h (suc k) = bytes_take n xs (λ (j : ℕ). h (suc j)) k

pub order_bytes : (q : List ℕ) → Bytes (order_places q)
unfolding order_places places_of
order_bytes q =
    let ts = ready_order q in
    bytes_append (take 32 (map suc ts)) (replicate (32 - length ts) 0)
    (bytes_take 32 (map suc ts) (next_bytes ts (slots_order q)))
    (zero_bytes (32 - length ts))

pub order_length : (q : List ℕ) → length (order_places q) ≡ 32
unfolding order_places
order_length q = places_length (ready_order q)
