-- The rings read from the most urgent one down, each from its first task on.
-- Assumes nothing.
use Prim.Native.Nat.{ℕ, suc, ◌+◌, ◌-◌, ◌*◌, ◌≤◌, ◌<◌}
use native.Mathlib.Omega.{arith}
use native.Mathlib.Numerals.{add-one}
use mathlib.Core.Path.{◌≡◌, refl, sym, ap, ◌∙◌, subst}
use mathlib.Core.Logic.{⊎_elim}
use mathlib.Core.Bool.{Bool, true, false}
use mathlib.Core.List.{List, [], ◌∷◌, ◌++◌, append-nil, append_assoc}
use lib.ListN.{get_or, replicate}
use lib.Seq.{append_snoc}
use borrow.Author.Tests.{lt-ltb, le-ltb}
use Rattle.scope.specs.Seats.{on_seat, first_ring, ring_seats, tasks_from, ready_below, ready_order}
use Rattle.laws.proofs.Branches.{lt_or_le}
use Rattle.orders.specs.Places.{places_of, order_places, entry, Told, ring_tasks, Placed}
use Rattle.orders.proofs.Placing.{placed_start}
use Rattle.orders.proofs.Marking.{entry_is, entry_past}

module _ (q : List ℕ) (base n k : ℕ) where
  from_yes : on_seat q (base + k) < 32 → tasks_from q base (suc n) k ≡ on_seat q (base + k) ∷ tasks_from q base n (suc k)
  from_yes h =
      ap (λ (b : Bool). elim b as (λ x. List ℕ) [ true ↦ on_seat q (base + k) ∷ tasks_from q base n (suc k) | false ↦ [] ])
      (lt-ltb (on_seat q (base + k)) 32 h)

  from_no : 32 ≤ on_seat q (base + k) → tasks_from q base (suc n) k ≡ []
  from_no h =
      ap (λ (b : Bool). elim b as (λ x. List ℕ) [ true ↦ on_seat q (base + k) ∷ tasks_from q base n (suc k) | false ↦ [] ])
      (le-ltb (on_seat q (base + k)) 32 h)

-- the byte of a ring's seat
seat_told : (q table : List ℕ) (p k : ℕ) → Told q table → p < 16 → k < 33 → get_or table (p * 64 + k) 0 ≡ entry (on_seat q (ring_seats p + k))
seat_told q table p k m h l =
    let e : first_ring + (p * 64 + k) ≡ ring_seats p + k = omega arith in
    m.1 (p * 64 + k) (omega arith) ∙ ap (λ (x : ℕ). entry (on_seat q x)) e

-- some tasks of ring p, us, have places behind ts; those from seat k on have none yet
abbrev pub Ringing : List ℕ → ℕ → List ℕ → List ℕ → ℕ → ℕ → Type 0
Ringing q p ts places m k = (us : List ℕ) × Placed (ts ++ us) places m × (us ++ tasks_from q (ring_seats p) (33 - k) k ≡ ring_tasks q p)

module _ (q table : List ℕ) (p : ℕ) (ts : List ℕ) (told : Told q table) (h : p < 16) where
  pub ringing_start : (places : List ℕ) (m : ℕ) → Placed ts places m → Ringing q p ts places m 1
  unfolding ring_tasks
  ringing_start places m placed = ([], subst (λ (l : List ℕ). Placed l places m) (sym (append-nil ts)) placed, refl)

  pub ringing_more : (places places' : List ℕ) (m m' k v : ℕ) → k < 33 → v ≡ get_or table (p * 64 + k) 0 → (v ≡ 0 → ⊥)
      → ((us : List ℕ) (t : ℕ) → v ≡ suc t → Placed us places m → Placed (us ++ (t ∷ [])) places' m')
      → Ringing q p ts places m k → Ringing q p ts places' m' (k + 1)
  ringing_more places places' m m' k v l v_is some puts r =
      let base = ring_seats p in
      let o = on_seat q (base + k) in
      let us = r.0 in
      let e : v ≡ entry o = v_is ∙ seat_told q table p k told h l in
      let there : o < 32 = ⊎_elim (λ y. y) (λ y. absurd (some (e ∙ entry_past o y))) (lt_or_le o 32) in
      let n : suc (33 - (k + 1)) ≡ 33 - k = omega arith in
      let placed : Placed ((ts ++ us) ++ (o ∷ [])) places' m' = puts (ts ++ us) o (e ∙ entry_is o there) r.1 in (
        us ++ (o ∷ []),
        subst (λ (y : List ℕ). Placed y places' m') (append_assoc ts us (o ∷ [])) placed,
        append_snoc us o (tasks_from q base (33 - (k + 1)) (k + 1))
            ∙ ap (λ (j : ℕ). us ++ (o ∷ tasks_from q base (33 - (k + 1)) j)) (add-one k)
            ∙ ap (λ (y : List ℕ). us ++ y) (sym (from_yes q base (33 - (k + 1)) k there))
            ∙ ap (λ (j : ℕ). us ++ tasks_from q base j k) n
            ∙ r.2,
      )

  -- the ring ends where nobody is on the next seat
  ended : (places : List ℕ) (m k : ℕ) → tasks_from q (ring_seats p) (33 - k) k ≡ [] → Ringing q p ts places m k → Placed (ts ++ ring_tasks q p) places m
  ended places m k e r =
      let all : r.0 ≡ ring_tasks q p = sym (append-nil r.0) ∙ ap (λ (y : List ℕ). r.0 ++ y) (sym e) ∙ r.2 in
      subst (λ (y : List ℕ). Placed (ts ++ y) places m) all r.1

  pub ringing_empty : (places : List ℕ) (m k v : ℕ) → k < 33 → v ≡ get_or table (p * 64 + k) 0 → v ≡ 0 → Ringing q p ts places m k
      → Placed (ts ++ ring_tasks q p) places m
  ringing_empty places m k v l v_is none r =
      let o = on_seat q (ring_seats p + k) in
      let e : entry o ≡ 0 = sym (seat_told q table p k told h l) ∙ sym v_is ∙ none in
      let away : 32 ≤ o = ⊎_elim (λ y. absurd (omega (arith, e, entry_is o y))) (λ y. y) (lt_or_le o 32) in
      let n : 33 - k ≡ suc (32 - k) = omega arith in
      ended places m k (ap (λ (j : ℕ). tasks_from q (ring_seats p) j k) n ∙ from_no q (ring_seats p) (32 - k) k away) r

  -- or with its 32nd
  pub ringing_done : (places : List ℕ) (m k : ℕ) → 33 ≤ k → Ringing q p ts places m k → Placed (ts ++ ring_tasks q p) places m
  ringing_done places m k l r =
      let n : 33 - k ≡ 0 = omega arith in
      ended places m k (ap (λ (j : ℕ). tasks_from q (ring_seats p) j k) n) r

-- ---- ring after ring: those from p on are read

abbrev pub Rings : List ℕ → List ℕ → ℕ → ℕ → Type 0
Rings q places n p = (p ≤ 16) × ((ts : List ℕ) × Placed ts places n × (ts ++ ready_below q p ≡ ready_order q))

module _ (q : List ℕ) where
  all_of : (p : ℕ) → p ≡ 16 → ready_below q p ≡ ready_order q
  unfolding ready_order
  all_of p e = ap (λ (j : ℕ). ready_below q j) e

  pub rings_start : (p : ℕ) → p ≡ 16 → Rings q (replicate 32 0) 0 p
  rings_start p e = (omega arith, ([], placed_start, all_of p e))

  pub rings_more : (places places' : List ℕ) (n n' p : ℕ) → 0 < p
      → ((ts : List ℕ) → Placed ts places n → Placed (ts ++ ring_tasks q (p - 1)) places' n') → Rings q places n p → Rings q places' n' (p - 1)
  unfolding ring_tasks
  rings_more places places' n n' p h puts r =
      let ts = r.1.0 in
      let ring = tasks_from q (ring_seats (p - 1)) 32 1 in
      let e : suc (p - 1) ≡ p = omega arith in (
        omega (arith, r.0),
        (
          ts ++ ring,
          puts ts r.1.1,
          append_assoc ts ring (ready_below q (p - 1)) ∙ ap (λ (j : ℕ). ts ++ ready_below q j) e ∙ r.1.2,
        ),
      )

  pub rings_done : (places : List ℕ) (n p : ℕ) → p ≤ 0 → Rings q places n p → places ≡ order_places q
  unfolding order_places
  rings_done places n p h r =
      let ts = r.1.0 in
      let z : p ≡ 0 = omega arith in
      let all : ts ≡ ready_order q = sym (append-nil ts) ∙ ap (λ (j : ℕ). ts ++ ready_below q j) (sym z) ∙ r.1.2 in
      r.1.1.so ∙ ap places_of all
