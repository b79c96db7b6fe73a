-- The places of a list of tasks, grown by one: the next place, or none past the 32nd.
-- Assumes nothing.
use Prim.Native.Nat.{ℕ, suc, ◌+◌, ◌-◌, ◌≤◌, ◌<◌}
use native.Mathlib.Omega.{arith}
use mathlib.Core.Path.{◌≡◌, refl, sym, ap, ◌∙◌}
use mathlib.Core.Logic.{⊎_elim}
use mathlib.Core.List.{List, [], ◌∷◌, ◌++◌, map, map-append}
use lib.ListN.{length, set, take, replicate, length-append, length-map, length-replicate}
use lib.Seq.{take_all, take-append-le, length-take-le, set_at, append_snoc}
use Rattle.laws.proofs.Branches.{lt_or_le}
use Rattle.orders.specs.Places.{places_of, Placed}

pub placed_start : Placed [] (replicate 32 0) 0
unfolding places_of
placed_start = record { so = refl; room = omega arith; some = omega arith; next = λ h. refl }

module _ (ts : List ℕ) (t : ℕ) where
  longer : length (ts ++ (t ∷ [])) ≡ length ts + 1
  longer = length-append ts (t ∷ [])

  -- a place is left
  places_more : length ts < 32 → set (places_of ts) (length ts) (suc t) ≡ places_of (ts ++ (t ∷ []))
  unfolding places_of
  places_more h =
      let rest : List ℕ = replicate (31 - length ts) 0 in
      let here = map suc ts in
      let fits : length here ≤ 32 = omega (arith, length-map ts suc) in
      let fits' : length (here ++ (suc t ∷ [])) ≤ 32 = omega (arith, length-append here (suc t ∷ []), length-map ts suc) in
      let zeros : 32 - length ts ≡ suc (31 - length ts) = omega arith in
      let zeros' : 31 - length ts ≡ 32 - length (ts ++ (t ∷ [])) = omega (arith, longer) in
      ap (λ (l : List ℕ). set (l ++ replicate (32 - length ts) 0) (length ts) (suc t)) (take_all 32 here fits)
      ∙ ap (λ (n : ℕ). set (here ++ replicate n 0) (length ts) (suc t)) zeros
      ∙ set_at here 0 rest (suc t) (length ts) (length-map ts suc)
      ∙ sym (append_snoc here (suc t) rest)
      ∙ ap (λ (l : List ℕ). l ++ rest) (sym (take_all 32 (here ++ (suc t ∷ [])) fits'))
      ∙ ap (λ (l : List ℕ). take 32 l ++ rest) (sym (map-append suc ts (t ∷ [])))
      ∙ ap (λ (n : ℕ). take 32 (map suc (ts ++ (t ∷ []))) ++ replicate n 0) zeros'

  -- none is
  places_full : 32 ≤ length ts → places_of ts ≡ places_of (ts ++ (t ∷ []))
  unfolding places_of
  places_full h =
      let here = map suc ts in
      let long : 32 ≤ length here = omega (arith, length-map ts suc) in
      let zeros : 32 - length ts ≡ 32 - length (ts ++ (t ∷ [])) = omega (arith, longer) in
      ap (λ (l : List ℕ). l ++ replicate (32 - length ts) 0) (sym (take-append-le 32 here (suc t ∷ []) long))
      ∙ ap (λ (l : List ℕ). take 32 l ++ replicate (32 - length ts) 0) (sym (map-append suc ts (t ∷ [])))
      ∙ ap (λ (n : ℕ). take 32 (map suc (ts ++ (t ∷ []))) ++ replicate n 0) zeros

  pub placed_more : (places : List ℕ) (n v : ℕ) → n < 32 → v ≡ suc t → Placed ts places n → Placed (ts ++ (t ∷ [])) (set places n v) (n + 1)
  placed_more places n v h e m =
      let at : n ≡ length ts = m.next h in
      let l : length ts < 32 = omega arith in
      record {
        so =
            ap (λ (u : ℕ). set places n u) e
            ∙ ap (λ (l : List ℕ). set l n (suc t)) m.so
            ∙ ap (λ (k : ℕ). set (places_of ts) k (suc t)) at
            ∙ places_more l;
        room = omega arith;
        some = omega (arith, longer);
        next = λ k. omega (arith, longer);
      }

  pub placed_full : (places : List ℕ) (n : ℕ) → 32 ≤ n → Placed ts places n → Placed (ts ++ (t ∷ [])) places n
  placed_full places n h m =
      let l : 32 ≤ length ts = omega (arith, m.some) in
      record {
        so = m.so ∙ places_full l;
        room = m.room;
        some = omega (arith, longer, m.some);
        next = λ k. omega arith;
      }

pub places_length : (ts : List ℕ) → length (places_of ts) ≡ 32
unfolding places_of
places_length ts =
    let here = map suc ts in
    let rest : List ℕ = replicate (32 - length ts) 0 in
    let zeros : length rest ≡ 32 - length ts = length-replicate {A = ℕ} (32 - length ts) 0 in
    let same : length here ≡ length ts = length-map ts suc in
    length-append (take 32 here) rest
    ∙ ⊎_elim
    (λ l. let e : length (take 32 here) ≡ length here = ap length (take_all 32 here (omega arith)) in omega (arith, e, zeros, same))
    (λ l. let e : length (take 32 here) ≡ 32 = length-take-le 32 here (omega arith) in omega (arith, e, zeros, same))
    (lt_or_le (length ts) 32)
