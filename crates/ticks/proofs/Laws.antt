-- What the tick's loops lean on: how many time_outs have one left, and one task more looked at by `wake_due`.
-- Assumes nothing.
use Prim.Native.Nat.{ℕ, zero, suc, ◌+◌, ◌-◌, ◌≤◌, ◌<◌}
use native.Mathlib.Omega.{arith}
use native.Mathlib.Numerals.{add-one}
use mathlib.Core.Path.{◌≡◌, refl}
use mathlib.Core.Bool.{Bool, true, false, cond}
use mathlib.Core.List.{List, [], ◌∷◌}
use lib.ListN.{length, get_or, take}
use lib.Dec.{eqb}
use Rattle.std.specs.List.{count_by}
use Rattle.std.proofs.lemmas.List.Sums.{count_by_more_yes, count_by_more_no, sum_by-cons}
use Rattle.std.specs.Int.{from_bool}
use Rattle.laws.proofs.Branches.{second_fails}
use Rattle.scope.specs.declared.Line.{Line}
use Rattle.scope.specs.declared.Tasks.{Tasks}
use Rattle.scope.specs.declared.Waking.{Waking}
use Rattle.scope.specs.Seats.{waits_on}
use Rattle.scope.specs.Waiting.{wake_next}
use Rattle.scope.specs.Ticks.{is_due, wake_due}

-- one time_out more is counted, or passed by
pub counted_more : (xs : List ℕ) (k last : ℕ) → k < length xs → last ≡ count_by (λ n. eqb n 1) (take k xs) → last ≤ k
    → (last + from_bool (eqb (get_or xs k 0) 1) ≡ count_by (λ n. eqb n 1) (take (k + 1) xs)) × (last + from_bool (eqb (get_or xs k 0) 1) ≤ k + 1)
counted_more xs k last h e l = go (eqb (get_or xs k 0) 1) refl
  where
    go : (b : Bool) → eqb (get_or xs k 0) 1 ≡ b
        → (last + from_bool (eqb (get_or xs k 0) 1) ≡ count_by (λ n. eqb n 1) (take (k + 1) xs)) × (last + from_bool (eqb (get_or xs k 0) 1) ≤ k + 1)
    go true p = rw p (omega (arith, e, count_by_more_yes (λ (n : ℕ). eqb n 1) xs k 0 h p), omega arith)
    go false p = rw p (omega (arith, e, count_by_more_no (λ (n : ℕ). eqb n 1) xs k 0 h p), omega arith)

-- where none is counted, none has one left
not_one : (b : Bool) → cond {A = ℕ} b 1 0 ≤ 0 → b ≡ false
not_one true e = absurd (omega (arith, e))
not_one false e = refl

pub none_counted : (xs : List ℕ) → count_by (λ n. eqb n 1) xs ≡ 0 → (j : ℕ) → eqb (get_or xs j 0) 1 ≡ false
none_counted [] e zero = refl
none_counted [] e (suc j) = refl
none_counted (x ∷ xs) e zero = not_one (eqb x 1) (omega (arith, e, sum_by-cons (λ (n : ℕ). cond (eqb n 1) 1 0) x xs))
none_counted (x ∷ xs) e (suc j) = none_counted xs (omega (arith, e, sum_by-cons (λ (n : ℕ). cond (eqb n 1) 1 0) x xs)) j

-- one task more, woken where it was due and passed by where it was not
module _ (k : Tasks) (before : Line) (t : ℕ) (w : Waking) (below : t < 32) where
  pub due_more : (v : Waking) → is_due before t ≡ true → v ≡ wake_next k w t
      → wake_due k before (32 - (t + 1)) (t + 1) v ≡ wake_due k before (32 - t) t w
  unfolding wake_due
  due_more v due woken = let d : 32 - t ≡ suc (32 - (t + 1)) = omega arith in rw (d, wake_due, due, woken, add-one t)

  pub due_passed : is_due before t ≡ false → wake_due k before (32 - (t + 1)) (t + 1) w ≡ wake_due k before (32 - t) t w
  unfolding wake_due
  due_passed due = let d : 32 - t ≡ suc (32 - (t + 1)) = omega arith in rw (d, wake_due, due, add-one t)

-- nobody has one left, so nobody is due and nobody is woken
pub none_due : (k : Tasks) (l : Line) (w : Waking) (n t : ℕ) → ((j : ℕ) → j < t + n → eqb (get_or l.left j 0) 1 ≡ false) → w ≡ wake_due k l n t w
unfolding wake_due is_due
none_due k l w zero t h = refl
none_due k l w (suc n) t h =
    let e : is_due l t ≡ false = second_fails (waits_on (get_or l.seat t 0)) _ (h t (omega arith)) in
    rw (wake_due, e) (none_due k l w n (suc t) (λ j b. h j (omega arith)))
