-- The numbers of a fresh state fit their fields: all are zero, but for the first task's.
-- Assumes nothing.
use Prim.Native.Nat.{ℕ, zero, suc, ◌+◌, ◌^◌, ◌≤◌, ◌<◌}
use native.Mathlib.Omega.{arith}
use mathlib.Core.Path.{refl, sym, ap, subst}
use mathlib.Core.Logic.{⊎_elim}
use mathlib.Core.Bool.{Bool, true, false}
use mathlib.Core.List.{List, [], ◌∷◌, map}
use lib.Dec.{lit<, lit≤, ltb}
use lib.ListN.{get_or, replicate, length-replicate, length-map}
use borrow.Author.Tests.{lt-ltb, le-ltb}
use Rattle.scope.specs.declared.State.{State}
use Rattle.scope.specs.declared.Fresh.{Fresh}
use Rattle.scope.specs.Seats.{ring_seats}
use Rattle.scope.specs.Fresh.{fresh_tasks, fresh_line, no_semaphores, no_pools, no_queues, fresh_state, fresh}
use Rattle.scope.specs.Tasks.{last_priority}
use Rattle.laws.proofs.Branches.{picked_yes, picked_no, lt_or_le}
use Rattle.fields.specs.Numbers.{bit}
use Rattle.fields.specs.Fields.{Fine}
use Rattle.image.specs.Image.{Fits, task_fields, sem_fields, pool_fields, queue_fields}

zeros_fit : (n k : ℕ) {m : ℕ} → 0 < m → get_or (replicate n 0) k 0 < m
zeros_fit zero k h = h
zeros_fit (suc n) zero h = h
zeros_fit (suc n) (suc k) h = zeros_fit n k h

bits_fit : (xs : List Bool) (k : ℕ) → get_or (map bit xs) k 0 < 256 ^ 1
bits_fit [] k = lit< tt
bits_fit (true ∷ xs) zero = lit< tt
bits_fit (false ∷ xs) zero = lit< tt
bits_fit (x ∷ xs) (suc k) = bits_fit xs k

first_fits : (x n : ℕ) {m : ℕ} → x < m → 0 < m → (k : ℕ) → get_or (x ∷ replicate n 0) k 0 < m
first_fits x n h l zero = h
first_fits x n h l (suc k) = zeros_fit n k l

module _ (p : ℕ) (h : p ≤ 15) where
  small : p < 256 ^ 1
  small = let l : p < 256 = omega arith in l

  seated : ring_seats p + 1 < 256 ^ 2
  seated = let l : ring_seats p + 1 < 65536 = omega arith in l

  fine_tasks : Fine 32 (task_fields (fresh_line p) (fresh_tasks p))
  fine_tasks = (length-replicate {A = ℕ} 32 0, (λ (k : ℕ). zeros_fit 32 k (lit< tt)), (ap suc (length-replicate {A = ℕ} 31 0), first_fits 1 31 (lit< tt) (lit< tt), (length-map (true ∷ replicate 31 false) bit, bits_fit (true ∷ replicate 31 false), (length-map (true ∷ replicate 31 false) bit, bits_fit (true ∷ replicate 31 false), (length-map (replicate 32 false) bit, bits_fit (replicate 32 false), (ap suc (length-replicate {A = ℕ} 31 0), first_fits p 31 small (lit< tt), (length-replicate {A = ℕ} 32 0, (λ (k : ℕ). zeros_fit 32 k (lit< tt)), (ap suc (length-replicate {A = ℕ} 31 0), first_fits (ring_seats p + 1) 31 seated (lit< tt), (length-replicate {A = ℕ} 32 0, (λ (k : ℕ). zeros_fit 32 k (lit< tt)), tt)))))))))

  -- ( Printed by tools/generate/run: fine_fresh
  fine_sems : Fine 16 (sem_fields no_semaphores)
  fine_sems = (length-replicate {A = ℕ} 16 0, (λ (k : ℕ). zeros_fit 16 k (lit< tt)), (length-replicate {A = ℕ} 16 0, (λ (k : ℕ). zeros_fit 16 k (lit< tt)), (length-replicate {A = ℕ} 16 0, (λ (k : ℕ). zeros_fit 16 k (lit< tt)), (length-map (replicate 16 false) bit, bits_fit (replicate 16 false), (length-map (replicate 16 false) bit, bits_fit (replicate 16 false), tt)))))

  fine_pools : Fine 8 (pool_fields no_pools)
  fine_pools = (length-replicate {A = ℕ} 8 0, (λ (k : ℕ). zeros_fit 8 k (lit< tt)), (length-replicate {A = ℕ} 8 0, (λ (k : ℕ). zeros_fit 8 k (lit< tt)), (length-replicate {A = ℕ} 8 0, (λ (k : ℕ). zeros_fit 8 k (lit< tt)), (length-replicate {A = ℕ} 8 0, (λ (k : ℕ). zeros_fit 8 k (lit< tt)), (length-replicate {A = ℕ} 8 0, (λ (k : ℕ). zeros_fit 8 k (lit< tt)), (length-replicate {A = ℕ} 8 0, (λ (k : ℕ). zeros_fit 8 k (lit< tt)), (length-map (replicate 8 false) bit, bits_fit (replicate 8 false), (length-map (replicate 8 false) bit, bits_fit (replicate 8 false), (length-replicate {A = ℕ} 512 0, (λ (k : ℕ). zeros_fit 512 k (lit< tt)), tt)))))))))

  fine_queues : Fine 8 (queue_fields no_queues)
  fine_queues = (length-replicate {A = ℕ} 8 0, (λ (k : ℕ). zeros_fit 8 k (lit< tt)), (length-replicate {A = ℕ} 8 0, (λ (k : ℕ). zeros_fit 8 k (lit< tt)), (length-map (replicate 8 false) bit, bits_fit (replicate 8 false), (length-map (replicate 8 false) bit, bits_fit (replicate 8 false), (length-replicate {A = ℕ} 16 0, (λ (k : ℕ). zeros_fit 16 k (lit< tt)), (length-replicate {A = ℕ} 8 0, (λ (k : ℕ). zeros_fit 8 k (lit< tt)), (length-replicate {A = ℕ} 8320 0, (λ (k : ℕ). zeros_fit 8320 k (lit< tt)), tt)))))))

  -- )

  pub fresh_fits : Fits (fresh_state p)
  unfolding fresh_state
  fresh_fits = record { columns = (fine_tasks, (fine_sems, (fine_pools, (fine_queues, tt)))); rings = refl }

-- "Asked with a priority above 15, .. the fresh state of priority 0."
pub fits_always : (p : ℕ) → Fits (fresh p).state
unfolding fresh
fits_always p =
    ⊎_elim
    (λ l. subst (λ (s : State). Fits s) (sym (ap (λ (f : Fresh). f.state) (picked_yes (ltb last_priority p) _ _ (lt-ltb last_priority p l)))) (fresh_fits 0 (lit≤ tt)))
    (λ l. subst (λ (s : State). Fits s) (sym (ap (λ (f : Fresh). f.state) (picked_no (ltb last_priority p) _ _ (le-ltb last_priority p l)))) (fresh_fits p l))
    (lt_or_le last_priority p)
