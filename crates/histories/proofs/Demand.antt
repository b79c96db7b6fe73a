-- Demand 3, over every history: the books of semaphores and pools, and who has a buffer. Each step keeps the books of what lives
-- on and counts nothing of what does not live yet, so they hold from a creation on, and over the whole history that it stands in.
-- Assumes nothing.
use Prim.Native.Nat.{ℕ, ◌+◌, ◌≤◌, ◌<◌}
use native.Mathlib.Omega.{arith}
use native.Mathlib.Nat.{add_comm, eq-zero-or-pos}
use mathlib.Core.Path.{◌≡◌, sym, ap, ◌∙◌}
use mathlib.Core.Logic.{⊎_elim}
use mathlib.Core.Bool.{Bool, true, false}
use mathlib.Core.List.{List}
use lib.ListN.{get_or, get_or-replicate}
use Rattle.scope.specs.declared.State.{State}
use Rattle.scope.specs.declared.Found.TheVariants.{Deleted}
use Rattle.scope.specs.Identifiers.{found}
use Rattle.scope.specs.Views.{waiters_of, less}
use Rattle.scope.specs.Fresh.{fresh_state}
use Rattle.scope.proofs.Waiters.{count_in}
use Rattle.scope.proofs.Counts.{less_below, less-negative, less_not_negative, less_more}
use Rattle.laws.proofs.Branches.{true-false}
use Rattle.laws.proofs.Tables.{found_below, found-live}
use Rattle.histories.specs.Sound.{Sound}
use Rattle.histories.specs.History.{Event, answer_to, after, total, SemaphoreAt, PoolAt}
use Rattle.histories.specs.Books.{releases, grants, gets, returns, Counted, buffers_out}
use Rattle.histories.proofs.Objects.{no_units}
use Rattle.histories.proofs.Fresh.{fresh_sound}
use Rattle.histories.proofs.Tables.{stays_deleted}
use Rattle.histories.proofs.Answered.{Creates}
use Rattle.histories.proofs.Units.{semaphore_account, semaphores_entered}
use Rattle.histories.proofs.Marks.{pool_account, pools_entered}
use Rattle.histories.proofs.Ledger.{Creation, history_keeps, later_after, books_since, books_whole}
use Rattle.histories.proofs.Owners.{Out, InBuffer}
use Rattle.histories.proofs.OwnersApart.{buffers_out_apart}

-- the semaphores' table and the pools', as the ledger reads them
abbrev sem_serial : State → List ℕ
sem_serial s = s.semaphores.serial

abbrev sem_live : State → List Bool
sem_live s = s.semaphores.live

abbrev sem_units : State → ℕ → ℕ
sem_units s i = get_or s.semaphores.units i 0

abbrev pool_serial : State → List ℕ
pool_serial s = s.pools.serial

abbrev pool_live : State → List Bool
pool_live s = s.pools.live

abbrev pool_out : State → ℕ → ℕ
pool_out s = buffers_out s.pools

-- semaphore i's count is negative exactly where tasks wait; its size is then their number, and no unit is free
pub record WaitingNegative (s : State) (i : ℕ) : Type 0 where
  pub waiting : 0 < waiters_of s.line i → (count_in s i).negative ≡ true
  pub some : (count_in s i).negative ≡ true → 0 < waiters_of s.line i
  pub size : (count_in s i).negative ≡ true → (count_in s i).size ≡ waiters_of s.line i
  pub units : (count_in s i).negative ≡ true → sem_units s i ≡ 0
  pub free : (count_in s i).negative ≡ false → (count_in s i).size ≡ sem_units s i

-- n tasks wait, u units are free
module _ (u n : ℕ) (none : 0 < n → u ≡ 0) where
  waiting_below : 0 < n → (less u n).negative ≡ true
  waiting_below h = rw (less_below u n n (omega (arith, none h)) (omega (arith, none h)))

  below_waiting : (less u n).negative ≡ true → (0 < n) × (u ≡ 0) × ((less u n).size ≡ n)
  below_waiting e =
      let l = less-negative u n e in
      let h : 0 < n = omega arith in
      (h, none h, omega (arith, none h))

  above_free : (less u n).negative ≡ false → (less u n).size ≡ u
  above_free e = ⊎_elim (λ z. omega (arith, less_not_negative u n e)) (λ h. absurd (true-false (waiting_below h) e)) (eq-zero-or-pos n)

-- the count, by the units
counted : (s : State) (i initial released granted : ℕ) → sem_units s i + granted ≡ initial + released → Counted s i initial released granted
counted s i initial released granted e =
    sym (less_more (sem_units s i) (waiters_of s.line i) granted)
    ∙ ap (λ (x : ℕ). less x (waiters_of s.line i + granted)) e
    ∙ ap (λ (y : ℕ). less (initial + released) y) (add_comm (waiters_of s.line i) granted)

module _ (s : State) (ok : Sound s) where
  -- "tasks wait only when the count is negative, and then its size is their number"
  pub waiting_negative : (i : ℕ) → i < 16 → WaitingNegative s i
  waiting_negative i h =
      let z = no_units s.line s.tasks s.semaphores s.queues ok.line i h in
      record {
        waiting = waiting_below _ _ z;
        some = λ e. (below_waiting _ _ z e).0;
        size = λ e. (below_waiting _ _ z e).2;
        units = λ e. (below_waiting _ _ z e).1;
        free = above_free _ _ z;
      }

  -- "no two buffers out share a byte"
  pub no_two_owners : (i j k l byte : ℕ) → Out s.pools i k → Out s.pools j l → (i ≡ j → k ≡ l → ⊥)
      → InBuffer s.pools i k byte → InBuffer s.pools j l byte → ⊥
  no_two_owners i j k l byte = buffers_out_apart s.pools ok.pools i j k l byte

module _ (s : State) (ok : Sound s) where
  -- an identifier whose object is deleted never names one again
  pub semaphore_stays_deleted : (xs : List Event) (id i : ℕ) → found (sem_serial s) (sem_live s) id ≡ Deleted → SemaphoreAt (after s xs) id i → ⊥
  semaphore_stays_deleted xs id i d e =
      stays_deleted (later_after semaphore_account semaphores_entered s ok xs) id i d e

  pub pool_stays_deleted : (xs : List Event) (id i : ℕ) → found (pool_serial s) (pool_live s) id ≡ Deleted → PoolAt (after s xs) id i → ⊥
  pool_stays_deleted xs id i d e =
      stays_deleted (later_after pool_account pools_entered s ok xs) id i d e

  -- From the answer to its creation on.
  module _ (x : Event) (xs : List Event) (id i : ℕ) where
    -- "while a semaphore lives, its count = initial count + releases answered OK - claims granted - tasks now waiting"
    pub count_books : Creates 8 id x (answer_to s x)
        → (let t : State = (answer_to s x).state in
        SemaphoreAt (after t xs) id i
        → Counted (after t xs) i x.b (total (releases id) t xs) (total (grants id) t xs))
    count_books c e =
        let t : State = (answer_to s x).state in
        counted (after t xs) i _ _ _
        (books_since semaphore_account semaphores_entered s ok x xs id i c e)

    -- "In live pools, buffers out = gets - returns answered OK"
    pub pool_books : Creates 14 id x (answer_to s x)
        → (let t : State = (answer_to s x).state in
        PoolAt (after t xs) id i → buffers_out (after t xs).pools i + total (returns id) t xs ≡ total (gets id) t xs)
    pool_books c e =
        omega (arith, books_since pool_account pools_entered s ok x xs id i c e)

-- nothing of the two tables lives in a fresh state
no_semaphore : (p id i : ℕ) → SemaphoreAt (fresh_state p) id i → ⊥
unfolding fresh_state
no_semaphore p id i e =
    let s : State = fresh_state p in
    true-false (found-live (sem_serial s) (sem_live s) id e) (get_or-replicate 16 i false false (found_below (sem_serial s) (sem_live s) id e))

pub no_pool : (p id i : ℕ) → PoolAt (fresh_state p) id i → ⊥
unfolding fresh_state
no_pool p id i e =
    let s : State = fresh_state p in
    true-false (found-live (pool_serial s) (pool_live s) id e) (get_or-replicate 8 i false false (found_below (pool_serial s) (pool_live s) id e))

-- "For any history from a fresh state"
module _ (p : ℕ) (h : p ≤ 15) (xs : List Event) where
  pub end_sound : Sound (after (fresh_state p) xs)
  end_sound = history_keeps (fresh_state p) (fresh_sound p h) xs

  -- "while a semaphore lives, its count = initial count + releases answered OK - claims granted - tasks now waiting": the history
  -- has the event that created it, whose second argument is the initial count
  pub count_of_history : (id i : ℕ) → SemaphoreAt (after (fresh_state p) xs) id i
      → (c : Creation 8 (fresh_state p) xs id)
      × Counted (after (fresh_state p) xs) i c.event.b (total (releases id) (fresh_state p) xs) (total (grants id) (fresh_state p) xs)
  count_of_history id i e =
      let s : State = fresh_state p in
      let r = books_whole semaphore_account semaphores_entered s (fresh_sound p h) xs id i (no_semaphore p id) e in
      (r.0, counted (after s xs) i _ _ _ r.1)

  -- "tasks wait only when the count is negative, and then its size is their number"
  pub waiting_of_history : (i : ℕ) → i < 16 → WaitingNegative (after (fresh_state p) xs) i
  waiting_of_history = waiting_negative (after (fresh_state p) xs) end_sound

  -- "In live pools, buffers out = gets - returns answered OK"
  pub buffers_of_history : (id i : ℕ) → PoolAt (after (fresh_state p) xs) id i
      → buffers_out (after (fresh_state p) xs).pools i + total (returns id) (fresh_state p) xs ≡ total (gets id) (fresh_state p) xs
  buffers_of_history id i e =
      let s : State = fresh_state p in
      let r = books_whole pool_account pools_entered s (fresh_sound p h) xs id i (no_pool p id) e in
      omega (arith, r.1)

  -- "and no two buffers out share a byte (pools deleted by force aside)"
  pub owners_of_history : (i j k l byte : ℕ) → Out (after (fresh_state p) xs).pools i k → Out (after (fresh_state p) xs).pools j l → (i ≡ j → k ≡ l → ⊥)
      → InBuffer (after (fresh_state p) xs).pools i k byte → InBuffer (after (fresh_state p) xs).pools j l byte → ⊥
  owners_of_history = no_two_owners (after (fresh_state p) xs) end_sound
