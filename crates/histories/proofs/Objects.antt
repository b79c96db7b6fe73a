-- What the tables say of an object: number i below 16 is the semaphore in slot i, number 16 + i the queue in slot i, and no other is
-- live or has a stock. By the numbers, and past the last by the columns' lengths.
-- Assumes nothing.
use Prim.Native.Nat.{ℕ, ◌-◌, ◌≤◌, ◌<◌}
use native.Mathlib.Omega.{arith}
use mathlib.Core.Path.{◌≡◌, refl, sym, ap, ◌∙◌}
use mathlib.Core.Logic.{⊎_elim}
use mathlib.Core.Bool.{Bool, true, false}
use mathlib.Core.List.{List}
use lib.ListN.{length, get_or, set}
use lib.Seq.{get_or-set_other}
use lib.Dec.{ltb}
use borrow.Author.Tests.{lt-ltb, le-ltb}
use Rattle.scope.specs.declared.Line.{Line}
use Rattle.scope.specs.declared.Tasks.{Tasks}
use Rattle.scope.specs.declared.Semaphores.{Semaphores}
use Rattle.scope.specs.declared.Queues.{Queues}
use Rattle.scope.specs.Choice.{pick}
use Rattle.scope.specs.Seats.{queue_seats, standing}
use Rattle.scope.specs.Objects.{queue_object, of_object, Objects, objects}
use Rattle.scope.specs.Semaphores.{sem_born, sem_gone, with_units}
use Rattle.scope.specs.Messages.{Store, cleared}
use Rattle.scope.specs.Queues.{with_store, queue_born, queue_gone}
use Rattle.laws.proofs.Branches.{lt_or_le, true-false, picked_yes, picked_no}
use Rattle.laws.proofs.Arrays.{past}
use Rattle.histories.specs.Sound.{LineSound}

-- a row of the semaphores and one of the queues
module _ {A : Type 0} (sems queues : List A) (none : A) where
  of_sem_lem : (i : ℕ) → i < 16 → of_object sems queues none i ≡ get_or sems i none
  unfolding of_object
  of_sem_lem i h = picked_yes (ltb i 16) _ _ (lt-ltb i 16 h)

  of_queue_lem : (i : ℕ) → of_object sems queues none (queue_object i) ≡ get_or queues i none
  unfolding of_object
  of_queue_lem i = picked_no (ltb (queue_object i) 16) _ _ (le-ltb (queue_object i) 16 (omega arith)) ∙ ap (λ (k : ℕ). get_or queues k none) (omega arith)

  -- past the last queue
  of_none : length queues ≡ 8 → (i : ℕ) → 24 ≤ i → of_object sems queues none i ≡ none
  unfolding of_object
  of_none size i h = picked_no (ltb i 16) _ _ (le-ltb i 16 (omega arith)) ∙ sym (past 8 queues (i - 16) none size (omega arith))

  -- where the row of the semaphores is another in slot i only
  of_other : (i : ℕ) (x : A) (j : ℕ) → (j ≡ i → ⊥) → of_object (set sems i x) queues none j ≡ of_object sems queues none j
  unfolding of_object
  of_other i x j ne = ap (λ (y : A). pick (ltb j 16) y (get_or queues (j - 16) none)) (get_or-set_other sems i j x none ne)

  -- and where that of the queues is
  of_others : (i : ℕ) (x : A) (j : ℕ) → (j ≡ queue_object i → ⊥) → of_object sems (set queues i x) none j ≡ of_object sems queues none j
  unfolding of_object
  of_others i x j ne =
      ⊎_elim
      (λ h. of_low (set queues i x) j h ∙ sym (of_low queues j h))
      (λ h. of_high (set queues i x) j h ∙ get_or-set_other queues i (j - 16) x none (λ e. ne (omega arith)) ∙ sym (of_high queues j h))
      (lt_or_le j 16)
    where
      of_low : (u : List A) (j : ℕ) → j < 16 → of_object sems u none j ≡ get_or sems j none
      of_low u j h = picked_yes (ltb j 16) _ _ (lt-ltb j 16 h)

      of_high : (u : List A) (j : ℕ) → 16 ≤ j → of_object sems u none j ≡ get_or u (j - 16) none
      of_high u j h = picked_no (ltb j 16) _ _ (le-ltb j 16 h)

module _ (m : Semaphores) (u : Queues) (i : ℕ) where
  pub sem_live : i < 16 → (objects m u).live i ≡ get_or m.live i false
  unfolding objects
  sem_live h = of_sem_lem m.live u.live false i h

  pub sem_fifo : i < 16 → (objects m u).fifo i ≡ get_or m.fifo i false
  unfolding objects
  sem_fifo h = of_sem_lem m.fifo u.fifo false i h

  pub sem_stock : i < 16 → (objects m u).stock i ≡ get_or m.units i 0
  unfolding objects
  sem_stock h = of_sem_lem m.units u.held 0 i h

  pub queue_live : (objects m u).live (queue_object i) ≡ get_or u.live i false
  unfolding objects
  queue_live = of_queue_lem m.live u.live false i

  pub queue_fifo : (objects m u).fifo (queue_object i) ≡ get_or u.fifo i false
  unfolding objects
  queue_fifo = of_queue_lem m.fifo u.fifo false i

  pub queue_stock : (objects m u).stock (queue_object i) ≡ get_or u.held i 0
  unfolding objects
  queue_stock = of_queue_lem m.units u.held 0 i

  -- what is live is a semaphore or a queue
  pub live_object : length u.live ≡ 8 → (objects m u).live i ≡ true → i < 24
  unfolding objects
  live_object lives e =
      ⊎_elim (λ h. h) (λ h. absurd (true-false e (of_none m.live u.live false lives i h))) (lt_or_le i 24)

  -- and so is what has a stock
  pub no_stock : length u.held ≡ 8 → 24 ≤ i → (objects m u).stock i ≡ 0
  unfolding objects
  no_stock helds h = of_none m.units u.held 0 helds i h

-- a semaphore that tasks wait for has no unit, and a queue that they wait for holds nothing
module _ (l : Line) (k : Tasks) (m : Semaphores) (u : Queues) (line : LineSound l k (objects m u)) (i : ℕ) where
  pub no_units : i < 16 → 0 < standing l.seat (queue_seats i) → get_or m.units i 0 ≡ 0
  no_units h some = sym (sem_stock m u i h) ∙ line.counts i (omega arith) some

  pub holds_nothing : i < 8 → 0 < standing l.seat (queue_seats (queue_object i)) → get_or u.held i 0 ≡ 0
  holds_nothing h some = sym (queue_stock m u i) ∙ line.counts (queue_object i) (omega arith) some

-- objects that are the same but for number i
pub record Elsewhere (o p : Objects) (i : ℕ) : Type 0 where
  pub live : (j : ℕ) → (j ≡ i → ⊥) → p.live j ≡ o.live j
  pub fifo : (j : ℕ) → (j ≡ i → ⊥) → p.fifo j ≡ o.fifo j
  pub stock : (j : ℕ) → (j ≡ i → ⊥) → p.stock j ≡ o.stock j

-- a semaphore is born, goes, or has other units; no queue is touched
module _ (m : Semaphores) (u : Queues) (i : ℕ) where
  pub born_elsewhere : (name count : ℕ) (fifo : Bool) → Elsewhere (objects m u) (objects (sem_born m i name count fifo) u) i
  unfolding objects
  born_elsewhere name count fifo =
      record {
        live = of_other m.live u.live false i true;
        fifo = of_other m.fifo u.fifo false i fifo;
        stock = of_other m.units u.held 0 i count;
      }

  pub gone_elsewhere : Elsewhere (objects m u) (objects (sem_gone m i) u) i
  unfolding objects
  gone_elsewhere =
      record {
        live = of_other m.live u.live false i false;
        fifo = of_other m.fifo u.fifo false i false;
        stock = of_other m.units u.held 0 i 0;
      }

  module _ (n : ℕ) where
    pub units_elsewhere : Elsewhere (objects m u) (objects (with_units m i n) u) i
    unfolding objects
    units_elsewhere = record { live = λ j ne. refl; fifo = λ j ne. refl; stock = of_other m.units u.held 0 i n }

    pub units_fifo : (objects (with_units m i n) u).fifo ≡ (objects m u).fifo
    unfolding objects
    units_fifo = refl

-- a queue is born, goes, or holds another number of messages; no semaphore is touched
module _ (m : Semaphores) (u : Queues) (i : ℕ) where
  pub born_apart : (name most longest : ℕ) (fifo : Bool) → Elsewhere (objects m u) (objects m (queue_born u i name most longest fifo)) (queue_object i)
  unfolding objects
  born_apart name most longest fifo =
      record { live = of_others m.live u.live false i true; fifo = of_others m.fifo u.fifo false i fifo; stock = λ j ne. refl }

  pub gone_apart : Elsewhere (objects m u) (objects m (queue_gone u i)) (queue_object i)
  unfolding objects cleared
  gone_apart =
      record {
        live = of_others m.live u.live false i false;
        fifo = of_others m.fifo u.fifo false i false;
        stock = of_others m.units u.held 0 i 0;
      }

  module _ (s : Store) (n : ℕ) (e : s.held ≡ set u.held i n) where
    pub store_apart : Elsewhere (objects m u) (objects m (with_store u s)) (queue_object i)
    unfolding objects
    store_apart =
        record {
          live = λ j ne. refl;
          fifo = λ j ne. refl;
          stock = λ j ne. ap (λ (h : List ℕ). of_object m.units h 0 j) e ∙ of_others m.units u.held 0 i n j ne;
        }

  pub store_fifo : (s : Store) → (objects m (with_store u s)).fifo ≡ (objects m u).fifo
  unfolding objects
  store_fifo s = refl
