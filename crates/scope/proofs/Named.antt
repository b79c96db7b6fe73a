-- "Ident answers the live object of that name in the lowest slot", and the identifier that a creation answers names the new object,
-- which has the name asked for and stands in "the lowest slot that is free and has a serial left". Once over a table of at most 64
-- slots, and so for tasks, semaphores and pools.
-- Assumes nothing.
use Prim.Native.Nat.{ℕ, ◌+◌, ◌≤◌, ◌<◌}
use native.Mathlib.Omega.{arith}
use mathlib.Core.Path.{◌≡◌, refl, ap, ◌∙◌}
use mathlib.Core.Bool.{Bool, true, false}
use mathlib.Core.List.{List}
use lib.ListN.{length, get_or, set}
use lib.Seq.{get_or-set_same}
use lib.Dec.{eqb}
use borrow.Author.Tests.{eq-eqb, eqb-true, leb-false}
use Rattle.scope.specs.declared.State.{State}
use Rattle.scope.specs.declared.Answer.{Answer}
use Rattle.scope.specs.Choice.{pick}
use Rattle.scope.specs.Identifiers.{identifier, serial_of, slot_of, is_live, usable, lowest_usable, named, by_name}
use Rattle.scope.specs.Statuses.{OK}
use Rattle.scope.specs.Answers.{answer, plain, gives}
use Rattle.scope.specs.Tasks.{task_create_at, task_create, task_ident_at, task_ident}
use Rattle.scope.specs.Semaphores.{sem_create_at, sem_create, sem_ident_at, sem_ident}
use Rattle.scope.specs.Pools.{pool_create_at, pool_create, pool_ident_at, pool_ident}
use Rattle.scope.proofs.Choice.{both_true, least-true, least_below}

-- an identifier's slot is below 64, so it gives back its serial and its slot
module _ (a i : ℕ) (h : i < 64) where
  slot_is : slot_of (identifier a i) ≡ i
  slot_is = omega arith

  serial_is : serial_of (identifier a i) ≡ a
  serial_is = omega arith

  lives : (serial : List ℕ) (live : List Bool) → get_or live i false ≡ true → get_or serial i 0 ≡ a → is_live serial live (identifier a i) ≡ true
  lives serial live l e = rw (slot_is, serial_is, l) (eq-eqb _ _ e)

-- the identifier is that of the live object named x, in the lowest slot
pub record Identified (serial : List ℕ) (live : List Bool) (name : List ℕ) (x id : ℕ) : Type 0 where
  pub lives : is_live serial live id ≡ true
  pub so_named : get_or name (slot_of id) 0 ≡ x
  pub lowest : (k : ℕ) → k < slot_of id → named live name x k ≡ false

-- the identifier is that of a new object named x: it lives in the table as it is now, in the slot that was the lowest usable
pub record New (serial : List ℕ) (live : List Bool) (serial2 : List ℕ) (live2 : List Bool) (name2 : List ℕ) (x id : ℕ) : Type 0 where
  pub lives : is_live serial2 live2 id ≡ true
  pub so_named : get_or name2 (slot_of id) 0 ≡ x
  pub free : usable serial live (slot_of id) ≡ true
  pub lowest : (k : ℕ) → k < slot_of id → usable serial live k ≡ false

module _ (serial : List ℕ) (live : List Bool) (name : List ℕ) (x : ℕ) where
  identified : by_name live name x < length live → length live ≤ 64
      → Identified serial live name x (identifier (get_or serial (by_name live name x) 0) (by_name live name x))
  unfolding by_name named
  identified h small =
      let i : ℕ = by_name live name x in
      let p = both_true (get_or live i false) (eqb (get_or name i 0) x) (least-true (named live name x) (length live) h) in
      let s : slot_of (identifier (get_or serial i 0) i) ≡ i = slot_is (get_or serial i 0) i (omega arith) in
      record {
        lives = lives (get_or serial i 0) i (omega arith) serial live p.0 refl;
        so_named = ap (λ (k : ℕ). get_or name k 0) s ∙ eqb-true _ _ p.1;
        lowest = λ k l. least_below (named live name x) (length live) k (omega (arith, s));
      }

  new : lowest_usable serial live < length serial → length serial ≤ 64 → length live ≡ length serial → length name ≡ length serial
      → New serial live (set serial (lowest_usable serial live) (get_or serial (lowest_usable serial live) 0 + 1)) (set live (lowest_usable serial live) true)
      (set name (lowest_usable serial live) x) x
      (identifier (get_or serial (lowest_usable serial live) 0 + 1) (lowest_usable serial live))
  unfolding lowest_usable
  new h small l n =
      let i : ℕ = lowest_usable serial live in
      let s : slot_of (identifier (get_or serial i 0 + 1) i) ≡ i = slot_is (get_or serial i 0 + 1) i (omega arith) in
      record {
        lives =
            lives (get_or serial i 0 + 1) i (omega arith) (set serial i (get_or serial i 0 + 1)) (set live i true)
            (get_or-set_same live i true false (omega arith)) (get_or-set_same serial i (get_or serial i 0 + 1) 0 h);
        so_named = ap (λ (k : ℕ). get_or (set name i x) k 0) s ∙ get_or-set_same name i x 0 (omega arith);
        free = ap (usable serial live) s ∙ least-true (usable serial live) (length serial) h;
        lowest = λ k g. least_below (usable serial live) (length serial) k (omega (arith, s));
      }

-- an answer that is OK is so
abbrev WhenOK : (Answer → Type 0) → Answer → Type 0
WhenOK P a = a.status ≡ OK → P a

-- the same as a type of its own: a chain of refusals is then compared by its answer alone, not by all that is said of it
record OnOK (P : Answer → Type 0) (a : Answer) : Type 0 where
  said : WhenOK P a

-- a refusal comes first
after_refusal : (P : Answer → Type 0) (s : State) (status : ℕ) → (status ≡ 0 → ⊥) → (b : Bool) {y : Answer} → (b ≡ false → OnOK P y)
    → OnOK P (pick b (plain s status) y)
unfolding pick plain answer
after_refusal P s status n true f = record { said = λ e. absurd (n e) }
after_refusal P s status n false f = f refl

abbrev value : Answer → ℕ
value a = get_or a.values 0 0

-- the calls that answer by a name
module _ (s : State) (x : ℕ) where
  abbrev TaskNamed : Answer → Type 0
  TaskNamed a = Identified s.tasks.serial s.tasks.live s.tasks.name x (value a)

  pub task_ident_lem : length s.tasks.live ≤ 64 → WhenOK TaskNamed (task_ident s x)
  unfolding task_ident task_ident_at gives answer
  task_ident_lem small =
      let so : OnOK TaskNamed (task_ident s x) =
      after_refusal TaskNamed s 8 (λ z. omega arith) _
      (λ h. record { said = λ e. identified s.tasks.serial s.tasks.live s.tasks.name x (leb-false _ _ h) small })
      in so.said

  abbrev SemNamed : Answer → Type 0
  SemNamed a = Identified s.semaphores.serial s.semaphores.live s.semaphores.name x (value a)

  pub sem_ident_lem : length s.semaphores.live ≤ 64 → WhenOK SemNamed (sem_ident s x)
  unfolding sem_ident sem_ident_at gives answer
  sem_ident_lem small =
      let so : OnOK SemNamed (sem_ident s x) =
      after_refusal SemNamed s 8 (λ z. omega arith) _
      (λ h. record { said = λ e. identified s.semaphores.serial s.semaphores.live s.semaphores.name x (leb-false _ _ h) small })
      in so.said

  abbrev PoolNamed : Answer → Type 0
  PoolNamed a = Identified s.pools.serial s.pools.live s.pools.name x (value a)

  pub pool_ident_lem : length s.pools.live ≤ 64 → WhenOK PoolNamed (pool_ident s x)
  unfolding pool_ident pool_ident_at gives answer
  pool_ident_lem small =
      let so : OnOK PoolNamed (pool_ident s x) =
      after_refusal PoolNamed s 8 (λ z. omega arith) _
      (λ h. record { said = λ e. identified s.pools.serial s.pools.live s.pools.name x (leb-false _ _ h) small })
      in so.said

  -- the calls that create
  abbrev TaskNew : Answer → Type 0
  TaskNew a = New s.tasks.serial s.tasks.live a.state.tasks.serial a.state.tasks.live a.state.tasks.name x (value a)

  pub task_new : (priority : ℕ) → length s.tasks.serial ≤ 64 → length s.tasks.live ≡ length s.tasks.serial
      → length s.tasks.name ≡ length s.tasks.serial → WhenOK TaskNew (task_create s x priority)
  unfolding task_create task_create_at gives answer
  task_new priority small l n =
      let so : OnOK TaskNew (task_create s x priority) =
      after_refusal TaskNew s 19 (λ z. omega arith) _
      (λ g. after_refusal TaskNew s 7 (λ z. omega arith) _
      (λ h. record { said = λ e. new s.tasks.serial s.tasks.live s.tasks.name x (leb-false _ _ h) small l n }))
      in so.said

  abbrev SemNew : Answer → Type 0
  SemNew a =
      New s.semaphores.serial s.semaphores.live a.state.semaphores.serial a.state.semaphores.live a.state.semaphores.name x (value a)

  pub sem_new : (count options : ℕ) → length s.semaphores.serial ≤ 64 → length s.semaphores.live ≡ length s.semaphores.serial
      → length s.semaphores.name ≡ length s.semaphores.serial → WhenOK SemNew (sem_create s x count options)
  unfolding sem_create sem_create_at gives answer
  sem_new count options small l n =
      let so : OnOK SemNew (sem_create s x count options) =
      after_refusal SemNew s 9 (λ z. omega arith) _
      (λ f. after_refusal SemNew s 6 (λ z. omega arith) _
      (λ g. after_refusal SemNew s 7 (λ z. omega arith) _
      (λ h. record { said = λ e. new s.semaphores.serial s.semaphores.live s.semaphores.name x (leb-false _ _ h) small l n })))
      in so.said

  abbrev PoolNew : Answer → Type 0
  PoolNew a = New s.pools.serial s.pools.live a.state.pools.serial a.state.pools.live a.state.pools.name x (value a)

  pub pool_new : (address n size options : ℕ) → length s.pools.serial ≡ 8 → length s.pools.live ≡ 8 → length s.pools.name ≡ 8
      → WhenOK PoolNew (pool_create s x address n size options)
  unfolding pool_create pool_create_at gives answer
  pool_new address n size options eight l m =
      let so : OnOK PoolNew (pool_create s x address n size options) =
      after_refusal PoolNew s 3 (λ z. omega arith) _
      (λ b. after_refusal PoolNew s 14 (λ z. omega arith) _
      (λ c. after_refusal PoolNew s 6 (λ z. omega arith) _
      (λ d. after_refusal PoolNew s 7 (λ z. omega arith) _
      (λ h. after_refusal PoolNew s 15 (λ z. omega arith) _
      (λ g.
      let fits : lowest_usable s.pools.serial s.pools.live < 8 = leb-false 8 _ h in
      record { said = λ e. new s.pools.serial s.pools.live s.pools.name x (omega arith) (omega arith) (omega arith) (omega arith) })))))
      in so.said
