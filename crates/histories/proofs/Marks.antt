-- The books of the pools, a step at a time: a live pool's buffers out and its returns grow together by as much as its gets.
-- A buffer is free or out, so what a get takes from the free ones it adds to those out. By deeds: only creation, deletion, get and
-- return change pools.
-- Assumes nothing.
use Prim.Native.Nat.{ℕ, zero, suc, ◌+◌, ◌-◌, ◌^◌, ◌<◌}
use native.Mathlib.Omega.{arith}
use native.Mathlib.Nat.{zero-div}
use mathlib.Core.Path.{◌≡◌, refl, sym, ap, ◌∙◌}
use mathlib.Core.Bool.{true, false, not, ◌&&◌}
use mathlib.Core.List.{List}
use lib.ListN.{length, get_or}
use lib.Seq.{get_or-set_same, get_or-set_other}
use lib.Dec.{ltb, eqb}
use borrow.Author.Tests.{ltb-true, leb-false, ne_eqb, not-false}
use Rattle.scope.specs.declared.State.{State}
use Rattle.scope.specs.declared.Answer.{Answer}
use Rattle.scope.specs.declared.Pools.{Pools}
use Rattle.scope.specs.declared.Found.TheVariants.{At}
use Rattle.scope.specs.Choice.{pick, number}
use Rattle.scope.specs.Statuses.{OK}
use Rattle.scope.specs.Areas.{buffer_address, is_out, is_free}
use Rattle.scope.specs.Places.{first_leaves, joins_last}
use Rattle.scope.specs.Views.{with_pools}
use Rattle.scope.specs.Queues.{queue_delete_at}
use Rattle.scope.specs.Ticks.{tick}
use Rattle.scope.specs.Semaphores.{sem_delete_at}
use Rattle.scope.specs.Answers.{answer, plain, bad_state, shows, wakes_with, delivers_to}
use Rattle.scope.specs.Pools.{pool_found, pool_buffers, pool_row, pool_free, pool_born, pool_gone, with_out}
use Rattle.laws.proofs.Arrays.{cleared}
use Rattle.laws.proofs.Branches.{both_true, picked_yes, picked_no}
use Rattle.laws.proofs.Tables.{found_names, usable_at, usable_free}
pub use Rattle.scope.proofs.Marks.{free_or_out}
use Rattle.laws.proofs.Areas.Marks.{out_below, take_free, back_free}
use Rattle.histories.specs.Sound.{Sound}
use Rattle.histories.specs.History.{Event, answer_to}
use Rattle.histories.specs.Books.{answered_ok, gets, returns, buffers_out}
use Rattle.histories.proofs.Pools.{row_says}
use Rattle.histories.proofs.Deeds.{new_pool, free_buffer, named_buffer, PoolChange, pool_created, pool_deleted, buffer_got, buffer_returned, change_call, move_call, sem_call, put_call, queue_call, not_asked}
use Rattle.histories.proofs.Deeds.{Deed, refused, tells, tasks_change, task_moves, sems_change, pools_change, caller_waits, first_woken, sem_deleted, time_passes, by_deed}
use Rattle.histories.proofs.Deeds.{queues_change, receiver_waits, delivered, queue_deleted}
use Rattle.histories.proofs.Accounts.{Account, Entered, other_call, not_done, enters_none, enters_born, enters_gone, enters_one}
use Rattle.histories.proofs.Answered.{by_call, by_other, by_status, counts_as, Creates}

pub taken : (out k n : ℕ) → is_free out k ≡ true → k < n → number (is_out (out + 2 ^ k)) n ≡ number (is_out out) n + 1
taken out k n e h = omega (arith, take_free out k n e h, free_or_out out n, free_or_out (out + 2 ^ k) n)

pub given_back : (out k n : ℕ) → is_out out k ≡ true → k < n → number (is_out (out - 2 ^ k)) n + 1 ≡ number (is_out out) n
given_back out k n e h = omega (arith, back_free out k e n h, free_or_out out n, free_or_out (out - 2 ^ k) n)

-- no marks, no buffer out
pub none_out : (n : ℕ) → number (is_out 0) n ≡ 0
unfolding number is_out pick
none_out zero = refl
none_out (suc n) = rw (none_out n, zero-div (2 ^ n))

module _ (id : ℕ) (x : Event) (a : Answer) where
  uncounted : answered_ok 17 id x a ≡ false → answered_ok 18 id x a ≡ false → (gets id x a ≡ 0) × (returns id x a ≡ 0)
  unfolding gets returns
  uncounted d e = (picked_no {A = ℕ} _ 1 0 d, picked_no {A = ℕ} _ 1 0 e)

  got : x.call ≡ 17 → x.a ≡ id → a.status ≡ OK → (gets id x a ≡ 1) × (returns id x a ≡ 0)
  unfolding gets returns
  got d e f = (
    picked_yes {A = ℕ} _ 1 0 (counts_as 17 id x a d e f),
    picked_no {A = ℕ} _ 1 0 (by_call 18 id x a (ap (λ (k : ℕ). eqb k 18) d)),
  )

  returned : x.call ≡ 18 → x.a ≡ id → a.status ≡ OK → (gets id x a ≡ 0) × (returns id x a ≡ 1)
  unfolding gets returns
  returned d e f = (
    picked_no {A = ℕ} _ 1 0 (by_call 17 id x a (ap (λ (k : ℕ). eqb k 17) d)),
    picked_yes {A = ℕ} _ 1 0 (counts_as 18 id x a d e f),
  )

-- a pool whose row is the same has as many out
buffers_same : (p q : Pools) (j : ℕ) → get_or q.out j 0 ≡ get_or p.out j 0 → get_or q.length j 0 ≡ get_or p.length j 0
    → get_or q.size j 0 ≡ get_or p.size j 0 → buffers_out q j ≡ buffers_out p j
unfolding buffers_out
buffers_same p q j a b c = rw (a, b, c)

-- other marks
marks_here : (p : Pools) (i out : ℕ) (row : List ℕ) → i < length p.out → buffers_out (with_out p i out row) i ≡ number (is_out out) (pool_buffers p i)
unfolding buffers_out
marks_here p i out row h = rw (get_or-set_same p.out i out 0 h)

-- the pools' account: their buffers out
abbrev pub pool_account : Account
pool_account =
    record {
      serial = λ s. s.pools.serial;
      live = λ s. s.pools.live;
      figure = λ s. buffers_out s.pools;
      plus = gets;
      minus = returns;
      create = 14;
      first = λ x. 0;
    }

module _ (s : State) (ok : Sound s) (x : Event) where
  abbrev Fair : Answer → Type 0
  Fair a = Entered pool_account s x a

  -- the pools are as they were, and nothing counts
  same : (a : Answer) → a.state.pools ≡ s.pools → ((id : ℕ) → (gets id x a ≡ 0) × (returns id x a ≡ 0))
      → ((id : ℕ) → Creates 14 id x a → ⊥) → Fair a
  same a e nothing unmade =
      enters_none pool_account s x a (ap (λ (p : Pools). p.serial) e) (ap (λ (p : Pools). p.live) e) (λ i. ap (λ (p : Pools). buffers_out p i) e)
      nothing unmade

  refusal : (a : Answer) → a.state.pools ≡ s.pools → eqb a.status OK ≡ false → Fair a
  refusal a e not = same a e (λ id. uncounted id x a (by_status 17 id x a not) (by_status 18 id x a not)) (not_done pool_account s x a not)

  -- a call of another kind counts nothing
  no_books : (x.call ≡ 17 → ⊥) → (x.call ≡ 18 → ⊥) → (a : Answer) (id : ℕ) → (gets id x a ≡ 0) × (returns id x a ≡ 0)
  no_books get ret a id = uncounted id x a (by_call 17 id x a (ne_eqb _ _ get)) (by_call 18 id x a (ne_eqb _ _ ret))

  elsewhere : (a : Answer) → a.state.pools ≡ s.pools → (x.call ≡ 14 → ⊥) → (x.call ≡ 17 → ⊥) → (x.call ≡ 18 → ⊥) → Fair a
  elsewhere a e create get ret = same a e (no_books get ret a) (other_call pool_account s x a create)

  -- the slot that an identifier names
  slot : (id i : ℕ) → pool_found s id ≡ At i → i < 8
  slot id i e = omega (arith, (found_names s.pools.serial s.pools.live id e).below, ok.pools.sized.serials)

  -- the marks of the pool that is named change
  changed : (i : ℕ) → pool_found s x.a ≡ At i → (marks : ℕ) (row : List ℕ) (a : Answer) → (x.call ≡ 14 → ⊥)
      → a.state.pools ≡ with_out s.pools i marks row
      → number (is_out marks) (pool_buffers s.pools i) + returns x.a x a ≡ buffers_out s.pools i + gets x.a x a → Fair a
  changed i names marks row a create d e =
      enters_one pool_account s x a x.a i names (ap (λ (p : Pools). p.serial) d) (ap (λ (p : Pools). p.live) d)
      (omega (
        arith,
        e,
        ap (λ (p : Pools). buffers_out p i) d,
        marks_here s.pools i marks row (omega (arith, slot x.a i names, ok.pools.sized.outs)),
      ))
      (λ j ne. ap (λ (p : Pools). buffers_out p j) d
      ∙ buffers_same s.pools (with_out s.pools i marks row) j (get_or-set_other s.pools.out i j marks 0 ne) refl refl)
      (λ id ne. uncounted id x a (by_other 17 id x a (λ z. ne (sym z))) (by_other 18 id x a (λ z. ne (sym z))))
      (other_call pool_account s x a create)

  pool_fair : {p : Pools} {v : ℕ} → PoolChange s x p v → Fair (answer (with_pools s p) OK v 0 0 0 false)
  unfolding answer buffers_out
  pool_fair (pool_created at e f g h j) =
      let i : ℕ = new_pool s in
      let room : i < 8 = leb-false 8 i h in
      let l : i < length s.pools.serial = omega (arith, room, ok.pools.sized.serials) in
      let p : Pools = pool_born s.pools i x.a x.b x.c x.d (eqb x.e 1) in
      enters_born pool_account s x _ i l (omega (arith, ok.pools.sized.lives)) (omega arith)
      (usable_free s.pools.serial s.pools.live i (usable_at s.pools.serial s.pools.live l)) refl refl
      (λ j ne. buffers_same s.pools p j (get_or-set_other s.pools.out i j 0 0 ne) (get_or-set_other s.pools.length i j x.c 0 ne)
      (get_or-set_other s.pools.size i j x.d 0 ne))
      (ap (λ (out : ℕ). number (is_out out) (pool_buffers p i)) (cleared s.pools.out i 0) ∙ none_out (pool_buffers p i))
      (no_books (λ z. omega arith) (λ z. omega arith) _) at refl refl
  pool_fair (pool_deleted at i e f) =
      enters_gone pool_account s x _ i (omega (arith, slot x.a i e, ok.pools.sized.lives)) refl refl
      (λ j ne. buffers_same s.pools (pool_gone s.pools i) j (get_or-set_other s.pools.out i j 0 0 ne)
      (get_or-set_other s.pools.length i j 0 0 ne) (get_or-set_other s.pools.size i j 0 0 ne))
      (no_books (λ z. omega arith) (λ z. omega arith) _) (other_call pool_account s x _ (λ z. omega arith))
  pool_fair (buffer_got at i e f) =
      let out : ℕ = get_or s.pools.out i 0 in
      let n : ℕ = pool_buffers s.pools i in
      let k : ℕ = free_buffer s i in
      let b = both_true (ltb k n) (is_free out k) (not-false (ltb k n && is_free out k) f) in
      let row : List ℕ = first_leaves (pool_row s.pools i) in
      let a : Answer = answer (with_pools s (with_out s.pools i (out + 2 ^ k) row)) OK
      (buffer_address (get_or s.pools.address i 0) (get_or s.pools.size i 0) k) 0 0 0 false in
      let c : (gets x.a x a ≡ 1) × (returns x.a x a ≡ 0) = got x.a x a at refl refl in
      changed i e (out + 2 ^ k) row a (λ z. omega arith) refl (omega (arith, c.0, c.1, taken out k n b.1 (ltb-true k n b.0)))
  pool_fair (buffer_returned at i e f) =
      let out : ℕ = get_or s.pools.out i 0 in
      let n : ℕ = pool_buffers s.pools i in
      let b : ℕ = named_buffer s i x.b in
      let row : List ℕ = joins_last (pool_row s.pools i) (pool_free s.pools i) b in
      let a : Answer = answer (with_pools s (with_out s.pools i (out - 2 ^ b) row)) OK 0 0 0 0 false in
      let c : (gets x.a x a ≡ 0) × (returns x.a x a ≡ 1) = returned x.a x a at refl refl in
      let set : is_out out b ≡ true = (both_true (ltb b 64) _ (not-false (ltb b 64 && is_out out b) f)).1 in
      let alive : get_or s.pools.live i false ≡ true = (found_names s.pools.serial s.pools.live x.a e).alive in
      let h : b < n = out_below _ b _ set (row_says s.pools ok.pools i (slot x.a i e) alive).2 in
      changed i e (out - 2 ^ b) row a (λ z. omega arith) refl (omega (arith, c.0, c.1, given_back out b n set h))

  deed_fair : {a : Answer} → Deed s x a → Fair a
  unfolding plain answer shows wakes_with delivers_to sem_delete_at queue_delete_at tick
  deed_fair (refused status e f listed) = refusal _ refl e
  deed_fair (tells call at e v0 v1 v2 v3 negative) =
      elsewhere _ refl (λ z. not_asked call 14 e refl (sym at ∙ z)) (λ z. not_asked call 17 e refl (sym at ∙ z)) (λ z. not_asked call 18 e refl (sym at ∙ z))
  deed_fair (tasks_change c) = let h = change_call c in elsewhere _ refl (λ z. omega arith) (λ z. omega arith) (λ z. omega arith)
  deed_fair (task_moves c) = let h = move_call c in elsewhere _ refl (λ z. omega arith) (λ z. omega arith) (λ z. omega arith)
  deed_fair (sems_change c) = let h = (sem_call c).1 in elsewhere _ refl (λ z. omega arith) (λ z. omega arith) (λ z. omega arith)
  deed_fair (pools_change c) = pool_fair c
  deed_fair (caller_waits at i e f g time) = refusal _ refl refl
  deed_fair (first_woken at i e f) = elsewhere _ refl (λ z. omega arith) (λ z. omega arith) (λ z. omega arith)
  deed_fair (sem_deleted at i e) = elsewhere _ refl (λ z. omega arith) (λ z. omega arith) (λ z. omega arith)
  deed_fair (queues_change c) = let h = queue_call c in elsewhere _ refl (λ z. omega arith) (λ z. omega arith) (λ z. omega arith)
  deed_fair (receiver_waits at i e f g time) = refusal _ refl refl
  deed_fair (delivered c i e f g) = let h = (put_call c).0 in elsewhere _ refl (λ z. omega arith) (λ z. omega arith) (λ z. omega arith)
  deed_fair (queue_deleted at i e) = elsewhere _ refl (λ z. omega arith) (λ z. omega arith) (λ z. omega arith)
  deed_fair (time_passes at) = elsewhere _ refl (λ z. omega arith) (λ z. omega arith) (λ z. omega arith)

  -- every event's answer keeps the pools' books
  pub pools_entered : Entered pool_account s x (answer_to s x)
  unfolding bad_state
  pools_entered = by_deed s x Fair (λ a d. deed_fair d) (λ h. refusal (bad_state s) refl refl)
