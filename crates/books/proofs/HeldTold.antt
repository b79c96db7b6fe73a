-- What an agreement of the pools' table and the past tells: no two buffers held share a byte, and what the pool calls answer, in
-- words of the past. A get's answer is judged by the state after it, where its address is on the list, once.
-- Assumes nothing.
use Prim.Native.Nat.{ℕ, ◌+◌, ◌*◌, ◌/◌, ◌^◌, ◌≤◌, ◌<◌}
use native.Mathlib.Omega.{arith}
use mathlib.Core.Path.{◌≡◌, refl, sym, subst, ap, ◌∙◌}
use mathlib.Core.Logic.{⊎_elim}
use mathlib.Core.Bool.{true, false, not, ◌&&◌}
use mathlib.Core.List.{List, [], ◌∷◌}
use lib.ListN.{length, get_or}
use lib.Dec.{ltb, leb, eqb}
use borrow.Author.Tests.{leb-true, ltb-true, ltb-false, lt-ltb, eqb-false, not-false}
use Rattle.scope.specs.declared.State.{State}
use Rattle.scope.specs.declared.Answer.{Answer}
use Rattle.scope.specs.declared.Pools.{Pools}
use Rattle.scope.specs.Choice.{number}
use Rattle.scope.specs.Statuses.{OK}
use Rattle.scope.specs.Lists.{has}
use Rattle.scope.specs.Areas.{is_area, is_size, is_out, is_free, free_of, buffer_address, buffer_at}
use Rattle.scope.specs.Places.{longest_free}
use Rattle.scope.proofs.Gets.{on_place_lem}
use Rattle.laws.specs.Order.{Free, Ordered}
use Rattle.laws.proofs.Orders.{others_behind}
use Rattle.scope.specs.Answers.{answer, plain, gives, bad_state, on_found}
use Rattle.scope.specs.Calls.{call_at}
use Rattle.scope.specs.Pools.{pool_found, pool_buffers, pool_row, pool_info_at, pool_delete_at, pool_get_buffer, pool_get_buff_at, pool_ret_buffer, pool_ret_buff_at}
use Rattle.scope.proofs.Rows.{by_choice}
use Rattle.laws.proofs.Branches.{both_true, second_decides, not_of_false, picked_yes, picked_no, true-false, true_or_false, eq_or_not}
use Rattle.laws.proofs.Once.{Once, has_here}
use Rattle.laws.proofs.Tables.{found_below, found-live}
use Rattle.laws.proofs.Areas.Buffers.{count, starts, found_is}
use Rattle.histories.specs.Sound.{Sound}
use Rattle.histories.specs.History.{Event, answer_to}
use Rattle.histories.proofs.Pools.{row_says}
use Rattle.histories.proofs.Marks.{free_or_out, none_out}
use Rattle.histories.proofs.Answered.{by_name, by_number}
use Rattle.histories.proofs.Ledger.{event_keeps}
use Rattle.histories.proofs.Owners.{Out, InBuffer}
use Rattle.histories.proofs.OwnersApart.{buffers_out_apart}
use Rattle.books.specs.Past.{Turn}
use Rattle.books.specs.Held.{address_in, length_in, size_in, is_forced, buffers_in, held, free_longer}
use Rattle.books.proofs.HeldMarks.{OutAt}
use Rattle.books.proofs.HeldTurns.{turn_of, is_answer_lem, not_call, is_of, not_answer, quiet_other, held_same}
use Rattle.books.proofs.HeldAgrees.{NamedAt, Holds, Agrees, slot_or_none, one_name}
use Rattle.books.proofs.HeldSteps.{turn_agrees}
use Rattle.books.specs.Told.{PoolInfoTold, LongestFree}

empty : (l : List ℕ) → length l ≡ 0 → l ≡ []
empty [] e = refl
empty (x ∷ l) e = absurd (omega arith)

module _ (s : State) (ok : Sound s) (past : List Turn) (agrees : Agrees s.pools past) where
  abbrev p : Pools
  p = s.pools

  -- the live pool, and its buffer, that is held at x
  record HeldAt (id x : ℕ) : Type 0 where
    slot : ℕ
    named : NamedAt p id slot
    out : OutAt (get_or p.address slot 0) (get_or p.size slot 0) (pool_buffers p slot) (get_or p.out slot 0) x

  held_at : (id x : ℕ) → has (held past id) x ≡ true → HeldAt id x
  held_at id x e =
      ⊎_elim
      (λ n. record { slot = n.0; named = n.1; out = (agrees.live id n.0 n.1).listed.on x e })
      (λ d. absurd (true-false e (ap (λ (l : List ℕ). has l x) (agrees.dead id d).held)))
      (slot_or_none p id)

  is_out_lem : (id x : ℕ) (m : HeldAt id x) → Out p m.slot m.out.buffer
  is_out_lem id x m = record { alive = found-live p.serial p.live id m.named; marked = m.out.marked }

  in_buffer : (id x : ℕ) (m : HeldAt id x) (byte : ℕ) → x ≤ byte → byte < x + size_in past id → InBuffer p m.slot m.out.buffer byte
  in_buffer id x m byte l u =
      (omega (arith, m.out.starts), omega (arith, m.out.starts, (agrees.live id m.slot m.named).size))

  -- "no two buffers out share a byte"
  pub held_apart : (id jd x y byte : ℕ) → has (held past id) x ≡ true → has (held past jd) y ≡ true → (id ≡ jd → x ≡ y → ⊥)
      → x ≤ byte → byte < x + size_in past id → y ≤ byte → byte < y + size_in past jd → ⊥
  held_apart id jd x y byte d e ne xl xu yl yu =
      let m : HeldAt id x = held_at id x d in
      let n : HeldAt jd y = held_at jd y e in
      buffers_out_apart p ok.pools m.slot n.slot m.out.buffer n.out.buffer byte (is_out_lem id x m) (is_out_lem jd y n)
      (λ i k. ne
      (one_name p id jd n.slot (subst (λ (j : ℕ). NamedAt p id j) i m.named) n.named)
      (sym m.out.starts
      ∙ ap (λ (j : ℕ). buffer_address (get_or p.address j 0) (get_or p.size j 0) m.out.buffer) i
      ∙ ap (buffer_address (get_or p.address n.slot 0) (get_or p.size n.slot 0)) k
      ∙ n.out.starts))
      (in_buffer id x m byte xl xu) (in_buffer jd y n byte yl yu)

  -- what is told of a live pool is admitted, and its buffers are those of its columns
  module _ (id i : ℕ) (names : NamedAt p id i) where
    abbrev holds : Holds p past id i
    holds = agrees.live id i names

    row : (is_area (get_or p.address i 0) (get_or p.length i 0) ≡ true) × (is_size (get_or p.length i 0) (get_or p.size i 0) ≡ true)
        × (get_or p.out i 0 < 2 ^ pool_buffers p i)
    row =
        row_says p ok.pools i (omega (arith, found_below p.serial p.live id names, ok.pools.sized.serials))
        (found-live p.serial p.live id names)

    buffers_told : pool_buffers p i ≡ buffers_in past id
    buffers_told =
        count (get_or p.address i 0) (get_or p.length i 0) (get_or p.size i 0) row.0 row.1
        ∙ ap (λ (n : ℕ). n / get_or p.size i 0) (sym holds.long)
        ∙ ap (λ (n : ℕ). length_in past id / n) (sym holds.size)

    -- no address wraps
    starts_told : (k : ℕ) → k < pool_buffers p i
        → buffer_address (get_or p.address i 0) (get_or p.size i 0) k ≡ address_in past id + k * size_in past id
    starts_told k h =
        starts (get_or p.address i 0) (get_or p.length i 0) (get_or p.size i 0) row.0 row.1 k h
        ∙ ap (λ (n : ℕ). n + k * get_or p.size i 0) (sym holds.address)
        ∙ ap (λ (n : ℕ). address_in past id + k * n) (sym holds.size)

    order_of : Ordered (pool_row p i) (get_or p.out i 0) (pool_buffers p i)
    order_of = ok.pools.orders i (omega (arith, found_below p.serial p.live id names, ok.pools.sized.serials))

    first_place : (k : ℕ) → k ≡ longest_free (pool_row p i) → k < pool_buffers p i → get_or (pool_row p i) k 0 ≡ 1
    first_place k e h =
        ap (λ (j : ℕ). get_or (pool_row p i) j 0) e ∙ on_place_lem (pool_row p i) 1 (omega (arith, e, h, order_of.few))

    -- a buffer that is not held is free
    not_held_free : (k : ℕ) → k < pool_buffers p i → has (held past id) (address_in past id + k * size_in past id) ≡ false → is_free (get_or p.out i 0) k ≡ true
    unfolding is_free
    not_held_free k h e =
        not_of_false _
        (⊎_elim
        (λ o. absurd (true-false (holds.listed.back k h o) (ap (has (held past id)) (starts_told k h) ∙ e)))
        (λ o. o)
        (true_or_false (is_out (get_or p.out i 0) k)))

    some_told : 1 ≤ size_in past id
    unfolding is_size
    some_told = omega (arith, leb-true 1 (get_or p.size i 0) (both_true (leb 1 (get_or p.size i 0)) _ row.1).0, holds.size)

  module _ (x : Event) where
    -- what holds of an answer if it is OK: a refusal is not
    module _ (Says : Answer → Type 0) where
      abbrev IfDone : Answer → Type 0
      IfDone a = a.status ≡ OK → Says a

      not_done : (status : ℕ) → eqb status OK ≡ false → IfDone (plain s status)
      unfolding plain answer
      not_done status e d = absurd (eqb-false status OK e d)

      by_pool : (k : ℕ) (f : ℕ → Answer) → x.call ≡ k → (call_at k).does s x.a x.b x.c x.d x.e x.message ≡ on_found (pool_found s x.a) s f
          → ((i : ℕ) → NamedAt p x.a i → IfDone (f i)) → IfDone (answer_to s x)
      unfolding bad_state
      by_pool k f at row g =
          by_number IfDone s not_done x k at (λ d. absurd (omega arith))
          (subst IfDone (sym row) (by_name IfDone s not_done (pool_found s x.a) f g))

    pub info_told : x.call ≡ 19 → (answer_to s x).status ≡ OK → PoolInfoTold past x.a (answer_to s x).values
    unfolding pool_info_at answer
    info_told at =
        by_pool (λ a. PoolInfoTold past x.a a.values) 19 (pool_info_at s) at refl
        (λ i names d. let h : Holds p past x.a i = holds x.a i names in
        record {
          lives = h.lives;
          free = free_of (get_or p.out i 0) (pool_buffers p i);
          all = omega (arith, free_or_out (get_or p.out i 0) (pool_buffers p i), h.listed.count, buffers_told x.a i names);
          four = rw (buffers_told x.a i names, h.size, h.forced);
        })

    -- of the buffers that are not held, the one that a get gives has been free longest
    pub longest_told : x.call ≡ 17 → (answer_to s x).status ≡ OK → LongestFree past x.a (get_or (answer_to s x).values 0 0)
    unfolding pool_get_buff_at pool_get_buffer gives answer
    longest_told at =
        by_pool Told 17 (pool_get_buff_at s) at refl
        (λ i names. by_choice (IfDone Told) _ (λ e. not_done Told _ refl) (λ e d. told i names (longest_free (pool_row p i)) refl (not-false _ e)))
      where
        Told : Answer → Type 0
        Told a = LongestFree past x.a (get_or a.values 0 0)

        told : (i : ℕ) → NamedAt p x.a i → (k : ℕ) → k ≡ longest_free (pool_row p i) → (ltb k (pool_buffers p i) && is_free (get_or p.out i 0) k) ≡ true
            → LongestFree past x.a (buffer_address (get_or p.address i 0) (get_or p.size i 0) k)
        told i names k e d =
            let b = both_true (ltb k (pool_buffers p i)) (is_free (get_or p.out i 0) k) d in
            let h : k < pool_buffers p i = ltb-true k (pool_buffers p i) b.0 in
            let first : get_or (pool_row p i) k 0 ≡ 1 = first_place x.a i names k e h in
            record {
              lives = (holds x.a i names).lives;
              buffer = k;
              below = omega (arith, buffers_told x.a i names);
              starts = sym (starts_told x.a i names k h);
              longest = λ j l u ne.
                  let m : j < pool_buffers p i = omega (arith, buffers_told x.a i names) in
                  let f : Free (get_or p.out i 0) (pool_buffers p i) j = (m, not_held_free x.a i names j m u) in
                  ap (free_longer past x.a (buffer_address (get_or p.address i 0) (get_or p.size i 0) k)) (sym (starts_told x.a i names j m))
                  ∙ (holds x.a i names).order k j (h, b.1) f (λ q. ne (sym q))
                  ∙ lt-ltb (get_or (pool_row p i) k 0) (get_or (pool_row p i) j 0)
                  (omega (arith, first, others_behind (order_of x.a i names) k j first f ne));
            }

    -- a return names a buffer that is held
    pub names_held : x.call ≡ 18 → (answer_to s x).status ≡ OK → has (held past x.a) x.b ≡ true
    unfolding pool_ret_buff_at pool_ret_buffer
    names_held at =
        by_pool Told 18 (pool_ret_buff_at s x.b) at refl
        (λ i names. by_choice (IfDone Told) _ (λ e. not_done Told _ refl) (λ e d. told i names (not-false _ e)))
      where
        Told : Answer → Type 0
        Told a = has (held past x.a) x.b ≡ true

        told : (i : ℕ) → NamedAt p x.a i
            → (let k : ℕ = buffer_at (get_or p.address i 0) (get_or p.size i 0) (pool_buffers p i) x.b in
            (ltb k 64 && is_out (get_or p.out i 0) k) ≡ true → has (held past x.a) x.b ≡ true)
        told i names e =
            let k : ℕ = buffer_at (get_or p.address i 0) (get_or p.size i 0) (pool_buffers p i) x.b in
            let b = both_true (ltb k 64) (is_out (get_or p.out i 0) k) e in
            let r = row x.a i names in
            let f = found_is _ (get_or p.length i 0) _ r.0 r.1 (pool_buffers p i) (omega arith) x.b (ltb-true k 64 b.0) in
            ap (has (held past x.a)) (sym f.1) ∙ (holds x.a i names).listed.back k f.0 b.1

    -- "buffers out, not FORCED_DELETE" is refused
    pub none_held : x.call ≡ 15 → (answer_to s x).status ≡ OK → is_forced past x.a ≡ false → held past x.a ≡ []
    unfolding pool_delete_at
    none_held at =
        by_pool Told 15 (pool_delete_at s) at refl
        (λ i names. by_choice (IfDone Told) _ (λ e. not_done Told _ refl) (λ e d f. told i names e f))
      where
        Told : Answer → Type 0
        Told a = is_forced past x.a ≡ false → held past x.a ≡ []

        told : (i : ℕ) → NamedAt p x.a i → (not (get_or p.forced i false) && ltb 0 (get_or p.out i 0)) ≡ false
            → is_forced past x.a ≡ false → held past x.a ≡ []
        told i names e f =
            let h : Holds p past x.a i = holds x.a i names in
            let n : not (get_or p.forced i false) ≡ true = not_of_false _ (sym h.forced ∙ f) in
            let z : get_or p.out i 0 ≤ 0 = ltb-false 0 _ (sym (second_decides _ _ n) ∙ e) in
            let o : get_or p.out i 0 ≡ 0 = omega arith in
            empty (held past x.a) (h.listed.count ∙ ap (λ (m : ℕ). number (is_out m) (pool_buffers p i)) o ∙ none_out (pool_buffers p i))

-- a get's answer, by the state after it
module _ (s : State) (ok : Sound s) (past : List Turn) (agrees : Agrees s.pools past) (x : Event) (at : x.call ≡ 17) (done : (answer_to s x).status ≡ OK) where
  abbrev next : State
  next = (answer_to s x).state

  abbrev turn : Turn
  turn = turn_of x (answer_to s x)

  abbrev v : ℕ
  v = get_or (answer_to s x).values 0 0

  next_sound : Sound next
  next_sound = event_keeps s ok x

  next_agrees : Agrees next.pools (turn ∷ past)
  next_agrees = turn_agrees s ok past agrees x

  next_held : held (turn ∷ past) x.a ≡ v ∷ held past x.a
  next_held =
      picked_no _ _ _ (not_answer 15 x.a turn (not_call 15 x (answer_to s x) (λ e. omega arith)))
      ∙ picked_yes _ _ _ (is_of 17 x.a turn (is_answer_lem 17 x (answer_to s x) at done) refl)

  now_held : has (held (turn ∷ past) x.a) v ≡ true
  now_held = ap (λ (l : List ℕ). has l v) next_held ∙ has_here v v (held past x.a) refl

  -- a size that is told of one who holds
  some_held : (id y : ℕ) → has (held (turn ∷ past) id) y ≡ true → 1 ≤ size_in (turn ∷ past) id
  some_held id y e =
      let m : HeldAt next next_sound (turn ∷ past) next_agrees id y = held_at next next_sound (turn ∷ past) next_agrees id y e in
      some_told next next_sound (turn ∷ past) next_agrees id m.slot m.named

  -- the address was held from no pool
  pub not_held : (id : ℕ) → has (held past id) v ≡ false
  not_held id = ⊎_elim (λ e. subst (λ (y : ℕ). has (held past y) v ≡ false) e own) other (eq_or_not x.a id)
    where
      own : has (held past x.a) v ≡ false
      own =
          let m : HeldAt next next_sound (turn ∷ past) next_agrees x.a v = held_at next next_sound (turn ∷ past) next_agrees x.a v now_held in
          (subst Once next_held (next_agrees.live x.a m.slot m.named).listed.once).0

      other : (x.a ≡ id → ⊥) → has (held past id) v ≡ false
      other ne =
          ⊎_elim
          (λ e. let d : has (held (turn ∷ past) id) v ≡ true =
          ap (λ (l : List ℕ). has l v) (held_same id turn past (quiet_other id x (answer_to s x) (λ q. omega arith) ne)) ∙ e in
          absurd
          (held_apart next next_sound (turn ∷ past) next_agrees x.a id v v v now_held d (λ a b. ne a) (omega arith)
          (omega (arith, some_held x.a v now_held))
          (omega arith)
          (omega (arith, some_held id v d))))
          (λ e. e)
          (true_or_false (has (held past id) v))
