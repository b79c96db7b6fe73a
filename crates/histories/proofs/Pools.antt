-- The pool calls keep a state sound. Each writes one slot of the pools' table, and the table stays sound where the slot is one
-- that the rules admit and shares no byte with another live one.
-- Assumes nothing.
use Prim.Native.Nat.{ℕ, ◌+◌, ◌^◌, ◌≤◌, ◌<◌}
use native.Mathlib.Omega.{arith}
use mathlib.Core.Path.{◌≡◌, refl, sym, subst, ap, ◌∙◌}
use mathlib.Core.Logic.{⊎_elim}
use mathlib.Core.Bool.{Bool, true, false, ◌&&◌}
use mathlib.Core.List.{List}
use lib.ListN.{length, get_or, set, length-set}
use lib.Seq.{get_or-set_same, get_or-set_other}
use lib.Dec.{ltb, leb, eqb}
use lib.Pow.{pow_pos}
use borrow.Author.Tests.{lt-ltb, le-leb, ltb-true, ltb-false, leb-true, leb-false, not-false}
use Rattle.scope.specs.declared.State.{State}
use Rattle.scope.specs.declared.Pools.{Pools}
use Rattle.scope.specs.declared.Found.TheVariants.{At}
use Rattle.scope.specs.Choice.{pick}
use Rattle.scope.specs.Statuses.{OK, NO_MORE_MEMORY}
use Rattle.scope.specs.Answers.{answer, plain, gives, on_found}
use Rattle.scope.specs.Areas.{is_area, is_size, buffers_of, is_out, is_free, free_of}
use Rattle.scope.specs.Places.{with_row, longest_free, new_row, no_row}
use Rattle.scope.specs.Views.{with_pools}
use Rattle.scope.specs.Pools.{pool_found, pool_buffers, pool_row, overlaps, overlapped, pool_born, pool_gone, with_out, pool_get_buffer, pool_get_buff_at, pool_get_buff}
use Rattle.scope.specs.Rules.{admitted, pool_right, pair_shares}
use Rattle.laws.proofs.Arrays.{cleared}
use Rattle.laws.proofs.Branches.{picked_yes, both, both_true, lt_or_le, eq_or_not, true_or_false}
use Rattle.laws.proofs.Searches.{least_below}
use Rattle.laws.proofs.Tables.{found_names}
use Rattle.scope.proofs.Buffers.{buffers_few}
use Rattle.scope.proofs.Places.{length_with, row_same, row_other}
use Rattle.scope.proofs.Gets.{on_place_lem}
use Rattle.laws.proofs.Areas.Marks.{take_fits, back_below, out_below}
use Rattle.laws.proofs.Areas.Bytes.{share_swap, apart_at, apart_all}
use Rattle.laws.specs.Order.{Ordered}
use Rattle.laws.proofs.Orders.{placed_free, first_found, leaves_ordered, joins_ordered, new_ordered, none_ordered}
use Rattle.histories.specs.Sound.{PoolsSized, PoolsSound, Sound}
use Rattle.histories.proofs.Lengths.{pools_as_long}
use Rattle.histories.proofs.Tests.{chosen_yes}
use Rattle.histories.specs.History.{Event}
use Rattle.histories.proofs.Deeds.{new_pool, free_buffer, named_buffer, PoolChange, pool_created, pool_deleted, buffer_got, buffer_returned}

pair_swap : (p : Pools) (i j : ℕ) → pair_shares p i j ≡ pair_shares p j i
unfolding pair_shares
pair_swap p i j =
    go (get_or p.live i false) (get_or p.live j false) (share_swap (get_or p.address i 0) (get_or p.length i 0) (get_or p.address j 0) (get_or p.length j 0))
  where
    go : (u v : Bool) {x y : Bool} → x ≡ y → (u && (v && x)) ≡ (v && (u && y))
    go true true d = d
    go true false d = refl
    go false true d = refl
    go false false d = refl

-- pool i's places agree with its marks
abbrev InOrder : Pools → ℕ → Type 0
InOrder p i = Ordered (pool_row p i) (get_or p.out i 0) (pool_buffers p i)

-- table q is p but for slot i, which keeps the rules, has another row of places and shares no byte with another live one
slot_sound : (p q : Pools) (i : ℕ) (row : List ℕ) → i < 8 → PoolsSound p → PoolsSized q → q.place ≡ with_row p.place i row
    → Ordered row (get_or q.out i 0) (pool_buffers q i)
    → ((j : ℕ) → (j ≡ i → ⊥) → (get_or q.out j 0 ≡ get_or p.out j 0) × (pool_buffers q j ≡ pool_buffers p j))
    → ((j : ℕ) → (j ≡ i → ⊥) → pool_right q j ≡ pool_right p j)
    → ((j k : ℕ) → (j ≡ i → ⊥) → (k ≡ i → ⊥) → pair_shares q j k ≡ pair_shares p j k)
    → pool_right q i ≡ true → ((j : ℕ) → j < 8 → (j ≡ i → ⊥) → pair_shares q i j ≡ false) → PoolsSound q
slot_sound p q i row room sound sized at ordered marks rights pairs right apart =
    record {
      sized = sized;
      each = λ j h. ⊎_elim (λ e. ap (pool_right q) e ∙ right) (λ ne. rights j ne ∙ sound.each j h) (eq_or_not j i);
      orders = λ j h. ⊎_elim (λ e. subst (InOrder q) (sym e) here) (λ ne. there j h ne) (eq_or_not j i);
      apart = apart_all q pair;
    }
  where
    here : InOrder q i
    here = rw (at, row_same p.place i (omega (arith, sound.sized.places)) row ordered.long) ordered

    there : (j : ℕ) → j < 8 → (j ≡ i → ⊥) → InOrder q j
    there j h ne =
        rw (
          at,
          row_other p.place i (omega (arith, sound.sized.places)) row ordered.long j (omega (arith, sound.sized.places)) ne,
          (marks j ne).0,
          (marks j ne).1,
        ) (sound.orders j h)

    pair : (a b : ℕ) → a < b → b < 8 → pair_shares q a b ≡ false
    pair a b h l =
        ⊎_elim
        (λ e. ap (λ (k : ℕ). pair_shares q k b) e ∙ apart b l (λ d. omega arith))
        (λ na. ⊎_elim
        (λ e. ap (pair_shares q a) e ∙ pair_swap q a i ∙ apart a (omega arith) na)
        (λ nb. pairs a b na nb ∙ apart_at p sound.apart a b h l)
        (eq_or_not b i))
        (eq_or_not a i)

-- a slot that holds a pool, and what it says
module _ (p : Pools) (i : ℕ) where
  live_right : get_or p.live i false ≡ true → 1 ≤ get_or p.serial i 0
      → admitted (get_or p.address i 0) (get_or p.length i 0) (get_or p.size i 0) (get_or p.out i 0) ≡ true → pool_right p i ≡ true
  unfolding pool_right
  live_right a h e = picked_yes _ _ _ a ∙ both _ _ (le-leb _ _ h) e

  right_live : get_or p.live i false ≡ true → pool_right p i ≡ true
      → (1 ≤ get_or p.serial i 0) × (admitted (get_or p.address i 0) (get_or p.length i 0) (get_or p.size i 0) (get_or p.out i 0) ≡ true)
  unfolding pool_right
  right_live a e =
      let b = both_true (leb 1 (get_or p.serial i 0)) _ (chosen_yes (get_or p.live i false) _ _ e a) in
      (leb-true _ _ b.0, b.1)

-- an admitted row, by its marks
admitted_by : (address n size out : ℕ) → is_area address n ≡ true → is_size n size ≡ true → out < 2 ^ buffers_of n size → admitted address n size out ≡ true
unfolding admitted
admitted_by address n size out a b l = both _ _ a (both _ _ b (lt-ltb _ _ l))

admitted_says : (address n size out : ℕ) → admitted address n size out ≡ true
    → (is_area address n ≡ true) × (is_size n size ≡ true) × (out < 2 ^ buffers_of n size)
unfolding admitted
admitted_says address n size out e =
    let a = both_true (is_area address n) _ e in
    let b = both_true (is_size n size) _ a.1 in
    (a.0, b.0, ltb-true _ _ b.1)

module _ (p : Pools) (sound : PoolsSound p) (i : ℕ) (room : i < 8) where
  -- a pool is created in slot i
  module _ (name address n size : ℕ) (forced : Bool) where
    abbrev born : Pools
    born = pool_born p i name address n size forced

    born_order : Ordered (new_row (buffers_of n size)) 0 (buffers_of n size)
    born_order = new_ordered (buffers_of n size) (buffers_few n size)

    born_sized : PoolsSized born
    born_sized =
        pools_as_long p born
        (simp (length-set, length_with p.place i (omega (arith, sound.sized.places)) (new_row (buffers_of n size)) born_order.long))
        sound.sized

    born-live : get_or born.live i false ≡ true
    born-live = get_or-set_same p.live i true false (omega (arith, sound.sized.lives))

    address_here : get_or born.address i 0 ≡ address
    address_here = get_or-set_same p.address i address 0 (omega (arith, sound.sized.addresses))

    length_here : get_or born.length i 0 ≡ n
    length_here = get_or-set_same p.length i n 0 (omega (arith, sound.sized.lengths))

    size_here : get_or born.size i 0 ≡ size
    size_here = get_or-set_same p.size i size 0 (omega (arith, sound.sized.sizes))

    born_right : is_area address n ≡ true → is_size n size ≡ true → pool_right born i ≡ true
    born_right area sized =
        live_right born i born-live
        (omega (arith, get_or-set_same p.serial i (get_or p.serial i 0 + 1) 0 (omega (arith, sound.sized.serials))))
        (rw (address_here, length_here, size_here, cleared p.out i 0)
        (admitted_by address n size 0 area sized (pow_pos _)))

    born_apart : 8 ≤ overlapped p address n → (j : ℕ) → j < 8 → (j ≡ i → ⊥) → pair_shares born i j ≡ false
    unfolding pair_shares overlapped overlaps
    born_apart none j h ne = rw (born-live, address_here, length_here) (simp get_or-set_other (least_below (overlaps p address n) 8 j (omega arith)))

    pub born_sound : is_area address n ≡ true → is_size n size ≡ true → 8 ≤ overlapped p address n → PoolsSound born
    unfolding pool_right pair_shares
    born_sound area sized none =
        slot_sound p born i (new_row (buffers_of n size)) room sound born_sized refl (rw (length_here, size_here, cleared p.out i 0) born_order)
        (λ j ne. (simp get_or-set_other, simp get_or-set_other)) (λ j ne. simp get_or-set_other) (λ j k nj nk. simp get_or-set_other)
        (born_right area sized) (born_apart none)

  -- slot i's pool is deleted
  pub gone_sound : PoolsSound (pool_gone p i)
  unfolding pool_right pair_shares buffers_of pick
  gone_sound =
      slot_sound p (pool_gone p i) i no_row room sound
      (pools_as_long p (pool_gone p i) (simp (length-set, length_with p.place i (omega (arith, sound.sized.places)) no_row refl)) sound.sized)
      refl none_left (λ j ne. (simp get_or-set_other, simp get_or-set_other)) (λ j ne. simp get_or-set_other) (λ j k nj nk. simp get_or-set_other) (simp cleared) (λ j h ne. simp cleared)
    where
      none_left : Ordered no_row (get_or (pool_gone p i).out i 0) (pool_buffers (pool_gone p i) i)
      none_left = rw (cleared p.length i 0, cleared p.size i 0) (none_ordered _)

  module _ (alive : get_or p.live i false ≡ true) where
    pub row_says : (is_area (get_or p.address i 0) (get_or p.length i 0) ≡ true) × (is_size (get_or p.length i 0) (get_or p.size i 0) ≡ true)
        × (get_or p.out i 0 < 2 ^ pool_buffers p i)
    row_says = admitted_says _ _ _ _ (right_live p i alive (sound.each i room)).1

    -- other marks, none of a buffer past the number, and another order that they agree with
    pub out_sound : (out : ℕ) (row : List ℕ) → out < 2 ^ pool_buffers p i → Ordered row out (pool_buffers p i) → PoolsSound (with_out p i out row)
    unfolding pool_right pair_shares
    out_sound out row l ordered =
        slot_sound p (with_out p i out row) i row room sound
        (pools_as_long p (with_out p i out row)
        (simp (length-set, length_with p.place i (omega (arith, sound.sized.places)) row ordered.long)) sound.sized)
        refl (rw (marked out) ordered) (λ j ne. (get_or-set_other p.out i j out 0 ne, refl))
        (λ j ne. simp get_or-set_other) (λ j k nj nk. refl)
        (live_right (with_out p i out row) i alive (right_live p i alive (sound.each i room)).0
        (rw (marked out) (admitted_by _ _ _ out row_says.0 row_says.1 l)))
        (λ j h ne. ⊎_elim (λ g. apart_at p sound.apart i j g h) (λ g. pair_swap p i j ∙ apart_at p sound.apart j i (omega arith) room) (lt_or_le i j))
      where
        marked : (out : ℕ) → get_or (set p.out i out) i 0 ≡ out
        marked out = get_or-set_same p.out i out 0 (omega (arith, sound.sized.outs))

-- the state with other pools, themselves sound
pub pools_kept_lem : {s : State} (p : Pools) → Sound s → PoolsSound p → Sound (with_pools s p)
pools_kept_lem p sound h =
    record {
      line = sound.line;
      tasks = sound.tasks;
      semaphores = sound.semaphores;
      pools = h;
      queues = sound.queues;
      running = sound.running;
    }

module _ (s : State) (sound : Sound s) (x : Event) where
  -- what an identifier names is a live pool
  named_pool : (i : ℕ) → pool_found s x.a ≡ At i → (i < 8) × (get_or s.pools.live i false ≡ true)
  named_pool i e = let n = found_names _ _ x.a e in (omega (arith, n.below, sound.pools.sized.serials), n.alive)

  -- what the pool calls do, by what their tests showed
  pub pool_sound : {p : Pools} {v : ℕ} → PoolChange s x p v → Sound (with_pools s p)
  pool_sound (pool_created at e f g h j) =
      pools_kept_lem _ sound
      (born_sound s.pools sound.pools (new_pool s) (leb-false 8 (new_pool s) h) x.a x.b x.c x.d (eqb x.e 1)
      (not-false (is_area x.b x.c) e) (not-false (is_size x.c x.d) f) (ltb-false _ 8 j))
  pool_sound (pool_deleted at i e f) = pools_kept_lem _ sound (gone_sound s.pools sound.pools i (named_pool i e).0)
  pool_sound (buffer_got at i e f) =
      let a = named_pool i e in
      let out : ℕ = get_or s.pools.out i 0 in
      let n : ℕ = pool_buffers s.pools i in
      let k : ℕ = free_buffer s i in
      let b = both_true (ltb k n) (is_free out k) (not-false (ltb k n && is_free out k) f) in
      let l : k < n = ltb-true k n b.0 in
      let order : Ordered (pool_row s.pools i) out n = sound.pools.orders i a.0 in
      pools_kept_lem _ sound
      (out_sound s.pools sound.pools i a.0 a.1 _ _
      (take_fits _ k n b.1 l (row_says s.pools sound.pools i a.0 a.1).2)
      (leaves_ordered order k (on_place_lem (pool_row s.pools i) 1 (omega (arith, l, order.few)))))
  pool_sound (buffer_returned at i e f) =
      let a = named_pool i e in
      let out : ℕ = get_or s.pools.out i 0 in
      let k : ℕ = named_buffer s i x.b in
      let b = both_true (ltb k 64) (is_out out k) (not-false (ltb k 64 && is_out out k) f) in
      let marks : out < 2 ^ pool_buffers s.pools i = (row_says s.pools sound.pools i a.0 a.1).2 in
      pools_kept_lem _ sound
      (out_sound s.pools sound.pools i a.0 a.1 _ _ (back_below _ k _ marks)
      (joins_ordered (sound.pools.orders i a.0) k (out_below _ k _ b.1 marks) b.1))

-- "no free buffer": of a live pool of a sound state, a get is refused with 17 exactly if none of its buffers is free
module _ (s : State) (sound : Sound s) (id i : ℕ) (found : pool_found s id ≡ At i) where
  abbrev free : ℕ
  free = free_of (get_or s.pools.out i 0) (pool_buffers s.pools i)

  abbrev first_is_free : Bool
  first_is_free =
      ltb (longest_free (pool_row s.pools i)) (pool_buffers s.pools i) && is_free (get_or s.pools.out i 0) (longest_free (pool_row s.pools i))

  in_order : Ordered (pool_row s.pools i) (get_or s.pools.out i 0) (pool_buffers s.pools i)
  in_order = sound.pools.orders i (omega (arith, (found_names s.pools.serial s.pools.live id found).below, sound.pools.sized.serials))

  given : 1 ≤ free → first_is_free ≡ true
  given h =
      let f = placed_free in_order (longest_free (pool_row s.pools i)) (omega (arith, (first_found in_order h).1)) in
      both _ _ (lt-ltb _ _ f.0) f.1

  none : free ≡ 0 → first_is_free ≡ false
  none e =
      ⊎_elim
      (λ d. let k : ℕ = longest_free (pool_row s.pools i) in
      let b = both_true (ltb k (pool_buffers s.pools i)) (is_free (get_or s.pools.out i 0) k) d in
      absurd (omega (arith, e, in_order.some k (ltb-true k (pool_buffers s.pools i) b.0, b.1), in_order.small k)))
      (λ d. d)
      (true_or_false first_is_free)

  -- the status, by whether the first is free
  status : (b : Bool) → first_is_free ≡ b → (pool_get_buff s id).status ≡ pick b OK NO_MORE_MEMORY
  unfolding pool_get_buff_at pool_get_buffer on_found pick gives plain answer
  status true e = rw (found, e)
  status false e = rw (found, e)

  pub get_refused : (pool_get_buff s id).status ≡ NO_MORE_MEMORY → free ≡ 0
  unfolding pick
  get_refused e = ⊎_elim (λ h. omega arith) (λ h. absurd (omega (arith, e, status true (given h)))) (lt_or_le free 1)

  pub get_refuses : free ≡ 0 → (pool_get_buff s id).status ≡ NO_MORE_MEMORY
  unfolding pick
  get_refuses e = status false (none e)
