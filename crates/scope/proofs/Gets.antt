-- "pool_get_buff now gives the buffer that has been free longest" (M-103) and "Any task may return a buffer": the mark that a get sets is
-- that of the buffer on the first place, which starts at the address it answers, and all others come forward by one; the mark that a
-- return clears is that of the buffer which starts at the address named, and that buffer goes behind all others. No other mark and no
-- other pool's place changes. And pool_info tells the buffers less those out.
-- Assumes nothing.
use Prim.Native.Nat.{ℕ, ◌+◌, ◌-◌, ◌*◌, ◌/◌, ◌%◌, ◌^◌, ◌≤◌, ◌<◌}
use native.Mathlib.Omega.{arith}
use native.Mathlib.Nat.{div-add-mod'}
use mathlib.Core.Path.{◌≡◌, refl, ap, ◌∙◌}
use mathlib.Core.Bool.{Bool, true, false, not, ◌&&◌}
use mathlib.Core.List.{List}
use lib.ListN.{length, get_or}
use lib.Seq.{get_or-set_same, get_or-set_other}
use lib.Dec.{ltb, eqb}
use borrow.Author.Tests.{ltb-true, ltb-false, lt-ltb, eqb-true, not-true}
use Rattle.scope.specs.declared.State.{State}
use Rattle.scope.specs.declared.Answer.{Answer}
use Rattle.scope.specs.declared.Found.TheVariants.{At}
use Rattle.scope.specs.Choice.{pick, number}
use Rattle.scope.specs.Seats.{is_on}
use Rattle.scope.specs.Statuses.{OK, NO_MORE_MEMORY, INVALID_BUFF}
use Rattle.scope.specs.Views.{with_pools}
use Rattle.scope.specs.Answers.{answer, plain, gives, on_found}
use Rattle.scope.specs.Areas.{is_out, is_free, buffer_address, buffer_at}
use Rattle.scope.specs.Places.{on_place, longest_free, first_leaves, joins_last}
use Rattle.scope.specs.Pools.{pool_found, pool_buffers, pool_row, pool_free, with_out, pool_get_buffer, pool_get_buff_at, pool_ret_buffer, pool_ret_buff_at, pool_info_at, pool_get_buff, pool_ret_buff, pool_info}
use Rattle.scope.proofs.Choice.{both_true, least-true}
use Rattle.scope.proofs.Buffers.{buffers_few}
use Rattle.scope.proofs.Places.{length_row, row_same, row_other, leaves_at, length_leaves, joins_at, joins_other, length_joins}
use Rattle.scope.proofs.Marks.{take_same, take_other, back_same, back_other, free_or_out}

-- the marks of pool i
abbrev pub marks : State → ℕ → ℕ
marks s i = get_or s.pools.out i 0

-- pool i has its marks and its row of places
pub record Fits (s : State) (i : ℕ) : Type 0 where
  pub out : i < length s.pools.out
  pub row : i * 64 + 64 ≤ length s.pools.place

-- of the marks of all pools, only that of buffer k of pool i is not as it was; and of no other pool is a place
pub record Only (s : State) (i k : ℕ) (t : State) : Type 0 where
  pub buffers : (j : ℕ) → (j ≡ k → ⊥) → is_out (marks t i) j ≡ is_out (marks s i) j
  pub pools : (h : ℕ) → (h ≡ i → ⊥) → marks t h ≡ marks s h
  pub rows : (h : ℕ) → h * 64 + 64 ≤ length s.pools.place → (h ≡ i → ⊥) → pool_row t.pools h ≡ pool_row s.pools h

-- a get of pool i has given this buffer
pub record Gotten (s : State) (i : ℕ) (a : Answer) : Type 0 where
  pub buffer : ℕ
  pub within : buffer < pool_buffers s.pools i
  pub longest : get_or (pool_row s.pools i) buffer 0 ≡ 1
  pub was : is_out (marks s i) buffer ≡ false
  pub is : is_out (marks a.state i) buffer ≡ true
  pub forward : (j : ℕ) → get_or (pool_row a.state.pools i) j 0 ≡ get_or (pool_row s.pools i) j 0 - 1
  pub only : Only s i buffer a.state
  pub starts : get_or a.values 0 0 ≡ buffer_address (get_or s.pools.address i 0) (get_or s.pools.size i 0) buffer

-- a return of address x to pool i has freed this buffer
pub record Returned (s : State) (i x : ℕ) (a : Answer) : Type 0 where
  pub buffer : ℕ
  pub within : buffer < pool_buffers s.pools i
  pub was : is_out (marks s i) buffer ≡ true
  pub is : is_out (marks a.state i) buffer ≡ false
  pub last : get_or (pool_row a.state.pools i) buffer 0 ≡ pool_free s.pools i + 1
  pub others : (j : ℕ) → (j ≡ buffer → ⊥) → get_or (pool_row a.state.pools i) j 0 ≡ get_or (pool_row s.pools i) j 0
  pub only : Only s i buffer a.state
  pub starts : get_or s.pools.address i 0 + buffer * get_or s.pools.size i 0 ≡ x

-- the buffer found on a place has that place
pub on_place_lem : (row : List ℕ) (x : ℕ) → on_place row x < 64 → get_or row (on_place row x) 0 ≡ x
unfolding on_place
on_place_lem row x h = eqb-true _ _ (least-true (is_on row x) 64 h)

-- pool i has the marks n and the places `row` now
module _ (s : State) (i k n : ℕ) (row : List ℕ) (fits : Fits s i) (long : length row ≡ 64) where
  abbrev next : State
  next = with_pools s (with_out s.pools i n row)

  marked : marks next i ≡ n
  marked = get_or-set_same s.pools.out i n 0 fits.out

  placed : pool_row next.pools i ≡ row
  placed = row_same s.pools.place i fits.row row long

  only : ((j : ℕ) → (j ≡ k → ⊥) → is_out n j ≡ is_out (marks s i) j) → Only s i k next
  only f =
      record {
        buffers = λ j d. rw marked (f j d);
        pools = λ h d. get_or-set_other s.pools.out i h n 0 d;
        rows = λ h l d. row_other s.pools.place i fits.row row long h l d;
      }

free_not_out : (out k : ℕ) → is_free out k ≡ true → is_out out k ≡ false
unfolding is_free
free_not_out out k e = not-true _ e

module _ (s : State) (i : ℕ) (fits : Fits s i) where
  row_long : length (pool_row s.pools i) ≡ 64
  row_long = length_row s.pools.place i fits.row

  -- the buffer that a get gives is on the first place
  gotten : (k : ℕ) → (ltb k (pool_buffers s.pools i) && is_free (marks s i) k) ≡ true → k < 64 → get_or (pool_row s.pools i) k 0 ≡ 1
      → Gotten s i (pool_get_buffer s i k)
  unfolding pool_get_buffer pick gives answer
  gotten k h few first =
      let b = both_true _ _ h in
      let row : List ℕ = first_leaves (pool_row s.pools i) in
      let long : length row ≡ 64 = length_leaves (pool_row s.pools i) ∙ row_long in
      rw h
      (record {
        buffer = k;
        within = ltb-true _ _ b.0;
        longest = first;
        was = free_not_out (marks s i) k b.1;
        is = rw (marked s i k (marks s i + 2 ^ k) row fits long) (take_same (marks s i) k b.1);
        forward = λ j. ap (λ (l : List ℕ). get_or l j 0) (placed s i k (marks s i + 2 ^ k) row fits long) ∙ leaves_at (pool_row s.pools i) j;
        only = only s i k (marks s i + 2 ^ k) row fits long (take_other (marks s i) k b.1);
        starts = refl;
      })

  got : (k : ℕ) → (pool_get_buffer s i k).status ≡ OK → (ltb k (pool_buffers s.pools i) && is_free (marks s i) k) ≡ true
  unfolding pool_get_buffer pick plain gives answer
  got k e = go _ (ltb k (pool_buffers s.pools i) && is_free (marks s i) k) refl e
    where
      go : (x : Answer) (b : Bool) → (ltb k (pool_buffers s.pools i) && is_free (marks s i) k) ≡ b
          → (pick (not b) (plain s NO_MORE_MEMORY) x).status ≡ OK → (ltb k (pool_buffers s.pools i) && is_free (marks s i) k) ≡ true
      go x true d f = d
      go x false d f = absurd (omega arith)

  get_at : (pool_get_buff_at s i).status ≡ OK → Gotten s i (pool_get_buff_at s i)
  unfolding pool_get_buff_at
  get_at e =
      let k : ℕ = longest_free (pool_row s.pools i) in
      let h : (ltb k (pool_buffers s.pools i) && is_free (marks s i) k) ≡ true = got k e in
      let below : k < pool_buffers s.pools i = ltb-true k (pool_buffers s.pools i) (both_true (ltb k (pool_buffers s.pools i)) _ h).0 in
      let few : k < 64 = omega (arith, below, buffers_few (get_or s.pools.length i 0) (get_or s.pools.size i 0)) in
      gotten k h few (on_place_lem (pool_row s.pools i) 1 few)

-- the buffer found at an address starts there
module _ (address size n x : ℕ) where
  abbrev Starts : ℕ → Type 0
  Starts k = (k < n) × (address + k * size ≡ x)

  buffer_starts : buffer_at address size n x < 64 → Starts (buffer_at address size n x)
  unfolding buffer_at pick
  buffer_starts = go (ltb x address) refl (eqb size 0) (eqb ((x - address) % size) 0) refl (ltb ((x - address) / size) n) refl
    where
      go : (a : Bool) → ltb x address ≡ a → (b c : Bool) → eqb ((x - address) % size) 0 ≡ c → (d : Bool) → ltb ((x - address) / size) n ≡ d
          → pick a 64 (pick b 64 (pick c (pick d ((x - address) / size) 64) 64)) < 64
          → Starts (pick a 64 (pick b 64 (pick c (pick d ((x - address) / size) 64) 64)))
      go true e b c f d g h = absurd (omega arith)
      go false e true c f d g h = absurd (omega arith)
      go false e false false f d g h = absurd (omega arith)
      go false e false true f false g h = absurd (omega arith)
      go false e false true f true g h =
          (ltb-true _ _ g, omega (arith, ltb-false x address e, eqb-true ((x - address) % size) 0 f, div-add-mod' (x - address) size))

module _ (s : State) (x i : ℕ) (fits : Fits s i) where
  -- the buffer that a return frees is out
  returned : (k : ℕ) → k < pool_buffers s.pools i → get_or s.pools.address i 0 + k * get_or s.pools.size i 0 ≡ x
      → (ltb k 64 && is_out (marks s i) k) ≡ true → is_out (marks s i) k ≡ true → Returned s i x (pool_ret_buffer s i k)
  unfolding pool_ret_buffer pick plain answer
  returned k h e b o =
      let row : List ℕ = joins_last (pool_row s.pools i) (pool_free s.pools i) k in
      let long : length row ≡ 64 = length_joins (pool_row s.pools i) (pool_free s.pools i) k ∙ row_long s i fits in
      let m : marks (next s i k (marks s i - 2 ^ k) row fits long) i ≡ marks s i - 2 ^ k = marked s i k (marks s i - 2 ^ k) row fits long in
      let p : pool_row (next s i k (marks s i - 2 ^ k) row fits long).pools i ≡ row = placed s i k (marks s i - 2 ^ k) row fits long in
      let l : k < length (pool_row s.pools i) = omega (arith, row_long s i fits, ltb-true k 64 (both_true (ltb k 64) _ b).0) in
      rw b
      (record {
        buffer = k;
        within = h;
        was = o;
        is = rw m (free_not_out (marks s i - 2 ^ k) k (back_same (marks s i) k o));
        last = ap (λ (r : List ℕ). get_or r k 0) p ∙ joins_at (pool_row s.pools i) (pool_free s.pools i) k l;
        others = λ j d. ap (λ (r : List ℕ). get_or r j 0) p ∙ joins_other (pool_row s.pools i) (pool_free s.pools i) k j d;
        only = only s i k (marks s i - 2 ^ k) row fits long (back_other (marks s i) k o);
        starts = e;
      })

  freed : (k : ℕ) → (pool_ret_buffer s i k).status ≡ OK → (k < 64) × (is_out (marks s i) k ≡ true)
  unfolding pool_ret_buffer pick plain answer
  freed k e = go _ (ltb k 64) refl (is_out (marks s i) k) refl e
    where
      go : (y : Answer) (b : Bool) → ltb k 64 ≡ b → (c : Bool) → is_out (marks s i) k ≡ c
          → (pick (not (b && c)) (plain s INVALID_BUFF) y).status ≡ OK → (k < 64) × (is_out (marks s i) k ≡ true)
      go y true d true f g = (ltb-true _ _ d, f)
      go y true d false f g = absurd (omega arith)
      go y false d c f g = absurd (omega arith)

  return_at : (pool_ret_buff_at s x i).status ≡ OK → Returned s i x (pool_ret_buff_at s x i)
  unfolding pool_ret_buff_at
  return_at e =
      let f = freed _ e in
      let b = buffer_starts (get_or s.pools.address i 0) (get_or s.pools.size i 0) (pool_buffers s.pools i) x f.0 in
      returned _ b.0 b.1 (rw (lt-ltb _ _ f.0) f.1) f.1

-- by the identifier of pool i
module _ (s : State) (id i : ℕ) (found : pool_found s id ≡ At i) where
  pub get_answers_its_buffer : Fits s i → (pool_get_buff s id).status ≡ OK → Gotten s i (pool_get_buff s id)
  unfolding on_found
  get_answers_its_buffer fits = rw found (get_at s i fits)

  pub return_frees_its_buffer : (x : ℕ) → Fits s i → (pool_ret_buff s id x).status ≡ OK → Returned s i x (pool_ret_buff s id x)
  unfolding on_found
  return_frees_its_buffer x fits = rw found (return_at s x i fits)

  -- "pool_info gives buffers, free, size, options"
  pub info_tells_the_free : (get_or (pool_info s id).values 0 0 ≡ pool_buffers s.pools i)
      × (get_or (pool_info s id).values 1 0 + number (is_out (marks s i)) (pool_buffers s.pools i) ≡ pool_buffers s.pools i)
  unfolding on_found pool_info_at answer
  info_tells_the_free = rw found (refl, free_or_out (marks s i) (pool_buffers s.pools i))
