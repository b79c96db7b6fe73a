-- What a state wrote is read back, table by table: each column by the law of tables, the mask and the running task by the rules.
-- Assumes nothing.
use mathlib.Core.Path.{◌≡◌, refl, sym, ap, ◌∙◌}
use mathlib.Core.Bool.{Bool, true, false, ◌&&◌}
use mathlib.Core.List.{List, [], ◌∷◌, ◌++◌, map}
use Prim.Native.Nat.{ℕ, zero, suc, ◌^◌, ◌<◌}
use native.Mathlib.Omega.{arith}
use lib.Dec.{lit<, ltb}
use lib.ListN.{length, get_or}
use lib.Seq.{take_at}
use borrow.Author.Tests.{eqb-true, ltb-true}
use Rattle.scope.specs.declared.State.{State}
use Rattle.scope.specs.declared.Line.{Line}
use Rattle.scope.specs.declared.Tasks.{Tasks}
use Rattle.scope.specs.declared.Semaphores.{Semaphores}
use Rattle.scope.specs.declared.Pools.{Pools}
use Rattle.scope.specs.declared.Queues.{Queues}
use Rattle.scope.specs.Seats.{ring_mask, mask_of, runner_of}
use Rattle.scope.specs.Rules.{sound, keeps, order_rules, table_rules, rings_right, running_right}
use Rattle.laws.proofs.Branches.{both_true}
use Rattle.fields.specs.Numbers.{bit, is_on}
use Rattle.fields.specs.Fields.{AllFine, TablesRead, bytes_of}
use Rattle.fields.proofs.Tables.{size_is, read_back}
use Rattle.image.specs.Image.{Fits, header, header_numbers, tables, image_of, image_size}
use Rattle.image.specs.Reading.{line_from, tasks_from, sems_from, pools_from, queues_from, state_with, state_from}
use Rattle.image.proofs.Order.{order_bytes, order_length}

-- ---- the tables of any state are fine

pub header_is : (s : State) → header s ≡ header_numbers
header_is s = refl

abbrev small_in : List ℕ → Bool
small_in [] = true
small_in (x ∷ xs) = ltb x (256 ^ 4) && small_in xs

small_all : (xs : List ℕ) → small_in xs ≡ true → (k : ℕ) → get_or xs k 0 < 256 ^ 4
small_all [] h k = lit< tt
small_all (x ∷ xs) h zero = ltb-true x (256 ^ 4) (both_true (ltb x (256 ^ 4)) (small_in xs) h).0
small_all (x ∷ xs) h (suc k) = small_all xs (both_true (ltb x (256 ^ 4)) (small_in xs) h).1 k

pub all_fine : (s : State) → Fits s → AllFine (tables s)
all_fine s f =
    let c = f.columns in (
      (refl, small_all (header s) refl, tt),
      (c.0, (c.1.0, (c.1.1.0, (c.1.1.1.0, ((order_length s.line.seat, order_bytes s.line.seat, tt), tt))))),
    )

pub image_length : (s : State) → length (image_of s) ≡ image_size
unfolding image_of
image_length s = size_is (tables s)

-- ---- a yes or no, and a list of one

on_bit : (b : Bool) → is_on (bit b) ≡ b
on_bit true = refl
on_bit false = refl

on_bits : (xs : List Bool) → map is_on (map bit xs) ≡ xs
on_bits [] = refl
on_bits (x ∷ xs) = rw (on_bit x, on_bits xs)

flags_back : (xs : List Bool) {ys : List ℕ} → ys ≡ map bit xs → map is_on ys ≡ xs
flags_back xs e = ap (λ (l : List ℕ). map is_on l) e ∙ on_bits xs

single : (xs : List ℕ) → length xs ≡ 1 → xs ≡ get_or xs 0 0 ∷ []
single [] h = absurd (omega arith)
single (x ∷ []) h = refl
single (x ∷ (y ∷ ys)) h = absurd (omega arith)

-- ---- what follows from the seats

keep_head : (r : State → Bool) (rs : List (State → Bool)) (s : State) → keeps (r ∷ rs) s ≡ true → r s ≡ true
unfolding keeps
keep_head r rs s h = (both_true (r s) (keeps rs s) h).0

keep_tail : (r : State → Bool) (rs : List (State → Bool)) (s : State) → keeps (r ∷ rs) s ≡ true → keeps rs s ≡ true
unfolding keeps
keep_tail r rs s h = (both_true (r s) (keeps rs s) h).1

module _ (s : State) (h : sound s ≡ true) where
  orders : keeps order_rules s ≡ true
  unfolding sound
  orders = (both_true (keeps order_rules s) (keeps table_rules s) h).0

  mask_is : mask_of s.line.rings ≡ ring_mask s.line.seat
  unfolding rings_right
  mask_is = eqb-true (mask_of s.line.rings) (ring_mask s.line.seat) (keep_head _ _ s (keep_tail _ _ s orders))

  running_is : s.running ≡ runner_of s.line.seat (mask_of s.line.rings)
  unfolding running_right
  running_is =
      let r2 = keep_tail _ _ s (keep_tail _ _ s orders) in
      let r4 = keep_tail _ _ s (keep_tail _ _ s r2) in
      let r6 = keep_tail _ _ s (keep_tail _ _ s r4) in
      let r8 = keep_tail _ _ s (keep_tail _ _ s r6) in
      eqb-true s.running (runner_of s.line.seat (mask_of s.line.rings)) (keep_head _ _ s r8)

-- ---- the tables, read from bytes that begin with the state's image

module _ (s : State) (f : Fits s) (h : sound s ≡ true) (rest : List ℕ) where
  all_read : TablesRead (image_of s ++ rest) (tables s) 0
  unfolding image_of
  all_read =
      read_back (bytes_of (tables s) ++ rest) (tables s) (all_fine s f) (take_at (bytes_of (tables s)) rest image_size (size_is (tables s)))

  line_back : line_from (image_of s ++ rest) ≡ s.line
  line_back =
      let t = all_read.1.0 in
      let rings : s.line.rings ≡ ring_mask s.line.seat ∷ [] =
      single s.line.rings f.rings ∙ ap (λ (m : ℕ). m ∷ []) (mask_is s h) in
      rw (t.1.1.1.1.1.1.0, t.1.1.1.1.1.1.1.0, t.1.1.1.1.1.1.1.1.0, ← rings)

  -- ( Printed by tools/generate/run: back
  tasks_back : tasks_from (image_of s ++ rest) ≡ s.tasks
  tasks_back =
      let t = all_read.1.0 in
      rw (
        t.0,
        t.1.0,
        flags_back s.tasks.live t.1.1.0,
        flags_back s.tasks.started t.1.1.1.0,
        flags_back s.tasks.suspended t.1.1.1.1.0,
        t.1.1.1.1.1.0,
      )

  sems_back : sems_from (image_of s ++ rest) ≡ s.semaphores
  sems_back =
      let t = all_read.1.1.0 in
      rw (t.0, t.1.0, t.1.1.0, flags_back s.semaphores.live t.1.1.1.0, flags_back s.semaphores.fifo t.1.1.1.1.0)

  pools_back : pools_from (image_of s ++ rest) ≡ s.pools
  pools_back =
      let t = all_read.1.1.1.0 in
      rw (
        t.0,
        t.1.0,
        t.1.1.0,
        t.1.1.1.0,
        t.1.1.1.1.0,
        t.1.1.1.1.1.0,
        flags_back s.pools.live t.1.1.1.1.1.1.0,
        flags_back s.pools.forced t.1.1.1.1.1.1.1.0,
        t.1.1.1.1.1.1.1.1.0,
      )

  queues_back : queues_from (image_of s ++ rest) ≡ s.queues
  queues_back =
      let t = all_read.1.1.1.1.0 in
      rw (
        t.0,
        t.1.0,
        flags_back s.queues.live t.1.1.0,
        flags_back s.queues.fifo t.1.1.1.0,
        t.1.1.1.1.0,
        t.1.1.1.1.1.0,
        t.1.1.1.1.1.1.0,
      )

  -- )

  -- "reading returns the state"
  pub state_back : state_from (image_of s ++ rest) ≡ s
  unfolding state_from
  state_back =
      let b = image_of s ++ rest in
      ap (λ (l : Line). state_with l (tasks_from b) (sems_from b) (pools_from b) (queues_from b)) line_back
      ∙ ap (λ (k : Tasks). state_with s.line k (sems_from b) (pools_from b) (queues_from b)) tasks_back
      ∙ ap (λ (m : Semaphores). state_with s.line s.tasks m (pools_from b) (queues_from b)) sems_back
      ∙ ap (λ (p : Pools). state_with s.line s.tasks s.semaphores p (queues_from b)) pools_back
      ∙ ap (λ (u : Queues). state_with s.line s.tasks s.semaphores s.pools u) queues_back
      ∙ ap (λ (r : ℕ). record { line = s.line; tasks = s.tasks; semaphores = s.semaphores; pools = s.pools; queues = s.queues; running = r })
      (sym (running_is s h))
