-- M-100, what the queue calls answer, on any state: "27 before 28", and 27 though somebody waits; "receive 6, 3, 29"; "bytes past it are
-- 0"; a message that is jumped is the next that is received; what is deleted holds nothing. By the calls' own tests.
-- Assumes nothing.
use Prim.Native.Nat.{ℕ, zero, suc, ◌+◌, ◌-◌, ◌*◌, ◌≤◌, ◌<◌}
use native.Mathlib.Omega.{arith}
use mathlib.Core.Path.{◌≡◌, refl, ap, ◌∙◌}
use mathlib.Core.Bool.{true, false}
use mathlib.Core.List.{List, [], ◌∷◌, ◌++◌, append_assoc}
use lib.ListN.{length, get_or, set, take, drop, replicate, length-append, length-replicate, get_or-append}
use lib.Seq.{get_or-set_same, get_or-take, length-take-le, take-take, take_at, drop_at}
use lib.Dec.{ltb, leb, eqb}
use borrow.Author.Tests.{lt-ltb, leb-true}
use Rattle.scope.specs.declared.State.{State}
use Rattle.scope.specs.declared.Answer.{Answer}
use Rattle.scope.specs.Choice.{pick}
use Rattle.scope.specs.Statuses.{OK, INVALID_PARAMETER, INVALID_OPTIONS, INVALID_LENGTH, QUEUE_FULL, QUEUE_EMPTY, QUEUE_DELETED}
use Rattle.scope.specs.Objects.{queue_object}
use Rattle.scope.specs.Views.{with_queues}
use Rattle.scope.specs.Answers.{answer, plain, shows, wakes_with, delivers_to}
use Rattle.scope.specs.Waiting.{is_time_out, wake_next, none_woken}
use Rattle.scope.specs.Messages.{Store, shown_of, cell_of, cells_of, with_cells, in_front, first_shown, with_queue, pushed, cleared}
use Rattle.scope.proofs.Choice.{both_true}
use Rattle.scope.specs.Queues.{most_of, longest_of, held_of, store_of, with_store, fits_queue, first_receiver, queue_delete_at, queue_put_at, queue_jump_at, queue_receive_at}

-- an identifier may be a semaphore's and a queue's, but no object is both
pub apart : (i j : ℕ) → j < 16 → queue_object i ≡ j → ⊥
apart i j h e = omega arith

module _ (s : State) (i n : ℕ) (message : List ℕ) (put : Store → ℕ → List ℕ → Store) where
  -- "27 before 28": whoever waits, and whatever is held
  pub long_refused : fits_queue (longest_of s.queues i) n message ≡ false → queue_put_at put s n message i ≡ plain s INVALID_LENGTH
  unfolding queue_put_at pick
  long_refused e = rw e refl

  module _ (fits : fits_queue (longest_of s.queues i) n message ≡ true) where
    -- "A message goes to the first waiter", whatever is held; it is shown, and its length told
    pub first_waiter : ltb (first_receiver s i) 32 ≡ true
        → queue_put_at put s n message i ≡ delivers_to s (wake_next s.tasks (none_woken s.line) (first_receiver s i)) n (shown_of message n)
    unfolding queue_put_at pick
    first_waiter e = rw (fits, e) refl

    pub full_refused : ltb (first_receiver s i) 32 ≡ false → leb (most_of s.queues i) (held_of s.queues i) ≡ true
        → queue_put_at put s n message i ≡ plain s QUEUE_FULL
    unfolding queue_put_at pick
    full_refused e f = rw (fits, e, f) refl

-- "receive 6, 3, 29": 6 whatever the time_out; 3 whatever is held, and the time_out is not looked at with NOWAIT
module _ (s : State) (i options ticks : ℕ) where
  pub options_first : ltb 1 options ≡ true → queue_receive_at s options ticks i ≡ plain s INVALID_OPTIONS
  unfolding queue_receive_at pick
  options_first e = rw e refl

  pub time_next : ltb 1 options ≡ false → eqb options 0 ≡ true → is_time_out ticks ≡ false → queue_receive_at s options ticks i ≡ plain s INVALID_PARAMETER
  unfolding queue_receive_at pick
  time_next e f g = rw (e, f, g) refl

pub empty_last : (s : State) (i ticks : ℕ) → ltb 0 (held_of s.queues i) ≡ false → queue_receive_at s 1 ticks i ≡ plain s QUEUE_EMPTY
unfolding queue_receive_at pick
empty_last s i ticks e = rw e refl

-- behind a list, zeros and nothing
zeros_only : (m k : ℕ) → get_or (replicate {A = ℕ} m 0) k 0 ≡ 0
zeros_only zero k = refl
zeros_only (suc m) zero = refl
zeros_only (suc m) (suc k) = zeros_only m k

behind : (xs : List ℕ) (m k : ℕ) → length xs ≤ k → get_or (xs ++ replicate m 0) k 0 ≡ 0
behind [] m k h = zeros_only m k
behind (x ∷ xs) m zero h = absurd (omega arith)
behind (x ∷ xs) m (suc k) h = behind xs m k (omega arith)

-- what is shown of a message of n bytes: its bytes, and "bytes past it are 0"
module _ (message : List ℕ) (n : ℕ) (lent : n ≤ length message) where
  taken_long : length (take n message) ≡ n
  taken_long = length-take-le n message lent

  pub shown_bytes : (k : ℕ) → k < n → get_or (shown_of message n) k 0 ≡ get_or message k 0
  unfolding shown_of
  shown_bytes k h = get_or-append (take n message) (replicate (64 - n) 0) 0 k (omega (arith, taken_long)) ∙ get_or-take n message k 0 h

  pub shown_zeros : (k : ℕ) → n ≤ k → get_or (shown_of message n) k 0 ≡ 0
  unfolding shown_of
  shown_zeros k h = behind (take n message) (64 - n) k (omega (arith, taken_long))

  shown_long : n ≤ 64 → length (shown_of message n) ≡ 64
  unfolding shown_of
  shown_long few = length-append (take n message) (replicate (64 - n) 0) ∙ omega (arith, taken_long, length-replicate {A = ℕ} (64 - n) 0)

-- "jump puts it in front": where nobody waits a message of n bytes is held, and the next receive shows it
module _ (s : State) (i n : ℕ) (message : List ℕ) (cells : i * 1040 ≤ length s.queues.cells) (helds : i < length s.queues.held)
    (fits : fits_queue (longest_of s.queues i) n message ≡ true) (nobody : ltb (first_receiver s i) 32 ≡ false)
    (room : leb (most_of s.queues i) (held_of s.queues i) ≡ false) (few : ltb (held_of s.queues i) 16 ≡ true) where
  abbrev was : List ℕ
  was = cells_of s.queues.cells i

  abbrev h : ℕ
  h = held_of s.queues i

  abbrev now : State
  now = (queue_jump_at s n message i).state

  -- what the queue holds then
  kept : queue_jump_at s n message i ≡ plain (with_queues s (with_store s.queues (pushed (store_of s.queues) i (cell_of message n)))) OK
  unfolding queue_put_at pick
  kept = rw (fits, nobody, room) refl

  pushes : pushed (store_of s.queues) i (cell_of message n) ≡ with_queue (store_of s.queues) i (in_front was h (cell_of message n)) (h + 1)
  unfolding pushed pick
  pushes = rw few refl

  now-cells : now.queues.cells ≡ with_cells s.queues.cells i (in_front was h (cell_of message n))
  unfolding plain answer
  now-cells = ap (λ (a : Answer). a.state.queues.cells) kept ∙ ap (λ (x : Store). x.cells) pushes

  now-held : now.queues.held ≡ set s.queues.held i (h + 1)
  unfolding plain answer
  now-held = ap (λ (a : Answer). a.state.queues.held) kept ∙ ap (λ (x : Store). x.held) pushes

  lent : (n ≤ 64) × (n ≤ length message)
  unfolding fits_queue
  lent =
      let a = both_true (leb n (longest_of s.queues i)) _ fits in
      let b = both_true (leb n 64) _ a.1 in
      (leb-true n 64 b.0, leb-true n (length message) b.1)

  -- whatever is behind it
  in_front_lem : (rest : List ℕ) → first_shown (take 1040 (cell_of message n ++ rest)) ≡ shown_of message n
  unfolding first_shown cell_of
  in_front_lem rest =
      take-take 64 1039 (shown_of message n ++ rest) (omega arith)
      ∙ take_at (shown_of message n) rest 64 (shown_long message n lent.1 lent.0)

  first_cell : first_shown (cells_of now.queues.cells i) ≡ shown_of message n
  unfolding cells_of with_cells in_front
  first_cell =
      let a : List ℕ = take (h * 65) was ++ drop (h * 65 + 65) was in
      let b : List ℕ = drop (i * 1040 + 1040) s.queues.cells in
      ap (λ (x : List ℕ). first_shown (cells_of x i)) now-cells
      ∙ ap (λ (x : List ℕ). first_shown (take 1040 x))
      (drop_at (take (i * 1040) s.queues.cells) ((cell_of message n ++ a) ++ b) (i * 1040) (length-take-le (i * 1040) s.queues.cells cells)
      ∙ append_assoc (cell_of message n) a b)
      ∙ in_front_lem (a ++ b)

  some : ltb 0 (held_of now.queues i) ≡ true
  some = lt-ltb 0 (held_of now.queues i) (omega (arith, ap (λ (x : List ℕ). get_or x i 0) now-held, get_or-set_same s.queues.held i (h + 1) 0 helds))

  pub jump_next : (queue_receive_at now 1 0 i).shown ≡ shown_of message n
  unfolding queue_receive_at pick shows
  jump_next = rw some first_cell

-- "Delete drops what is held"
pub dropped : (s : State) (i : ℕ) → i < length s.queues.held → get_or (queue_delete_at s i).state.queues.held i 0 ≡ 0
unfolding queue_delete_at wakes_with cleared
dropped s i h = get_or-set_same s.queues.held i 0 0 h

-- "30 QUEUE_DELETED (to woken tasks)"
pub deleted_why : (s : State) (i : ℕ) → (queue_delete_at s i).why ≡ QUEUE_DELETED
unfolding queue_delete_at wakes_with
deleted_why s i = refl
