-- What it means that seats say queues: the places of a queue of n are 1 to n, each once; and that a queue is by keys.
-- `q` is the list of all seats, by task slot; the seats of a queue begin above `base`, a multiple of 64.
-- Assumes nothing.
use Rattle.std.specs.Prelude.{ℕ, ◌+◌, ◌%◌, ◌≤◌, ◌<◌, ◌≡◌, ◌⊎◌, List, length, get_or}
use Rattle.scope.specs.Seats.{standing, ring_seats}

-- task t stands in the queue
abbrev pub In : List ℕ → ℕ → ℕ → Type 0
In q base t = (base < get_or q t 0) × (get_or q t 0 < base + 63)

-- the places of its tasks are 1 to n, each once
pub record Seated (q : List ℕ) (base n : ℕ) : Type 0 where
  pub small : (t : ℕ) → In q base t → get_or q t 0 ≤ base + n
  pub once : (t u : ℕ) → In q base t → get_or q t 0 ≡ get_or q u 0 → t ≡ u
  pub full : (k : ℕ) → 0 < k → k ≤ n → (t : ℕ) × (get_or q t 0 ≡ base + k)

-- keys never rise along it
pub record Sorted (q key : List ℕ) (base : ℕ) : Type 0 where
  pub falls : (t u : ℕ) → In q base t → In q base u → get_or q t 0 < get_or q u 0 → get_or key u 0 ≤ get_or key t 0

-- all seats of 32 tasks say queues: who stands has a place of 1 to 62 in some queue, and every queue is seated
pub record AllSeated (q : List ℕ) : Type 0 where
  pub tasks : length q ≡ 32
  pub places : (t : ℕ) → (get_or q t 0 ≡ 0) ⊎ ((0 < get_or q t 0 % 64) × (get_or q t 0 % 64 < 63))
  pub seated : (base : ℕ) → base % 64 ≡ 0 → Seated q base (standing q base)

-- task t is the first of the ready tasks of priority p, and nobody stands among those of a higher one
pub record Runs (q : List ℕ) (t p : ℕ) : Type 0 where
  pub first : get_or q t 0 ≡ ring_seats p + 1
  pub highest : (u : ℕ) → get_or q u 0 < ring_seats (p + 1)
