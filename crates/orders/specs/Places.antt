-- "the ready order" as bytes: 32 places, slot + 1 of each ready task in order, and zeros past them.
-- Assumes nothing.
use Rattle.std.specs.Prelude.{ℕ, suc, ◌+◌, ◌-◌, ◌≤◌, ◌<◌, ◌≡◌, List, ◌++◌, map, length, get_or, set, take, replicate, ltb}
use Rattle.scope.specs.Choice.{pick}
use Rattle.scope.specs.Seats.{on_seat, first_ring, ring_seats, tasks_from, ready_order}

unfoldable pub places_of : List ℕ → List ℕ
places_of ts = take 32 (map suc ts) ++ replicate (32 - length ts) 0

-- `q` is the list of all seats, by task slot
unfoldable pub order_places : List ℕ → List ℕ
order_places q = places_of (ready_order q)

-- How the code finds them: a byte for each ready seat, slot + 1 of the task on it, 0 where nobody is.
unfoldable pub entry : ℕ → ℕ
entry t = pick (ltb t 32) (suc t) 0

abbrev pub Told : List ℕ → List ℕ → Type 0
Told q table = (length table ≡ 1024) × ((j : ℕ) → j < 1024 → get_or table j 0 ≡ entry (on_seat q (first_ring + j)))

-- the tasks of ring p, in order
unfoldable pub ring_tasks : List ℕ → ℕ → List ℕ
ring_tasks q p = tasks_from q (ring_seats p) 32 1

-- the byte of seat x, if it is one of those
unfoldable pub marked_at : List ℕ → ℕ → ℕ → List ℕ
marked_at table x v = pick (ltb x first_ring) table (pick (ltb (x - first_ring) 1024) (set table (x - first_ring) v) table)

-- the places of the tasks ts, the next one being place n; there is none past the 32nd
pub record Placed (ts places : List ℕ) (n : ℕ) : Type 0 where
  pub so : places ≡ places_of ts
  pub room : n ≤ 32
  pub some : n ≤ length ts
  pub next : n < 32 → n ≡ length ts
