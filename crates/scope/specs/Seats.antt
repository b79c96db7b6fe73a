-- Where tasks stand. A task is never both ready and waiting, so it stands in at most one queue, and one number, its seat,
-- says in which and at what place: queue × 64 + place, place 1 first, 0 for nowhere. Slot 32 is nobody.
-- `q` is the list of all seats, by task slot.
-- Assumes nothing.
use Rattle.std.specs.Prelude.{ℕ, zero, suc, ◌+◌, ◌-◌, ◌*◌, ◌/◌, ◌^◌, Bool, true, false, ◌&&◌, List, [], ◌∷◌, ◌++◌, map, get_or, set, ltb, leb, eqb}
use Rattle.std.specs.Int.Count.{count_leading_zeros}
use Rattle.scope.specs.Choice.{pick, least, number, has_bit, bits}

-- the seats of object i's wait queue begin above this one; semaphore i is object i
abbrev pub queue_seats : ℕ → ℕ
queue_seats i = i * 64 + 64

-- the seats of the ready tasks of priority p begin above this one, and all ready seats lie above the first
abbrev pub ring_seats : ℕ → ℕ
ring_seats p = p * 64 + 2048

abbrev pub first_ring : ℕ
first_ring = 2048

-- the last seat of a queue lies before this one
abbrev pub seats_end : ℕ → ℕ
seats_end x = x / 64 * 64 + 63

-- a task on this seat waits in an object's queue
unfoldable pub waits_on : ℕ → Bool
waits_on x = ltb 0 x && ltb x first_ring

-- the object whose queue the seat is in
abbrev pub queue_of : ℕ → ℕ
queue_of x = x / 64 - 1

abbrev pub is_on : List ℕ → ℕ → ℕ → Bool
is_on q x t = eqb (get_or q t 0) x

-- the task on seat x, 32 if there is none
unfoldable pub on_seat : List ℕ → ℕ → ℕ
on_seat q x = least (is_on q x) 32

-- the first of the queue whose seats begin above `base`, 32 if it is empty
abbrev pub first_standing : List ℕ → ℕ → ℕ
first_standing q base = on_seat q (base + 1)

-- task t stands in the queue whose seats begin above `base`
unfoldable pub stands_in : List ℕ → ℕ → ℕ → Bool
stands_in q base t = ltb base (get_or q t 0) && ltb (get_or q t 0) (base + 63)

-- how many stand there
unfoldable pub standing : List ℕ → ℕ → ℕ
standing q base = number (stands_in q base) 32

-- a seat after seat x, of a queue that ends before e, was left: those behind it come forward by one
unfoldable pub lower : ℕ → ℕ → ℕ → ℕ
lower x e y = pick (eqb y x) 0 (pick (ltb x y) (pick (ltb y e) (y - 1) y) y)

-- task t leaves the queue it stands in, from whatever place
unfoldable pub leaves : List ℕ → ℕ → List ℕ
leaves q t = map (lower (get_or q t 0) (seats_end (get_or q t 0))) q

-- a seat after another task took seat x: those there and behind it go back by one
unfoldable pub raise : ℕ → ℕ → ℕ → ℕ
raise x e y = pick (leb x y) (pick (ltb y e) (y + 1) y) y

-- the later of two seats, the second only if it is before e and its task's key is p or more
unfoldable pub later_of : ℕ → ℕ → ℕ → ℕ → ℕ → ℕ
later_of m y e key p = pick (ltb m y) (pick (ltb y e) (pick (leb p key) y m) m) m

-- the last seat above `base` and before e of a task, among the first n, whose key is p or more; `base` if there is none
unfoldable pub ahead_of : List ℕ → List ℕ → ℕ → ℕ → ℕ → ℕ → ℕ
ahead_of q key base e p zero = base
ahead_of q key base e p (suc n) = later_of (ahead_of q key base e p n) (get_or q n 0) e (get_or key n 0) p

-- the seat behind all whose key is p or more, in the queue whose seats begin above `base`
abbrev pub seat_behind : List ℕ → List ℕ → ℕ → ℕ → ℕ
seat_behind q key base p = ahead_of q key base (base + 63) p 32 + 1

-- task t, which stands nowhere, joins that queue behind all whose key is p or more; with p = 0 it joins at the end
unfoldable pub joins : List ℕ → List ℕ → ℕ → ℕ → ℕ → List ℕ
joins q key t base p = set (map (raise (seat_behind q key base p) (base + 63)) q) t (seat_behind q key base p)

-- "A task becoming ready goes behind all of equal or higher priority": to the end of the ready tasks of its priority p.
-- (The keys do not matter: all are 0 or more.)
abbrev pub becomes_ready : List ℕ → List ℕ → ℕ → ℕ → List ℕ
becomes_ready q key t p = joins q key t (ring_seats p) 0

-- M-106: "Keep one ring for each priority and a mask of rings that hold a task". The ring of priority p is the queue whose seats
-- begin above `ring_seats p`; it holds a task where somebody is its first.
unfoldable pub holds_task : List ℕ → ℕ → Bool
holds_task q p = ltb (first_standing q (ring_seats p)) 32

-- the mask of the seats: bit p is set exactly if the ring of p holds a task
unfoldable pub ring_mask : List ℕ → ℕ
ring_mask q = bits (holds_task q) 16

-- The mask is kept in the one place of `rings`, and a task that comes or goes changes one bit of it at most.
abbrev pub mask_of : List ℕ → ℕ
mask_of rings = get_or rings 0 0

-- the mask after ring p got a task. (Sixteen bits: no sound state has a higher priority.)
unfoldable pub mask_filled : ℕ → ℕ → ℕ
mask_filled mask p = pick (ltb p 16) (pick (has_bit mask p) mask (mask + 2 ^ p)) mask

-- the mask after ring p lost its last task
unfoldable pub mask_emptied : ℕ → ℕ → ℕ
mask_emptied mask p = pick (has_bit mask p) (mask - 2 ^ p) mask

-- the ring that a ready task's seat is in
abbrev pub ring_of : ℕ → ℕ
ring_of x = x / 64 - 32

-- the mask after seat x was left, with the seats as they are then: where it was in a ring, and nobody is left there
unfoldable pub mask_left : ℕ → List ℕ → ℕ → ℕ
mask_left mask q x =
    pick (ltb x first_ring) mask (pick (holds_task q (ring_of x)) mask (mask_emptied mask (ring_of x)))

-- the rings after task t left the queue it stood in, and after a task of priority p became ready
unfoldable pub rings_left : List ℕ → List ℕ → ℕ → List ℕ
rings_left rings q t = set rings 0 (mask_left (mask_of rings) (leaves q t) (get_or q t 0))

unfoldable pub rings_ready : List ℕ → ℕ → List ℕ
rings_ready rings p = set rings 0 (mask_filled (mask_of rings) p)

-- "the most urgent priority is found by the leading zeros of the mask"
abbrev pub most_urgent : ℕ → ℕ
most_urgent mask = 15 - count_leading_zeros 16 mask

-- "The ready order lists ready tasks; its first runs": the first of the most urgent ring; 32 if nothing is ready
unfoldable pub runner_of : List ℕ → ℕ → ℕ
runner_of q mask = pick (eqb mask 0) 32 (first_standing q (ring_seats (most_urgent mask)))

-- The queue as the paper has it: a list of tasks, first first. The tasks on seats base + k, base + k + 1, .. (at most n).
abbrev pub tasks_from : List ℕ → ℕ → ℕ → ℕ → List ℕ
tasks_from q base zero k = []
tasks_from q base (suc n) k = elim (ltb (on_seat q (base + k)) 32) [ true ↦ on_seat q (base + k) ∷ tasks_from q base n (suc k) | false ↦ [] ]

unfoldable pub queue : List ℕ → ℕ → List ℕ
queue q i = tasks_from q (queue_seats i) 32 1

-- The ready order as the paper has it: the ready tasks of priority n - 1, then n - 2, down to 0.
abbrev pub ready_below : List ℕ → ℕ → List ℕ
ready_below q zero = []
ready_below q (suc p) = tasks_from q (ring_seats p) 32 1 ++ ready_below q p

unfoldable pub ready_order : List ℕ → List ℕ
ready_order q = ready_below q 16
