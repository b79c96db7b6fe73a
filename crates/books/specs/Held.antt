-- The pools' books, told by the answers alone: which buffers are held, by address, and how many were got and returned. Pools are
-- told apart by identifier.
-- Assumes nothing.
use Rattle.std.specs.Prelude.{ℕ, ◌/◌, Bool, true, false, ◌&&◌, List, [], ◌∷◌, ltb, eqb}
use Rattle.scope.specs.Choice.{pick}
use Rattle.scope.specs.Lists.{without}
use Rattle.scope.specs.Statuses.{OK}
use Rattle.scope.specs.Options.{FORCED_DELETE}
use Rattle.books.specs.Past.{Turn, is_answer_of, value, creates, times}

-- what the creation of pool id asked for
abbrev pub address_in : List Turn → ℕ → ℕ
address_in [] id = 0
address_in (x ∷ past) id = pick (creates 14 id x) x.event.b (address_in past id)

abbrev pub length_in : List Turn → ℕ → ℕ
length_in [] id = 0
length_in (x ∷ past) id = pick (creates 14 id x) x.event.c (length_in past id)

abbrev pub size_in : List Turn → ℕ → ℕ
size_in [] id = 0
size_in (x ∷ past) id = pick (creates 14 id x) x.event.d (size_in past id)

abbrev pub is_forced : List Turn → ℕ → Bool
is_forced [] id = false
is_forced (x ∷ past) id = pick (creates 14 id x) (eqb x.event.e FORCED_DELETE) (is_forced past id)

-- "Buffers = length ÷ size, rounded down"
abbrev pub buffers_in : List Turn → ℕ → ℕ
buffers_in past id = length_in past id / size_in past id

-- pool id lives: it was created, and not deleted since
abbrev pub pool_lives : List Turn → ℕ → Bool
pool_lives [] id = false
pool_lives (x ∷ past) id = pick (creates 14 id x) true (pick (is_answer_of 15 id OK x) false (pool_lives past id))

-- the addresses of the buffers of pool id that are held: a get on it answered the address, no return of it answered OK since, and
-- the pool lives
abbrev pub held : List Turn → ℕ → List ℕ
held [] id = []
held (x ∷ past) id =
    pick (is_answer_of 15 id OK x) []
    (pick (is_answer_of 17 id OK x) (value x ∷ held past id)
    (pick (is_answer_of 18 id OK x) (without x.event.b (held past id)) (held past id)))

-- the turn returned the buffer at x to pool id
unfoldable pub is_return : ℕ → ℕ → Turn → Bool
is_return id x t = is_answer_of 18 id OK t && eqb t.event.b x

-- M-103, "the buffer that has been free longest": of two buffers of pool id that are not held, the one at x has been free longer than the
-- one at y if y was returned after x was, or y was and x was not; where neither was, "in a new pool, ascending addresses"
abbrev pub free_longer : List Turn → ℕ → ℕ → ℕ → Bool
free_longer [] id x y = false
free_longer (t ∷ past) id x y =
    pick (creates 14 id t) (ltb x y)
    (pick (is_return id y t) true (pick (is_return id x t) false (free_longer past id x y)))

-- "gets - returns answered OK"
abbrev pub gets : List Turn → ℕ → ℕ
gets past id = times (is_answer_of 17 id OK) past

abbrev pub returns : List Turn → ℕ → ℕ
returns past id = times (is_answer_of 18 id OK) past
