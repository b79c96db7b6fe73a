-- The pool calls: chapter 6, as document 01 fixes it. Each is given the pool's slot, its identifier being found.
-- Assumes nothing.
use Rattle.std.specs.Prelude.{ℕ, ◌+◌, ◌-◌, ◌^◌, Bool, true, false, not, ◌&&◌, List, length, get_or, set, ltb, leb, eqb}
use Rattle.scope.specs.declared.State.{State}
use Rattle.scope.specs.declared.Pools.{Pools}
use Rattle.scope.specs.declared.Answer.{Answer}
use Rattle.scope.specs.declared.Found.{Found}
use Rattle.scope.specs.Choice.{pick, least}
use Rattle.scope.specs.Identifiers.{identifier, found, lowest_usable, by_name}
use Rattle.scope.specs.Statuses.{OK, INVALID_PARAMETER, INVALID_OPTIONS, TOO_MANY_OBJECTS, NAME_NOT_FOUND, INVALID_BUFF_SIZE, POOL_OVERLAP, POOL_IN_USE, NO_MORE_MEMORY, INVALID_BUFF}
use Rattle.scope.specs.Areas.{is_area, is_size, buffers_of, share_byte, is_out, is_free, free_of, buffer_address, buffer_at}
use Rattle.scope.specs.Places.{row_of, with_row, longest_free, first_leaves, joins_last, new_row, no_row}
use Rattle.scope.specs.Options.{FORCED_DELETE, last_option}
use Rattle.scope.specs.Views.{with_pools}
use Rattle.scope.specs.Answers.{bit_of, answer, plain, gives, on_found}

abbrev pub pool_found : State → ℕ → Found
pool_found s id = found s.pools.serial s.pools.live id

-- the number of pool i's buffers
abbrev pub pool_buffers : Pools → ℕ → ℕ
pool_buffers p i = buffers_of (get_or p.length i 0) (get_or p.size i 0)

-- live pool k's area shares a byte with this one
unfoldable pub overlaps : Pools → ℕ → ℕ → ℕ → Bool
overlaps p address length k = get_or p.live k false && share_byte address length (get_or p.address k 0) (get_or p.length k 0)

-- the lowest slot whose pool does, 8 where none does
unfoldable pub overlapped : Pools → ℕ → ℕ → ℕ
overlapped p address length = least (overlaps p address length) 8

-- slot i holds its next object
abbrev pub pool_born : Pools → ℕ → ℕ → ℕ → ℕ → ℕ → Bool → Pools
pool_born p i name address length size forced =
    record {
      out = set p.out i 0;
      name = set p.name i name;
      address = set p.address i address;
      length = set p.length i length;
      size = set p.size i size;
      serial = set p.serial i (get_or p.serial i 0 + 1);
      live = set p.live i true;
      forced = set p.forced i forced;
      place = with_row p.place i (new_row (buffers_of length size));
    }

abbrev pub pool_gone : Pools → ℕ → Pools
pool_gone p i =
    record {
      out = set p.out i 0;
      name = set p.name i 0;
      address = set p.address i 0;
      length = set p.length i 0;
      size = set p.size i 0;
      serial = p.serial;
      live = set p.live i false;
      forced = set p.forced i false;
      place = with_row p.place i no_row;
    }

-- pool i with other marks and another row of places
abbrev pub with_out : Pools → ℕ → ℕ → List ℕ → Pools
with_out p i out row =
    record {
      out = set p.out i out;
      name = p.name;
      address = p.address;
      length = p.length;
      size = p.size;
      serial = p.serial;
      live = p.live;
      forced = p.forced;
      place = with_row p.place i row;
    }

-- pool_create: 3, 14, 6, 7, 15
unfoldable pub pool_create_at : State → ℕ → ℕ → ℕ → ℕ → ℕ → ℕ → Answer
pool_create_at s name address length size options i =
    pick (leb 8 i) (plain s TOO_MANY_OBJECTS)
    (pick (ltb (overlapped s.pools address length) 8) (plain s POOL_OVERLAP)
    (gives (with_pools s (pool_born s.pools i name address length size (eqb options FORCED_DELETE)))
    (identifier (get_or s.pools.serial i 0 + 1) i)))

unfoldable pub pool_create : State → ℕ → ℕ → ℕ → ℕ → ℕ → Answer
pool_create s name address length size options =
    pick (not (is_area address length)) (plain s INVALID_PARAMETER)
    (pick (not (is_size length size)) (plain s INVALID_BUFF_SIZE)
    (pick (ltb last_option options) (plain s INVALID_OPTIONS)
    (pool_create_at s name address length size options (lowest_usable s.pools.serial s.pools.live))))

-- pool_delete. "buffers out, not FORCED_DELETE": 16
unfoldable pub pool_delete_at : State → ℕ → Answer
pool_delete_at s i =
    pick (not (get_or s.pools.forced i false) && ltb 0 (get_or s.pools.out i 0)) (plain s POOL_IN_USE)
    (plain (with_pools s (pool_gone s.pools i)) OK)

-- pool_ident: 8
unfoldable pub pool_ident_at : State → ℕ → Answer
pool_ident_at s i =
    pick (leb (length s.pools.live) i) (plain s NAME_NOT_FOUND)
    (gives s (identifier (get_or s.pools.serial i 0) i))

unfoldable pub pool_ident : State → ℕ → Answer
pool_ident s name = pool_ident_at s (by_name s.pools.live s.pools.name name)

-- the row of places of pool i
abbrev pub pool_row : Pools → ℕ → List ℕ
pool_row p i = row_of p.place i

-- buffer k of pool i leaves the order of the free ones; 17 where it is none of them
unfoldable pub pool_get_buffer : State → ℕ → ℕ → Answer
pool_get_buffer s i k =
    pick (not (ltb k (pool_buffers s.pools i) && is_free (get_or s.pools.out i 0) k)) (plain s NO_MORE_MEMORY)
    (gives (with_pools s (with_out s.pools i (get_or s.pools.out i 0 + 2 ^ k) (first_leaves (pool_row s.pools i))))
    (buffer_address (get_or s.pools.address i 0) (get_or s.pools.size i 0) k))

-- "pool_get_buff now gives the buffer that has been free longest" (M-103)
unfoldable pub pool_get_buff_at : State → ℕ → Answer
pool_get_buff_at s i = pool_get_buffer s i (longest_free (pool_row s.pools i))

-- how many of pool i's buffers are free
abbrev pub pool_free : Pools → ℕ → ℕ
pool_free p i = free_of (get_or p.out i 0) (pool_buffers p i)

-- "Any task may return a buffer." "address not the start of a buffer out": 18. What is returned has been free for the shortest time.
unfoldable pub pool_ret_buffer : State → ℕ → ℕ → Answer
pool_ret_buffer s i k =
    pick (not (ltb k 64 && is_out (get_or s.pools.out i 0) k)) (plain s INVALID_BUFF)
    (plain (with_pools s (with_out s.pools i (get_or s.pools.out i 0 - 2 ^ k) (joins_last (pool_row s.pools i) (pool_free s.pools i) k))) OK)

unfoldable pub pool_ret_buff_at : State → ℕ → ℕ → Answer
pool_ret_buff_at s x i =
    pool_ret_buffer s i (buffer_at (get_or s.pools.address i 0) (get_or s.pools.size i 0) (pool_buffers s.pools i) x)

-- "pool_info gives buffers, free, size, options"
unfoldable pub pool_info_at : State → ℕ → Answer
pool_info_at s i =
    answer s OK (pool_buffers s.pools i) (pool_free s.pools i)
    (get_or s.pools.size i 0) (bit_of (get_or s.pools.forced i false)) false

-- the calls with a pool's identifier
abbrev pub pool_delete : State → ℕ → Answer
pool_delete s id = on_found (pool_found s id) s (pool_delete_at s)

abbrev pub pool_get_buff : State → ℕ → Answer
pool_get_buff s id = on_found (pool_found s id) s (pool_get_buff_at s)

abbrev pub pool_ret_buff : State → ℕ → ℕ → Answer
pool_ret_buff s id x = on_found (pool_found s id) s (pool_ret_buff_at s x)

abbrev pub pool_info : State → ℕ → Answer
pool_info s id = on_found (pool_found s id) s (pool_info_at s)
