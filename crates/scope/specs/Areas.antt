-- Areas of memory and the buffers in them.
-- Assumes nothing.
use Rattle.std.specs.Prelude.{ℕ, ◌+◌, ◌-◌, ◌*◌, ◌/◌, ◌%◌, ◌^◌, min, Bool, not, ◌&&◌, ltb, leb, eqb}
use Rattle.scope.specs.Choice.{pick, number}

-- one past the last address
abbrev pub memory : ℕ
memory = 4294967296

-- "Length 1 or more and address + length at most 4,294,967,296"
unfoldable pub is_area : ℕ → ℕ → Bool
is_area address length = leb 1 length && leb (address + length) memory

-- "size 0, or length ÷ size not in 1 to 64" is refused
unfoldable pub is_size : ℕ → ℕ → Bool
is_size length size = leb 1 size && (leb 1 (length / size) && leb (length / size) 64)

-- "Buffers = length ÷ size, rounded down". Creation admits at most 64.
unfoldable pub buffers_of : ℕ → ℕ → ℕ
buffers_of length size = pick (leb 1 size) (min (length / size) 64) 0

-- "area shares a byte with": each begins before the other ends
unfoldable pub share_byte : ℕ → ℕ → ℕ → ℕ → Bool
share_byte a1 n1 a2 n2 = ltb a1 (a2 + n2) && ltb a2 (a1 + n1)

-- buffer k is out: bit k of the marks
unfoldable pub is_out : ℕ → ℕ → Bool
is_out out k = eqb (out / 2 ^ k % 2) 1

unfoldable pub is_free : ℕ → ℕ → Bool
is_free out k = not (is_out out k)

-- how many of n buffers are free
unfoldable pub free_of : ℕ → ℕ → ℕ
free_of out n = number (is_free out) n

-- "laid from the address, no overhead". Admitted areas end by 4,294,967,296, so the remainder takes nothing away there.
unfoldable pub buffer_address : ℕ → ℕ → ℕ → ℕ
buffer_address address size k = (address + k * size) % memory

-- the buffer of n that starts at x, 64 where none does
unfoldable pub buffer_at : ℕ → ℕ → ℕ → ℕ → ℕ
buffer_at address size n x =
    pick (ltb x address) 64
    (pick (eqb size 0) 64
    (pick (eqb ((x - address) % size) 0) (pick (ltb ((x - address) / size) n) ((x - address) / size) 64) 64))
