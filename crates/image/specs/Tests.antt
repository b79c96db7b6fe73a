-- What tells the bytes that a state writes from others: the header, what stands for a yes or no, and the ready order. Every other
-- byte is part of a number, or a byte of its own, and comes back as it was.
-- Assumes nothing.
use Rattle.std.specs.Prelude.{ℕ, Bool, ◌&&◌, List}
use Rattle.fields.specs.Columns.{part, take_column}
use Rattle.fields.specs.Tests.{only_flags}
use Rattle.orders.specs.Places.{order_places}
use Rattle.image.specs.Image.{header_numbers, order_at}
use Rattle.image.specs.Reading.{of_task, of_sem, of_pool, of_queue, same_bytes}

-- ten numbers of four bytes
unfoldable pub header_right : List ℕ → Bool
header_right b = same_bytes (take_column 4 1 4 10 b 0) header_numbers

-- "Yes is 1, no is 0, and no other byte stands for either" (docs/IMAGE.md): the tasks', the semaphores', the pools' and the queues'
-- ( Printed by tools/generate/run: flags
unfoldable pub flags_right : List ℕ → Bool
flags_right b =
    only_flags (of_task 1 b 6)
    && only_flags (of_task 1 b 7)
    && only_flags (of_task 1 b 8)
    && only_flags (of_sem 1 b 8)
    && only_flags (of_sem 1 b 9)
    && only_flags (of_pool 1 1 b 26)
    && only_flags (of_pool 1 1 b 27)
    && only_flags (of_queue 1 1 b 6)
    && only_flags (of_queue 1 1 b 7)

-- )

-- the last 32 bytes are the order that the seats say
unfoldable pub order_right : List ℕ → Bool
order_right b = same_bytes (part 32 order_at b) (order_places (of_task 2 b 14))
