-- "Options are bit 0: FIFO, FORCED_DELETE, NOWAIT."
-- Assumes nothing.
use Rattle.std.specs.Prelude.{ℕ}

-- of sem_create and queue_create
abbrev pub FIFO : ℕ
FIFO = 1

-- of pool_create
abbrev pub FORCED_DELETE : ℕ
FORCED_DELETE = 1

-- of sem_claim and queue_receive
abbrev pub NOWAIT : ℕ
NOWAIT = 1

-- 6: "a bit other than bit 0 set", above this
abbrev pub last_option : ℕ
last_option = 1
