-- The books of demand 3, "with releases, grants, gets and returns counted from the answers (status and wake list) alone and
-- objects told apart by identifier".
-- Assumes nothing.
use Rattle.std.specs.Prelude.{ℕ, ◌+◌, ◌≡◌, Bool, ◌&&◌, get_or, eqb}
use Rattle.scope.specs.declared.State.{State}
use Rattle.scope.specs.declared.Answer.{Answer}
use Rattle.scope.specs.declared.Pools.{Pools}
use Rattle.scope.specs.Choice.{pick, number}
use Rattle.scope.specs.Statuses.{OK}
use Rattle.scope.specs.Views.{waiters_of, less, count}
use Rattle.scope.specs.Areas.{is_out}
use Rattle.scope.specs.Pools.{pool_buffers}
use Rattle.histories.specs.History.{Event}

-- the call, on that identifier, was answered OK
unfoldable pub answered_ok : ℕ → ℕ → Event → Answer → Bool
answered_ok call id x a = eqb x.call call && (eqb x.a id && eqb a.status OK)

-- releases of semaphore id answered OK
unfoldable pub releases : ℕ → Event → Answer → ℕ
releases id x a = pick (answered_ok 12 id x a) 1 0

-- claims on semaphore id granted: "answered OK, or woken with 0"
unfoldable pub grants : ℕ → Event → Answer → ℕ
grants id x a = pick (answered_ok 11 id x a) 1 (pick (answered_ok 12 id x a && eqb a.why OK) a.woken 0)

-- gets from pool id, and returns to it, answered OK
unfoldable pub gets : ℕ → Event → Answer → ℕ
gets id x a = pick (answered_ok 17 id x a) 1 0

unfoldable pub returns : ℕ → Event → Answer → ℕ
returns id x a = pick (answered_ok 18 id x a) 1 0

-- "while a semaphore lives, its count = initial count + releases answered OK - claims granted - tasks now waiting"
abbrev pub Counted : State → ℕ → ℕ → ℕ → ℕ → Type 0
Counted s i initial released granted =
    count s.line s.semaphores i ≡ less (initial + released) (granted + waiters_of s.line i)

-- buffers out of pool i
unfoldable pub buffers_out : Pools → ℕ → ℕ
buffers_out p i = number (is_out (get_or p.out i 0)) (pool_buffers p i)
