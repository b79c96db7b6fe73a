-- All waiters are woken one at a time, the first while there is one: one more, and no more.
-- Assumes nothing.
use Prim.Native.Nat.{ℕ, suc, ◌+◌, ◌-◌, ◌≤◌, ◌<◌}
use native.Mathlib.Omega.{arith}
use mathlib.Core.Path.{◌≡◌}
use mathlib.Core.Bool.{true, false}
use lib.Dec.{ltb}
use borrow.Author.Tests.{lt-ltb, le-ltb}
use Rattle.scope.specs.declared.Tasks.{Tasks}
use Rattle.scope.specs.declared.Waking.{Waking}
use Rattle.scope.specs.Seats.{queue_seats, first_standing}
use Rattle.scope.specs.Waiting.{wake_next, wake_all}

module _ (k : Tasks) (i n : ℕ) (w : Waking) (below : n < 32) where
  pub wake_all_more : (t : ℕ) (v : Waking) → (t < 32) × (t ≡ first_standing w.line.seat (queue_seats i)) → v ≡ wake_next k w t
      → wake_all k i (32 - (n + 1)) v ≡ wake_all k i (32 - n) w
  unfolding wake_all
  wake_all_more t v first woken =
      let d : 32 - n ≡ suc (32 - (n + 1)) = omega arith in
      let b : ltb (first_standing w.line.seat (queue_seats i)) 32 ≡ true = rw (← first.1) (lt-ltb t 32 first.0) in
      rw (woken, first.1, d, wake_all, b)

  pub wake_all_none : 32 ≤ first_standing w.line.seat (queue_seats i) → w ≡ wake_all k i (32 - n) w
  unfolding wake_all
  wake_all_none none =
      let d : 32 - n ≡ suc (32 - (n + 1)) = omega arith in
      let b : ltb (first_standing w.line.seat (queue_seats i)) 32 ≡ false = le-ltb _ 32 none in
      rw (d, wake_all, b)
