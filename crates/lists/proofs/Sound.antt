-- A sound state over the paper's lists: the test `sound` passes just if the rules hold over these, so on every sound state the ready
-- order holds each ready task once and no other, its first runs, and its priorities never rise. By the parts of the test.
-- Assumes nothing.
use Prim.Native.Nat.{ℕ}
use native.Mathlib.Omega.{arith}
use mathlib.Core.Path.{◌≡◌, ap}
use mathlib.Core.Bool.{true}
use lib.ListN.{length}
use Rattle.scope.specs.declared.State.{State}
use Rattle.scope.specs.Lists.{has}
use Rattle.scope.specs.Seats.{queue_seats, standing, queue}
use Rattle.scope.specs.Views.{is_ready, waiters_of}
use Rattle.scope.specs.Rules.{seats_right, rings_right, tasks_right, order_rules, table_rules, keeps, sound}
use Rattle.histories.specs.Sound.{Sound, Sized}
use Rattle.histories.proofs.Ruled.{rows, row_holds, sound-keeps, keeps-sound}
use Rattle.histories.proofs.Meaning.{sound_right}
use Rattle.lists.specs.Along.{Once, NeverRising, first_in}
use Rattle.lists.specs.Rules.{ready_of, queue_in, Ordered, OwnRing, PrioritiesInRange, OldRule}
use Rattle.lists.proofs.Members.{queue_length}
use Rattle.lists.proofs.Rules.{priorities_in_range, own_ring, tests_say, rules_right}

-- a sound state's arrays have their sizes
pub sound_sized : (s : State) → Sound s → Sized s
sound_sized s h =
    record {
      line = record { lefts = h.line.lefts; seats = h.line.queues.tasks; joineds = h.line.joineds; rings = ap length h.line.rings };
      tasks = h.tasks.sized;
      semaphores = h.semaphores.sized;
      pools = h.pools.sized;
      queues = h.queues.sized;
    }

-- the test `sound` passes just if the mask is that of the rings, and the rule of before M-106 holds, which knows no mask: the seats
-- say queues, each ready task's in the ring of its priority, and the rules hold: those of orders and queues over the paper's lists,
-- and the others as they are
module _ (s : State) (sized : Sized s) where
  in_range : keeps table_rules s ≡ true → PrioritiesInRange s
  in_range e = priorities_in_range s (row_holds table_rules s e (λ x. tasks_right x.tasks) (search rows depth 12))

  pub sound_lists : sound s ≡ true → (rings_right s.line ≡ true) × OldRule s
  sound_lists e =
      let k = sound-keeps s e in
      let seats : seats_right s.line.seat ≡ true = row_holds order_rules s k.0 (λ x. seats_right x.line.seat) (search rows depth 12) in
      let rings : rings_right s.line ≡ true = row_holds order_rules s k.0 (λ x. rings_right x.line) (search rows depth 12) in
      (rings, (seats, own_ring s sized seats rings (in_range k.1) k.0, tests_say s sized seats rings (in_range k.1) k.0, k.1))

  pub lists_sound : (rings_right s.line ≡ true) × OldRule s → sound s ≡ true
  lists_sound h = keeps-sound s (rules_right s sized h.1.0 h.0 (in_range h.1.3) h.1.1 h.1.2) h.1.3

-- on a sound state
module _ (s : State) (h : Sound s) where
  pub sound_ordered : Ordered s
  sound_ordered = (sound_lists s (sound_sized s h) (sound_right s h)).1.2

  pub sound_rings : OwnRing s
  sound_rings = (sound_lists s (sound_sized s h) (sound_right s h)).1.1

  -- "The ready order lists ready tasks; its first runs."
  pub first_runs : s.running ≡ first_in (ready_of s)
  first_runs = sound_ordered.running

  -- "The ready order holds each ready task once and no other, priorities never rising along it."
  pub order_holds : (t : ℕ) → has (ready_of s) t ≡ is_ready s.line s.tasks t
  order_holds = sound_ordered.ready.each

  pub order_holds_once : Once (ready_of s)
  order_holds_once = sound_ordered.ready.once

  pub order_never_rises : NeverRising s.tasks.priority (ready_of s)
  order_never_rises = sound_ordered.priorities

  -- those waiting for a semaphore are as many as its queue is long
  pub queue_waiters : (i : ℕ) → length (queue_in s i) ≡ waiters_of s.line i
  unfolding queue
  queue_waiters i =
      queue_length s.line.seat (queue_seats i) (standing s.line.seat (queue_seats i)) h.line.queues.tasks
      (h.line.queues.seated (queue_seats i) (omega arith))
