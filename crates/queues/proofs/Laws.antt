-- What the queue calls lean on: a queue deleted with its waiters.
-- Assumes nothing.
use Prim.Native.Nat.{ℕ, ◌+◌, ◌*◌}
use mathlib.Core.Path.{◌≡◌}
use mathlib.Core.Bool.{false}
use lib.ListN.{set}
use Rattle.scope.specs.declared.State.{State}
use Rattle.scope.specs.declared.Queues.{Queues}
use Rattle.scope.specs.declared.Waking.{Waking}
use Rattle.scope.specs.Messages.{cleared}
use Rattle.scope.specs.Objects.{queue_object}
use Rattle.scope.specs.Queues.{store_of, with_store, queue_delete_at}
use Rattle.scope.specs.Seats.{mask_of, runner_of}
use Rattle.scope.specs.Statuses.{QUEUE_DELETED}
use Rattle.scope.specs.Waiting.{wake_all, none_woken}
use Rattle.answers.specs.declared.Outcome.{Outcome}
use Rattle.answers.specs.Columns.{state_of}
use Rattle.answers.specs.Outcomes.{answer_of, woke}
use Rattle.answers.proofs.Outcomes.{woke_moved}

-- a queue deleted: its slot without an object, what it held being dropped already
abbrev emptied : Queues → ℕ → Queues
emptied u i =
    record {
      name = set u.name i 0;
      serial = u.serial;
      live = set u.live i false;
      fifo = set u.fifo i false;
      limits = set (set u.limits (2 * i) 0) (2 * i + 1) 0;
      held = u.held;
      cells = u.cells;
    }

-- queue_delete: `w` is who was woken and where tasks stand then, n who runs, and `u` the queues without its messages
pub all_woken : (s : State) (i n : ℕ) (o : Outcome) (w : Waking) {u : Queues} → u ≡ with_store s.queues (cleared (store_of s.queues) i) → o ≡ woke w.woken QUEUE_DELETED n
    → n ≡ runner_of w.line.seat (mask_of w.line.rings) → w ≡ wake_all s.tasks (queue_object i) 32 (none_woken s.line)
    → answer_of (state_of w.line s.tasks s.semaphores s.pools (emptied u i) s.running) w.wakes o ≡ queue_delete_at s i
unfolding queue_delete_at
all_woken s i n o w k e f g = rw k (woke_moved _ _ _ _ _ _ _ _ _ _ _ _ e f g)
