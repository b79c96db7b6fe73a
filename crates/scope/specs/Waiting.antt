-- Waiting and waking, for whatever tasks wait for: its time_outs, its queues, and what leaving one does. What is waited for is
-- an object (Objects.antt).
-- Assumes nothing.
use Rattle.std.specs.Prelude.{ℕ, zero, suc, ◌+◌, Bool, true, false, ◌&&◌, List, get_or, set, ltb, leb, eqb}
use Rattle.scope.specs.declared.Line.{Line}
use Rattle.scope.specs.declared.Tasks.{Tasks}
use Rattle.scope.specs.declared.Waking.{Waking}
use Rattle.scope.specs.Choice.{pick}
use Rattle.scope.specs.Identifiers.{identifier}
use Rattle.scope.specs.Seats.{queue_seats, first_standing, leaves, joins, becomes_ready, rings_left, rings_ready}
use Rattle.scope.specs.Views.{with_wait}
use Rattle.scope.specs.Answers.{no_wakes}

-- "4,294,967,295 for FOREVER"
abbrev pub FOREVER : ℕ
FOREVER = 4294967295

-- "time_out is 1 to 65,535 ticks, or 4,294,967,295 for FOREVER"
unfoldable pub is_time_out : ℕ → Bool
is_time_out ticks = pick (eqb ticks FOREVER) true (leb 1 ticks && leb ticks 65535)

-- "FIFO queues grow at the end. Others are by priority at the moment of joining, equals by arrival"
unfoldable pub queue_key : Bool → ℕ → ℕ
queue_key fifo priority = pick fifo 0 priority

-- the running task t leaves the ready order and joins the queue of object i
unfoldable pub waits : Line → ℕ → Bool → ℕ → ℕ → ℕ → Line
waits l i fifo priority ticks t =
    with_wait l t ticks priority (joins (leaves l.seat t) l.joined t (queue_seats i) (queue_key fifo priority))
    (rings_left l.rings l.seat t)

-- where task t stands when it is woken: "it becomes ready when it neither waits nor is suspended"
unfoldable pub woken_seats : Line → Bool → ℕ → ℕ → List ℕ
woken_seats l suspended priority t =
    pick suspended (leaves l.seat t) (becomes_ready (leaves l.seat t) l.joined t priority)

-- and the rings then: the queue that it leaves is no ring
unfoldable pub woken_rings : Line → Bool → ℕ → List ℕ
woken_rings l suspended priority = pick suspended l.rings (rings_ready l.rings priority)

-- task t leaves its queue and waits no longer
unfoldable pub wake : Line → Bool → ℕ → ℕ → Line
wake l suspended priority t = with_wait l t 0 0 (woken_seats l suspended priority t) (woken_rings l suspended priority)

-- and is the next of the wake list
unfoldable pub wake_next : Tasks → Waking → ℕ → Waking
wake_next k w t =
    record {
      line = wake w.line (get_or k.suspended t false) (get_or k.priority t 0) t;
      wakes = set w.wakes w.woken (identifier (get_or k.serial t 0) t);
      woken = w.woken + 1;
    }

abbrev pub none_woken : Line → Waking
none_woken l = record { line = l; wakes = no_wakes; woken = 0 }

-- "Delete wakes all waiters in queue order": the first, while there is one (at most n)
unfoldable pub wake_all : Tasks → ℕ → ℕ → Waking → Waking
wake_all k i zero w = w
wake_all k i (suc n) w =
    elim (ltb (first_standing w.line.seat (queue_seats i)) 32) [
      | true ↦ wake_all k i n (wake_next k w (first_standing w.line.seat (queue_seats i)))
      | false ↦ w
    ]
