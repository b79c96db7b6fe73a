-- What single calls do to the count of a semaphore in a sound state: a claim, granted or pending, takes one; a release gives one; a
-- waiter that leaves ungranted gives its one back, and who waited for a message queue gives none to a semaphore. So the count stays between -32 and 32,767: by the waiters, of whom there are at
-- most 32, or by the units.
-- Assumes nothing.
use Prim.Native.Nat.{ℕ, ◌+◌, ◌≤◌, ◌<◌}
use native.Mathlib.Omega.{arith}
use mathlib.Core.Path.{◌≡◌, sym, ap, ◌∙◌}
use mathlib.Core.Logic.{◌⊎◌, ⊎_elim}
use mathlib.Core.Bool.{true, false}
use mathlib.Core.List.{List}
use lib.ListN.{length, get_or}
use borrow.Author.Tests.{lt-ltb, leb-false}
use Rattle.scope.specs.declared.State.{State}
use Rattle.scope.specs.declared.Line.{Line}
use Rattle.scope.specs.declared.Tasks.{Tasks}
use Rattle.scope.specs.declared.Semaphores.{Semaphores}
use Rattle.scope.specs.declared.Queues.{Queues}
use Rattle.scope.specs.declared.Waking.{Waking}
use Rattle.scope.specs.declared.Answer.{Answer}
use Rattle.scope.specs.Statuses.{OK, PENDING}
use Rattle.scope.specs.Seats.{queue_seats, ring_seats, stands_in, standing, leaves, joins}
use Rattle.scope.specs.Objects.{queue_object, Objects, objects, objects_of}
use Rattle.scope.specs.Views.{waiters_of, less, count}
use Rattle.scope.specs.Answers.{answer, plain}
use Rattle.scope.specs.Tasks.{task_delete_at}
use Rattle.scope.specs.Waiting.{waits, wake_next}
use Rattle.scope.specs.Semaphores.{sem_wait_at, sem_claim_at, sem_release_at}
use Rattle.scope.specs.Ticks.{is_due, wake_due}
use Rattle.scope.specs.Fresh.{fresh_state}
use Rattle.scope.proofs.Rows.{by_choice}
use Rattle.scope.proofs.Counts.{plus_one, less_one, waiter_more}
use Rattle.scope.proofs.Waiters as waiters
use Rattle.scope.proofs.Waiters.{count_in}
use Rattle.laws.specs.Seating.{In, AllSeated}
use Rattle.laws.proofs.Seats.Counting.{standing_is, standing-le}
use Rattle.laws.proofs.Seats.Leaving.{length-leaves, leaves_out, leaves_others}
use Rattle.laws.proofs.Seats.Joining.{length-joins, joins_seated}
use Rattle.laws.proofs.Seats.Rule.{leaves_keeps}
use Rattle.histories.specs.Sound.{Ready, LineSound, Sound}
use Rattle.histories.specs.History.{Event, after}
use Rattle.histories.proofs.Moves.{seats_low, leaves_elsewhere, wake_elsewhere}
use Rattle.histories.proofs.Waking.{first_in_lem}
use Rattle.histories.proofs.Semaphores.{runs_ready}
use Rattle.histories.proofs.Demand.{waiting_negative, end_sound}

-- who stands in a semaphore's queue waits there, and nobody else is on its seat
module _ (l : Line) (k : Tasks) (m : Objects) (ok : LineSound l k m) (i : ℕ) (hi : i < 16) where
  waiter : (t : ℕ) → t < 32 → In l.seat (queue_seats i) t → waiters.Waits l i t
  unfolding stands_in
  waiter t h at =
      record {
        slots = ok.queues.tasks;
        slot = h;
        semaphore = hi;
        stands = rw (lt-ltb _ _ at.0, lt-ltb _ _ at.1);
        alone = λ u e. sym ((ok.queues.seated (queue_seats i) (omega arith)).once t u at (sym e));
      }

  -- the ready task t leaves the ready order and joins the queue: one more stands there
  joined : (t key : ℕ) → t < 32 → Ready l k t → standing (joins (leaves l.seat t) l.joined t (queue_seats i) key) (queue_seats i) ≡ standing l.seat (queue_seats i) + 1
  joined t key h ready =
      let q : List ℕ = leaves l.seat t in
      let rule : AllSeated q = leaves_keeps l.seat ok.queues (seats_low l k m ok) t in
      standing_is (joins q l.joined t (queue_seats i) key) (queue_seats i) _ (length-joins q l.joined t (queue_seats i) key ∙ rule.tasks)
      (joins_seated q l.joined t (queue_seats i) key (standing q (queue_seats i)) rule.tasks h (leaves_out l.seat t)
      (rule.seated (queue_seats i) (omega arith)))
      ∙ ap (λ (n : ℕ). n + 1)
      (standing_is q (queue_seats i) (standing l.seat (queue_seats i)) (length-leaves l.seat t ∙ ok.queues.tasks)
      (leaves_others l.seat (ring_seats (get_or k.priority t 0)) t (omega arith) ready.stands (queue_seats i) (omega arith)
      (λ e. omega arith) (standing l.seat (queue_seats i)) ok.queues.tasks (ok.queues.seated (queue_seats i) (omega arith))))

-- "timed out": it was due before the tick, which comes to its slot
pub timed_out_count : (k : Tasks) (m : Semaphores) (u : Queues) (before : Line) (w : Waking) (i t : ℕ) → LineSound w.line k (objects m u) → i < 16 → t < 32
    → In w.line.seat (queue_seats i) t → is_due before t ≡ true → count (wake_due k before 1 t w).line m i ≡ plus_one (count w.line m i)
timed_out_count k m u before w i t ok hi h at due = waiters.timed_out_gives_back k m before w i t (waiter w.line k (objects m u) ok i hi t h at) due

-- M-100: who waited for a queue gives nothing back to a semaphore, though one identifier may name both
pub receiver_timed_out : (k : Tasks) (m : Semaphores) (u : Queues) (before : Line) (w : Waking) (i j t : ℕ) → LineSound w.line k (objects m u) → i < 16
    → t < 32 → In w.line.seat (queue_seats (queue_object j)) t → is_due before t ≡ true → count (wake_due k before 1 t w).line m i ≡ count w.line m i
unfolding wake_due wake_next
receiver_timed_out k m u before w i j t ok hi h at due =
    rw (wake_due, due)
    (ap (λ (n : ℕ). less (get_or m.units i 0) n)
    (wake_elsewhere w.line k (objects m u) ok t h (get_or k.suspended t false) (get_or k.priority t 0) i (queue_object j) (omega arith) at (λ e. omega arith)))

module _ (s : State) (ok : Sound s) (i : ℕ) (hi : i < 16) where
  fits : i < length s.semaphores.units
  fits = omega (arith, ok.semaphores.sized.unitss)

  -- "deleted"
  pub deleted_count : (t : ℕ) → t < 32 → In s.line.seat (queue_seats i) t → count_in (task_delete_at s t).state i ≡ plus_one (count_in s i)
  deleted_count t h at = waiters.deleted_gives_back s i t (waiter s.line s.tasks (objects_of s) ok.line i hi t h at)

  pub receiver_deleted : (j t : ℕ) → In s.line.seat (queue_seats (queue_object j)) t → count_in (task_delete_at s t).state i ≡ count_in s i
  unfolding task_delete_at plain answer
  receiver_deleted j t at =
      ap (λ (n : ℕ). less (get_or s.semaphores.units i 0) n)
      (leaves_elsewhere s.line.seat ok.line.queues (seats_low s.line s.tasks (objects_of s) ok.line) t (queue_seats (queue_object j)) (omega arith) at
      (queue_seats i) (omega arith) (λ e. omega arith))

  -- "Release: count plus one."
  pub release_count : (sem_release_at s i).status ≡ OK → count_in (sem_release_at s i).state i ≡ plus_one (count_in s i)
  release_count =
      waiters.release_plus_one s i fits
      (λ h. waiter s.line s.tasks (objects_of s) ok.line i hi _ h
      (first_in_lem s.line s.tasks (objects_of s) ok.line i h))

  abbrev Pending : Answer → Type 0
  Pending a = a.status ≡ PENDING → count_in a.state i ≡ less_one (count_in s i)

  -- "below 0 the caller joins the queue"
  wait_count : (ticks : ℕ) → Pending (sem_wait_at s ticks i)
  unfolding sem_wait_at waits plain answer
  wait_count ticks =
      by_choice Pending _ (λ e d. absurd (omega arith))
      (λ e d. let h : s.running < 32 = leb-false 32 s.running e in
      ap (λ (n : ℕ). less (get_or s.semaphores.units i 0) n)
      (joined s.line s.tasks (objects_of s) ok.line i hi s.running _ h (runs_ready s ok h))
      ∙ waiter_more (get_or s.semaphores.units i 0) (waiters_of s.line i))

  pending_count : (options ticks : ℕ) → Pending (sem_claim_at s options ticks i)
  unfolding sem_claim_at plain answer
  pending_count options ticks =
      by_choice Pending _ (λ e d. absurd (omega arith))
      (λ e. by_choice Pending _ (λ f d. absurd (omega arith))
      (λ f. by_choice Pending _ (λ g d. absurd (omega arith)) (λ g. by_choice Pending _ (λ h d. absurd (omega arith)) (λ h. wait_count ticks))))

  -- "Claim: count less one. At 0 or more the answer is OK; below 0 the caller joins the queue."
  pub claim_count : (options ticks : ℕ) → ((sem_claim_at s options ticks i).status ≡ OK) ⊎ ((sem_claim_at s options ticks i).status ≡ PENDING)
      → count_in (sem_claim_at s options ticks i).state i ≡ less_one (count_in s i)
  claim_count options ticks = ⊎_elim (waiters.claim_less_one s i fits options ticks) (pending_count options ticks)

  -- "the count stays between −32 and 32,767"
  pub count_in_range : ((count_in s i).negative ≡ true → (count_in s i).size ≤ 32) × ((count_in s i).negative ≡ false → (count_in s i).size ≤ 32767)
  count_in_range =
      let w = waiting_negative s ok i hi in (
        λ e. omega (arith, w.size e, standing-le s.line.seat (queue_seats i)),
        λ e. omega (arith, w.free e, (ok.semaphores.each i hi).units),
      )

-- and so at the end of every history from a fresh state
pub range_of_history : (p : ℕ) → p ≤ 15 → (xs : List Event) (i : ℕ) → i < 16
    → ((count_in (after (fresh_state p) xs) i).negative ≡ true → (count_in (after (fresh_state p) xs) i).size ≤ 32)
    × ((count_in (after (fresh_state p) xs) i).negative ≡ false → (count_in (after (fresh_state p) xs) i).size ≤ 32767)
range_of_history p h xs i hi = count_in_range (after (fresh_state p) xs) (end_sound p h xs) i hi
