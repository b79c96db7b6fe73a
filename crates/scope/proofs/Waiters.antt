-- What single calls do to the count, which is the units less the tasks waiting. "A waiter that leaves ungranted (timed out, or deleted)
-- gives its one back: count plus one": one stands there less. A release gives one unit more or wakes one waiter, a claim that is
-- granted takes a unit, and sem_info tells the count. (Units are the semaphores', where tasks stand is the line's: to wake a task
-- changes only the line.)
-- Assumes nothing.
use Prim.Native.Nat.{ℕ, ◌+◌, ◌-◌, ◌<◌}
use native.Mathlib.Omega.{arith}
use mathlib.Core.Path.{◌≡◌, refl, ap, ◌∙◌}
use mathlib.Core.Bool.{Bool, true, false}
use lib.ListN.{length, get_or, length-map}
use lib.Seq.{get_or-set_same}
use borrow.Author.Tests.{ltb-true}
use Rattle.scope.specs.declared.State.{State}
use Rattle.scope.specs.declared.Semaphores.{Semaphores}
use Rattle.scope.specs.declared.Line.{Line}
use Rattle.scope.specs.declared.Tasks.{Tasks}
use Rattle.scope.specs.declared.Waking.{Waking}
use Rattle.scope.specs.declared.Answer.{Answer}
use Rattle.scope.specs.declared.Found.TheVariants.{At}
use Rattle.scope.specs.Choice.{pick}
use Rattle.scope.specs.Statuses.{OK}
use Rattle.scope.specs.Seats.{queue_seats, first_standing, ring_seats, seats_end, stands_in, leaves, seat_behind, joins, becomes_ready}
use Rattle.scope.specs.Views.{with_semaphores, waiters_of, Signed, less, count}
use Rattle.scope.specs.Answers.{answer, plain, wakes_with, on_found}
use Rattle.scope.specs.Tasks.{task_delete_at}
use Rattle.scope.specs.Waiting.{woken_seats, wake, wake_next}
use Rattle.scope.specs.Semaphores.{with_units, sem_wait_at, sem_claim_at, sem_release_at, sem_info_at, sem_found, sem_info}
use Rattle.scope.specs.Ticks.{is_due, wake_due}
use Rattle.scope.proofs.Rows.{by_choice}
use Rattle.scope.proofs.Counts.{plus_one, less_one, unit_more, unit_less, waiter_less}
use Rattle.scope.proofs.Seats.{Left, ahead_from, says_inside, nowhere, mapped, lower-zero, lower_self, lower_other, fewer, seated}

-- task t waits for semaphore i. "Each waiting task stands once in one live semaphore's queue": nobody else stands on its seat.
pub record Waits (l : Line) (i t : ℕ) : Type 0 where
  pub slots : length l.seat ≡ 32
  pub slot : t < 32
  pub semaphore : i < 16
  pub stands : stands_in l.seat (queue_seats i) t ≡ true
  pub alone : (u : ℕ) → get_or l.seat u 0 ≡ get_or l.seat t 0 → u ≡ t

module _ (l : Line) (i t : ℕ) (waits : Waits l i t) where
  left : Left l.seat (leaves l.seat t) (queue_seats i) t
  unfolding stands_in leaves
  left =
      let b = says_inside (queue_seats i) (get_or l.seat t 0) waits.stands in
      let e : seats_end (get_or l.seat t 0) ≡ queue_seats i + 63 = omega arith in
      record {
        size = length-map l.seat _ ∙ waits.slots;
        out = rw (mapped _ (lower-zero _ _) l.seat t, lower_self) (nowhere (queue_seats i));
        rest = λ u n. rw (mapped _ (lower-zero _ _) l.seat u, e) (lower_other (queue_seats i) _ _ b.0 (λ d. n (waits.alone u d)));
      }

  ready : (p : ℕ) → Left l.seat (becomes_ready (leaves l.seat t) l.joined t p) (queue_seats i) t
  unfolding joins
  ready p =
      seated _ _ _ t (seat_behind (leaves l.seat t) l.joined (ring_seats p) 0) _ waits.slot
      (omega (arith, waits.semaphore, ahead_from (leaves l.seat t) l.joined (ring_seats p) (ring_seats p + 63) 0 32)) left

  one_less : (suspended : Bool) (priority : ℕ) → waiters_of (wake l suspended priority t) i + 1 ≡ waiters_of l i
  unfolding wake woken_seats pick
  one_less true p = fewer _ _ _ t waits.slot waits.stands left
  one_less false p = fewer _ _ _ t waits.slot waits.stands (ready p)

  -- woken, suspended or not
  pub woken_gives_back : (m : Semaphores) (suspended : Bool) (priority : ℕ) → count (wake l suspended priority t) m i ≡ plus_one (count l m i)
  woken_gives_back m b p = waiter_less _ _ _ (one_less b p)

-- timed out: it was due before the tick, which comes to its slot
pub timed_out_gives_back : (k : Tasks) (m : Semaphores) (before : Line) (w : Waking) (i t : ℕ) → Waits w.line i t → is_due before t ≡ true
    → count (wake_due k before 1 t w).line m i ≡ plus_one (count w.line m i)
unfolding wake_due wake_next
timed_out_gives_back k m before w i t waits due = rw (wake_due, due) (woken_gives_back w.line i t waits m _ _)

-- the count of semaphore i of a state
abbrev pub count_in : State → ℕ → Signed
count_in s i = count s.line s.semaphores i

-- deleted
pub deleted_gives_back : (s : State) (i t : ℕ) → Waits s.line i t → count_in (task_delete_at s t).state i ≡ plus_one (count_in s i)
unfolding task_delete_at plain answer
deleted_gives_back s i t waits = waiter_less _ _ _ (fewer _ _ _ t waits.slot waits.stands (left s.line i t waits))

module _ (s : State) (i : ℕ) (fits : i < length s.semaphores.units) where
  abbrev units : ℕ
  units = get_or s.semaphores.units i 0

  -- the semaphore with n units
  with_units_lem : (n : ℕ) → count_in (with_semaphores s (with_units s.semaphores i n)) i ≡ less n (waiters_of s.line i)
  with_units_lem n = ap (λ (u : ℕ). less u (waiters_of s.line i)) (get_or-set_same s.semaphores.units i n 0 fits)

  -- (types of their own: a chain of choices is then compared by its answer alone, not by its status and its state)
  record Released (a : Answer) : Type 0 where
    said : a.status ≡ OK → count_in a.state i ≡ plus_one (count_in s i)

  -- "Release: count plus one. If there were waiters the first leaves, woken with OK: that is its grant."
  pub release_plus_one : (first_standing s.line.seat (queue_seats i) < 32 → Waits s.line i (first_standing s.line.seat (queue_seats i)))
      → (sem_release_at s i).status ≡ OK → count_in (sem_release_at s i).state i ≡ plus_one (count_in s i)
  unfolding sem_release_at wakes_with wake_next plain answer
  release_plus_one waits =
      let so : Released (sem_release_at s i) =
      by_choice Released _ (λ e. record { said = λ d. absurd (omega arith) })
      (λ e. by_choice Released _ (λ f. record { said = λ d. woken_gives_back s.line i _ (waits (ltb-true _ _ f)) s.semaphores _ _ })
      (λ f. record { said = λ d. with_units_lem (units + 1) ∙ unit_more units (waiters_of s.line i) }))
      in so.said

  record Claimed (a : Answer) : Type 0 where
    said : a.status ≡ OK → count_in a.state i ≡ less_one (count_in s i)

  -- "Claim: count less one. At 0 or more the answer is OK"
  pub claim_less_one : (options ticks : ℕ) → (sem_claim_at s options ticks i).status ≡ OK
      → count_in (sem_claim_at s options ticks i).state i ≡ less_one (count_in s i)
  unfolding sem_claim_at sem_wait_at plain answer
  claim_less_one options ticks =
      let so : Claimed (sem_claim_at s options ticks i) =
      by_choice Claimed _ (λ e. record { said = λ d. absurd (omega arith) })
      (λ e. by_choice Claimed _ (λ f. record { said = λ d. absurd (omega arith) })
      (λ f. by_choice Claimed _ (λ g. record { said = λ d. absurd (omega arith) })
      (λ g. by_choice Claimed _
      (λ h. record { said = λ d. with_units_lem (units - 1) ∙ unit_less units (waiters_of s.line i) (units - 1) (omega (arith, ltb-true 0 units h)) })
      (λ h. by_choice Claimed _ (λ j. record { said = λ d. absurd (omega arith) }) (λ j. record { said = λ d. absurd (omega arith) })))))
      in so.said

-- "sem_info gives options, count, tasks waiting": by the identifier of semaphore i
pub info_tells_the_count : (s : State) (id i : ℕ) → sem_found s id ≡ At i
    → (get_or (sem_info s id).values 1 0 ≡ (count_in s i).size) × ((sem_info s id).negative ≡ (count_in s i).negative)
    × (get_or (sem_info s id).values 2 0 ≡ waiters_of s.line i)
unfolding on_found sem_info_at answer
info_tells_the_count s id i found = rw found (refl, refl, refl)
