-- M-101, "a time_out runs on during suspension": a tick takes one from every time_out that is not FOREVER, whoever is suspended; a
-- suspended waiter whose time_out reaches 0 leaves its queue, is on the wake list, and stands nowhere until it is resumed.
-- Assumes nothing.
use Prim.Native.Nat.{ℕ, zero, suc, ◌+◌, ◌-◌, ◌<◌}
use mathlib.Core.Path.{◌≡◌, refl, ap, ◌∙◌}
use mathlib.Core.Bool.{Bool, true, false, ◌&&◌}
use mathlib.Core.List.{List}
use lib.ListN.{length, get_or}
use lib.Seq.{get_or-set_same, set-get_or}
use borrow.Author.Tests.{eq-eqb, ne_eqb, eqb-true}
use Rattle.scope.specs.declared.State.{State}
use Rattle.scope.specs.declared.Line.{Line}
use Rattle.scope.specs.declared.Tasks.{Tasks}
use Rattle.scope.specs.declared.Waking.{Waking}
use Rattle.scope.specs.Choice.{pick}
use Rattle.scope.specs.Identifiers.{identifier}
use Rattle.scope.specs.Seats.{waits_on, leaves}
use Rattle.scope.specs.Answers.{wakes_with}
use Rattle.scope.specs.Waiting.{FOREVER, woken_seats, wake, wake_next, none_woken}
use Rattle.scope.specs.Ticks.{time_left, times_left, ticked, is_due, wake_due, tick}
use Rattle.scope.proofs.Rows.{tested}
use Rattle.scope.proofs.Seats.{mapped, lower-zero, lower_self}

-- each time_out by its slot
pub every_time_out : (left : List ℕ) (t : ℕ) → get_or (times_left left) t 0 ≡ time_left (get_or left t 0)
unfolding times_left time_left pick
every_time_out left t = mapped time_left refl left t

-- FOREVER stays, and every other one loses one: no word of who is suspended
pub forever_stays : (l : Line) (t : ℕ) → get_or l.left t 0 ≡ FOREVER → get_or (ticked l).left t 0 ≡ FOREVER
unfolding time_left pick
forever_stays l t e = every_time_out l.left t ∙ rw (time_left, eq-eqb (get_or l.left t 0) FOREVER e) e

pub takes_one : (l : Line) (t : ℕ) → (get_or l.left t 0 ≡ FOREVER → ⊥) → get_or (ticked l).left t 0 ≡ get_or l.left t 0 - 1
unfolding time_left pick
takes_one l t ne = every_time_out l.left t ∙ rw (time_left, ne_eqb (get_or l.left t 0) FOREVER ne)

-- who is due has one left, and nothing once one is taken: to wake those who are takes nothing more
pub due_has_one : (l : Line) (t : ℕ) → is_due l t ≡ true → get_or l.left t 0 ≡ 1
unfolding is_due
due_has_one l t e = eqb-true (get_or l.left t 0) 1 (second_holds (waits_on (get_or l.seat t 0)) _ e)
  where
    second_holds : (a b : Bool) → (a && b) ≡ true → b ≡ true
    second_holds true b e = e
    second_holds false true e = refl
    second_holds false false e = e

due_taken : (l : Line) (t : ℕ) → is_due l t ≡ true → get_or (ticked l).left t 0 ≡ 0
unfolding time_left pick
due_taken l t e = every_time_out l.left t ∙ ap time_left (due_has_one l t e)

wakes_leave_times : (k : Tasks) (l : Line) (n t : ℕ) (w : Waking) → w.line.left ≡ (ticked l).left → (wake_due k l n t w).line.left ≡ (ticked l).left
unfolding wake_due wake_next wake
wakes_leave_times k l zero t w same = same
wakes_leave_times k l (suc n) t w same =
    tested (λ (v : Waking). v.line.left ≡ (ticked l).left) (is_due l t) _ _
    (λ e. wakes_leave_times k l n (suc t) _ (rw (same, ← due_taken l t e) (set-get_or (ticked l).left t 0)))
    (λ e. wakes_leave_times k l n (suc t) w same)

-- "A tick takes one from each running time_out": of every task's, suspended or not, woken or not
pub tick_times : (s : State) (t : ℕ) → get_or (tick s).state.line.left t 0 ≡ get_or (ticked s.line).left t 0
unfolding tick wakes_with
tick_times s t = ap (λ (left : List ℕ). get_or left t 0) (wakes_leave_times s.tasks s.line 32 0 (none_woken (ticked s.line)) refl)

pub tick_takes_one : (s : State) (t : ℕ) → (get_or s.line.left t 0 ≡ FOREVER → ⊥)
    → get_or (tick s).state.line.left t 0 ≡ get_or s.line.left t 0 - 1
tick_takes_one s t ne = tick_times s t ∙ takes_one s.line t ne

pub tick_leaves_forever : (s : State) (t : ℕ) → get_or s.line.left t 0 ≡ FOREVER → get_or (tick s).state.line.left t 0 ≡ FOREVER
tick_leaves_forever s t e = tick_times s t ∙ forever_stays s.line t e

-- a suspended waiter is due, and the tick comes to its slot
module _ (k : Tasks) (l : Line) (w : Waking) (t : ℕ) (suspended : get_or k.suspended t false ≡ true) (due : is_due l t ≡ true) where
  -- it leaves its queue, and stands in no other and not among the ready
  pub suspended_stands_nowhere : get_or (wake_due k l 1 t w).line.seat t 0 ≡ 0
  unfolding wake_due wake_next wake woken_seats pick leaves
  suspended_stands_nowhere = rw (wake_due, due, suspended) (rw (mapped _ (lower-zero _ _) w.line.seat t) (lower_self _ _))

  -- it is the next of the wake list
  pub suspended_is_listed : w.woken < length w.wakes
      → (get_or (wake_due k l 1 t w).wakes w.woken 0 ≡ identifier (get_or k.serial t 0) t) × ((wake_due k l 1 t w).woken ≡ w.woken + 1)
  unfolding wake_due wake_next
  suspended_is_listed room = rw (wake_due, due) (get_or-set_same w.wakes w.woken _ 0 room, refl)
