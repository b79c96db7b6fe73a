-- M-101, "A time_out of n always ends at the n-th tick", for every history from a fresh state, whoever is suspended and resumed on the
-- way: what is left of a waiter's time_out and the ticks since its claim or receive make up the time_out that it asked for. So while it waits
-- there were fewer, and the next tick wakes it with 13 exactly if it is the n-th.
-- Assumes nothing.
use Prim.Native.Nat.{ℕ, zero, suc, ◌+◌, ◌≤◌, ◌<◌}
use native.Mathlib.Omega.{arith}
use mathlib.Core.Path.{◌≡◌, refl, sym, subst, ap, ◌∙◌}
use mathlib.Core.Logic.{⊎_elim}
use mathlib.Core.Bool.{Bool, true, false, not, ◌&&◌}
use mathlib.Core.List.{List, []}
use lib.ListN.{get_or}
use lib.Dec.{eqb}
use borrow.Author.Tests.{eq-eqb, ne_eqb, eqb-true}
use Rattle.scope.specs.declared.State.{State}
use Rattle.scope.specs.declared.Line.{Line}
use Rattle.scope.specs.declared.Tasks.{Tasks}
use Rattle.scope.specs.declared.Waking.{Waking}
use Rattle.scope.specs.declared.Answer.{Answer}
use Rattle.scope.specs.Choice.{pick}
use Rattle.scope.specs.Statuses.{OK, TIME_OUT}
use Rattle.scope.specs.Lists.{has}
use Rattle.scope.specs.Seats.{queue_seats}
use Rattle.scope.specs.Objects.{objects_end}
use Rattle.scope.specs.Answers.{wakes_with}
use Rattle.scope.specs.Waiting.{FOREVER, wake_next, none_woken}
use Rattle.scope.specs.Ticks.{ticked, is_due, wake_due, tick}
use Rattle.scope.specs.Replies.{wakes_from, wake_list, reply_of}
use Rattle.scope.specs.Fresh.{fresh_state}
use Rattle.scope.proofs.Rows.{tested}
use Rattle.scope.proofs.Times.{due_has_one, tick_takes_one}
use Rattle.laws.proofs.Branches.{both, both_true, first_fails, second_fails, not_of_true, not_of_false, eq_or_not, picked_yes}
use Rattle.laws.specs.Seating.{In}
use Rattle.histories.specs.Sound.{Sound}
use Rattle.histories.specs.History.{Event, answer_to, after}
use Rattle.histories.specs.Order.{no_arrivals, WaitsFor}
use Rattle.histories.proofs.Fresh.{fresh_sound}
use Rattle.histories.proofs.Staying.{Good}
use Rattle.histories.proofs.Ticks.{tick_sound}
use Rattle.histories.proofs.Turns.{good}
use Rattle.histories.proofs.Demand.{end_sound}
use Rattle.books.specs.Past.{Turn, past_of}
use Rattle.books.specs.Waiting.{Kind, wakes, waiters_for}
use Rattle.books.specs.Times.{time_out_of, ticks_since, ends_next, wakes_as}
use Rattle.books.proofs.Woken.{Left, wake_left}
use Rattle.books.specs.Told.{object_of, task_id}
use Rattle.books.proofs.Agreeing.{WaiterOf, waiters_of_lem, object_room}
use Rattle.books.proofs.Steps.{tick_moves}
use Rattle.books.proofs.Told.{fresh_idle, fresh_agrees, history_agrees}
use Rattle.books.proofs.Clocks.{Runs, Clocked, some_left, tick_done, clocked_after}

-- The tick itself: it passes by who has more than one left.
pub next_others : (k : Tasks) (w : Waking) (t : ℕ) → t < 32 → Good w.line.seat → Left w.line.seat (wake_next k w t).line.seat t
unfolding wake_next
next_others k w t h good = wake_left w.line good (get_or k.suspended t false) (get_or k.priority t 0) t h

module _ (k : Tasks) (l : Line) (u i : ℕ) (hi : i < objects_end) (more : get_or l.left u 0 ≡ 1 → ⊥) where
  due_spares : (n t : ℕ) (w : Waking) → n + t ≤ 32 → Good w.line.seat → In w.line.seat (queue_seats i) u → In (wake_due k l n t w).line.seat (queue_seats i) u
  unfolding wake_due
  due_spares zero t w h good at = at
  due_spares (suc n) t w h good at =
      tested (λ (v : Waking). In v.line.seat (queue_seats i) u) (is_due l t) _ _
      (λ d. let step : Left w.line.seat (wake_next k w t).line.seat t = next_others k w t (omega arith) good in
      due_spares n (suc t) (wake_next k w t) (omega arith) step.good
      (step.others i hi u (λ e. more (ap (λ (v : ℕ). get_or l.left v 0) e ∙ due_has_one l t d)) at))
      (λ d. due_spares n (suc t) w (omega arith) good at)

-- all of a wake list have its status
pub wakes_as_lem : (n k : ℕ) (tasks : List ℕ) (why z : ℕ) → wakes_as why (wakes_from n k tasks why) z ≡ wakes (wakes_from n k tasks why) z
unfolding pick
wakes_as_lem zero k tasks why z = refl
wakes_as_lem (suc n) k tasks why z = go (eqb (get_or tasks k 0) z) (eqb why why) (eq-eqb why why refl) _ _ (wakes_as_lem n (suc k) tasks why z)
  where
    go : (b c : Bool) → c ≡ true → (r q : Bool) → r ≡ q → pick (b && c) true r ≡ pick b true q
    go true c e r q d = picked_yes c true r e
    go false c e r q d = d

module _ (s : State) (ok : Sound s) where
  tick_spares : (i : ℕ) → i < objects_end → (t : ℕ) → WaitsFor s i t → (get_or s.line.left t 0 ≡ 1 → ⊥) → WaitsFor (tick s).state i t
  unfolding tick wakes_with
  tick_spares i h t w more = due_spares s.tasks s.line t i h more 32 0 (none_woken (ticked s.line)) (omega arith) (good s ok) w

  as_woken : (z : ℕ) → wakes_as TIME_OUT (wake_list (tick s)) z ≡ wakes (wake_list (tick s)) z
  unfolding tick wakes_with
  as_woken z = wakes_as_lem (tick s).woken 0 (tick s).wakes TIME_OUT z

  -- a waiter with one tick left is woken, and no other
  module _ (i : ℕ) (h : i < objects_end) (t : ℕ) (w : WaitsFor s i t) where
    abbrev left : ℕ
    left = get_or s.line.left t 0

    one_woken : left ≡ 1 → wakes (wake_list (tick s)) (task_id s t) ≡ true
    one_woken e =
        ⊎_elim
        (λ b. absurd (some_left (tick s).state (tick_sound s ok) i h t b (tick_takes_one s t (λ f. omega (arith, e, f)) ∙ omega (arith, e))))
        (λ b. b)
        ((tick_moves s ok).leave.went i h t w)

    more_spared : (left ≡ 1 → ⊥) → wakes (wake_list (tick s)) (task_id s t) ≡ false
    more_spared ne = (tick_moves s ok).leave.gone i h t (tick_spares i h t w ne)

-- when the next tick is the last
ends_yes : (past : List Turn) (z left : ℕ) → Runs (time_out_of past z) (ticks_since past z) left → left ≡ 1 → ends_next past z ≡ true
unfolding ends_next
ends_yes past z left r e =
    ⊎_elim
    (λ a. absurd (omega (arith, a.1, e)))
    (λ a. both _ _ (not_of_false _ (ne_eqb (time_out_of past z) FOREVER (λ f. omega (arith, a.1, f)))) (eq-eqb (ticks_since past z + 1) (time_out_of past z) (omega (arith, a.0, e))))
    r

ends_no : (past : List Turn) (z left : ℕ) → Runs (time_out_of past z) (ticks_since past z) left → (left ≡ 1 → ⊥) → ends_next past z ≡ false
unfolding ends_next
ends_no past z left r ne =
    ⊎_elim
    (λ a. first_fails _ _ (not_of_true _ (eq-eqb (time_out_of past z) FOREVER a.0)))
    (λ a. second_fails (not (eqb (time_out_of past z) FOREVER)) _ (ne_eqb (ticks_since past z + 1) (time_out_of past z) (λ f. ne (omega (arith, a.0, f)))))
    r

-- "For any history from a fresh state"
module _ (p : ℕ) (h : p ≤ 15) (xs : List Event) where
  abbrev now : State
  now = after (fresh_state p) xs

  abbrev past : List Turn
  past = past_of p xs

  pub history_clocked : Clocked now past
  history_clocked =
      clocked_after p (fresh_state p) (fresh_sound p h) xs [] no_arrivals (fresh_agrees p h)
      (record { runs = λ kind i hi t w. absurd (fresh_idle p h (object_of kind i) (object_room kind i hi) t w) })

  -- task z waits, for whichever semaphore or queue
  module _ (kind : Kind) (id z : ℕ) (waits : has (waiters_for kind past id) z ≡ true) where
    who : WaiterOf kind now id z
    who = (waiters_of_lem (history_agrees p h xs) kind).off id z waits

    abbrev o : ℕ
    o = object_of kind who.slot

    at_object : o < objects_end
    at_object = object_room kind who.slot who.room

    runs : Runs (time_out_of past z) (ticks_since past z) (get_or now.line.left who.task 0)
    runs =
        subst (λ (v : ℕ). Runs (time_out_of past v) (ticks_since past v) (get_or now.line.left who.task 0)) (sym who.who)
        (history_clocked.runs kind who.slot who.room who.task who.waits)

    -- while it waits there were fewer ticks than its time_out
    pub time_runs : (time_out_of past z ≡ FOREVER → ⊥) → ticks_since past z < time_out_of past z
    time_runs ne =
        let some = some_left now (end_sound p h xs) o at_object who.task who.waits in
        ⊎_elim (λ e. absurd (ne e.0)) (λ e. less (get_or now.line.left who.task 0) some e.0) runs
      where
        less : (v : ℕ) → (v ≡ 0 → ⊥) → v + ticks_since past z ≡ time_out_of past z → ticks_since past z < time_out_of past z
        less zero left e = absurd (left refl)
        less (suc v) left e = omega (arith, e)

    tick-wakes : wakes (wake_list (tick now)) z ≡ ends_next past z
    tick-wakes =
        let at = who.waits in
        ap (wakes (wake_list (tick now))) who.who
        ∙ ⊎_elim
        (λ e. one_woken now (end_sound p h xs) o at_object who.task at e ∙ sym (ends_yes past z _ runs e))
        (λ ne. more_spared now (end_sound p h xs) o at_object who.task at ne ∙ sym (ends_no past z _ runs ne))
        (eq_or_not (get_or now.line.left who.task 0) 1)

    -- the next tick wakes it with 13 exactly if it is the n-th since its claim or receive, n being its time_out
    module _ (x : Event) (at : x.call ≡ 0) (done : (answer_to now x).status ≡ OK) where
      pub ends_at_its_tick : wakes_as TIME_OUT (reply_of (answer_to now x)).wakes z ≡ ends_next past z
      ends_at_its_tick =
          ap (λ (a : Answer). wakes_as TIME_OUT (wake_list a) z) (tick_done now x at done) ∙ as_woken now (end_sound p h xs) z ∙ tick-wakes

      -- so at no other one
      pub at_the_n_th : wakes_as TIME_OUT (reply_of (answer_to now x)).wakes z ≡ true → ticks_since past z + 1 ≡ time_out_of past z
      unfolding ends_next
      at_the_n_th e = eqb-true _ _ (both_true (not (eqb (time_out_of past z) FOREVER)) _ (sym ends_at_its_tick ∙ e)).1

      -- and FOREVER at none
      pub never_forever : time_out_of past z ≡ FOREVER → wakes_as TIME_OUT (reply_of (answer_to now x)).wakes z ≡ false
      unfolding ends_next
      never_forever e = ends_at_its_tick ∙ first_fails _ _ (not_of_true _ (eq-eqb (time_out_of past z) FOREVER e))
