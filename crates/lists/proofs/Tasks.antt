-- The task calls on a sound state, over the paper's lists: who becomes ready is inserted behind all of equal or higher priority, who
-- is suspended or deleted is taken out, set_priority on a ready task takes it out and puts it in again, and nobody else moves.
-- Assumes nothing.
use Prim.Native.Nat.{ℕ, ◌≤◌, ◌<◌}
use native.Mathlib.Omega.{arith}
use mathlib.Core.Path.{◌≡◌, refl, ◌∙◌}
use mathlib.Core.Bool.{true, false}
use lib.ListN.{get_or}
use lib.Dec.{ltb}
use borrow.Author.Tests.{ltb-true, not-true}
use Rattle.scope.specs.declared.State.{State}
use Rattle.scope.specs.declared.Answer.{Answer}
use Rattle.scope.specs.Lists.{without}
use Rattle.scope.specs.Seats.{first_ring, becomes_ready, waits_on, queue, ready_order}
use Rattle.scope.specs.Objects.{objects_end, objects_of}
use Rattle.scope.specs.Views.{ready_with, is_ready}
use Rattle.scope.specs.Answers.{answer, plain, gives}
use Rattle.scope.specs.Tasks.{task_delete_at, task_start_at, task_suspend_at, task_resume_at, task_set_priority_at}
use Rattle.scope.proofs.Rows.{by_choice}
use Rattle.laws.proofs.Branches.{true-false, both_true}
use Rattle.histories.specs.Sound.{Sound}
use Rattle.histories.proofs.Moves.{off_nowhere, idle_nowhere}
use Rattle.histories.proofs.Staying.{Good}
use Rattle.lists.specs.Rules.{ready_of, queue_in}
use Rattle.lists.specs.Calls.{ListsAfter, made_ready}
use Rattle.lists.proofs.Leaving.{leaves-queue, leaves_order}
use Rattle.lists.proofs.Joining.{ready_order_lem, ready_queue}
use Rattle.lists.proofs.Ready.{order_says}
use Rattle.lists.proofs.Again.{Own, again_order, again_queue, off_queue, good_line, own_line, range_below}
use Rattle.lists.proofs.Sound.{order_holds}

-- a sound state's seats
module _ (s : State) (ok : Sound s) where
  good_seats : Good s.line.seat
  good_seats = good_line s.line s.tasks (objects_of s) ok.line

  own_seats : Own s.line.seat s.tasks.priority
  own_seats = own_line s.line s.tasks (objects_of s) ok.line

  ready_high : (t : ℕ) → is_ready s.line s.tasks t ≡ true → first_ring ≤ get_or s.line.seat t 0
  ready_high t r = let a = order_says s.line.seat t (order_holds s ok t ∙ r) in omega (arith, a.2)

  -- a task that stood nowhere is put in
  came_order : (t : ℕ) → t < 32 → get_or s.line.seat t 0 ≡ 0
      → ready_order (becomes_ready s.line.seat s.line.joined t (get_or s.tasks.priority t 0)) ≡ made_ready s.tasks (get_or s.tasks.priority t 0) t (ready_of s)
  came_order t room z =
      ready_order_lem s.line.seat s.line.joined s.tasks.priority t (get_or s.tasks.priority t 0) ok.line.queues room z own_seats (range_below s.tasks ok.tasks t room)

  came_queue : (t : ℕ) → t < 32 → get_or s.line.seat t 0 ≡ 0 → (i : ℕ) → i < objects_end
      → queue (becomes_ready s.line.seat s.line.joined t (get_or s.tasks.priority t 0)) i ≡ queue_in s i
  came_queue t room z =
      ready_queue s.line.seat s.line.joined s.tasks.priority t (get_or s.tasks.priority t 0) ok.line.queues room z own_seats

  -- the calls, of the task in slot t
  module _ (t : ℕ) (room : t < 32) where
    abbrev p : ℕ
    p = get_or s.tasks.priority t 0

    abbrev Same : Answer → Type 0
    Same a = ListsAfter a (ready_of s) (queue_in s)

    abbrev Comes : Answer → Type 0
    Comes a = ListsAfter a (made_ready s.tasks p t (ready_of s)) (queue_in s)

    pub task_start_lists : get_or s.tasks.started t false ≡ false
        → ListsAfter (task_start_at s t) (made_ready s.tasks p t (ready_of s)) (queue_in s)
    unfolding task_start_at plain answer
    task_start_lists e =
        by_choice Comes (get_or s.tasks.started t false) (λ y. absurd (true-false y e))
        (λ n. let z : get_or s.line.seat t 0 ≡ 0 = (idle_nowhere s.line s.tasks (objects_of s) ok.line t room e).seat in
        record { ready = came_order t room z; waiting = came_queue t room z })

    -- one that doesn't wait
    pub task_resume_lists : get_or s.tasks.started t false ≡ true → get_or s.tasks.suspended t false ≡ true
        → waits_on (get_or s.line.seat t 0) ≡ false
        → ListsAfter (task_resume_at s t) (made_ready s.tasks p t (ready_of s)) (queue_in s)
    unfolding task_resume_at plain answer
    task_resume_lists e f g =
        by_choice Comes _ (λ y. absurd (true-false e (not-true _ y)))
        (λ y. by_choice Comes _ (λ u. absurd (true-false f (not-true _ u)))
        (λ u. by_choice Comes (waits_on (get_or s.line.seat t 0)) (λ w. absurd (true-false w g))
        (λ w. let z : get_or s.line.seat t 0 ≡ 0 = (off_nowhere s.line s.tasks (objects_of s) ok.line t room g f).seat in
        record { ready = came_order t room z; waiting = came_queue t room z })))

    -- "A suspended waiter keeps its place"
    pub resume_waiter_lists : waits_on (get_or s.line.seat t 0) ≡ true → ListsAfter (task_resume_at s t) (ready_of s) (queue_in s)
    unfolding task_resume_at plain answer
    resume_waiter_lists g =
        by_choice Same _ (λ y. record { ready = refl; waiting = λ i h. refl })
        (λ y. by_choice Same _ (λ u. record { ready = refl; waiting = λ i h. refl })
        (λ u. by_choice Same (waits_on (get_or s.line.seat t 0)) (λ w. record { ready = refl; waiting = λ i h. refl })
        (λ w. absurd (true-false g w))))

    pub suspend_waiter_lists : waits_on (get_or s.line.seat t 0) ≡ true → ListsAfter (task_suspend_at s t) (ready_of s) (queue_in s)
    unfolding task_suspend_at plain answer
    suspend_waiter_lists g =
        by_choice Same _ (λ y. record { ready = refl; waiting = λ i h. refl })
        (λ y. by_choice Same _ (λ u. record { ready = refl; waiting = λ i h. refl })
        (λ u. by_choice Same (waits_on (get_or s.line.seat t 0)) (λ w. record { ready = refl; waiting = λ i h. refl })
        (λ w. absurd (true-false g w))))

    flags : is_ready s.line s.tasks t ≡ true
        → (get_or s.tasks.started t false ≡ true) × (get_or s.tasks.suspended t false ≡ false) × (waits_on (get_or s.line.seat t 0) ≡ false)
    unfolding ready_with
    flags r = let a = both_true _ _ r in let b = both_true _ _ a.1 in (a.0, not-true _ b.0, not-true _ b.1)

    pub task_suspend_lists : is_ready s.line s.tasks t ≡ true → ListsAfter (task_suspend_at s t) (without t (ready_of s)) (queue_in s)
    unfolding task_suspend_at plain answer
    task_suspend_lists r =
        let Out : Answer → Type 0 = λ a. ListsAfter a (without t (ready_of s)) (queue_in s) in
        by_choice Out _ (λ y. absurd (true-false (flags r).0 (not-true _ y)))
        (λ y. by_choice Out (get_or s.tasks.suspended t false) (λ u. absurd (true-false u (flags r).1))
        (λ u. by_choice Out (waits_on (get_or s.line.seat t 0)) (λ w. absurd (true-false w (flags r).2))
        (λ w. record {
          ready = leaves_order s.line.seat ok.line.queues good_seats.low t;
          waiting = λ i h. leaves-queue s.line.seat ok.line.queues good_seats.low t i ∙ off_queue s.line.seat t i h (ready_high t r);
        })))

    pub task_delete_lists : ListsAfter (task_delete_at s t) (without t (ready_of s)) (λ i. without t (queue_in s i))
    unfolding task_delete_at plain answer
    task_delete_lists =
        record {
          ready = leaves_order s.line.seat ok.line.queues good_seats.low t;
          waiting = λ i h. leaves-queue s.line.seat ok.line.queues good_seats.low t i;
        }

    -- "set_priority on a ready task takes it out and puts it in again, even for the same priority."
    pub set_priority_lists : (priority : ℕ) → priority ≤ 15 → is_ready s.line s.tasks t ≡ true
        → ListsAfter (task_set_priority_at s priority t) (made_ready s.tasks priority t (without t (ready_of s))) (queue_in s)
    unfolding task_set_priority_at gives plain answer
    set_priority_lists priority h r =
        let Again : Answer → Type 0 = λ a. ListsAfter a (made_ready s.tasks priority t (without t (ready_of s))) (queue_in s) in
        by_choice Again (ltb 15 priority) (λ y. absurd (omega (arith, ltb-true 15 priority y, h)))
        (λ y. by_choice Again (is_ready s.line s.tasks t)
        (λ w. record {
          ready = again_order s.line.seat s.line.joined s.tasks.priority good_seats own_seats t room priority (omega (arith, h));
          waiting = λ i l.
              again_queue s.line.seat s.line.joined s.tasks.priority good_seats own_seats t room priority i l
              ∙ off_queue s.line.seat t i l (ready_high t r);
        })
        (λ w. absurd (true-false r w)))

    -- "a later set_priority moves nobody in a queue", nor anybody else who is not ready
    pub set_other_lists : (priority : ℕ) → is_ready s.line s.tasks t ≡ false
        → ListsAfter (task_set_priority_at s priority t) (ready_of s) (queue_in s)
    unfolding task_set_priority_at gives plain answer
    set_other_lists priority r =
        by_choice Same (ltb 15 priority) (λ y. record { ready = refl; waiting = λ i h. refl })
        (λ y. by_choice Same (is_ready s.line s.tasks t) (λ w. absurd (true-false w r))
        (λ w. record { ready = refl; waiting = λ i h. refl }))
