-- Where the claim of M-111 does not hold, a queue by priority, and what it says where it does, of three histories: computed from the
-- definitions.
-- Assumes nothing.
use Prim.Native.Nat.{ℕ}
use native.Mathlib.Omega.{arith}
use mathlib.Core.Path.{◌≡◌, refl, ap, ◌∙◌}
use mathlib.Core.List.{List, [], ◌∷◌}
use lib.Count.{count_leading_zeros}
use Rattle.scope.specs.Choice.{pick, least, number, bits}
use Rattle.scope.specs.Identifiers.{found, usable, lowest_usable}
use Rattle.scope.specs.Seats.{waits_on, on_seat, stands_in, standing, lower, leaves, raise, later_of, ahead_of, joins, holds_task, mask_filled, mask_emptied, mask_left, rings_left, rings_ready, runner_of}
use Rattle.scope.specs.Views.{ready_with, less, running_task}
use Rattle.scope.specs.Answers.{answer, plain, gives, wakes_with, shows, delivers_to, on_found}
use Rattle.scope.specs.Tasks.{task_found, task_create_at, task_create, task_start_at, task_suspend_at, task_set_priority_at}
use Rattle.scope.specs.Waiting.{woken_seats, woken_rings, wake, wake_next, is_time_out, queue_key, waits}
use Rattle.scope.specs.Semaphores.{sem_create_at, sem_create, sem_wait_at, sem_claim_at, sem_release_at}
use Rattle.scope.specs.Messages.{shown_of, cell_of}
use Rattle.scope.specs.Queues.{are_limits, queue_create_at, queue_create, fits_queue, queue_put_at, queue_wait_at, queue_receive_at}
use Rattle.scope.specs.Ticks.{time_left, times_left, is_due, wake_due, tick}
use Rattle.scope.specs.Fresh.{fresh_state}
use Rattle.scope.specs.Calls.{may_call}
use Rattle.scope.specs.Step.{caller_refusal, answered}
use Rattle.scope.specs.declared.State.{State}
use Rattle.scope.specs.declared.Answer.{Answer}
use Rattle.scope.specs.Replies.{reply_of}
use Rattle.cases.proofs.Quick.{quick_step}
use Rattle.histories.specs.Sound.{Sound}
use Rattle.histories.specs.History.{Event}
use Rattle.histories.proofs.Stays.{sound_stays}
use Rattle.histories.proofs.Fresh.{fresh_sound}
use Rattle.books.specs.Past.{Turn, past_from, past_of, is_answer, is_answer_of, creates}
use Rattle.books.specs.Waiting.{done_to, pends_on, ends_wait}
use Rattle.fifo.specs.Places.{leaves_ungranted, grants_to}
use Rattle.fifo_cases.specs.Shown.{by_priority, after_one, after_two, before_third, after_third, after_delivery, Place, place, Shown}

-- the turns, without the test of the state at each step: sound stays sound
abbrev quick_past : List Turn → State → List Event → List Turn
quick_past past s [] = past
quick_past past s (x ∷ xs) =
    let a : Answer = answered s x.call x.mark x.a x.b x.c x.d x.e x.message in
    quick_past (record { event = x; reply = reply_of a } ∷ past) a.state xs

quick_past_lem : (past : List Turn) (s : State) → Sound s → (xs : List Event) → past_from past s xs ≡ quick_past past s xs
quick_past_lem past s ok [] = refl
quick_past_lem past s ok (x ∷ xs) =
    let b : Answer = answered s x.call x.mark x.a x.b x.c x.d x.e x.message in
    ap (λ (a : Answer). past_from (record { event = x; reply = reply_of a } ∷ past) a.state xs)
    (quick_step s ok x.call x.mark x.a x.b x.c x.d x.e x.message)
    ∙ quick_past_lem (record { event = x; reply = reply_of b } ∷ past) b.state (sound_stays s ok x.call x.mark x.a x.b x.c x.d x.e x.message) xs

told : (xs : List Event) (id t : ℕ) (v : Place) → place (quick_past [] (fresh_state 5) xs) id t ≡ v → place (past_of 5 xs) id t ≡ v
told xs id t v e = ap (λ (past : List Turn). place past id t) (quick_past_lem [] (fresh_state 5) (fresh_sound 5 (omega arith)) xs) ∙ e

pub all_shown : Shown
unfolding pick least number bits count_leading_zeros found usable lowest_usable waits_on on_seat stands_in standing lower leaves raise later_of ahead_of joins holds_task mask_filled mask_emptied mask_left rings_left rings_ready runner_of ready_with less running_task answer plain gives wakes_with shows delivers_to on_found task_found task_create_at task_create task_start_at woken_seats woken_rings wake wake_next is_time_out queue_key waits sem_create_at sem_create sem_wait_at sem_claim_at sem_release_at fresh_state may_call caller_refusal answered is_answer is_answer_of creates done_to pends_on ends_wait task_suspend_at task_set_priority_at time_left times_left is_due wake_due tick leaves_ungranted grants_to shown_of cell_of are_limits queue_create_at queue_create fits_queue queue_put_at queue_wait_at queue_receive_at
all_shown =
    record {
      shows_by_priority = told by_priority 64 64 _ refl;
      one_release = told after_one 64 64 _ refl;
      two_releases = told after_two 64 64 _ refl;
      shows_before_third = told before_third 64 68 _ refl;
      shows_after_third = told after_third 64 68 _ refl;
      shows_after_delivery = told after_delivery 64 65 _ refl;
    }
