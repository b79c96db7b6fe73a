-- The queue calls of M-100 on a sound state, over the paper's lists: delete wakes the queue, from its first to its last; a message goes
-- to the first of those that wait, sent or jumped; a receive answered PENDING takes the caller out of the ready order and puts it in the
-- queue, by the queue's rule. No other answer moves anybody.
-- Assumes nothing.
use Prim.Native.Nat.{ℕ, ◌<◌}
use native.Mathlib.Omega.{arith}
use mathlib.Core.Path.{◌≡◌, refl, sym, subst, ap, ◌∙◌}
use mathlib.Core.Logic.{◌⊎◌, ⊎_elim}
use mathlib.Core.Bool.{Bool, true, false, not, ◌&&◌}
use mathlib.Core.List.{List, [], ◌∷◌, map}
use lib.ListN.{get_or}
use lib.Dec.{ltb, leb, eqb}
use borrow.Author.Tests.{ltb-true, lt-ltb, leb-true}
use Rattle.scope.specs.declared.State.{State}
use Rattle.scope.specs.declared.Answer.{Answer}
use Rattle.scope.specs.Lists.{without}
use Rattle.scope.specs.Statuses.{OK, PENDING, QUEUE_DELETED}
use Rattle.scope.specs.Objects.{objects_end, queue_object}
use Rattle.scope.specs.Answers.{answer, plain, shows, wakes_with, delivers_to}
use Rattle.scope.specs.Replies.{wake_list}
use Rattle.scope.specs.Waiting.{is_time_out, wake_next, none_woken}
use Rattle.scope.specs.Messages.{Store, shown_of}
use Rattle.scope.specs.Queues.{longest_of, held_of, fits_queue, first_receiver, queue_delete_at, queue_put_at, queue_wait_at, queue_receive_at}
use Rattle.scope.proofs.Rows.{by_choice}
use Rattle.laws.proofs.Branches.{true-false, not_of_true, not_of_false, picked_yes, picked_no}
use Rattle.histories.specs.Sound.{Sound}
use Rattle.histories.proofs.Objects.{queue_fifo}
use Rattle.lists.specs.Rules.{ready_of, queue_in}
use Rattle.lists.specs.Calls.{ListsAfter, joined_by, with_queue, woken_into, all_woken_into, wake_of}
use Rattle.lists.proofs.Waiting.{delete_wakes, delete_lists, first, some, first_wakes, first_lists, none, wait_lists}

module _ (s : State) (ok : Sound s) (i : ℕ) (hi : i < 8) where
  abbrev o : ℕ
  o = queue_object i

  within : o < objects_end
  within = omega arith

  -- "Delete .. wakes waiters in order.": 30, "to woken tasks"
  pub queue_delete_wakes : wake_list (queue_delete_at s i) ≡ map (wake_of s.tasks QUEUE_DELETED) (queue_in s o)
  unfolding queue_delete_at wakes_with
  queue_delete_wakes = delete_wakes s ok o within QUEUE_DELETED

  pub queue_delete_lists : ListsAfter (queue_delete_at s i) (all_woken_into s.tasks (queue_in s o) (ready_of s)) (with_queue (queue_in s) o [])
  unfolding queue_delete_at wakes_with
  queue_delete_lists = delete_lists s ok o within (queue_delete_at s i) refl

  -- a send, or a jump, of a message
  module _ (put : Store → ℕ → List ℕ → Store) (n : ℕ) (message : List ℕ) where
    abbrev putting : Answer
    putting = queue_put_at put s n message i

    -- "A message goes to the first waiter"
    module _ (fits : fits_queue (longest_of s.queues i) n message ≡ true) (t : ℕ) (ts : List ℕ) (e : queue_in s o ≡ t ∷ ts) where
      abbrev handed : Answer
      handed = delivers_to s (wake_next s.tasks (none_woken s.line) t) n (shown_of message n)

      pub delivery_first : putting ≡ handed
      unfolding queue_put_at
      delivery_first =
          picked_no _ _ _ (not_of_true _ fits)
          ∙ picked_yes (ltb (first_receiver s i) 32) _ _ (lt-ltb _ _ (some s ok o within t ts e))
          ∙ ap (λ (u : ℕ). delivers_to s (wake_next s.tasks (none_woken s.line) u) n (shown_of message n)) (first s ok o within t ts e)

      handed_wakes : wake_list handed ≡ wake_of s.tasks OK t ∷ []
      unfolding delivers_to
      handed_wakes = first_wakes s ok o within t ts e OK

      handed_lists : ListsAfter handed (woken_into s.tasks t (ready_of s)) (with_queue (queue_in s) o ts)
      unfolding delivers_to
      handed_lists = first_lists s ok o within t ts e handed refl

      pub delivery_wakes : wake_list putting ≡ wake_of s.tasks OK t ∷ []
      delivery_wakes = ap wake_list delivery_first ∙ handed_wakes

      pub delivery_lists : ListsAfter putting (woken_into s.tasks t (ready_of s)) (with_queue (queue_in s) o ts)
      delivery_lists =
          subst (λ (a : Answer). ListsAfter a (woken_into s.tasks t (ready_of s)) (with_queue (queue_in s) o ts)) (sym delivery_first) handed_lists

    -- nobody is woken, and nobody moves
    abbrev Still : Answer → Type 0
    Still a = (wake_list a ≡ []) × ListsAfter a (ready_of s) (queue_in s)

    -- where nobody waits, or the message does not fit (27)
    pub put_still : (queue_in s o ≡ []) ⊎ (fits_queue (longest_of s.queues i) n message ≡ false) → Still putting
    unfolding queue_put_at plain answer
    put_still why =
        by_choice Still _ (λ z. (refl, record { ready = refl; waiting = λ j h. refl }))
        (λ z. by_choice Still (ltb (first_receiver s i) 32)
        (λ y. ⊎_elim
        (λ e. absurd (omega (arith, none s ok o within e, ltb-true (first_receiver s i) 32 y)))
        (λ e. absurd (true-false (not_of_false _ e) z))
        why)
        (λ y. by_choice Still _ (λ w. (refl, record { ready = refl; waiting = λ j h. refl })) (λ w. (refl, record { ready = refl; waiting = λ j h. refl }))))

  -- a receive that finds no message: the caller joins the queue
  module _ (run : s.running < 32) where
    abbrev t : ℕ
    t = s.running

    abbrev fifo : Bool
    fifo = get_or s.queues.fifo i false

    abbrev Joined : Answer → Type 0
    Joined a = ListsAfter a (without t (ready_of s)) (with_queue (queue_in s) o (joined_by fifo s.line.joined (get_or s.tasks.priority t 0) t (queue_in s o)))

    joins_lists : (ticks : ℕ) → Joined (queue_wait_at s ticks i)
    unfolding queue_wait_at plain answer
    joins_lists ticks =
        by_choice Joined (leb 32 t) (λ y. absurd (omega (arith, run, leb-true 32 t y)))
        (λ y. wait_lists s ok o within run fifo (queue_fifo s.semaphores s.queues i) ticks _ refl)

    abbrev Pends : Answer → Type 0
    Pends a = a.status ≡ PENDING → Joined a

    pub queue_receive_lists : (options ticks : ℕ) → (queue_receive_at s options ticks i).status ≡ PENDING
        → ListsAfter (queue_receive_at s options ticks i) (without t (ready_of s))
        (with_queue (queue_in s) o (joined_by fifo s.line.joined (get_or s.tasks.priority t 0) t (queue_in s o)))
    unfolding queue_receive_at shows plain answer
    queue_receive_lists options ticks =
        by_choice Pends (ltb 1 options) (λ y e. absurd (omega (arith, e)))
        (λ y. by_choice Pends (eqb options 0 && not (is_time_out ticks)) (λ z e. absurd (omega (arith, e)))
        (λ z. by_choice Pends (ltb 0 (held_of s.queues i)) (λ w e. absurd (omega (arith, e)))
        (λ w. by_choice Pends (eqb options 1) (λ v e. absurd (omega (arith, e))) (λ v e. joins_lists ticks))))

  -- a receive that is not answered PENDING moves nobody
  abbrev Stays : Answer → Type 0
  Stays a = (a.status ≡ PENDING → ⊥) → ListsAfter a (ready_of s) (queue_in s)

  same : (x : ℕ) → Stays (plain s x)
  unfolding plain answer
  same x e = record { ready = refl; waiting = λ j h. refl }

  wait_stays : (ticks : ℕ) → Stays (queue_wait_at s ticks i)
  unfolding queue_wait_at plain answer
  wait_stays ticks = by_choice Stays (leb 32 s.running) (λ r. same _) (λ r e. absurd (e refl))

  pub queue_receive_stays : (options ticks : ℕ) → ((queue_receive_at s options ticks i).status ≡ PENDING → ⊥)
      → ListsAfter (queue_receive_at s options ticks i) (ready_of s) (queue_in s)
  unfolding queue_receive_at shows plain answer
  queue_receive_stays options ticks =
      by_choice Stays (ltb 1 options) (λ y. same _)
      (λ y. by_choice Stays (eqb options 0 && not (is_time_out ticks)) (λ z. same _)
      (λ z. by_choice Stays (ltb 0 (held_of s.queues i)) (λ w e. record { ready = refl; waiting = λ j h. refl })
      (λ w. by_choice Stays (eqb options 1) (λ v. same _) (λ v. wait_stays ticks))))
