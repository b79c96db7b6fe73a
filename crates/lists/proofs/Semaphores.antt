-- The semaphore calls on a sound state, over the paper's lists: delete wakes the queue, from its first to its last; release wakes its
-- first; a claim answered PENDING takes the caller out of the ready order and puts it in the queue, by the queue's rule.
-- Assumes nothing.
use Prim.Native.Nat.{ℕ, ◌<◌, ◌-◌}
use native.Mathlib.Omega.{arith}
use mathlib.Core.Path.{◌≡◌, refl, sym, subst, ap, ◌∙◌}
use mathlib.Core.Bool.{Bool, true, false, not, ◌&&◌}
use mathlib.Core.List.{List, [], ◌∷◌, map}
use lib.ListN.{get_or}
use lib.Dec.{ltb, leb, eqb}
use borrow.Author.Tests.{ltb-true, lt-ltb, leb-true}
use Rattle.scope.specs.declared.State.{State}
use Rattle.scope.specs.declared.Answer.{Answer}
use Rattle.scope.specs.declared.Semaphores.{Semaphores}
use Rattle.scope.specs.Lists.{without}
use Rattle.scope.specs.Statuses.{OK, PENDING, INVALID_PARAMETER, INVALID_OPTIONS, SEMAPHORE_NOT_AVAILABLE, SEMAPHORE_DELETED, NO_CALLER}
use Rattle.scope.specs.Seats.{queue_seats, first_standing}
use Rattle.scope.specs.Objects.{objects_end}
use Rattle.scope.specs.Answers.{answer, plain, wakes_with}
use Rattle.scope.specs.Views.{with_semaphores}
use Rattle.scope.specs.Replies.{wake_list}
use Rattle.scope.specs.Waiting.{is_time_out, wake_next, none_woken}
use Rattle.scope.specs.Semaphores.{with_units, sem_delete_at, sem_wait_at, sem_claim_at, sem_release_at}
use Rattle.scope.proofs.Rows.{by_choice}
use Rattle.laws.proofs.Branches.{first_fails, not_of_true, picked_yes, picked_no}
use Rattle.histories.specs.Sound.{Sound}
use Rattle.histories.proofs.Objects.{sem_fifo}
use Rattle.lists.specs.Rules.{ready_of, queue_in}
use Rattle.lists.specs.Calls.{ListsAfter, joined_by, with_queue, woken_into, all_woken_into, wake_of}
use Rattle.lists.proofs.Waiting.{delete_wakes, delete_lists, first, some, first_wakes, first_lists, none, wait_lists}

module _ (s : State) (ok : Sound s) (i : ℕ) (hi : i < 16) where
  within : i < objects_end
  within = omega arith

  -- "Delete wakes all waiters in queue order with 11."
  pub sem_delete_wakes : wake_list (sem_delete_at s i) ≡ map (wake_of s.tasks SEMAPHORE_DELETED) (queue_in s i)
  unfolding sem_delete_at wakes_with
  sem_delete_wakes = delete_wakes s ok i within SEMAPHORE_DELETED

  pub sem_delete_lists : ListsAfter (sem_delete_at s i) (all_woken_into s.tasks (queue_in s i) (ready_of s)) (with_queue (queue_in s) i [])
  unfolding sem_delete_at wakes_with
  sem_delete_lists = delete_lists s ok i within (sem_delete_at s i) refl

  -- "If there were waiters the first leaves, woken with OK: that is its grant."
  module _ (t : ℕ) (ts : List ℕ) (e : queue_in s i ≡ t ∷ ts) where
    abbrev granted : Answer
    granted = wakes_with s (wake_next s.tasks (none_woken s.line) t) OK

    grants : sem_release_at s i ≡ granted
    unfolding sem_release_at
    grants =
        let h : ltb (first_standing s.line.seat (queue_seats i)) 32 ≡ true = lt-ltb _ _ (some s ok i within t ts e) in
        picked_no _ _ _ (first_fails (not (ltb (first_standing s.line.seat (queue_seats i)) 32)) _ (not_of_true _ h))
        ∙ picked_yes (ltb (first_standing s.line.seat (queue_seats i)) 32) _ _ h
        ∙ ap (λ (u : ℕ). wakes_with s (wake_next s.tasks (none_woken s.line) u) OK) (first s ok i within t ts e)

    granted_wakes : wake_list granted ≡ wake_of s.tasks OK t ∷ []
    unfolding wakes_with
    granted_wakes = first_wakes s ok i within t ts e OK

    granted_lists : ListsAfter granted (woken_into s.tasks t (ready_of s)) (with_queue (queue_in s) i ts)
    unfolding wakes_with
    granted_lists = first_lists s ok i within t ts e granted refl

    pub sem_release_wakes : wake_list (sem_release_at s i) ≡ wake_of s.tasks OK t ∷ []
    sem_release_wakes = ap wake_list grants ∙ granted_wakes

    pub sem_release_lists : ListsAfter (sem_release_at s i) (woken_into s.tasks t (ready_of s)) (with_queue (queue_in s) i ts)
    sem_release_lists =
        subst (λ (a : Answer). ListsAfter a (woken_into s.tasks t (ready_of s)) (with_queue (queue_in s) i ts)) (sym grants) granted_lists

  -- nobody waits: nobody moves
  pub sem_release_empty : queue_in s i ≡ [] → (wake_list (sem_release_at s i) ≡ []) × ListsAfter (sem_release_at s i) (ready_of s) (queue_in s)
  unfolding sem_release_at plain answer
  sem_release_empty e =
      let Still : Answer → Type 0 = λ a. (wake_list a ≡ []) × ListsAfter a (ready_of s) (queue_in s) in
      by_choice Still _ (λ z. (refl, record { ready = refl; waiting = λ j h. refl }))
      (λ z. by_choice Still (ltb (first_standing s.line.seat (queue_seats i)) 32)
      (λ y. absurd (omega (arith, none s ok i within e, ltb-true (first_standing s.line.seat (queue_seats i)) 32 y)))
      (λ y. (refl, record { ready = refl; waiting = λ j h. refl })))

  -- "below 0 the caller joins the queue"
  module _ (run : s.running < 32) where
    abbrev t : ℕ
    t = s.running

    abbrev p : ℕ
    p = get_or s.tasks.priority t 0

    abbrev fifo : Bool
    fifo = get_or s.semaphores.fifo i false

    -- the lists when it has joined
    abbrev Joined : Answer → Type 0
    Joined a = ListsAfter a (without t (ready_of s)) (with_queue (queue_in s) i (joined_by fifo s.line.joined p t (queue_in s i)))

    joins_lists : (ticks : ℕ) → Joined (sem_wait_at s ticks i)
    unfolding sem_wait_at plain answer
    joins_lists ticks =
        by_choice Joined (leb 32 t) (λ y. absurd (omega (arith, run, leb-true 32 t y)))
        (λ y. wait_lists s ok i within run fifo (sem_fifo s.semaphores s.queues i hi) ticks _ refl)

    abbrev Pends : Answer → Type 0
    Pends a = a.status ≡ PENDING → Joined a

    pub sem_claim_lists : (options ticks : ℕ) → (sem_claim_at s options ticks i).status ≡ PENDING
        → ListsAfter (sem_claim_at s options ticks i) (without t (ready_of s)) (with_queue (queue_in s) i (joined_by fifo s.line.joined p t (queue_in s i)))
    unfolding sem_claim_at plain answer
    sem_claim_lists options ticks =
        by_choice Pends (ltb 1 options) (λ y e. absurd (omega (arith, e)))
        (λ y. by_choice Pends (eqb options 0 && not (is_time_out ticks)) (λ z e. absurd (omega (arith, e)))
        (λ z. by_choice Pends (eqb options 1 && not (ltb 0 (get_or s.semaphores.units i 0))) (λ w e. absurd (omega (arith, e)))
        (λ w. by_choice Pends (ltb 0 (get_or s.semaphores.units i 0)) (λ v e. absurd (omega (arith, e))) (λ v e. joins_lists ticks))))

  -- a claim that is not answered PENDING moves nobody
  abbrev Stays : Answer → Type 0
  Stays a = (a.status ≡ PENDING → ⊥) → ListsAfter a (ready_of s) (queue_in s)

  -- (the units of a semaphore are no list of tasks)
  still : (k : Semaphores) (x : ℕ) → Stays (plain (with_semaphores s k) x)
  unfolding plain answer
  still k x e = record { ready = refl; waiting = λ j h. refl }

  wait_stays : (ticks : ℕ) → Stays (sem_wait_at s ticks i)
  unfolding sem_wait_at plain answer
  wait_stays ticks = by_choice Stays (leb 32 s.running) (λ r. still s.semaphores NO_CALLER) (λ r e. absurd (e refl))

  pub sem_claim_stays : (options ticks : ℕ) → ((sem_claim_at s options ticks i).status ≡ PENDING → ⊥) → ListsAfter (sem_claim_at s options ticks i) (ready_of s) (queue_in s)
  unfolding sem_claim_at
  sem_claim_stays options ticks =
      by_choice Stays (ltb 1 options) (λ y. still s.semaphores INVALID_OPTIONS)
      (λ y. by_choice Stays (eqb options 0 && not (is_time_out ticks)) (λ z. still s.semaphores INVALID_PARAMETER)
      (λ z. by_choice Stays (eqb options 1 && not (ltb 0 (get_or s.semaphores.units i 0))) (λ w. still s.semaphores SEMAPHORE_NOT_AVAILABLE)
      (λ w. by_choice Stays (ltb 0 (get_or s.semaphores.units i 0)) (λ v. still (with_units s.semaphores i (get_or s.semaphores.units i 0 - 1)) OK)
      (λ v. wait_stays ticks))))
