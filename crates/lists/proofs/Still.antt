-- All but thirteen calls move nobody: after a step the ready order and the queues are what they were, whatever the call's number. A walk
-- over the call table, by the calls' choices; none touches where tasks stand.
-- Assumes nothing.
use Prim.Native.Nat.{ℕ, ◌+◌}
use native.Mathlib.Omega.{arith}
use mathlib.Core.Path.{◌≡◌, refl, subst}
use mathlib.Core.Bool.{Bool, true, false}
use mathlib.Core.List.{List}
use lib.Dec.{eqb}
use Rattle.scope.specs.declared.State.{State}
use Rattle.scope.specs.declared.Answer.{Answer}
use Rattle.scope.specs.declared.Tasks.{Tasks}
use Rattle.scope.specs.declared.Semaphores.{Semaphores}
use Rattle.scope.specs.declared.Pools.{Pools}
use Rattle.scope.specs.declared.Queues.{Queues}
use Rattle.scope.specs.declared.Found.{Found}
use Rattle.scope.specs.Choice.{pick}
use Rattle.scope.specs.Statuses.{OK, BAD_CALL}
use Rattle.scope.specs.Lists.{has}
use Rattle.scope.specs.Views.{with_tasks, with_semaphores, with_pools, with_queues}
use Rattle.scope.specs.Answers.{answer, plain, gives, bad_state, on_found}
use Rattle.scope.specs.Tasks.{task_create_at, task_create, task_ident_at, task_ident}
use Rattle.scope.specs.Semaphores.{sem_create_at, sem_create, sem_ident_at, sem_ident, sem_info_at}
use Rattle.scope.specs.Pools.{pool_create_at, pool_create, pool_delete_at, pool_ident_at, pool_ident, pool_get_buffer, pool_get_buff_at, pool_ret_buffer, pool_ret_buff_at, pool_info_at}
use Rattle.scope.specs.Queues.{queue_create_at, queue_create, queue_ident_at, queue_ident, queue_info_at}
use Rattle.scope.specs.Rules.{sound}
use Rattle.scope.specs.Calls.{Call, calls, call_at}
use Rattle.scope.specs.Step.{caller_refusal, answered, stepped}
use Rattle.scope.proofs.Rows.{Rows, none, more, row_at, by_choice, branch, by_name}
use Rattle.laws.proofs.Branches.{true-false}
use Rattle.lists.specs.Rules.{ready_of, queue_in}
use Rattle.lists.specs.Calls.{ListsAfter, movers}

module _ (s : State) where
  -- the lists are what they were
  abbrev pub Still : Answer → Type 0
  Still a = ListsAfter a (ready_of s) (queue_in s)

  -- an answer whose state has the same line
  same : (x : ℕ) → Still (plain s x)
  unfolding plain answer
  same x = record { ready = refl; waiting = λ i h. refl }

  told : (v : ℕ) → Still (gives s v)
  unfolding gives answer
  told v = record { ready = refl; waiting = λ i h. refl }

  born_task : (k : Tasks) (v : ℕ) → Still (gives (with_tasks s k) v)
  unfolding gives answer
  born_task k v = record { ready = refl; waiting = λ i h. refl }

  born_semaphore : (m : Semaphores) (v : ℕ) → Still (gives (with_semaphores s m) v)
  unfolding gives answer
  born_semaphore m v = record { ready = refl; waiting = λ i h. refl }

  changed_pools : (p : Pools) (v : ℕ) → Still (gives (with_pools s p) v)
  unfolding gives answer
  changed_pools p v = record { ready = refl; waiting = λ i h. refl }

  born_queue : (u : Queues) (v : ℕ) → Still (gives (with_queues s u) v)
  unfolding gives answer
  born_queue u v = record { ready = refl; waiting = λ i h. refl }

  done_pools : (p : Pools) (x : ℕ) → Still (plain (with_pools s p) x)
  unfolding plain answer
  done_pools p x = record { ready = refl; waiting = λ i h. refl }

  informed : (x v0 v1 v2 v3 : ℕ) (negative : Bool) → Still (answer s x v0 v1 v2 v3 negative)
  unfolding answer
  informed x v0 v1 v2 v3 negative = record { ready = refl; waiting = λ i h. refl }

  task_create_still : (name priority : ℕ) → Still (task_create s name priority)
  unfolding task_create task_create_at
  task_create_still name priority =
      by_choice Still _ (λ y. same _) (λ n. by_choice Still _ (λ y. same _) (λ n. born_task _ _))

  task_ident_still : (name : ℕ) → Still (task_ident s name)
  unfolding task_ident task_ident_at
  task_ident_still name = by_choice Still _ (λ y. same _) (λ n. told _)

  sem_create_still : (name count options : ℕ) → Still (sem_create s name count options)
  unfolding sem_create sem_create_at
  sem_create_still name count options =
      by_choice Still _ (λ y. same _)
      (λ n. by_choice Still _ (λ y. same _) (λ n. by_choice Still _ (λ y. same _) (λ n. born_semaphore _ _)))

  sem_ident_still : (name : ℕ) → Still (sem_ident s name)
  unfolding sem_ident sem_ident_at
  sem_ident_still name = by_choice Still _ (λ y. same _) (λ n. told _)

  sem_info_still : (i : ℕ) → Still (sem_info_at s i)
  unfolding sem_info_at
  sem_info_still i = informed _ _ _ _ _ _

  pool_create_still : (name address length size options : ℕ) → Still (pool_create s name address length size options)
  unfolding pool_create pool_create_at
  pool_create_still name address length size options =
      by_choice Still _ (λ y. same _)
      (λ n. by_choice Still _ (λ y. same _)
      (λ n. by_choice Still _ (λ y. same _)
      (λ n. by_choice Still _ (λ y. same _) (λ n. by_choice Still _ (λ y. same _) (λ n. changed_pools _ _)))))

  pool_delete_still : (i : ℕ) → Still (pool_delete_at s i)
  unfolding pool_delete_at
  pool_delete_still i = by_choice Still _ (λ y. same _) (λ n. done_pools _ _)

  pool_ident_still : (name : ℕ) → Still (pool_ident s name)
  unfolding pool_ident pool_ident_at
  pool_ident_still name = by_choice Still _ (λ y. same _) (λ n. told _)

  pool_get_still : (i : ℕ) → Still (pool_get_buff_at s i)
  unfolding pool_get_buff_at pool_get_buffer
  pool_get_still i = by_choice Still _ (λ y. same _) (λ n. changed_pools _ _)

  pool_ret_still : (x i : ℕ) → Still (pool_ret_buff_at s x i)
  unfolding pool_ret_buff_at pool_ret_buffer
  pool_ret_still x i = by_choice Still _ (λ y. same _) (λ n. done_pools _ _)

  pool_info_still : (i : ℕ) → Still (pool_info_at s i)
  unfolding pool_info_at
  pool_info_still i = informed _ _ _ _ _ _

  queue_create_still : (name most longest options : ℕ) → Still (queue_create s name most longest options)
  unfolding queue_create queue_create_at
  queue_create_still name most longest options =
      by_choice Still _ (λ y. same _)
      (λ n. by_choice Still _ (λ y. same _) (λ n. by_choice Still _ (λ y. same _) (λ n. born_queue _ _)))

  queue_ident_still : (name : ℕ) → Still (queue_ident s name)
  unfolding queue_ident queue_ident_at
  queue_ident_still name = by_choice Still _ (λ y. same _) (λ n. told _)

  queue_info_still : (i : ℕ) → Still (queue_info_at s i)
  unfolding queue_info_at
  queue_info_still i = informed _ _ _ _ _ _

  module _ (a b c d e : ℕ) (m : List ℕ) where
    abbrev Row : ℕ → Call → Type 0
    Row k row = has movers k ≡ false → Still (row.does s a b c d e m)

    -- a row of the table that moves tasks is not asked
    moved : {P : Type 0} → true ≡ false → P
    moved n = absurd (true-false refl n)

    named : (o : Found) (f : ℕ → Answer) → ((i : ℕ) → Still (f i)) → Still (on_found o s f)
    named o f g = by_name Still s (λ x n. same x) o f (λ i h. g i)

    rows : Rows Row 0 calls
    unfolding pick
    rows =
        more (λ n. moved n)
        (more (λ n. task_create_still a b)
        (more (λ n. moved n)
        (more (λ n. task_ident_still a)
        (more (λ n. moved n)
        (more (λ n. moved n)
        (more (λ n. moved n)
        (more (λ n. moved n)
        (more (λ n. sem_create_still a b c)
        (more (λ n. moved n)
        (more (λ n. sem_ident_still a)
        (more (λ n. moved n)
        (more (λ n. moved n)
        (more (λ n. named _ _ sem_info_still)
        (more (λ n. pool_create_still a b c d e)
        (more (λ n. named _ _ pool_delete_still)
        (more (λ n. pool_ident_still a)
        (more (λ n. named _ _ pool_get_still)
        (more (λ n. named _ _ (pool_ret_still b))
        (more (λ n. named _ _ pool_info_still)
        (more (λ n. queue_create_still a b c d)
        (more (λ n. moved n)
        (more (λ n. queue_ident_still a)
        (more (λ n. moved n)
        (more (λ n. moved n)
        (more (λ n. moved n)
        (more (λ n. named _ _ queue_info_still)
        none))))))))))))))))))))))))))

    still_row : (call : ℕ) → has movers call ≡ false → Still ((call_at call).does s a b c d e m)
    still_row call n =
        row_at Row 0 calls rows (λ k z. same BAD_CALL) call (subst (λ (k : ℕ). has movers k ≡ false) {x = call} {y = 0 + call} (omega arith) n)

    pub moves_nobody : (call mark : ℕ) → has movers call ≡ false → Still (stepped s call mark a b c d e m)
    unfolding stepped answered plain answer bad_state
    moves_nobody call mark n =
        branch Still (sound s) _ _
        (branch Still (eqb (caller_refusal call mark s.running) OK) _ _ (still_row call n) (same _))
        (record { ready = refl; waiting = λ i h. refl })
