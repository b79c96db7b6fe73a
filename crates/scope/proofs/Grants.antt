-- "If there were waiters the first leaves, woken with OK: that is its grant." No other call grants: whatever its state and its
-- arguments, it wakes nobody, or (a tick, a sem_delete, a queue_delete) those whom it wakes with a status that is not OK, or (a
-- queue_send, a queue_jump) it delivers a message, and says so. A walk over the call table.
-- Assumes nothing.
use Prim.Native.Nat.{ℕ, zero, suc}
use native.Mathlib.Omega.{arith}
use mathlib.Core.Bool.{true}
use mathlib.Core.Path.{◌≡◌, refl}
use mathlib.Core.Logic.{◌⊎◌, inl, inr}
use mathlib.Core.List.{List, [], ◌∷◌}
use lib.Dec.{eqb}
use Rattle.scope.specs.declared.State.{State}
use Rattle.scope.specs.declared.Answer.{Answer}
use Rattle.scope.specs.declared.Found.{Found}
use Rattle.scope.specs.Statuses.{OK}
use Rattle.scope.specs.Answers.{answer, plain, gives, bad_state, shows, wakes_with, delivers_to, on_found}
use Rattle.scope.specs.Replies.{Wake, wakes_from, wake_list}
use Rattle.scope.specs.Tasks.{task_create_at, task_create, task_delete_at, task_ident_at, task_ident, task_start_at, task_suspend_at, task_resume_at, task_set_priority_at}
use Rattle.scope.specs.Semaphores.{sem_create_at, sem_create, sem_delete_at, sem_ident_at, sem_ident, sem_wait_at, sem_claim_at, sem_info_at}
use Rattle.scope.specs.Pools.{pool_create_at, pool_create, pool_delete_at, pool_ident_at, pool_ident, pool_get_buffer, pool_get_buff_at, pool_ret_buffer, pool_ret_buff_at, pool_info_at}
use Rattle.scope.specs.Messages.{Store, appended, pushed}
use Rattle.scope.specs.Queues.{queue_create_at, queue_create, queue_delete_at, queue_ident_at, queue_ident, queue_put_at, queue_wait_at, queue_receive_at, queue_info_at}
use Rattle.scope.specs.Ticks.{tick}
use Rattle.scope.specs.Calls.{Call, calls, call_at}
use Rattle.scope.specs.Step.{caller_refusal, answered, stepped}
use Rattle.scope.specs.Rules.{sound}
use Rattle.scope.proofs.Rows.{Rows, none, more, row_at, either, branch, by_name}

-- nobody on the list is woken with OK
abbrev pub Ungranted : List Wake → Type 0
Ungranted [] = Unit
Ungranted (w ∷ ws) = (w.status ≡ OK → ⊥) × Ungranted ws

-- a delivery is no grant: what is told of it tells the message
abbrev pub GrantsNobody : Answer → Type 0
GrantsNobody a = (a.delivers ≡ true) ⊎ Ungranted (wake_list a)

-- nobody is woken, or with another status, or a message is delivered. (A type of its own: a chain of refusals is then compared by
-- its answer alone, not once for each part.)
data Quiet (a : Answer) : Type 0 where
  wakes_nobody : a.woken ≡ 0 → Quiet a
  not_granted : (a.why ≡ OK → ⊥) → Quiet a
  delivered : a.delivers ≡ true → Quiet a

ungranted : (a : Answer) → Quiet a → GrantsNobody a
ungranted a (wakes_nobody e) = inr (rw e tt)
ungranted a (delivered e) = inl e
ungranted a (not_granted n) = inr (go a.woken 0)
  where
    go : (m k : ℕ) → Ungranted (wakes_from m k a.wakes a.why)
    go zero k = tt
    go (suc m) k = (n, go m (suc k))

module _ (s : State) where
  named : (o : Found) (f : ℕ → Answer) → ((i : ℕ) → Quiet (f i)) → Quiet (on_found o s f)
  unfolding plain answer
  named o f g = by_name Quiet s (λ status e. wakes_nobody refl) o f (λ i e. g i)

  quiet_tick : Quiet (tick s)
  unfolding tick wakes_with
  quiet_tick = not_granted (λ e. omega arith)

  quiet_delete : (i : ℕ) → Quiet (sem_delete_at s i)
  unfolding sem_delete_at wakes_with
  quiet_delete i = not_granted (λ e. omega arith)

  quiet_task_create : (name priority : ℕ) → Quiet (task_create s name priority)
  unfolding task_create task_create_at plain gives answer
  quiet_task_create name priority = either Quiet _ (wakes_nobody refl) (either Quiet _ (wakes_nobody refl) (wakes_nobody refl))

  quiet_task_delete : (t : ℕ) → Quiet (task_delete_at s t)
  unfolding task_delete_at plain answer
  quiet_task_delete t = wakes_nobody refl

  quiet_task_ident : (name : ℕ) → Quiet (task_ident s name)
  unfolding task_ident task_ident_at plain gives answer
  quiet_task_ident name = either Quiet _ (wakes_nobody refl) (wakes_nobody refl)

  quiet_start : (t : ℕ) → Quiet (task_start_at s t)
  unfolding task_start_at plain answer
  quiet_start t = either Quiet _ (wakes_nobody refl) (wakes_nobody refl)

  quiet_suspend : (t : ℕ) → Quiet (task_suspend_at s t)
  unfolding task_suspend_at plain answer
  quiet_suspend t = either Quiet _ (wakes_nobody refl) (either Quiet _ (wakes_nobody refl) (either Quiet _ (wakes_nobody refl) (wakes_nobody refl)))

  quiet_resume : (t : ℕ) → Quiet (task_resume_at s t)
  unfolding task_resume_at plain answer
  quiet_resume t = either Quiet _ (wakes_nobody refl) (either Quiet _ (wakes_nobody refl) (either Quiet _ (wakes_nobody refl) (wakes_nobody refl)))

  quiet_set_priority : (priority t : ℕ) → Quiet (task_set_priority_at s priority t)
  unfolding task_set_priority_at plain gives answer
  quiet_set_priority priority t = either Quiet _ (wakes_nobody refl) (either Quiet _ (wakes_nobody refl) (wakes_nobody refl))

  quiet_sem_create : (name count options : ℕ) → Quiet (sem_create s name count options)
  unfolding sem_create sem_create_at plain gives answer
  quiet_sem_create name count options = either Quiet _ (wakes_nobody refl) (either Quiet _ (wakes_nobody refl) (either Quiet _ (wakes_nobody refl) (wakes_nobody refl)))

  quiet_sem_ident : (name : ℕ) → Quiet (sem_ident s name)
  unfolding sem_ident sem_ident_at plain gives answer
  quiet_sem_ident name = either Quiet _ (wakes_nobody refl) (wakes_nobody refl)

  quiet_claim : (options ticks i : ℕ) → Quiet (sem_claim_at s options ticks i)
  unfolding sem_claim_at sem_wait_at plain answer
  quiet_claim options ticks i =
      either Quiet _ (wakes_nobody refl)
      (either Quiet _ (wakes_nobody refl) (either Quiet _ (wakes_nobody refl) (either Quiet _ (wakes_nobody refl) (either Quiet _ (wakes_nobody refl) (wakes_nobody refl)))))

  quiet_sem_info : (i : ℕ) → Quiet (sem_info_at s i)
  unfolding sem_info_at answer
  quiet_sem_info i = wakes_nobody refl

  quiet_pool_create : (name address length size options : ℕ) → Quiet (pool_create s name address length size options)
  unfolding pool_create pool_create_at plain gives answer
  quiet_pool_create name address length size options =
      either Quiet _ (wakes_nobody refl)
      (either Quiet _ (wakes_nobody refl) (either Quiet _ (wakes_nobody refl) (either Quiet _ (wakes_nobody refl) (either Quiet _ (wakes_nobody refl) (wakes_nobody refl)))))

  quiet_pool_delete : (i : ℕ) → Quiet (pool_delete_at s i)
  unfolding pool_delete_at plain answer
  quiet_pool_delete i = either Quiet _ (wakes_nobody refl) (wakes_nobody refl)

  quiet_pool_ident : (name : ℕ) → Quiet (pool_ident s name)
  unfolding pool_ident pool_ident_at plain gives answer
  quiet_pool_ident name = either Quiet _ (wakes_nobody refl) (wakes_nobody refl)

  quiet_get : (i : ℕ) → Quiet (pool_get_buff_at s i)
  unfolding pool_get_buff_at pool_get_buffer plain gives answer
  quiet_get i = either Quiet _ (wakes_nobody refl) (wakes_nobody refl)

  quiet_return : (x i : ℕ) → Quiet (pool_ret_buff_at s x i)
  unfolding pool_ret_buff_at pool_ret_buffer plain answer
  quiet_return x i = either Quiet _ (wakes_nobody refl) (wakes_nobody refl)

  quiet_pool_info : (i : ℕ) → Quiet (pool_info_at s i)
  unfolding pool_info_at answer
  quiet_pool_info i = wakes_nobody refl

  quiet_queue_create : (name most longest options : ℕ) → Quiet (queue_create s name most longest options)
  unfolding queue_create queue_create_at plain gives answer
  quiet_queue_create name most longest options = either Quiet _ (wakes_nobody refl) (either Quiet _ (wakes_nobody refl) (either Quiet _ (wakes_nobody refl) (wakes_nobody refl)))

  quiet_queue_delete : (i : ℕ) → Quiet (queue_delete_at s i)
  unfolding queue_delete_at wakes_with
  quiet_queue_delete i = not_granted (λ e. omega arith)

  quiet_queue_ident : (name : ℕ) → Quiet (queue_ident s name)
  unfolding queue_ident queue_ident_at plain gives answer
  quiet_queue_ident name = either Quiet _ (wakes_nobody refl) (wakes_nobody refl)

  quiet_put : (put : Store → ℕ → List ℕ → Store) (n : ℕ) (message : List ℕ) (i : ℕ) → Quiet (queue_put_at put s n message i)
  unfolding queue_put_at delivers_to plain answer
  quiet_put put n message i = either Quiet _ (wakes_nobody refl) (either Quiet _ (delivered refl) (either Quiet _ (wakes_nobody refl) (wakes_nobody refl)))

  quiet_receive : (options ticks i : ℕ) → Quiet (queue_receive_at s options ticks i)
  unfolding queue_receive_at queue_wait_at shows plain answer
  quiet_receive options ticks i =
      either Quiet _ (wakes_nobody refl)
      (either Quiet _ (wakes_nobody refl) (either Quiet _ (wakes_nobody refl) (either Quiet _ (wakes_nobody refl) (either Quiet _ (wakes_nobody refl) (wakes_nobody refl)))))

  quiet_queue_info : (i : ℕ) → Quiet (queue_info_at s i)
  unfolding queue_info_at answer
  quiet_queue_info i = wakes_nobody refl

  -- row 12, the release, is the one that is not asked
  module _ (a b c d e : ℕ) (m : List ℕ) where
    abbrev Row : ℕ → Call → Type 0
    Row k row = (k ≡ 12 → ⊥) → Quiet (row.does s a b c d e m)

    rows : Rows Row 0 calls
    rows =
        more (λ n. quiet_tick)
        (more (λ n. quiet_task_create a b)
        (more (λ n. named _ _ quiet_task_delete)
        (more (λ n. quiet_task_ident a)
        (more (λ n. named _ _ quiet_start)
        (more (λ n. named _ _ quiet_suspend)
        (more (λ n. named _ _ quiet_resume)
        (more (λ n. named _ _ (quiet_set_priority b))
        (more (λ n. quiet_sem_create a b c)
        (more (λ n. named _ _ quiet_delete)
        (more (λ n. quiet_sem_ident a)
        (more (λ n. named _ _ (quiet_claim b c))
        (more (λ n. absurd (n refl))
        (more (λ n. named _ _ quiet_sem_info)
        (more (λ n. quiet_pool_create a b c d e)
        (more (λ n. named _ _ quiet_pool_delete)
        (more (λ n. quiet_pool_ident a)
        (more (λ n. named _ _ quiet_get)
        (more (λ n. named _ _ (quiet_return b))
        (more (λ n. named _ _ quiet_pool_info)
        (more (λ n. quiet_queue_create a b c d)
        (more (λ n. named _ _ quiet_queue_delete)
        (more (λ n. quiet_queue_ident a)
        (more (λ n. named _ _ (quiet_put appended b m))
        (more (λ n. named _ _ (quiet_put pushed b m))
        (more (λ n. named _ _ (quiet_receive b c))
        (more (λ n. named _ _ quiet_queue_info)
        none))))))))))))))))))))))))))

    quiet_row : (call : ℕ) → (call ≡ 12 → ⊥) → Quiet ((call_at call).does s a b c d e m)
    unfolding plain answer
    quiet_row call n = row_at Row 0 calls rows (λ k m. wakes_nobody refl) call (λ e. n (omega arith))

    quiet_step : (call mark : ℕ) → (call ≡ 12 → ⊥) → Quiet (stepped s call mark a b c d e m)
    unfolding stepped answered plain answer bad_state
    quiet_step call mark n =
        branch Quiet (sound s) _ _ (branch Quiet (eqb (caller_refusal call mark s.running) OK) _ _ (quiet_row call n) (wakes_nobody refl)) (wakes_nobody refl)

    -- an answer that is not a release's grants nothing
    pub only_releases_grant : (call mark : ℕ) → (call ≡ 12 → ⊥) → GrantsNobody (stepped s call mark a b c d e m)
    only_releases_grant call mark n = ungranted (stepped s call mark a b c d e m) (quiet_step call mark n)
