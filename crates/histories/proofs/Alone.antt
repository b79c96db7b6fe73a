-- What a call leaves alone: only sem_create, sem_delete, sem_claim and sem_release change semaphores, only pool_create, pool_delete,
-- pool_get_buff and pool_ret_buff change pools, and only queue_create, queue_delete, queue_send, queue_jump and queue_receive change
-- queues. A part of the state, by the deeds that may touch it.
-- Assumes nothing.
use Prim.Native.Nat.{ℕ}
use mathlib.Core.Path.{◌≡◌, refl, ◌∙◌}
use mathlib.Core.List.{List}
use Rattle.scope.specs.declared.State.{State}
use Rattle.scope.specs.declared.Line.{Line}
use Rattle.scope.specs.declared.Tasks.{Tasks}
use Rattle.scope.specs.declared.Semaphores.{Semaphores}
use Rattle.scope.specs.declared.Pools.{Pools}
use Rattle.scope.specs.declared.Queues.{Queues}
use Rattle.scope.specs.declared.Answer.{Answer}
use Rattle.scope.specs.Views.{with_line, with_tasks, with_semaphores, with_pools, with_queues}
use Rattle.scope.specs.Answers.{answer, plain, bad_state, shows, wakes_with, delivers_to}
use Rattle.scope.specs.Semaphores.{sem_delete_at}
use Rattle.scope.specs.Queues.{queue_delete_at}
use Rattle.scope.specs.Ticks.{tick}
use Rattle.histories.specs.History.{Event, answer_to}
use Rattle.histories.proofs.Deeds.{SemChange, sem_created, unit_claimed, unit_released, PoolChange, pool_created, pool_deleted, buffer_got, buffer_returned}
use Rattle.histories.proofs.Deeds.{sends, jumps, QueueChange, queue_created, message_put, message_received}
use Rattle.histories.proofs.Deeds.{Deed, refused, tells, tasks_change, task_moves, sems_change, pools_change, caller_waits, first_woken, sem_deleted, time_passes, by_deed}
use Rattle.histories.proofs.Deeds.{queues_change, receiver_waits, delivered, queue_deleted}

-- a part of the state that depends neither on the tasks' table nor on who stands where, and that the tables' changes spare
module _ {A : Type 0} (part : State → A) (s : State) (x : Event) (tasks : (r : State) (k : Tasks) → part (with_tasks r k) ≡ part r)
    (lines : (r : State) (l : Line) → part (with_line r l) ≡ part r)
    (sems : (m : Semaphores) (v : ℕ) → SemChange s x m v → part (with_semaphores s m) ≡ part s)
    (gone : x.call ≡ 9 → (m : Semaphores) → part (with_semaphores s m) ≡ part s)
    (pools : (p : Pools) (v : ℕ) → PoolChange s x p v → part (with_pools s p) ≡ part s)
    (queues : (u : Queues) (v : ℕ) (shown : List ℕ) → QueueChange s x u v shown → part (with_queues s u) ≡ part s)
    (dropped : x.call ≡ 21 → (u : Queues) → part (with_queues s u) ≡ part s) where
  deed_spares : {a : Answer} → Deed s x a → part a.state ≡ part s
  unfolding plain answer shows wakes_with delivers_to sem_delete_at queue_delete_at tick
  deed_spares (refused status e f listed) = refl
  deed_spares (tells call at e v0 v1 v2 v3 negative) = refl
  deed_spares (tasks_change c) = tasks s _
  deed_spares (task_moves {k} c) = lines (with_tasks s k) _ ∙ tasks s k
  deed_spares (sems_change c) = sems _ _ c
  deed_spares (pools_change c) = pools _ _ c
  deed_spares (caller_waits at i e f g time) = lines s _
  deed_spares (first_woken at i e f) = lines s _
  deed_spares (sem_deleted at i e) = lines (with_semaphores s _) _ ∙ gone at _
  deed_spares (queues_change c) = queues _ _ _ c
  deed_spares (receiver_waits at i e f g time) = lines s _
  deed_spares (delivered c i e f g) = lines s _
  deed_spares (queue_deleted at i e) = lines (with_queues s _) _ ∙ dropped at _
  deed_spares (time_passes at) = lines s _

  pub spared : part (answer_to s x).state ≡ part s
  unfolding bad_state
  spared = by_deed s x (λ a. part a.state ≡ part s) (λ a d. deed_spares d) (λ h. refl)

module _ (s : State) where
  abbrev pub SameSemaphores : Answer → Type 0
  SameSemaphores a = a.state.semaphores ≡ s.semaphores

  abbrev pub SamePools : Answer → Type 0
  SamePools a = a.state.pools ≡ s.pools

  -- x is none of these four calls
  abbrev pub Spared : Event → ℕ → ℕ → ℕ → ℕ → Type 0
  Spared x a b c d = (x.call ≡ a → ⊥) × (x.call ≡ b → ⊥) × (x.call ≡ c → ⊥) × (x.call ≡ d → ⊥)

  module _ (x : Event) where
    not_sems : {m : Semaphores} {v : ℕ} → SemChange s x m v → Spared x 8 9 11 12 → ⊥
    not_sems (sem_created at e f g) n = n.0 at
    not_sems (unit_claimed at i e f) n = n.2 at
    not_sems (unit_released at i e f g) n = n.3 at

    not_pools : {p : Pools} {v : ℕ} → PoolChange s x p v → Spared x 14 15 17 18 → ⊥
    not_pools (pool_created at e f g h j) n = n.0 at
    not_pools (pool_deleted at i e f) n = n.1 at
    not_pools (buffer_got at i e f) n = n.2 at
    not_pools (buffer_returned at i e f) n = n.3 at

    not_queues : {u : Queues} {v : ℕ} {shown : List ℕ} → QueueChange s x u v shown → (x.call ≡ 20 → ⊥) → Spared x 21 23 24 25 → ⊥
    not_queues (queue_created at e f g) new n = new at
    not_queues (message_put (sends at) i e f g h) new n = n.1 at
    not_queues (message_put (jumps at) i e f g h) new n = n.2 at
    not_queues (message_received at i e f) new n = n.3 at

    -- only sem_create, sem_delete, sem_claim and sem_release change semaphores
    pub semaphores_alone : Spared x 8 9 11 12 → SameSemaphores (answer_to s x)
    semaphores_alone n =
        spared (λ r. r.semaphores) s x (λ r k. refl) (λ r l. refl) (λ m v c. absurd (not_sems c n)) (λ at m. absurd (n.1 at)) (λ p v c. refl)
        (λ u v w c. refl) (λ at u. refl)

    -- only pool_create, pool_delete, pool_get_buff and pool_ret_buff change pools
    pub pools_alone : Spared x 14 15 17 18 → SamePools (answer_to s x)
    pools_alone n =
        spared (λ r. r.pools) s x (λ r k. refl) (λ r l. refl) (λ m v c. refl) (λ at m. refl) (λ p v c. absurd (not_pools c n))
        (λ u v w c. refl) (λ at u. refl)

    -- only queue_create, queue_delete, queue_send, queue_jump and queue_receive change queues
    pub queues_alone : (x.call ≡ 20 → ⊥) → Spared x 21 23 24 25 → (answer_to s x).state.queues ≡ s.queues
    queues_alone new n =
        spared (λ r. r.queues) s x (λ r k. refl) (λ r l. refl) (λ m v c. refl) (λ at m. refl) (λ p v c. refl)
        (λ u v w c. absurd (not_queues c new n)) (λ at u. absurd (n.0 at))
