-- Every answer of a call is done, pending, or a refusal that gives the state back, and its status stands in the call's row: each
-- deed is one of the three.
-- Assumes nothing.
use Prim.Native.Nat.{ℕ, ◌<◌}
use mathlib.Core.Path.{◌≡◌, refl, ap, ◌∙◌}
use mathlib.Core.Logic.{◌⊎◌, inl, inr}
use mathlib.Core.Bool.{true}
use mathlib.Core.List.{List}
use Rattle.scope.specs.declared.State.{State}
use Rattle.scope.specs.declared.Answer.{Answer}
use Rattle.scope.specs.Statuses.{OK, PENDING}
use Rattle.scope.specs.Answers.{answer, plain, shows, wakes_with, delivers_to}
use Rattle.scope.specs.Semaphores.{sem_delete_at}
use Rattle.scope.specs.Queues.{queue_delete_at}
use Rattle.scope.specs.Ticks.{tick}
use Rattle.scope.specs.Calls.{known_calls, call_at}
use Rattle.scope.specs.Step.{answered}
use Rattle.histories.specs.History.{Event}
pub use Rattle.histories.proofs.Callers.{has, fits, listed_broken, unknown}
use Rattle.histories.proofs.Callers.{listed_done}
use Rattle.histories.proofs.Deeds.{Deed, refused, tells, tasks_change, task_moves, sems_change, pools_change, caller_waits, first_woken, sem_deleted, time_passes, deed}
use Rattle.histories.proofs.Deeds.{queues_change, receiver_waits, delivered, queue_deleted}

-- an answer to a call that was made on state s and whose row lists these statuses
pub record Outcome (s : State) (row : List ℕ) (a : Answer) : Type 0 where
  pub listed : fits row a.status ≡ true
  pub kind : (a.status ≡ OK) ⊎ ((a.status ≡ PENDING) ⊎ (a ≡ plain s a.status))

module _ (s : State) (x : Event) (below : x.call < known_calls) where
  abbrev row : List ℕ
  row = (call_at x.call).statuses

  done : {a : Answer} → a.status ≡ OK → Outcome s row a
  done d = record { listed = ap (fits row) d ∙ listed_done x.call below; kind = inl d }

  outcome : {a : Answer} → Deed s x a → Outcome s row a
  unfolding plain answer shows wakes_with delivers_to sem_delete_at queue_delete_at tick
  outcome (refused status e f listed) = record { listed = listed below; kind = inr (inr refl) }
  outcome (tells call at e v0 v1 v2 v3 negative) = done refl
  outcome (tasks_change c) = done refl
  outcome (task_moves c) = done refl
  outcome (sems_change c) = done refl
  outcome (pools_change c) = done refl
  outcome (caller_waits at i e f g time) = record { listed = ap (λ (c : ℕ). fits (call_at c).statuses PENDING) at; kind = inr (inl refl) }
  outcome (first_woken at i e f) = done refl
  outcome (sem_deleted at i e) = done refl
  outcome (queues_change c) = done refl
  outcome (receiver_waits at i e f g time) = record { listed = ap (λ (c : ℕ). fits (call_at c).statuses PENDING) at; kind = inr (inl refl) }
  outcome (delivered c i e f g) = done refl
  outcome (queue_deleted at i e) = done refl
  outcome (time_passes at) = done refl

-- the answer on a state that keeps the rules
pub answered_outcome : (call : ℕ) → call < known_calls → (s : State) (mark a b c d e : ℕ) (m : List ℕ) → Outcome s (call_at call).statuses (answered s call mark a b c d e m)
answered_outcome call below s mark a b c d e m =
    let x : Event = record { call = call; mark = mark; a = a; b = b; c = c; d = d; e = e; message = m } in
    outcome s x below (deed s x)
