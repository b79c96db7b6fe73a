-- "Release: .. the first leaves, woken with OK: that is its grant": in the answer to any other call nobody is woken with 0, unless it
-- delivers a message (M-100) and says so, and a refusal wakes nobody. Each deed wakes nobody, or wakes with a status that is not 0, or
-- delivers.
-- Assumes nothing.
use Prim.Native.Nat.{ℕ, zero, suc}
use native.Mathlib.Omega.{arith}
use mathlib.Core.Path.{◌≡◌, refl, sym, subst, ap, ◌∙◌}
use mathlib.Core.Logic.{◌⊎◌, inl, inr, ⊎_elim}
use mathlib.Core.Bool.{true, false, ◌&&◌}
use mathlib.Core.List.{List, [], ◌∷◌}
use lib.Dec.{eqb}
use borrow.Author.Tests.{ne_eqb, eqb-false}
use Rattle.scope.specs.declared.State.{State}
use Rattle.scope.specs.declared.Answer.{Answer}
use Rattle.scope.specs.Statuses.{OK, PENDING}
use Rattle.scope.specs.Answers.{answer, plain, bad_state, shows, wakes_with, delivers_to}
use Rattle.scope.specs.Replies.{Wake, wakes_from, wake_list, reply_of}
use Rattle.scope.specs.Semaphores.{sem_delete_at}
use Rattle.scope.specs.Queues.{queue_delete_at}
use Rattle.scope.specs.Ticks.{tick}
use Rattle.laws.proofs.Branches.{first_fails, true_or_false, picked_yes, picked_no}
use Rattle.histories.specs.History.{Event, answer_to}
use Rattle.histories.proofs.Refusals.{refusal}
use Rattle.histories.proofs.Deeds.{Deed, refused, tells, tasks_change, task_moves, sems_change, pools_change, queues_change, caller_waits, first_woken, sem_deleted}
use Rattle.histories.proofs.Deeds.{receiver_waits, delivered, queue_deleted, time_passes, by_deed}
use Rattle.books.specs.Past.{Turn}
use Rattle.books.specs.Waiting.{claimed, granted_to, wakes_grant}
use Rattle.books.specs.Told.{NoGrant}

woken_other : (n k : ℕ) (tasks : List ℕ) (why : ℕ) → (why ≡ OK → ⊥) → NoGrant (wakes_from n k tasks why)
woken_other zero k tasks why ne = record {}
woken_other (suc n) k tasks why ne = (ne, woken_other n (suc k) tasks why ne)

-- what is no grant of semaphore id, and what is a turn's wakes' grant of it
module _ (past : List Turn) (id : ℕ) where
  none_granted : (ws : List Wake) → NoGrant ws → granted_to past id ws ≡ 0
  none_granted [] n = refl
  none_granted (w ∷ ws) n =
      omega (arith, picked_no {A = ℕ} (eqb w.status OK && eqb (claimed past w.task) id) 1 0 (first_fails _ _ (ne_eqb _ _ n.0)), none_granted ws n.1)

  pub wakes_all : (y : Turn) → y.reply.delivers ≡ false → wakes_grant past id y ≡ granted_to past id y.reply.wakes
  unfolding wakes_grant
  wakes_all y e = picked_no _ _ _ e

  pub wakes_none : (y : Turn) → (y.reply.delivers ≡ true) ⊎ NoGrant y.reply.wakes → wakes_grant past id y ≡ 0
  unfolding wakes_grant
  wakes_none y h =
      ⊎_elim
      (λ e. picked_yes _ _ _ e)
      (λ n. ⊎_elim (λ e. picked_yes _ _ _ e) (λ e. wakes_all y e ∙ none_granted y.reply.wakes n) (true_or_false y.reply.delivers))
      h

  pub wakes_nobody : (y : Turn) → y.reply.wakes ≡ [] → wakes_grant past id y ≡ 0
  wakes_nobody y e = wakes_none y (inr (subst NoGrant (sym e) (record {})))

-- nobody is woken, or with another status, or a message is delivered
record Spares (a : Answer) : Type 0 where
  kind : (a.delivers ≡ true) ⊎ ((a.woken ≡ 0) ⊎ (eqb a.why OK ≡ false))

pub nobody : (n : ℕ) → n ≡ 0 → (tasks : List ℕ) (why : ℕ) → wakes_from n 0 tasks why ≡ []
nobody n e tasks why = ap (λ (m : ℕ). wakes_from m 0 tasks why) e

spares_none : (a : Answer) → Spares a → (a.delivers ≡ true) ⊎ NoGrant (wake_list a)
spares_none a h =
    ⊎_elim inl
    (λ k. inr (⊎_elim
    (λ e. subst NoGrant (sym (nobody a.woken e a.wakes a.why)) (record {}))
    (λ e. woken_other a.woken 0 a.wakes a.why (eqb-false a.why OK e))
    k))
    h.kind

module _ (s : State) where
  by_kind : (x : Event) → (x.call ≡ 12 → ⊥) → {a : Answer} → Deed s x a → Spares a
  unfolding plain answer shows wakes_with delivers_to sem_delete_at queue_delete_at tick
  by_kind x other (refused status e f listed) = record { kind = inr (inl refl) }
  by_kind x other (tells call at e v0 v1 v2 v3 negative) = record { kind = inr (inl refl) }
  by_kind x other (tasks_change c) = record { kind = inr (inl refl) }
  by_kind x other (task_moves c) = record { kind = inr (inl refl) }
  by_kind x other (sems_change c) = record { kind = inr (inl refl) }
  by_kind x other (pools_change c) = record { kind = inr (inl refl) }
  by_kind x other (queues_change c) = record { kind = inr (inl refl) }
  by_kind x other (caller_waits at i e f g time) = record { kind = inr (inl refl) }
  by_kind x other (first_woken at i e f) = absurd (other at)
  by_kind x other (sem_deleted at i e) = record { kind = inr (inr refl) }
  by_kind x other (receiver_waits at i e f g time) = record { kind = inr (inl refl) }
  by_kind x other (delivered c i e f g) = record { kind = inl refl }
  by_kind x other (queue_deleted at i e) = record { kind = inr (inr refl) }
  by_kind x other (time_passes at) = record { kind = inr (inr refl) }

  spares : (x : Event) → (x.call ≡ 12 → ⊥) → Spares (answer_to s x)
  unfolding bad_state
  spares x other = by_deed s x Spares (λ a d. by_kind x other d) (λ h. record { kind = inr (inl refl) })

  -- only a release grants by waking: any other answer that wakes with 0 delivers a message, and tells so
  pub only_releases_grant : (x : Event) → (x.call ≡ 12 → ⊥)
      → ((reply_of (answer_to s x)).delivers ≡ true) ⊎ NoGrant (reply_of (answer_to s x)).wakes
  only_releases_grant x other = spares_none (answer_to s x) (spares x other)

  -- and a refused call wakes nobody
  pub refusals_wake_none : (x : Event) → ((answer_to s x).status ≡ OK → ⊥) → ((answer_to s x).status ≡ PENDING → ⊥) → (reply_of (answer_to s x)).wakes ≡ []
  refusals_wake_none x done pending =
      nobody _ (refusal s x.call x.mark x.a x.b x.c x.d x.e x.message done pending).woken _ _
