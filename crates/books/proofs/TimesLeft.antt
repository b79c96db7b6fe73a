-- What an answer that is no tick leaves of the time_outs: each is what it was, or nothing is left of it, or it is the caller's, who asked
-- for it. By the deeds.
-- Assumes nothing.
use Prim.Native.Nat.{ℕ, zero, suc, ◌<◌}
use native.Mathlib.Omega.{arith}
use mathlib.Core.Path.{◌≡◌, refl, ap, ◌∙◌}
use mathlib.Core.Logic.{◌⊎◌, inl, inr, ⊎_elim}
use mathlib.Core.Bool.{Bool, true, false}
use mathlib.Core.List.{List, [], ◌∷◌}
use lib.ListN.{get_or, set}
use lib.Seq.{get_or-set_same, get_or-set_other}
use lib.Dec.{ltb}
use borrow.Author.Tests.{leb-false}
use Rattle.scope.specs.declared.State.{State}
use Rattle.scope.specs.declared.Line.{Line}
use Rattle.scope.specs.declared.Tasks.{Tasks}
use Rattle.scope.specs.declared.Waking.{Waking}
use Rattle.scope.specs.declared.Answer.{Answer}
use Rattle.scope.specs.Statuses.{OK, PENDING}
use Rattle.scope.specs.Seats.{queue_seats, first_standing}
use Rattle.scope.specs.Objects.{queue_object}
use Rattle.scope.specs.Views.{with_line, with_tasks}
use Rattle.scope.specs.Answers.{answer, plain, bad_state, shows, wakes_with, delivers_to}
use Rattle.scope.specs.Waiting.{wake, wake_next, wake_all, none_woken, waits}
use Rattle.scope.specs.Semaphores.{sem_delete_at}
use Rattle.scope.specs.Queues.{queue_delete_at}
use Rattle.scope.specs.Ticks.{tick}
use Rattle.laws.proofs.Branches.{true-false, eq_or_not}
use Rattle.histories.specs.Sound.{Sound}
use Rattle.histories.specs.History.{Event, answer_to}
use Rattle.histories.proofs.Deeds.{TaskMove, task_deleted, task_started, task_suspended, task_resumed, priority_set}
use Rattle.histories.proofs.Deeds.{Deed, refused, tells, tasks_change, task_moves, sems_change, pools_change, queues_change, caller_waits, first_woken, sem_deleted}
use Rattle.histories.proofs.Deeds.{receiver_waits, delivered, queue_deleted, time_passes, by_deed}
use Rattle.books.specs.Past.{is_answer}
use Rattle.books.proofs.Agreeing.{turn_of, is_answer_lem}

-- each number is what it was, or 0
abbrev pub Zeroed : List ℕ → List ℕ → Type 0
Zeroed xs ys = (t : ℕ) → (get_or ys t 0 ≡ get_or xs t 0) ⊎ (get_or ys t 0 ≡ 0)

zeroed_one : (xs : List ℕ) (u : ℕ) → Zeroed xs (set xs u 0)
zeroed_one [] u t = inl refl
zeroed_one (x ∷ xs) zero zero = inr refl
zeroed_one (x ∷ xs) zero (suc t) = inl refl
zeroed_one (x ∷ xs) (suc u) zero = inl refl
zeroed_one (x ∷ xs) (suc u) (suc t) = zeroed_one xs u t

zeroed_then : (xs ys zs : List ℕ) → Zeroed xs ys → Zeroed ys zs → Zeroed xs zs
zeroed_then xs ys zs f g t = ⊎_elim (λ a. ⊎_elim (λ b. inl (a ∙ b)) (λ b. inr (a ∙ b)) (f t)) (λ a. inr a) (g t)

-- who is woken has nothing left
next_zeroed : (k : Tasks) (w : Waking) (t : ℕ) → Zeroed w.line.left (wake_next k w t).line.left
unfolding wake_next wake
next_zeroed k w t = zeroed_one w.line.left t

all_zeroed : (k : Tasks) (i n : ℕ) (w : Waking) → Zeroed w.line.left (wake_all k i n w).line.left
unfolding wake_all
all_zeroed k i zero w = λ t. inl refl
all_zeroed k i (suc n) w = go (λ v. all_zeroed k i n v) (ltb u 32)
  where
    u : ℕ
    u = first_standing w.line.seat (queue_seats i)

    go : ((v : Waking) → Zeroed v.line.left (wake_all k i n v).line.left) → (b : Bool)
        → Zeroed w.line.left (elim b as (λ x. Waking) [ true ↦ wake_all k i n (wake_next k w u) | false ↦ w ]).line.left
    go rec true = zeroed_then w.line.left (wake_next k w u).line.left (wake_all k i n (wake_next k w u)).line.left (next_zeroed k w u) (rec (wake_next k w u))
    go rec false = λ t. inl refl

-- of task t's time_out is left what was, or nothing, or t is the caller and asked for it
pub record Lasts (s : State) (x : Event) (a : Answer) : Type 0 where
  pub each : (t : ℕ) → (get_or a.state.line.left t 0 ≡ get_or s.line.left t 0)
      ⊎ ((get_or a.state.line.left t 0 ≡ 0) ⊎ ((t ≡ s.running) × (get_or a.state.line.left t 0 ≡ x.c)))

module _ (s : State) (x : Event) where
  kept : (a : Answer) → a.state.line.left ≡ s.line.left → Lasts s x a
  kept a e = record { each = λ t. inl (ap (λ (v : List ℕ). get_or v t 0) e) }

  zeroed : (a : Answer) → Zeroed s.line.left a.state.line.left → Lasts s x a
  zeroed a z = record { each = λ t. ⊎_elim (λ e. inl e) (λ e. inr (inl e)) (z t) }

  stay : (status : ℕ) → Lasts s x (plain s status)
  unfolding plain answer
  stay status = kept (plain s status) refl

module _ (s : State) (ok : Sound s) (x : Event) where
  -- the caller waits, with the time_out that it asked for
  pending : (o : ℕ) (fifo : Bool) (priority : ℕ) → s.running < 32
      → Lasts s x (answer (with_line s (waits s.line o fifo priority x.c s.running)) PENDING 0 0 0 0 false)
  unfolding waits answer
  pending o fifo priority h =
      record {
        each = λ t. ⊎_elim
            (λ d. inr (inr (
              d,
              ap (λ (v : ℕ). get_or (set s.line.left s.running x.c) v 0) d
                  ∙ get_or-set_same s.line.left s.running x.c 0 (omega (arith, h, ok.line.lefts)),
            )))
            (λ ne. inl (get_or-set_other s.line.left s.running t x.c 0 ne))
            (eq_or_not t s.running);
      }

  move_lasts : {k : Tasks} {l : Line} {v : ℕ} → TaskMove s x k l v → Lasts s x (answer (with_line (with_tasks s k) l) OK v 0 0 0 false)
  unfolding answer
  move_lasts (task_deleted at t e) = zeroed s x _ (zeroed_one s.line.left t)
  move_lasts (task_started at t e f) = kept s x _ refl
  move_lasts (task_suspended at t e f g h) = kept s x _ refl
  move_lasts (task_resumed at t e f g h) = kept s x _ refl
  move_lasts (priority_set at t e f g) = kept s x _ refl

  -- but a tick answered OK
  abbrev Q : Answer → Type 0
  Q a = is_answer 0 OK (turn_of x a) ≡ false → Lasts s x a

  a_tick : x.call ≡ 0 → Q (tick s)
  unfolding tick wakes_with
  a_tick at other = absurd (true-false (is_answer_lem (turn_of x (tick s)) 0 OK at refl) other)

  deed_lasts : {a : Answer} → Deed s x a → Q a
  unfolding plain answer shows wakes_with delivers_to sem_delete_at queue_delete_at
  deed_lasts (refused status e f listed) other = stay s x status
  deed_lasts (tells call at e v0 v1 v2 v3 negative) other = kept s x _ refl
  deed_lasts (tasks_change c) other = kept s x _ refl
  deed_lasts (task_moves c) other = move_lasts c
  deed_lasts (sems_change c) other = kept s x _ refl
  deed_lasts (pools_change c) other = kept s x _ refl
  deed_lasts (queues_change c) other = kept s x _ refl
  deed_lasts (caller_waits at i e f g time) other = pending i _ _ (leb-false 32 s.running g)
  deed_lasts (first_woken at i e f) other = zeroed s x _ (next_zeroed s.tasks (none_woken s.line) _)
  deed_lasts (sem_deleted at i e) other = zeroed s x _ (all_zeroed s.tasks i 32 (none_woken s.line))
  deed_lasts (receiver_waits at i e f g time) other = pending (queue_object i) _ _ (leb-false 32 s.running g)
  deed_lasts (delivered c i e f g) other = zeroed s x _ (next_zeroed s.tasks (none_woken s.line) _)
  deed_lasts (queue_deleted at i e) other = zeroed s x _ (all_zeroed s.tasks (queue_object i) 32 (none_woken s.line))
  deed_lasts (time_passes at) other = a_tick at other

  pub event_lasts : is_answer 0 OK (turn_of x (answer_to s x)) ≡ false → Lasts s x (answer_to s x)
  unfolding bad_state
  event_lasts = by_deed s x Q (λ a d. deed_lasts d) (λ h other. kept s x (bad_state s) refl)
