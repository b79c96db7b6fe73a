-- What it means that a state says what the history's answers tell: who runs, the tasks' priorities, who waits for which semaphore or
-- message queue, since when and with which priority. And how that is kept: by a turn at which nobody joins a queue of the kind, and by
-- one at which the caller does.
-- Assumes nothing.
use Prim.Native.Nat.{ℕ, ◌<◌}
use native.Mathlib.Omega.{arith}
use mathlib.Core.Path.{◌≡◌, refl, sym, subst, ap, ◌∙◌}
use mathlib.Core.Logic.{◌⊎◌, ⊎_elim}
use mathlib.Core.Bool.{true, false, not}
use mathlib.Core.List.{List, [], ◌∷◌, ◌++◌}
use lib.ListN.{length, get_or}
use lib.Dec.{eqb}
use borrow.Author.Tests.{eq-eqb, ne_eqb, eqb-true}
use Rattle.scope.specs.declared.State.{State}
use Rattle.scope.specs.declared.Answer.{Answer}
use Rattle.scope.specs.Statuses.{OK, PENDING}
use Rattle.scope.specs.Objects.{objects_end}
use Rattle.scope.specs.Lists.{has, keep}
use Rattle.scope.specs.Views.{running_task}
use Rattle.scope.specs.Replies.{reply_of}
use Rattle.laws.proofs.Branches.{true-false, true_or_false, both, both_true, first_fails, second_fails, not_of_true, not_of_false, picked_yes, picked_no}
use Rattle.histories.specs.History.{Event}
use Rattle.histories.specs.Order.{Arrivals, WaitsFor}
use Rattle.books.specs.Past.{Turn, is_answer, is_answer_of, value, creates, running_in}
use Rattle.books.specs.Waiting.{Kind, a_semaphore, a_queue, deletion, wait_call, fifo_of, target, done_to, priority_in, pends_on, named_by, joined_as, arrival_of, ends_wait, waiters_for, pends, waiting}
use Rattle.books.proofs.Members.{has_kept, kept_has, once_kept}
use Rattle.books.specs.Told.{room_of, object_of, lives_of, fifos_of, task_id, id_of, Once}

abbrev pub turn_of : Event → Answer → Turn
turn_of x a = record { event = x; reply = reply_of a }

-- y is the task in a slot that waits for the object in a slot, which id is
pub record WaiterOf (kind : Kind) (s : State) (id y : ℕ) : Type 0 where
  pub slot : ℕ
  pub task : ℕ
  pub room : slot < room_of kind
  pub waits : WaitsFor s (object_of kind slot) task
  pub of : id ≡ id_of kind s slot
  pub who : y ≡ task_id s task

abbrev pub Waiter : State → ℕ → ℕ → Type 0
Waiter = WaiterOf a_semaphore

-- who waits, for what, since when and with which priority
pub record Waiters (kind : Kind) (p : ℕ) (s : State) (past : List Turn) (told : Arrivals) : Type 0 where
  pub on : (i : ℕ) → i < room_of kind → (t : ℕ) → WaitsFor s (object_of kind i) t → has (waiters_for kind past (id_of kind s i)) (task_id s t) ≡ true
  pub off : (id y : ℕ) → has (waiters_for kind past id) y ≡ true → WaiterOf kind s id y
  pub once : (id : ℕ) → Once (waiters_for kind past id)
  pub claim : (i : ℕ) → i < room_of kind → (t : ℕ) → WaitsFor s (object_of kind i) t → named_by kind past (task_id s t) ≡ id_of kind s i
  pub since : (i : ℕ) → i < room_of kind → (t : ℕ) → WaitsFor s (object_of kind i) t → arrival_of kind past (task_id s t) ≡ get_or told.time t 0
  pub joined : (i : ℕ) → i < room_of kind → (t : ℕ) → WaitsFor s (object_of kind i) t → joined_as kind p past (task_id s t) ≡ get_or s.line.joined t 0

-- the options of the objects of a kind
abbrev pub Options : Kind → State → List Turn → Type 0
Options kind s past =
    (i : ℕ) → i < room_of kind → get_or (lives_of kind s) i false ≡ true → fifo_of kind past (id_of kind s i) ≡ get_or (fifos_of kind s) i false

-- the state, in all of this
pub record Agrees (p : ℕ) (s : State) (past : List Turn) (told : Arrivals) : Type 0 where
  pub times : length told.time ≡ 32
  pub running : running_in past ≡ running_task s
  pub priority : (t : ℕ) → t < 32 → get_or s.tasks.live t false ≡ true → priority_in p past (task_id s t) ≡ get_or s.tasks.priority t 0
  pub fifo : Options a_semaphore s past
  pub queue_fifo : Options a_queue s past
  pub waiters : Waiters a_semaphore p s past told
  pub receivers : Waiters a_queue p s past told

-- of either kind
module _ {p : ℕ} {s : State} {past : List Turn} {told : Arrivals} (ag : Agrees p s past told) where
  pub options_of_lem : (kind : Kind) → Options kind s past
  options_of_lem a_semaphore = ag.fifo
  options_of_lem a_queue = ag.queue_fifo

  pub waiters_of_lem : (kind : Kind) → Waiters kind p s past told
  waiters_of_lem a_semaphore = ag.waiters
  waiters_of_lem a_queue = ag.receivers

-- objects of a kind are objects; their slots are few, and no two are one
pub object_room : (kind : Kind) (i : ℕ) → i < room_of kind → object_of kind i < objects_end
object_room a_semaphore i h = omega arith
object_room a_queue i h = omega arith

pub kind_room : (kind : Kind) (i : ℕ) → i < room_of kind → i < 16
kind_room a_semaphore i h = h
kind_room a_queue i h = omega arith

pub one_object : (kind : Kind) (i j : ℕ) → object_of kind i ≡ object_of kind j → i ≡ j
one_object a_semaphore i j e = e
one_object a_queue i j e = omega arith

-- what a turn was not
module _ (y : Turn) where
  pub not_call : (k status : ℕ) → eqb y.event.call k ≡ false → is_answer k status y ≡ false
  unfolding is_answer
  not_call k status e = first_fails _ _ e

  pub not_status : (k status : ℕ) → eqb y.reply.status status ≡ false → is_answer k status y ≡ false
  unfolding is_answer
  not_status k status e = second_fails (eqb y.event.call k) _ e

  pub is_answer_lem : (k status : ℕ) → y.event.call ≡ k → y.reply.status ≡ status → is_answer k status y ≡ true
  unfolding is_answer
  is_answer_lem k status d e = both _ _ (eq-eqb _ _ d) (eq-eqb _ _ e)

  pub not_creates : (k id : ℕ) → is_answer k 0 y ≡ false → creates k id y ≡ false
  unfolding creates
  not_creates k id e = first_fails _ _ e

  pub not_new : (k id : ℕ) → (value y ≡ id → ⊥) → creates k id y ≡ false
  unfolding creates
  not_new k id ne = second_fails (is_answer k 0 y) _ (ne_eqb _ _ ne)

  pub is_new : (k id : ℕ) → is_answer k 0 y ≡ true → value y ≡ id → creates k id y ≡ true
  unfolding creates
  is_new k id e f = both _ _ e (eq-eqb _ _ f)

  pub not_of : (k id status : ℕ) → is_answer k status y ≡ false → is_answer_of k id status y ≡ false
  unfolding is_answer_of
  not_of k id status e = first_fails _ _ e

  pub not_on : (k id status : ℕ) → (y.event.a ≡ id → ⊥) → is_answer_of k id status y ≡ false
  unfolding is_answer_of
  not_on k id status ne = second_fails (is_answer k status y) _ (ne_eqb _ _ ne)

  pub is_of : (k id status : ℕ) → is_answer k status y ≡ true → y.event.a ≡ id → is_answer_of k id status y ≡ true
  unfolding is_answer_of
  is_of k id status e f = both _ _ e (eq-eqb _ _ f)

  pub of_is : (k id status : ℕ) → is_answer_of k id status y ≡ true → y.event.a ≡ id
  unfolding is_answer_of
  of_is k id status e = eqb-true _ _ (both_true (is_answer k status y) _ e).1

  module _ (past : List Turn) where
    pub not_done : (k t : ℕ) → is_answer k OK y ≡ false → done_to k past t y ≡ false
    unfolding done_to
    not_done k t e = first_fails _ _ e

    pub done_other : (k t : ℕ) → (target past y ≡ t → ⊥) → done_to k past t y ≡ false
    unfolding done_to
    done_other k t ne = second_fails (is_answer k OK y) _ (ne_eqb _ _ ne)

    pub is_done : (k t : ℕ) → is_answer k OK y ≡ true → target past y ≡ t → done_to k past t y ≡ true
    unfolding done_to
    is_done k t e f = both _ _ e (eq-eqb _ _ f)

    module _ (kind : Kind) where
      pub not_pends_on : (t : ℕ) → is_answer (wait_call kind) PENDING y ≡ false → pends_on kind past t y ≡ false
      unfolding pends_on
      not_pends_on t e = first_fails _ _ e

      pub pends_on_other : (t : ℕ) → (running_in past ≡ t → ⊥) → pends_on kind past t y ≡ false
      unfolding pends_on
      pends_on_other t ne = second_fails (is_answer (wait_call kind) PENDING y) _ (ne_eqb _ _ ne)

      pub is_pending_on : (t : ℕ) → is_answer (wait_call kind) PENDING y ≡ true → running_in past ≡ t → pends_on kind past t y ≡ true
      unfolding pends_on
      is_pending_on t e f = both _ _ e (eq-eqb _ _ f)

      -- who waits for the object with identifier id, after it
      pub waiters_shut : (id : ℕ) → is_answer_of (deletion kind) id OK y ≡ true → waiters_for kind (y ∷ past) id ≡ []
      waiters_shut id e = picked_yes _ _ _ e

      pub waiters_grown : (id : ℕ) → is_answer_of (deletion kind) id OK y ≡ false → is_answer_of (wait_call kind) id PENDING y ≡ true
          → waiters_for kind (y ∷ past) id ≡ waiters_for kind past id ++ (running_in past ∷ [])
      waiters_grown id e f = picked_no _ _ _ e ∙ picked_yes _ _ _ f

      pub waiters_kept : (id : ℕ) → is_answer_of (deletion kind) id OK y ≡ false → is_answer_of (wait_call kind) id PENDING y ≡ false
          → waiters_for kind (y ∷ past) id ≡ keep (λ t. not (ends_wait past y t)) (waiters_for kind past id)
      waiters_kept id e f = picked_no _ _ _ e ∙ picked_no _ _ _ f

    -- of the semaphores
    pub not_pends : (t : ℕ) → is_answer 11 PENDING y ≡ false → pends past t y ≡ false
    not_pends t e = not_pends_on a_semaphore t e

    pub pends_other : (t : ℕ) → (running_in past ≡ t → ⊥) → pends past t y ≡ false
    pends_other t ne = pends_on_other a_semaphore t ne

    pub is_pending : (t : ℕ) → is_answer 11 PENDING y ≡ true → running_in past ≡ t → pends past t y ≡ true
    is_pending t e f = is_pending_on a_semaphore t e f

    pub waiting_shut : (id : ℕ) → is_answer_of 9 id OK y ≡ true → waiting (y ∷ past) id ≡ []
    waiting_shut id e = waiters_shut a_semaphore id e

    pub waiting_more : (id : ℕ) → is_answer_of 9 id OK y ≡ false → is_answer_of 11 id PENDING y ≡ true
        → waiting (y ∷ past) id ≡ waiting past id ++ (running_in past ∷ [])
    waiting_more id e f = waiters_grown a_semaphore id e f

    pub waiting_less : (id : ℕ) → is_answer_of 9 id OK y ≡ false → is_answer_of 11 id PENDING y ≡ false
        → waiting (y ∷ past) id ≡ keep (λ t. not (ends_wait past y t)) (waiting past id)
    waiting_less id e f = waiters_kept a_semaphore id e f

-- Nobody joins a queue of the kind: who waits after the turn did before it, and those whose wait ends are named by it.
module _ (kind : Kind) (p : ℕ) (s s2 : State) (y : Turn) (past : List Turn) (told told2 : Arrivals) (ok : Waiters kind p s past told)
    (mute : is_answer (wait_call kind) PENDING y ≡ false)
    (stood : (i : ℕ) → i < room_of kind → (t : ℕ) → WaitsFor s2 (object_of kind i) t → WaitsFor s (object_of kind i) t)
    (priority_kept : (i : ℕ) → i < room_of kind → (t : ℕ) → WaitsFor s2 (object_of kind i) t → get_or s2.line.joined t 0 ≡ get_or s.line.joined t 0)
    (time_kept : (i : ℕ) → i < room_of kind → (t : ℕ) → WaitsFor s2 (object_of kind i) t → get_or told2.time t 0 ≡ get_or told.time t 0)
    (went : (i : ℕ) → i < room_of kind → (t : ℕ) → WaitsFor s (object_of kind i) t
    → (WaitsFor s2 (object_of kind i) t) ⊎ (ends_wait past y (task_id s t) ≡ true))
    (gone : (i : ℕ) → i < room_of kind → (t : ℕ) → WaitsFor s2 (object_of kind i) t → ends_wait past y (task_id s t) ≡ false)
    (shut : (i : ℕ) → i < room_of kind → (t : ℕ) → WaitsFor s2 (object_of kind i) t → is_answer_of (deletion kind) (id_of kind s i) OK y ≡ false)
    (task_kept : (i : ℕ) → i < room_of kind → (t : ℕ) → WaitsFor s2 (object_of kind i) t → task_id s2 t ≡ task_id s t)
    (id_kept : (i : ℕ) → i < room_of kind → (t : ℕ) → WaitsFor s2 (object_of kind i) t → id_of kind s2 i ≡ id_of kind s i) where
  abbrev on_list : List Turn → ℕ → List ℕ
  on_list = waiters_for kind

  less : (id : ℕ) → is_answer_of (deletion kind) id OK y ≡ false → on_list (y ∷ past) id ≡ keep (λ t. not (ends_wait past y t)) (on_list past id)
  less id e = waiters_kept y past kind id e (not_of y (wait_call kind) id PENDING mute)

  still_on : (i : ℕ) → i < room_of kind → (t : ℕ) → WaitsFor s2 (object_of kind i) t → has (on_list (y ∷ past) (id_of kind s2 i)) (task_id s2 t) ≡ true
  still_on i h t w =
      subst (λ (v : ℕ). has (on_list (y ∷ past) v) (task_id s2 t) ≡ true) (sym (id_kept i h t w))
      (subst (λ (v : ℕ). has (on_list (y ∷ past) (id_of kind s i)) v ≡ true) (sym (task_kept i h t w))
      (subst (λ (l : List ℕ). has l (task_id s t) ≡ true) (sym (less (id_of kind s i) (shut i h t w)))
      (has_kept _ (on_list past (id_of kind s i)) (task_id s t) (ok.on i h t (stood i h t w)) (not_of_false _ (gone i h t w)))))

  still_off : (id z : ℕ) → has (on_list (y ∷ past) id) z ≡ true → WaiterOf kind s2 id z
  still_off id z b =
      ⊎_elim
      (λ e. absurd (true-false (subst (λ (l : List ℕ). has l z ≡ true) (waiters_shut y past kind id e) b) refl))
      (λ e. let k : (has (on_list past id) z ≡ true) × (not (ends_wait past y z) ≡ true) =
      kept_has _ (on_list past id) z (subst (λ (l : List ℕ). has l z ≡ true) (less id e) b) in
      let w : WaiterOf kind s id z = ok.off id z k.0 in
      ⊎_elim
      (λ a. record {
        slot = w.slot;
        task = w.task;
        room = w.room;
        waits = a;
        of = w.of ∙ sym (id_kept w.slot w.room w.task a);
        who = w.who ∙ sym (task_kept w.slot w.room w.task a);
      })
      (λ a. absurd (true-false k.1 (not_of_true _ (ap (ends_wait past y) w.who ∙ a))))
      (went w.slot w.room w.task w.waits))
      (true_or_false (is_answer_of (deletion kind) id OK y))

  still_once : (id : ℕ) → Once (on_list (y ∷ past) id)
  still_once id =
      ⊎_elim
      (λ e. subst Once (sym (waiters_shut y past kind id e)) (record {}))
      (λ e. subst Once (sym (less id e)) (once_kept _ (on_list past id) (ok.once id)))
      (true_or_false (is_answer_of (deletion kind) id OK y))

  pub waiters_fewer : Waiters kind p s2 (y ∷ past) told2
  waiters_fewer =
      record {
        on = still_on;
        off = still_off;
        once = still_once;
        claim = λ i h t w. picked_no _ _ _ (not_pends_on y past kind _ mute) ∙ ap (named_by kind past) (task_kept i h t w)
            ∙ ok.claim i h t (stood i h t w) ∙ sym (id_kept i h t w);
        since = λ i h t w. picked_no _ _ _ (not_pends_on y past kind _ mute) ∙ ap (arrival_of kind past) (task_kept i h t w)
            ∙ ok.since i h t (stood i h t w) ∙ sym (time_kept i h t w);
        joined = λ i h t w. picked_no _ _ _ (not_pends_on y past kind _ mute) ∙ ap (joined_as kind p past) (task_kept i h t w)
            ∙ ok.joined i h t (stood i h t w) ∙ sym (priority_kept i h t w);
      }
