-- Every event's answer keeps the state in agreement with what the answers tell, by the deeds.
-- Assumes nothing.
use Prim.Native.Nat.{ℕ, suc, ◌+◌, ◌<◌}
use native.Mathlib.Omega.{arith}
use mathlib.Core.Path.{◌≡◌, refl, sym, subst, ap, ◌∙◌}
use mathlib.Core.Logic.{⊎_elim}
use mathlib.Core.Bool.{Bool, true, false, not}
use mathlib.Core.List.{List, [], ◌∷◌}
use lib.ListN.{length, get_or, set, length-set}
use lib.Seq.{get_or-set_same, get_or-set_other}
use lib.Dec.{eqb}
use borrow.Author.Tests.{ltb-true, leb-false, lt-ltb, ne_eqb, not-false}
use Rattle.scope.specs.declared.State.{State}
use Rattle.scope.specs.declared.Line.{Line}
use Rattle.scope.specs.declared.Answer.{Answer}
use Rattle.scope.specs.declared.Tasks.{Tasks}
use Rattle.scope.specs.declared.Semaphores.{Semaphores}
use Rattle.scope.specs.declared.Pools.{Pools}
use Rattle.scope.specs.declared.Queues.{Queues}
use Rattle.scope.specs.declared.Found.TheVariants.{At}
use Rattle.scope.specs.Statuses.{OK, PENDING}
use Rattle.scope.specs.Identifiers.{identifier}
use Rattle.scope.specs.Seats.{queue_seats, waits_on, first_standing, leaves, becomes_ready}
use Rattle.scope.specs.Objects.{objects_end, queue_object, objects_of}
use Rattle.scope.specs.Views.{with_line, with_tasks, with_semaphores, with_pools, with_queues, with_seats, ready_with, running_task}
use Rattle.scope.specs.Answers.{no_message, answer, plain, shows, wakes_with, delivers_to}
use Rattle.scope.specs.Tasks.{task_born}
use Rattle.scope.specs.Waiting.{none_woken, wake_next, wake_all, waits}
use Rattle.scope.specs.Semaphores.{sem_found, sem_born, with_units, sem_delete_at}
use Rattle.scope.specs.Messages.{Store}
use Rattle.scope.specs.Queues.{with_store, queue_found, first_receiver, queue_born, queue_delete_at}
use Rattle.scope.specs.Ticks.{tick}
use Rattle.laws.proofs.Branches.{both_true, not_of_true, true-false, true_or_false, eq_or_not, picked_yes, picked_no}
use Rattle.laws.proofs.Tables.{found-live, found-identifier, usable_at, usable_free}
use Rattle.laws.specs.Seating.{In}
use Rattle.laws.proofs.Seats.Leaving.{leaves_out}
use Rattle.histories.specs.Sound.{Ready, Sound}
use Rattle.histories.specs.History.{Event, answer_to, after}
use Rattle.histories.specs.Order.{Arrivals, arrival, arrives, arrived_after}
use Rattle.histories.proofs.Deeds.{new_task, new_semaphore, new_queue, asks, not_asked, TaskChange, task_created, waiter_suspended, waiter_resumed, priority_noted}
use Rattle.histories.proofs.Deeds.{TaskMove, task_deleted, task_started, task_suspended, task_resumed, priority_set}
use Rattle.histories.proofs.Deeds.{SemChange, sem_created, unit_claimed, unit_released, PoolChange, pool_created, pool_deleted, buffer_got, buffer_returned, Puts}
use Rattle.histories.proofs.Deeds.{sends, jumps, QueueChange, queue_created, message_put, message_received}
use Rattle.histories.proofs.Deeds.{Deed, refused, tells, tasks_change, task_moves, sems_change, pools_change, queues_change, caller_waits, first_woken, sem_deleted}
use Rattle.histories.proofs.Deeds.{receiver_waits, delivered, queue_deleted, time_passes, by_deed}
use Rattle.histories.proofs.Meaning.{sound_right}
use Rattle.histories.proofs.Moves.{idle_nowhere, off_nowhere}
use Rattle.histories.proofs.Semaphores.{runs_ready, sem_delete_at_lem}
use Rattle.histories.proofs.Staying.{Good, Fewer, stays_same, stays_then, leaves_stays, leaves_good, ready_stays, fewer_same, left_fewer, next_fewer}
use Rattle.histories.proofs.Staying.{all_fewer}
use Rattle.histories.proofs.Queues.{queue_delete_at_lem}
use Rattle.histories.proofs.Turns.{no_waiters, no_receivers, good, task_room, slot_room, queue_room, readied_goes}
use Rattle.histories.proofs.Ledger.{event_keeps}
use Rattle.books.specs.Past.{Turn, is_answer, past_from}
use Rattle.books.specs.Waiting.{Kind, a_semaphore, a_queue, creation, deletion, wait_call, ends_wait}
use Rattle.books.proofs.Woken.{ready_others, Left, leaves_left, ready_left, none_woke, next_woke, all_woke}
use Rattle.books.proofs.Agreeing.{turn_of, Waiters, Options, Agrees, waiters_of_lem, object_room, is_answer_lem, not_call, not_of, not_creates, not_done}
use Rattle.books.proofs.Claiming.{waiters_more, waiters_same, claim_stays, claim_came, claim_new, claim_kept, claim_joined}
use Rattle.books.proofs.Steps.{Steps, waiter_live, waiter_seen, ends_woken, SameKind, same_tables, other_kind, by_kinds, Spares, spared, Moves, moves_none}
use Rattle.books.proofs.Steps.{moves_woke, tick_moves, status_steps, call_steps, create_steps, set_steps, delete_steps, born_steps, gone_steps}
use Rattle.books.specs.Told.{room_of, object_of, task_id, id_of}

module _ (s : State) (x : Event) where
  line_moves : (a : Answer) → a.state.line ≡ s.line → a.woken ≡ 0 → Moves s a
  line_moves a e unwoken =
      moves_none s a (subst (Fewer s.line) (sym e) (fewer_same s.line))
      (λ i h t w. subst (λ (l : Line). In l.seat (queue_seats i) t) (sym e) w) unwoken

  -- a refusal, which is not PENDING
  pub stay : (status : ℕ) → eqb status OK ≡ false → eqb status PENDING ≡ false → Steps s x (plain s status)
  unfolding plain answer
  stay status e f =
      status_steps s x (plain s status) f refl e
      (record { serial = refl; live = refl; priority = refl }) (same_tables s (plain s status) refl refl) (line_moves (plain s status) refl refl)

  -- a call that touches neither tasks, objects' identifiers and options, nor who stands where
  quiet : (a : Answer) → eqb a.status PENDING ≡ false → a.running ≡ running_task a.state
      → (c : ℕ) → x.call ≡ c → Spares c → a.state.tasks ≡ s.tasks → ((kind : Kind) → SameKind kind s a) → a.state.line ≡ s.line → a.woken ≡ 0
      → Steps s x a
  quiet a mute runs c at free tasks same line woken =
      call_steps s x a mute runs c at free
      (record {
        serial = ap (λ k. k.serial) tasks;
        live = ap (λ k. k.live) tasks;
        priority = ap (λ k. k.priority) tasks;
      })
      same (line_moves a line woken)

-- a started task lives
started-live : (s : State) → Sound s → (t : ℕ) → t < 32 → get_or s.tasks.started t false ≡ true → get_or s.tasks.live t false ≡ true
started-live s ok t room started =
    ⊎_elim (λ e. e) (λ e. absurd (true-false started ((ok.tasks.each t room).started e))) (true_or_false (get_or s.tasks.live t false))

-- a ready task does not wait
ready_off : (started suspended : Bool) (seat : ℕ) → ready_with started suspended seat ≡ true → waits_on seat ≡ false
unfolding ready_with
ready_off started suspended seat e =
    ⊎_elim
    (λ w. absurd (true-false (both_true (not suspended) _ (both_true started _ e).1).1 (not_of_true _ w)))
    (λ w. w)
    (true_or_false (waits_on seat))

module _ (s : State) (ok : Sound s) (x : Event) where
  abbrev l : Line
  l = s.line

  abbrev k : Tasks
  k = s.tasks

  abbrev m : Semaphores
  m = s.semaphores

  abbrev u : Queues
  u = s.queues

  whole : Good l.seat
  whole = good s ok

  tick_steps : x.call ≡ 0 → Steps s x (tick s)
  unfolding tick wakes_with
  tick_steps at =
      call_steps s x (tick s) refl refl 0 at (spared 0 refl)
      (record { serial = refl; live = refl; priority = refl }) (same_tables s (tick s) refl refl)
      (tick_moves s ok)

  -- the task calls
  task_create_at_lem : x.call ≡ 1 → (t : ℕ) → t < 32 → get_or k.live t false ≡ false
      → Steps s x (answer (with_tasks s (task_born k t x.a x.b)) OK (identifier (get_or k.serial t 0 + 1) t) 0 0 0 false)
  unfolding answer
  task_create_at_lem at t room free =
      create_steps s x _ refl refl at refl t room
      (get_or k.serial t 0 + 1) refl
      (get_or-set_same k.serial t (get_or k.serial t 0 + 1) 0 (omega (arith, ok.tasks.sized.serials)))
      (get_or-set_same k.priority t x.b 0 (omega (arith, ok.tasks.sized.priorities)))
      (λ u ne. (
        ap (λ (v : ℕ). identifier v u) (get_or-set_other k.serial t u (get_or k.serial t 0 + 1) 0 ne),
        get_or-set_other k.live t u true false ne,
        get_or-set_other k.priority t u x.b 0 ne,
      ))
      (λ i h u w e. true-false (waiter_live s ok i h u w) (ap (λ (v : ℕ). get_or k.live v false) e ∙ free))
      (same_tables s _ refl refl)
      (line_moves s x _ refl refl)

  -- the tasks' table changes, and nobody moves
  change_steps : {r : Tasks} {v : ℕ} → TaskChange s x r v → Steps s x (answer (with_tasks s r) OK v 0 0 0 false)
  unfolding answer
  change_steps (task_created at e f) =
      let h = leb-false (length k.serial) (new_task s) f in
      task_create_at_lem at (new_task s) (omega (arith, h, ok.tasks.sized.serials)) (usable_free k.serial k.live _ (usable_at k.serial k.live h))
  change_steps (waiter_suspended at t e f g h) =
      call_steps s x _ refl refl 5 at (spared 5 refl)
      (record { serial = refl; live = refl; priority = refl }) (same_tables s _ refl refl) (line_moves s x _ refl refl)
  change_steps (waiter_resumed at t e f g h) =
      call_steps s x _ refl refl 6 at (spared 6 refl)
      (record { serial = refl; live = refl; priority = refl }) (same_tables s _ refl refl) (line_moves s x _ refl refl)
  change_steps (priority_noted at t e f g) =
      let room : t < 32 = task_room s ok x.a t e in
      set_steps s x _ refl refl at refl t room e (get_or-set_same k.priority t x.b 0 (omega (arith, ok.tasks.sized.priorities))) refl refl
      (λ u ne. get_or-set_other k.priority t u x.b 0 ne)
      (same_tables s _ refl refl) (line_moves s x _ refl refl)

  -- a task that stands nowhere becomes ready: whatever else the call does
  readied_moves : (a : Answer) (t p : ℕ) (rings : List ℕ) → t < 32 → get_or l.seat t 0 ≡ 0
      → a.state.line ≡ with_seats l (becomes_ready l.seat l.joined t p) rings → a.woken ≡ 0 → Moves s a
  readied_moves a t p rings room out e unwoken =
      moves_none s a (subst (Fewer l) (sym e) (readied_goes s ok t p rings room out))
      (λ i h u w. subst (λ (r : Line). In r.seat (queue_seats i) u) (sym e)
      (ready_others l.seat l.joined t p whole room out (queue_seats i) (omega arith) (omega arith) u w))
      unwoken

  -- a task that does not wait leaves where it stands, and may become ready: nobody's wait ends
  off_other : (t : ℕ) → waits_on (get_or l.seat t 0) ≡ false → (i : ℕ) → i < objects_end → (u : ℕ) → In l.seat (queue_seats i) u → u ≡ t → ⊥
  off_other t off i h u w e = true-false (waiter_seen l.seat i h u w) (ap (λ (v : ℕ). waits_on (get_or l.seat v 0)) e ∙ off)

  move_steps : {r : Tasks} {q : Line} {v : ℕ} → TaskMove s x r q v → Steps s x (answer (with_line (with_tasks s r) q) OK v 0 0 0 false)
  unfolding answer
  move_steps (task_deleted at t e) =
      let room : t < 32 = task_room s ok x.a t e in
      let left : Left l.seat (leaves l.seat t) t = leaves_left l.seat whole t in
      delete_steps s x _ refl refl ok at refl refl t room e refl
      (λ u alive. ⊎_elim
      (λ d. absurd (true-false alive (ap (λ (v : ℕ). get_or (set k.live t false) v false) d
      ∙ get_or-set_same k.live t false false (omega (arith, ok.tasks.sized.lives)))))
      (λ ne. (sym (get_or-set_other k.live t u false false ne) ∙ alive, get_or-set_other k.priority t u 0 0 ne))
      (eq_or_not u t))
      (left_fewer l whole t 0 0 (leaves l.seat t) _ (stays_same (leaves l.seat t)))
      left.others left.out
      (same_tables s _ refl refl)
  move_steps (task_started at t e f) =
      let room : t < 32 = task_room s ok x.a t e in
      call_steps s x _ refl refl 4 at (spared 4 refl)
      (record { serial = refl; live = refl; priority = refl }) (same_tables s _ refl refl)
      (readied_moves _ t (get_or k.priority t 0) _ room (idle_nowhere l k (objects_of s) ok.line t room f).seat refl refl)
  move_steps (task_suspended at t e f g h) =
      call_steps s x _ refl refl 5 at (spared 5 refl)
      (record { serial = refl; live = refl; priority = refl }) (same_tables s _ refl refl)
      (moves_none s _ (record { seats = leaves_stays l.seat whole t; joined = λ o a b u i. refl })
      (λ i c u w. (leaves_left l.seat whole t).others i c u (off_other t h i c u w) w) refl)
  move_steps (task_resumed at t e f g h) =
      let room : t < 32 = task_room s ok x.a t e in
      call_steps s x _ refl refl 6 at (spared 6 refl)
      (record { serial = refl; live = refl; priority = refl }) (same_tables s _ refl refl)
      (readied_moves _ t (get_or k.priority t 0) _ room (off_nowhere l k (objects_of s) ok.line t room h (not-false (get_or k.suspended t false) g)).seat refl refl)
  move_steps (priority_set at t e f g) =
      let room : t < 32 = task_room s ok x.a t e in
      set_steps s x _ refl refl at refl t room e (get_or-set_same k.priority t x.b 0 (omega (arith, ok.tasks.sized.priorities))) refl refl
      (λ u ne. get_or-set_other k.priority t u x.b 0 ne)
      (same_tables s _ refl refl)
      (moves_none s _
      (record {
        seats = stays_then l.seat (leaves l.seat t) _ (leaves_stays l.seat whole t)
            (ready_stays (leaves l.seat t) l.joined t x.b (leaves_good l.seat whole t) room (leaves_out l.seat t));
        joined = λ o a b u h. refl;
      })
      (λ i c u w. (ready_left l.seat whole l.joined t x.b room).others i c u (off_other t (ready_off _ _ _ g) i c u w) w) refl)

  -- the semaphore calls
  sem_create_at_lem : x.call ≡ 8 → (i : ℕ) → i < 16 → get_or m.live i false ≡ false
      → Steps s x (answer (with_semaphores s (sem_born m i x.a x.b (eqb x.c 1))) OK (identifier (get_or m.serial i 0 + 1) i) 0 0 0 false)
  unfolding answer
  sem_create_at_lem at i room free =
      born_steps s x _ refl refl a_semaphore at refl i room
      (get_or m.serial i 0 + 1) refl
      (get_or-set_same m.serial i (get_or m.serial i 0 + 1) 0 (omega (arith, ok.semaphores.sized.serials)))
      (get_or-set_same m.fifo i (eqb x.c 1) false (omega (arith, ok.semaphores.sized.fifos)))
      (λ j ne. (
        ap (λ (v : ℕ). identifier v j) (get_or-set_other m.serial i j (get_or m.serial i 0 + 1) 0 ne),
        get_or-set_other m.live i j true false ne,
        get_or-set_other m.fifo i j (eqb x.c 1) false ne,
      ))
      (no_waiters s ok i room free)
      (record { serial = refl; live = refl; priority = refl }) (record { serial = refl; live = refl; fifo = refl })
      (line_moves s x _ refl refl)

  sem_delete_steps : x.call ≡ 9 → (i : ℕ) → sem_found s x.a ≡ At i → Steps s x (sem_delete_at s i)
  unfolding sem_delete_at wakes_with
  sem_delete_steps at i e =
      let hi : i < 16 = slot_room s ok x.a i e in
      let dead : get_or (set m.live i false) i false ≡ false = get_or-set_same m.live i false false (omega (arith, ok.semaphores.sized.lives)) in
      gone_steps s x (sem_delete_at s i) refl refl a_semaphore at i hi (found-identifier m.serial m.live x.a e) refl
      (λ j alive. ⊎_elim
      (λ d. absurd (true-false alive (ap (λ (v : ℕ). get_or (set m.live i false) v false) d ∙ dead)))
      (λ ne. (sym (get_or-set_other m.live i j false false ne) ∙ alive, get_or-set_other m.fifo i j false false ne))
      (eq_or_not j i))
      (no_waiters (sem_delete_at s i).state (sem_delete_at_lem s ok i hi (found-live m.serial m.live x.a e)) i hi dead)
      (record { serial = refl; live = refl; priority = refl }) (record { serial = refl; live = refl; fifo = refl })
      (record {
        leave = moves_woke s ok l (wake_all k i 32 (none_woken l)) _ refl (all_fewer k i 32 (none_woken l) whole)
            (all_woke k l i 32 (none_woken l) (omega arith) (none_woke k l whole));
      })

  runs_told : s.running < 32 → running_task s ≡ task_id s s.running
  unfolding running_task
  runs_told h = picked_yes _ _ _ (lt-ltb s.running 32 h)

  -- the first of a queue is woken
  woken_steps : x.call ≡ 12 → (t : ℕ) → t < 32 → Steps s x (wakes_with s (wake_next k (none_woken l) t) OK)
  unfolding wakes_with
  woken_steps at t room =
      call_steps s x (wakes_with s (wake_next k (none_woken l) t) OK) refl refl 12 at (spared 12 refl)
      (record { serial = refl; live = refl; priority = refl }) (same_tables s _ refl refl)
      (record {
        leave = moves_woke s ok l (wake_next k (none_woken l) t) OK refl (next_fewer k (none_woken l) t room whole)
            (next_woke k l (none_woken l) t room (omega arith) (none_woke k l whole));
      })

  -- a semaphore's units change
  units_steps : (c : ℕ) → x.call ≡ c → (i n : ℕ) → Spares c → Steps s x (plain (with_semaphores s (with_units m i n)) OK)
  unfolding plain answer
  units_steps c at i n free =
      quiet s x (plain (with_semaphores s (with_units m i n)) OK) refl refl c at free refl
      (by_kinds _ a_semaphore (record { serial = refl; live = refl; fifo = refl }) (record { serial = refl; live = refl; fifo = refl })) refl refl

  -- the caller waits for object i of the kind
  module _ (kind : Kind) (at : x.call ≡ wait_call kind) (ticks i : ℕ) (hi : i < room_of kind) (mine : x.a ≡ id_of kind s i) (h : s.running < 32) (fifo : Bool) where
    abbrev r : ℕ
    r = s.running

    abbrev now : ℕ
    now = get_or k.priority r 0

    abbrev o : ℕ
    o = object_of kind i

    room : o < objects_end
    room = object_room kind i hi

    abbrev joined : Line
    joined = waits l o fifo now ticks r

    abbrev y : Turn
    y = turn_of x (answer (with_line s joined) PENDING 0 0 0 0 false)

    ready : Ready l k r
    ready = runs_ready s ok h

    not_now : (j status : ℕ) → eqb (wait_call kind) j ≡ false → is_answer j status y ≡ false
    not_now j status e = not_call y j status (ap (λ (v : ℕ). eqb v j) at ∙ e)

    -- which call it is not
    unlike : (k2 : Kind) → (eqb (wait_call k2) 1 ≡ false) × (eqb (wait_call k2) 2 ≡ false) × (eqb (wait_call k2) 7 ≡ false)
        × ((k3 : Kind) → eqb (wait_call k2) (creation k3) ≡ false) × ((k3 : Kind) → eqb (wait_call k2) (deletion k3) ≡ false)
        × (eqb (wait_call k2) (wait_call (other_kind k2)) ≡ false)
    unlike a_semaphore = (refl, refl, refl, by_kinds _ a_semaphore refl refl, by_kinds _ a_semaphore refl refl, refl)
    unlike a_queue = (refl, refl, refl, by_kinds _ a_semaphore refl refl, by_kinds _ a_semaphore refl refl, refl)

    apart : (k2 : Kind) (i2 : ℕ) → i2 < room_of k2 → (j : ℕ) → j < room_of (other_kind k2) → object_of (other_kind k2) j ≡ object_of k2 i2 → ⊥
    apart a_semaphore i2 a j b e = omega arith
    apart a_queue i2 a j b e = omega arith

    module _ (p : ℕ) (past : List Turn) (told : Arrivals) (ag : Agrees p s past told) where
      lasts : (z : ℕ) → ends_wait past y z ≡ false
      unfolding answer
      lasts z = ends_woken past y z (not_now 2 OK (unlike kind).1)

      options_kept : (k2 : Kind) → Options k2 (with_line s joined) (y ∷ past)
      options_kept a_semaphore j a live = picked_no _ _ _ (not_creates y 8 _ (not_now 8 OK ((unlike kind).3 a_semaphore))) ∙ ag.fifo j a live
      options_kept a_queue j a live = picked_no _ _ _ (not_creates y 20 _ (not_now 20 OK ((unlike kind).3 a_queue))) ∙ ag.queue_fifo j a live

      all_waiters : (k2 : Kind) → Waiters k2 p (with_line s joined) (y ∷ past) (arrival told r (suc (length past)) now)
      unfolding answer
      all_waiters =
          by_kinds _ kind
          (waiters_more kind p s joined y past told (waiters_of_lem ag kind) ok.line.queues ag.times r i h hi
          (is_answer_lem y (wait_call kind) PENDING at refl)
          mine
          (λ id. not_of y (deletion kind) id OK (not_now (deletion kind) OK ((unlike kind).4 kind)))
          lasts
          (ag.running ∙ runs_told h)
          (ag.priority r h (started-live s ok r h ready.started) ∙ sym (claim_joined s ok r o h room ready _ now ticks))
          (claim_stays s ok r o h room ready _ now ticks)
          (claim_came s ok r o h room ready _ now ticks)
          (claim_kept s ok r o h room ready _ now ticks)
          (claim_new s ok r o h room ready _ now ticks)
          now)
          (waiters_same (other_kind kind) p s joined y past told (waiters_of_lem ag (other_kind kind)) r o
          (not_now (wait_call (other_kind kind)) PENDING (unlike kind).5)
          (λ id. not_of y (deletion (other_kind kind)) id OK (not_now (deletion (other_kind kind)) OK ((unlike kind).4 (other_kind kind))))
          lasts
          (claim_stays s ok r o h room ready _ now ticks)
          (claim_came s ok r o h room ready _ now ticks)
          (claim_kept s ok r o h room ready _ now ticks)
          (claim_new s ok r o h room ready _ now ticks)
          (apart kind i hi) (suc (length past)) now)

    pending_steps : Steps s x (answer (with_line s joined) PENDING 0 0 0 0 false)
    unfolding answer arrives
    pending_steps =
        record {
          steps = λ p past told ag.
              subst (λ (v : Arrivals). Agrees p (with_line s joined) (y ∷ past) v)
              (sym (picked_yes (eqb PENDING PENDING) (arrival told r (suc (length past)) now) told refl))
              (record {
                times = length-set told.time r (suc (length past)) ∙ ag.times;
                running = refl;
                priority = λ t a live. picked_no _ _ _ (not_creates y 1 _ (not_now 1 OK (unlike kind).0))
                    ∙ picked_no _ _ _ (not_done y past 7 _ (not_now 7 OK (unlike kind).2)) ∙ ag.priority t a live;
                fifo = options_kept p past told ag a_semaphore;
                queue_fifo = options_kept p past told ag a_queue;
                waiters = all_waiters p past told ag a_semaphore;
                receivers = all_waiters p past told ag a_queue;
              });
        }

  sem_steps : {n : Semaphores} {v : ℕ} → SemChange s x n v → Steps s x (answer (with_semaphores s n) OK v 0 0 0 false)
  unfolding plain
  sem_steps (sem_created at e f g) =
      let h = leb-false (length m.serial) (new_semaphore s) g in
      sem_create_at_lem at (new_semaphore s) (omega (arith, h, ok.semaphores.sized.serials)) (usable_free m.serial m.live _ (usable_at m.serial m.live h))
  sem_steps (unit_claimed at i e f) = units_steps 11 at i _ (spared 11 refl)
  sem_steps (unit_released at i e f g) = units_steps 12 at i _ (spared 12 refl)

  -- the pool calls
  pool_steps : (c : ℕ) → x.call ≡ c → Spares c → (q : Pools) (v : ℕ) → Steps s x (answer (with_pools s q) OK v 0 0 0 false)
  unfolding answer
  pool_steps c at free q v =
      quiet s x (answer (with_pools s q) OK v 0 0 0 false) refl refl c at free refl (same_tables s _ refl refl) refl refl

  pools_steps : {q : Pools} {v : ℕ} → PoolChange s x q v → Steps s x (answer (with_pools s q) OK v 0 0 0 false)
  pools_steps (pool_created at e f g h j) = pool_steps 14 at (spared 14 refl) _ _
  pools_steps (pool_deleted at i e f) = pool_steps 15 at (spared 15 refl) _ _
  pools_steps (buffer_got at i e f) = pool_steps 17 at (spared 17 refl) _ _
  pools_steps (buffer_returned at i e f) = pool_steps 18 at (spared 18 refl) _ _

  -- a call that tells
  tells_steps : (c : ℕ) → x.call ≡ c → asks c ≡ true → (v0 v1 v2 v3 : ℕ) (negative : Bool) → Steps s x (answer s OK v0 v1 v2 v3 negative)
  unfolding answer
  tells_steps c at e v0 v1 v2 v3 negative =
      quiet s x (answer s OK v0 v1 v2 v3 negative) refl refl c at free refl (same_tables s _ refl refl) refl refl
    where
      other : (j : ℕ) → asks j ≡ false → eqb c j ≡ false
      other j f = ne_eqb c j (not_asked c j e f)

      free : Spares c
      free =
          record {
            births = other 1 refl;
            deaths = other 2 refl;
            priorities = other 7 refl;
            creations = by_kinds _ a_semaphore (other 8 refl) (other 20 refl);
            deletions = by_kinds _ a_semaphore (other 9 refl) (other 21 refl);
          }

  -- the queue calls
  queue_create_at_lem : x.call ≡ 20 → (i : ℕ) → i < 8 → get_or u.live i false ≡ false
      → Steps s x (shows (with_queues s (queue_born u i x.a x.b x.c (eqb x.d 1))) (identifier (get_or u.serial i 0 + 1) i) no_message)
  unfolding shows
  queue_create_at_lem at i room free =
      born_steps s x _ refl refl a_queue at refl i room
      (get_or u.serial i 0 + 1) refl
      (get_or-set_same u.serial i (get_or u.serial i 0 + 1) 0 (omega (arith, ok.queues.sized.serials)))
      (get_or-set_same u.fifo i (eqb x.d 1) false (omega (arith, ok.queues.sized.fifos)))
      (λ j ne. (
        ap (λ (v : ℕ). identifier v j) (get_or-set_other u.serial i j (get_or u.serial i 0 + 1) 0 ne),
        get_or-set_other u.live i j true false ne,
        get_or-set_other u.fifo i j (eqb x.d 1) false ne,
      ))
      (no_receivers s ok i room free)
      (record { serial = refl; live = refl; priority = refl }) (record { serial = refl; live = refl; fifo = refl })
      (line_moves s x _ refl refl)

  queue_delete_steps : x.call ≡ 21 → (i : ℕ) → queue_found s x.a ≡ At i → Steps s x (queue_delete_at s i)
  unfolding queue_delete_at wakes_with
  queue_delete_steps at i e =
      let hi : i < 8 = queue_room s ok x.a i e in
      let dead : get_or (set u.live i false) i false ≡ false = get_or-set_same u.live i false false (omega (arith, ok.queues.sized.lives)) in
      gone_steps s x (queue_delete_at s i) refl refl a_queue at i hi (found-identifier u.serial u.live x.a e) refl
      (λ j alive. ⊎_elim
      (λ d. absurd (true-false alive (ap (λ (v : ℕ). get_or (set u.live i false) v false) d ∙ dead)))
      (λ ne. (sym (get_or-set_other u.live i j false false ne) ∙ alive, get_or-set_other u.fifo i j false false ne))
      (eq_or_not j i))
      (no_receivers (queue_delete_at s i).state (queue_delete_at_lem s ok i hi (found-live u.serial u.live x.a e)) i hi dead)
      (record { serial = refl; live = refl; priority = refl }) (record { serial = refl; live = refl; fifo = refl })
      (record {
        leave = moves_woke s ok l (wake_all k (queue_object i) 32 (none_woken l)) _ refl (all_fewer k (queue_object i) 32 (none_woken l) whole)
            (all_woke k l (queue_object i) 32 (none_woken l) (omega arith) (none_woke k l whole));
      })

  -- what the queues hold changes
  held_steps : (c : ℕ) → x.call ≡ c → Spares c → (store : Store) (v : ℕ) (shown : List ℕ) → Steps s x (shows (with_queues s (with_store u store)) v shown)
  unfolding shows
  held_steps c at free store v shown =
      quiet s x (shows (with_queues s (with_store u store)) v shown) refl refl c at free refl
      (by_kinds _ a_semaphore (record { serial = refl; live = refl; fifo = refl }) (record { serial = refl; live = refl; fifo = refl })) refl refl

  queue_steps : {w : Queues} {v : ℕ} {shown : List ℕ} → QueueChange s x w v shown → Steps s x (shows (with_queues s w) v shown)
  queue_steps (queue_created at e f g) =
      let h = leb-false (length u.serial) (new_queue s) g in
      queue_create_at_lem at (new_queue s) (omega (arith, h, ok.queues.sized.serials)) (usable_free u.serial u.live _ (usable_at u.serial u.live h))
  queue_steps (message_put (sends at) i e f g h) = held_steps 23 at (spared 23 refl) _ _ _
  queue_steps (message_put (jumps at) i e f g h) = held_steps 24 at (spared 24 refl) _ _ _
  queue_steps (message_received at i e f) = held_steps 25 at (spared 25 refl) _ _ _

  -- a message is delivered to the first of a queue
  delivery_steps : (c : ℕ) → x.call ≡ c → Spares c → (t : ℕ) → t < 32 → (n : ℕ) (message : List ℕ)
      → Steps s x (delivers_to s (wake_next k (none_woken l) t) n message)
  unfolding delivers_to
  delivery_steps c at free t room n message =
      call_steps s x (delivers_to s (wake_next k (none_woken l) t) n message) refl refl c at free
      (record { serial = refl; live = refl; priority = refl }) (same_tables s _ refl refl)
      (record {
        leave = moves_woke s ok l (wake_next k (none_woken l) t) OK refl (next_fewer k (none_woken l) t room whole)
            (next_woke k l (none_woken l) t room (omega arith) (none_woke k l whole));
      })

  delivered_steps : {put : Store → ℕ → List ℕ → Store} → Puts x put → (t : ℕ) → t < 32 → (n : ℕ) (message : List ℕ)
      → Steps s x (delivers_to s (wake_next k (none_woken l) t) n message)
  delivered_steps (sends at) = delivery_steps 23 at (spared 23 refl)
  delivered_steps (jumps at) = delivery_steps 24 at (spared 24 refl)

  deed_steps : {a : Answer} → Deed s x a → Steps s x a
  unfolding plain
  deed_steps (refused status e f listed) = stay s x status e f
  deed_steps (tells call at e v0 v1 v2 v3 negative) = tells_steps call at e v0 v1 v2 v3 negative
  deed_steps (tasks_change c) = change_steps c
  deed_steps (task_moves c) = move_steps c
  deed_steps (sems_change c) = sem_steps c
  deed_steps (pools_change c) = pools_steps c
  deed_steps (queues_change c) = queue_steps c
  deed_steps (caller_waits at i e f g time) =
      pending_steps a_semaphore at x.c i (slot_room s ok x.a i e) (found-identifier m.serial m.live x.a e) (leb-false 32 s.running g) _
  deed_steps (first_woken at i e f) = woken_steps at (first_standing l.seat (queue_seats i)) (ltb-true _ 32 f)
  deed_steps (sem_deleted at i e) = sem_delete_steps at i e
  deed_steps (receiver_waits at i e f g time) =
      pending_steps a_queue at x.c i (queue_room s ok x.a i e) (found-identifier u.serial u.live x.a e) (leb-false 32 s.running g) _
  deed_steps (delivered c i e f g) = delivered_steps c (first_receiver s i) (ltb-true _ 32 g) x.b _
  deed_steps (queue_deleted at i e) = queue_delete_steps at i e
  deed_steps (time_passes at) = tick_steps at

  -- every event's answer
  pub event_steps : Steps s x (answer_to s x)
  event_steps = by_deed s x (Steps s x) (λ a d. deed_steps d) (λ h. absurd (true-false (sound_right s ok) h))

-- so does every history
pub agrees_after : (p : ℕ) (s : State) → Sound s → (xs : List Event) (past : List Turn) (told : Arrivals) → Agrees p s past told
    → Agrees p (after s xs) (past_from past s xs) (arrived_after told (suc (length past)) s xs)
agrees_after p s ok [] past told ag = ag
agrees_after p s ok (x ∷ xs) past told ag =
    agrees_after p (answer_to s x).state (event_keeps s ok x) xs (turn_of x (answer_to s x) ∷ past) (arrives told (suc (length past)) s (answer_to s x))
    ((event_steps s ok x).steps p past told ag)
