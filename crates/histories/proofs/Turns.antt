-- Every call keeps each object's queue in order: tasks leave, or become ready, or one task, the caller, waits and is the last to
-- arrive.
-- Assumes nothing.
use Prim.Native.Nat.{ℕ, suc, ◌<◌}
use native.Mathlib.Omega.{arith}
use mathlib.Core.Path.{◌≡◌, refl, sym, subst, ap, ◌∙◌}
use mathlib.Core.Logic.{inl, inr, ⊎_elim}
use mathlib.Core.Bool.{Bool, true, false}
use mathlib.Core.List.{List}
use lib.ListN.{length, get_or}
use lib.Seq.{get_or-set_same}
use lib.Dec.{ltb, eqb}
use borrow.Author.Tests.{ltb-true, leb-false, not-false}
use Rattle.scope.specs.declared.State.{State}
use Rattle.scope.specs.declared.Line.{Line}
use Rattle.scope.specs.declared.Tasks.{Tasks}
use Rattle.scope.specs.declared.Semaphores.{Semaphores}
use Rattle.scope.specs.declared.Queues.{Queues}
use Rattle.scope.specs.declared.Answer.{Answer}
use Rattle.scope.specs.declared.Found.TheVariants.{At, Invalid}
use Rattle.scope.specs.Choice.{pick}
use Rattle.scope.specs.Statuses.{PENDING}
use Rattle.scope.specs.Identifiers.{found}
use Rattle.scope.specs.Seats.{queue_seats, first_standing, leaves, becomes_ready}
use Rattle.scope.specs.Objects.{objects_end, queue_object, Objects, objects, objects_of}
use Rattle.scope.specs.Views.{with_line, with_seats}
use Rattle.scope.specs.Answers.{answer, plain, bad_state, shows, wakes_with, delivers_to}
use Rattle.scope.specs.Tasks.{task_found}
use Rattle.scope.specs.Waiting.{waits, none_woken}
use Rattle.scope.specs.Semaphores.{sem_found, sem_delete_at}
use Rattle.scope.specs.Queues.{queue_found, first_receiver, queue_delete_at}
use Rattle.scope.specs.Ticks.{ticked, tick}
use Rattle.scope.specs.Step.{stepped}
use Rattle.laws.proofs.Branches.{eq_or_not, picked_yes, picked_no}
use Rattle.laws.proofs.Tables.{found_below, found-live, usable_at, usable_free}
use Rattle.laws.specs.Seating.{In}
use Rattle.laws.proofs.Seats.Leaving.{leaves_out}
use Rattle.histories.specs.Order.{Arrivals, arrival, arrives}
use Rattle.histories.specs.Sound.{Sound}
use Rattle.histories.specs.History.{Event}
use Rattle.histories.proofs.Deeds.{new_semaphore, TaskMove, task_deleted, task_started, task_suspended, task_resumed, priority_set, SemChange, sem_created, unit_claimed, unit_released}
use Rattle.histories.proofs.Deeds.{new_queue, QueueChange, queue_created, message_put, message_received}
use Rattle.histories.proofs.Deeds.{Deed, refused, tells, tasks_change, task_moves, sems_change, pools_change, caller_waits, first_woken, sem_deleted, time_passes, by_deed}
use Rattle.histories.proofs.Deeds.{queues_change, receiver_waits, delivered, queue_deleted}
use Rattle.histories.proofs.Objects.{sem_live, sem_fifo, queue_live, queue_fifo, Elsewhere, born_elsewhere, gone_elsewhere, units_fifo, born_apart, gone_apart, store_fifo}
use Rattle.histories.proofs.Moves.{seats_low, idle_nowhere, off_nowhere}
use Rattle.histories.proofs.Waking.{dead_nobody}
use Rattle.histories.proofs.Semaphores.{runs_ready, sem_delete_at_lem}
use Rattle.histories.proofs.Queues.{queue_delete_at_lem}
use Rattle.histories.proofs.Staying.{Good, Fewer, stays_same, stays_then, leaves_stays, leaves_good, ready_stays, fewer_same, fewer_then, left_fewer, next_fewer, all_fewer, due_fewer, ticked_fewer}
use Rattle.histories.proofs.Arriving.{Ordered, Passes, passes_ordered, ordered_later, waits_ordered}

-- an answer after which the queues are in order, if they were before
pub record Goes (s : State) (a : Answer) : Type 0 where
  pub goes : (told : Arrivals) (n : ℕ) → Ordered s.line (objects_of s).fifo told n
      → Ordered a.state.line (objects_of a.state).fifo (arrives told n s a) (suc n)

module _ {s : State} where
  -- nobody arrives
  passes : {a : Answer} → eqb a.status PENDING ≡ false → Passes s.line (objects_of s).fifo a.state.line (objects_of a.state).fifo → Goes s a
  unfolding arrives
  passes {a} e p =
      record {
        goes = λ told n ok.
            subst (λ (x : Arrivals). Ordered a.state.line (objects_of a.state).fifo x (suc n)) (sym (picked_no (eqb a.status PENDING) _ told e))
            (ordered_later _ _ told n (passes_ordered _ _ _ _ told n p ok));
      }

  -- the caller does
  arrived_goes : {a : Answer} → a.status ≡ PENDING
      → ((told : Arrivals) (n : ℕ) → Ordered s.line (objects_of s).fifo told n
      → Ordered a.state.line (objects_of a.state).fifo (arrival told s.running n (get_or s.tasks.priority s.running 0)) (suc n)) → Goes s a
  unfolding arrives
  arrived_goes {a} e f =
      record {
        goes = λ told n ok.
            subst (λ (x : Arrivals). Ordered a.state.line (objects_of a.state).fifo x (suc n))
            (sym (picked_yes (eqb a.status PENDING) _ told (ap (λ (x : ℕ). eqb x PENDING) e)))
            (f told n ok);
      }

-- the queues' tasks go on waiting, or leave
moved : {l r : Line} {fifo : ℕ → Bool} → Fewer l r → Passes l fifo r fifo
moved f = record { line = f; fifos = λ i h. inl refl }

same : {l : Line} {fifo : ℕ → Bool} → Passes l fifo l fifo
same = moved (fewer_same _)

pub stay : {s : State} (x : ℕ) → eqb x PENDING ≡ false → Goes s (plain s x)
unfolding plain answer
stay x e = passes e same

pub broken_goes : (s : State) → Goes s (bad_state s)
unfolding bad_state
broken_goes s = passes refl same

-- nobody waits for a queue that is not live, nor for a semaphore
pub no_receivers : (s : State) → Sound s → (i : ℕ) → i < 8 → get_or s.queues.live i false ≡ false → (t : ℕ) → In s.line.seat (queue_seats (queue_object i)) t → ⊥
no_receivers s ok i hi dead =
    dead_nobody s.line s.tasks (objects_of s) ok.line (queue_object i) (omega arith) (queue_live s.semaphores s.queues i ∙ dead)

pub no_waiters : (s : State) → Sound s → (i : ℕ) → i < 16 → get_or s.semaphores.live i false ≡ false → (t : ℕ) → In s.line.seat (queue_seats i) t → ⊥
no_waiters s ok i hi dead =
    dead_nobody s.line s.tasks (objects_of s) ok.line i (omega arith) (sem_live s.semaphores s.queues i hi ∙ dead)

module _ (s : State) (ok : Sound s) where
  abbrev l : Line
  l = s.line

  abbrev k : Tasks
  k = s.tasks

  abbrev m : Semaphores
  m = s.semaphores

  pub good : Good l.seat
  good = record { queues = ok.line.queues; low = seats_low l k (objects_of s) ok.line }

  pub task_room : (id t : ℕ) → task_found s id ≡ At t → t < 32
  unfolding task_found pick
  task_room id t = go (eqb id 0) (ltb s.running 32) refl
    where
      go : (b c : Bool) → ltb s.running 32 ≡ c → pick b (pick c (At s.running) Invalid) (found k.serial k.live id) ≡ At t → t < 32
      go true true h e = let d : s.running ≡ t = cc in omega (arith, ltb-true s.running 32 h)
      go true false h e = let z : ◌≡◌ {A = ℕ} 0 1 = cc in absurd (omega arith)
      go false c h e = omega (arith, found_below k.serial k.live id e, ok.tasks.sized.serials)

  -- a task that stands nowhere becomes ready
  pub readied_goes : (t p : ℕ) (rings : List ℕ) → t < 32 → get_or l.seat t 0 ≡ 0 → Fewer l (with_seats l (becomes_ready l.seat l.joined t p) rings)
  readied_goes t p rings room out = record { seats = ready_stays l.seat l.joined t p good room out; joined = λ o a b u h. refl }

  pub slot_room : (id i : ℕ) → sem_found s id ≡ At i → i < 16
  slot_room id i e = omega (arith, found_below m.serial m.live id e, ok.semaphores.sized.serials)

  pub queue_room : (id i : ℕ) → queue_found s id ≡ At i → i < 8
  queue_room id i e = omega (arith, found_below s.queues.serial s.queues.live id e, ok.queues.sized.serials)

  -- an object for which nobody waits changes
  slot_passes : (r : Line) (n : Objects) (i : ℕ) → Fewer l r → Elsewhere (objects_of s) n i → ((t : ℕ) → In r.seat (queue_seats i) t → ⊥)
      → Passes l (objects_of s).fifo r n.fifo
  slot_passes r n i f same none =
      record {
        line = f;
        fifos = λ j h.
            ⊎_elim (λ e. inr (subst (λ (v : ℕ). (t : ℕ) → In r.seat (queue_seats v) t → ⊥) (sym e) none))
            (λ ne. inl (same.fifo j ne))
            (eq_or_not j i);
      }

  -- what each deed does to the queues
  module _ (x : Event) where
    move_fewer : {r : Tasks} {q : Line} {v : ℕ} → TaskMove s x r q v → Fewer l q
    move_fewer (task_deleted at t e) = left_fewer l good t 0 0 (leaves l.seat t) _ (stays_same (leaves l.seat t))
    move_fewer (task_started at t e f) =
        let room : t < 32 = task_room x.a t e in
        readied_goes t _ _ room (idle_nowhere l k (objects_of s) ok.line t room f).seat
    move_fewer (task_suspended at t e f g h) = record { seats = leaves_stays l.seat good t; joined = λ o a b u i. refl }
    move_fewer (task_resumed at t e f g h) =
        let room : t < 32 = task_room x.a t e in
        readied_goes t _ _ room (off_nowhere l k (objects_of s) ok.line t room h (not-false (get_or k.suspended t false) g)).seat
    move_fewer (priority_set at t e f g) =
        record {
          seats = stays_then l.seat (leaves l.seat t) _ (leaves_stays l.seat good t)
              (ready_stays (leaves l.seat t) l.joined t x.b (leaves_good l.seat good t) (task_room x.a t e) (leaves_out l.seat t));
          joined = λ o a b u h. refl;
        }

    sem_passes : {n : Semaphores} {v : ℕ} → SemChange s x n v → Passes l (objects m s.queues).fifo l (objects n s.queues).fifo
    sem_passes (sem_created at e f g) =
        let h : new_semaphore s < length m.serial = leb-false (length m.serial) (new_semaphore s) g in
        slot_passes l _ (new_semaphore s) (fewer_same l)
        (born_elsewhere m s.queues (new_semaphore s) _ _ _)
        (no_waiters s ok (new_semaphore s) (omega (arith, h, ok.semaphores.sized.serials))
        (usable_free m.serial m.live (new_semaphore s) (usable_at m.serial m.live h)))
    sem_passes (unit_claimed at i e f) = subst (λ (f : ℕ → Bool). Passes l (objects m s.queues).fifo l f) (sym (units_fifo m s.queues i _)) same
    sem_passes (unit_released at i e f g) = subst (λ (f : ℕ → Bool). Passes l (objects m s.queues).fifo l f) (sym (units_fifo m s.queues i _)) same

    queue_passes : {u : Queues} {v : ℕ} {shown : List ℕ} → QueueChange s x u v shown → Passes l (objects m s.queues).fifo l (objects m u).fifo
    queue_passes (queue_created at e f g) =
        let h : new_queue s < length s.queues.serial = leb-false (length s.queues.serial) (new_queue s) g in
        slot_passes l _ (queue_object (new_queue s)) (fewer_same l)
        (born_apart m s.queues (new_queue s) _ _ _ _)
        (no_receivers s ok (new_queue s) (omega (arith, h, ok.queues.sized.serials))
        (usable_free s.queues.serial s.queues.live (new_queue s) (usable_at s.queues.serial s.queues.live h)))
    queue_passes (message_put c i e f g h) = subst (λ (f : ℕ → Bool). Passes l (objects m s.queues).fifo l f) (sym (store_fifo m s.queues i _)) same
    queue_passes (message_received at i e f) = subst (λ (f : ℕ → Bool). Passes l (objects m s.queues).fifo l f) (sym (store_fifo m s.queues i _)) same

    -- the caller waits for object i
    waiter_goes : (i : ℕ) → i < objects_end → (fifo : Bool) → (objects_of s).fifo i ≡ fifo → s.running < 32
        → Goes s (answer (with_line s (waits l i fifo (get_or k.priority s.running 0) x.c s.running)) PENDING 0 0 0 0 false)
    unfolding answer
    waiter_goes i hi fifo e h =
        let p : ℕ = get_or k.priority s.running 0 in
        arrived_goes refl
        (λ told n before.
        subst (λ (f : Bool). Ordered (waits l i f p x.c s.running) (objects_of s).fifo (arrival told s.running n p) (suc n)) e
        (waits_ordered l k (objects_of s) ok.line s.running h (runs_ready s ok h) i p x.c hi told n before))

    deed_goes : {a : Answer} → Deed s x a → Goes s a
    unfolding plain answer shows wakes_with delivers_to sem_delete_at queue_delete_at tick
    deed_goes (refused status e f listed) = stay status f
    deed_goes (tells call at e v0 v1 v2 v3 negative) = passes refl same
    deed_goes (tasks_change c) = passes refl same
    deed_goes (task_moves c) = passes refl (moved (move_fewer c))
    deed_goes (sems_change c) = passes refl (sem_passes c)
    deed_goes (pools_change c) = passes refl same
    deed_goes (caller_waits at i e f g time) =
        let hi : i < 16 = slot_room x.a i e in
        waiter_goes i (omega arith) _ (sem_fifo m s.queues i hi) (leb-false 32 s.running g)
    deed_goes (first_woken at i e f) = passes refl (moved (next_fewer k (none_woken l) (first_standing l.seat (queue_seats i)) (ltb-true _ 32 f) good))
    deed_goes (sem_deleted at i e) =
        let hi : i < 16 = slot_room x.a i e in
        passes refl
        (slot_passes _ _ i (all_fewer k i 32 (none_woken l) good)
        (gone_elsewhere m s.queues i)
        (no_waiters (sem_delete_at s i).state (sem_delete_at_lem s ok i hi (found-live m.serial m.live x.a e)) i hi
        (get_or-set_same m.live i false false (omega (arith, ok.semaphores.sized.lives)))))
    deed_goes (queues_change c) = passes refl (queue_passes c)
    deed_goes (receiver_waits at i e f g time) =
        let hi : i < 8 = queue_room x.a i e in
        waiter_goes (queue_object i) (omega arith) _ (queue_fifo m s.queues i) (leb-false 32 s.running g)
    deed_goes (delivered c i e f g) = passes refl (moved (next_fewer k (none_woken l) (first_receiver s i) (ltb-true _ 32 g) good))
    deed_goes (queue_deleted at i e) =
        let hi : i < 8 = queue_room x.a i e in
        passes refl
        (slot_passes _ _ (queue_object i) (all_fewer k (queue_object i) 32 (none_woken l) good)
        (gone_apart m s.queues i)
        (no_receivers (queue_delete_at s i).state (queue_delete_at_lem s ok i hi (found-live s.queues.serial s.queues.live x.a e)) i hi
        (get_or-set_same s.queues.live i false false (omega (arith, ok.queues.sized.lives)))))
    deed_goes (time_passes at) =
        passes refl (moved (fewer_then l (ticked l) _ (ticked_fewer l) (due_fewer k l 32 0 (none_woken (ticked l)) (omega arith) good)))

-- each step
pub step_goes : (s : State) → Sound s → (call mark a b c d e : ℕ) (m : List ℕ) → Goes s (stepped s call mark a b c d e m)
step_goes s ok call mark a b c d e m =
    let x : Event = record { call = call; mark = mark; a = a; b = b; c = c; d = d; e = e; message = m } in
    by_deed s x (Goes s) (λ y d. deed_goes s ok x d) (λ h. broken_goes s)
