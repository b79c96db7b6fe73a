-- In every history from a fresh state the seats, the joining priorities and the options say what the answers tell: who waits for
-- which semaphore or queue and in which order. So a release grants the waiter that none precedes, told by the answers alone.
-- Assumes nothing.
use Prim.Native.Nat.{ℕ, zero, suc, ◌+◌, ◌-◌, ◌≤◌, ◌<◌}
use native.Mathlib.Omega.{arith}
use mathlib.Core.Path.{◌≡◌, refl, sym, subst, ap, ◌∙◌}
use mathlib.Core.Logic.{inl, inr, ⊎_elim}
use mathlib.Core.Bool.{Bool, true, false}
use mathlib.Core.List.{List, [], ◌∷◌}
use lib.ListN.{length, get_or, replicate, get_or-replicate}
use lib.Dec.{ltb, leb}
use borrow.Author.Tests.{leb-true, ltb-true, lt-ltb, le-ltb}
use Rattle.scope.specs.declared.State.{State}
use Rattle.scope.specs.declared.Queues.{Queues}
use Rattle.scope.specs.declared.Fresh.{Fresh}
use Rattle.scope.specs.Choice.{pick, number}
use Rattle.scope.specs.Identifiers.{identifier}
use Rattle.scope.specs.Lists.{has}
use Rattle.scope.specs.Seats.{queue_seats, stands_in, standing}
use Rattle.scope.specs.Objects.{objects_end, first_queue, of_object, objects, objects_of}
use Rattle.scope.specs.Views.{running_task, waiters_of}
use Rattle.scope.specs.Fresh.{fresh_state, fresh}
use Rattle.scope.specs.Rules.{queue_right}
use Rattle.scope.proofs.Rows.{by_choice}
use Rattle.laws.proofs.Branches.{both, both_true, true-false, picked_yes, picked_no}
use Rattle.laws.proofs.Tables.{identifier-found}
use Rattle.histories.specs.Sound.{Waits, Sound}
use Rattle.histories.specs.History.{Event, after}
use Rattle.histories.specs.Order.{Arrivals, no_arrivals, arrivals, WaitsFor, InOrder, Ahead as AheadBySlot, Precedes as PrecedesBySlot}
use Rattle.histories.proofs.Fresh.{fresh_sound}
use Rattle.histories.proofs.Objects.{sem_live, sem_fifo, queue_live, queue_fifo}
use Rattle.histories.proofs.Moves.{queue_waits}
use Rattle.histories.proofs.Order.{history_in_order}
use Rattle.histories.proofs.Demand.{end_sound}
use Rattle.books.specs.Past.{Turn, past_of}
use Rattle.books.specs.Waiting.{Kind, a_semaphore, a_queue, fifo_of, priority_in, joined_as, arrival_of, waiters_for, AheadIn, PrecedesIn}
use Rattle.books.proofs.Members.{length-number}
use Rattle.books.proofs.Agreeing.{WaiterOf, Waiters, Options, Agrees, options_of_lem, waiters_of_lem, object_room, kind_room}
use Rattle.books.proofs.Claiming.{apart_slots, waits_room}
use Rattle.books.proofs.Telling.{agrees_after}
use Rattle.books.specs.Told.{room_of, object_of, lives_of, fifos_of, ObjectAt, StandsFor, QueuesTold, SeatsTold, task_id, id_of}

-- a fresh state has no semaphore and no queue, so nobody waits
fresh_dead : (p i : ℕ) → (objects_of (fresh_state p)).live i ≡ false
unfolding fresh_state objects of_object
fresh_dead p i = by_choice (λ (b : Bool). b ≡ false) _ (λ e. get_or_none 16 i) (λ e. get_or_none 8 (i - first_queue))
  where
    get_or_none : (n j : ℕ) → get_or (replicate n false) j false ≡ false
    get_or_none zero j = refl
    get_or_none (suc n) zero = refl
    get_or_none (suc n) (suc j) = get_or_none n j

pub fresh_idle : (p : ℕ) → p ≤ 15 → (i : ℕ) → i < objects_end → (t : ℕ) → WaitsFor (fresh_state p) i t → ⊥
fresh_idle p h i hi t w =
    let s : State = fresh_state p in
    let ok : Sound s = fresh_sound p h in
    let v : (v : Waits s.line s.tasks (objects_of s) t) × (v.on ≡ i) =
    queue_waits s.line s.tasks (objects_of s) ok.line t (waits_room s ok.line.queues i t w) i hi w in
    true-false v.0.alive (fresh_dead p v.0.on)

fresh_priority : (p t : ℕ) → t < 32 → get_or (true ∷ replicate 31 false) t false ≡ true
    → priority_in p [] (identifier (get_or (1 ∷ replicate 31 0) t 0) t) ≡ get_or (p ∷ replicate 31 0) t 0
unfolding pick
fresh_priority p zero h e = refl
fresh_priority p (suc t) h e = absurd (true-false e (get_or-replicate 31 t false false (omega arith)))

fresh_options : (p : ℕ) (kind : Kind) → Options kind (fresh_state p) []
unfolding fresh_state
fresh_options p a_semaphore i h e = absurd (true-false e (get_or-replicate 16 i false false h))
fresh_options p a_queue i h e = absurd (true-false e (get_or-replicate 8 i false false h))

fresh_waiters : (p : ℕ) → p ≤ 15 → (kind : Kind) → Waiters kind p (fresh_state p) [] no_arrivals
fresh_waiters p h kind =
    record {
      on = λ i hi t w. absurd (idle i hi t w);
      off = λ id y e. absurd (true-false e refl);
      once = λ id. record {};
      claim = λ i hi t w. absurd (idle i hi t w);
      since = λ i hi t w. absurd (idle i hi t w);
      joined = λ i hi t w. absurd (idle i hi t w);
    }
  where
    idle : (i : ℕ) → i < room_of kind → (t : ℕ) → WaitsFor (fresh_state p) (object_of kind i) t → ⊥
    idle i hi t w = fresh_idle p h (object_of kind i) (object_room kind i hi) t w

pub fresh_agrees : (p : ℕ) → p ≤ 15 → Agrees p (fresh_state p) [] no_arrivals
unfolding fresh_state running_task pick
fresh_agrees p h =
    record {
      times = refl;
      running = refl;
      priority = fresh_priority p;
      fifo = fresh_options p a_semaphore;
      queue_fifo = fresh_options p a_queue;
      waiters = fresh_waiters p h a_semaphore;
      receivers = fresh_waiters p h a_queue;
    }

-- who stands in a queue, as the count has it
in_stands : (q : List ℕ) (o t : ℕ) → (o < get_or q t 0) × (get_or q t 0 < o + 63) → stands_in q o t ≡ true
unfolding stands_in
in_stands q o t w = both _ _ (lt-ltb o (get_or q t 0) w.0) (lt-ltb (get_or q t 0) (o + 63) w.1)

stands_in_lem : (q : List ℕ) (o t : ℕ) → stands_in q o t ≡ true → (o < get_or q t 0) × (get_or q t 0 < o + 63)
unfolding stands_in
stands_in_lem q o t e =
    let b : (ltb o (get_or q t 0) ≡ true) × (ltb (get_or q t 0) (o + 63) ≡ true) = both_true (ltb o (get_or q t 0)) _ e in
    (ltb-true o (get_or q t 0) b.0, ltb-true (get_or q t 0) (o + 63) b.1)

-- what an object of a kind is: its row of the objects
kind_live : (kind : Kind) (s : State) (i : ℕ) → i < room_of kind → (objects_of s).live (object_of kind i) ≡ get_or (lives_of kind s) i false
kind_live a_semaphore s i h = sem_live s.semaphores s.queues i h
kind_live a_queue s i h = queue_live s.semaphores s.queues i

kind_fifo : (kind : Kind) (s : State) (i : ℕ) → i < room_of kind → (objects_of s).fifo (object_of kind i) ≡ get_or (fifos_of kind s) i false
kind_fifo a_semaphore s i h = sem_fifo s.semaphores s.queues i h
kind_fifo a_queue s i h = queue_fifo s.semaphores s.queues i

-- a live queue was issued
queue_issued : (u : Queues) (i : ℕ) → get_or u.live i false ≡ true → queue_right u i ≡ true → 1 ≤ get_or u.serial i 0
unfolding queue_right
queue_issued u i live right =
    leb-true 1 (get_or u.serial i 0) (both_true (leb 1 (get_or u.serial i 0)) _ (sym (picked_yes (get_or u.live i false) _ _ live) ∙ right)).0

-- a live object's identifier names it
kind_names : (kind : Kind) (s : State) → Sound s → (i : ℕ) → i < room_of kind → get_or (lives_of kind s) i false ≡ true → ObjectAt kind s (id_of kind s i) i
kind_names a_semaphore s ok i h live =
    identifier-found s.semaphores.serial s.semaphores.live i (omega (arith, ok.semaphores.sized.serials)) (omega arith) live
    ((ok.semaphores.each i h).alive live)
kind_names a_queue s ok i h live =
    identifier-found s.queues.serial s.queues.live i (omega (arith, ok.queues.sized.serials)) (omega arith) live
    (queue_issued s.queues i live (ok.queues.each i h))

module _ (kind : Kind) (p : ℕ) (s : State) (ok : Sound s) (past : List Turn) (told : Arrivals) (ag : Agrees p s past told) where
  abbrev on_list : ℕ → List ℕ
  on_list = waiters_for kind past

  -- whoever is on the list of the object in slot i stands in its queue
  at_slot : (i : ℕ) → i < room_of kind → (y : ℕ) → has (on_list (id_of kind s i)) y ≡ true
      → (t : ℕ) × (t < 32) × WaitsFor s (object_of kind i) t × (y ≡ task_id s t)
  at_slot i h y e =
      let w : WaiterOf kind s (id_of kind s i) y = (waiters_of_lem ag kind).off (id_of kind s i) y e in
      let d : w.slot ≡ i = apart_slots _ _ w.slot i (omega (arith, kind_room kind w.slot w.room)) (omega (arith, kind_room kind i h)) (sym w.of) in (
        w.task,
        waits_room s ok.line.queues (object_of kind w.slot) w.task w.waits,
        subst (λ (v : ℕ). WaitsFor s (object_of kind v) w.task) d w.waits,
        w.who,
      )

  slot_stands : (i : ℕ) → i < room_of kind → (t : ℕ) → t < 32 → has (on_list (id_of kind s i)) (task_id s t) ≡ true → WaitsFor s (object_of kind i) t
  slot_stands i h t room e =
      let w = at_slot i h (task_id s t) e in
      subst (λ (v : ℕ). WaitsFor s (object_of kind i) v) (apart_slots _ _ w.0 t (omega (arith, w.1)) (omega arith) (sym w.3)) w.2

  -- an object that someone waits for is live
  waited_live : (i : ℕ) → i < room_of kind → (t : ℕ) → WaitsFor s (object_of kind i) t → get_or (lives_of kind s) i false ≡ true
  waited_live i h t w =
      let o : ℕ = object_of kind i in
      let v : (v : Waits s.line s.tasks (objects_of s) t) × (v.on ≡ o) =
      queue_waits s.line s.tasks (objects_of s) ok.line t (waits_room s ok.line.queues o t w) o (object_room kind i h) w in
      sym (kind_live kind s i h) ∙ subst (λ (j : ℕ). (objects_of s).live j ≡ true) v.1 v.0.alive

  stands_at : (id y : ℕ) → has (on_list id) y ≡ true → StandsFor kind s id y
  stands_at id y e =
      let w : WaiterOf kind s id y = (waiters_of_lem ag kind).off id y e in
      record {
        slot = w.slot;
        task = w.task;
        names = subst (λ (v : ℕ). ObjectAt kind s v w.slot) (sym w.of)
            (kind_names kind s ok w.slot w.room (waited_live w.slot w.room w.task w.waits));
        waits = w.waits;
        who = w.who;
      }

  how_many : (i : ℕ) → i < room_of kind → length (on_list (id_of kind s i)) ≡ waiters_of s.line (object_of kind i)
  unfolding standing
  how_many i h =
      length-number 32 (task_id s) (λ t u a b e. apart_slots _ _ t u (omega arith) (omega arith) e) (on_list (id_of kind s i))
      ((waiters_of_lem ag kind).once (id_of kind s i))
      (stands_in s.line.seat (queue_seats (object_of kind i)))
      (λ y e. let w = at_slot i h y e in (w.0, w.1, in_stands s.line.seat (queue_seats (object_of kind i)) w.0 w.2, w.3))
      (λ t a e. (waiters_of_lem ag kind).on i h t (stands_in_lem s.line.seat (queue_seats (object_of kind i)) t e))

  -- the order by slots and the order that is told
  module _ (order : InOrder s told) (i : ℕ) (h : i < room_of kind) (t u : ℕ) (a : WaitsFor s (object_of kind i) t) (b : WaitsFor s (object_of kind i) u) where
    since_t : arrival_of kind past (task_id s t) ≡ get_or told.time t 0
    since_t = (waiters_of_lem ag kind).since i h t a

    since_u : arrival_of kind past (task_id s u) ≡ get_or told.time u 0
    since_u = (waiters_of_lem ag kind).since i h u b

    with_t : joined_as kind p past (task_id s t) ≡ get_or told.priority t 0
    with_t = (waiters_of_lem ag kind).joined i h t a ∙ order.joined (object_of kind i) (object_room kind i h) t a

    with_u : joined_as kind p past (task_id s u) ≡ get_or told.priority u 0
    with_u = (waiters_of_lem ag kind).joined i h u b ∙ order.joined (object_of kind i) (object_room kind i h) u b

    ahead_told : (f : Bool) → AheadBySlot f told t u → AheadIn kind f p past (task_id s t) (task_id s u)
    ahead_told true c = omega (arith, c, since_t, since_u)
    ahead_told false c =
        ⊎_elim
        (λ d. inl (omega (arith, d, with_t, with_u)))
        (λ d. inr (omega (arith, d.0, with_t, with_u), omega (arith, d.1, since_t, since_u)))
        c

    told_ahead : (f : Bool) → AheadIn kind f p past (task_id s t) (task_id s u) → AheadBySlot f told t u
    told_ahead true c = omega (arith, c, since_t, since_u)
    told_ahead false c =
        ⊎_elim
        (λ d. inl (omega (arith, d, with_t, with_u)))
        (λ d. inr (omega (arith, d.0, with_t, with_u), omega (arith, d.1, since_t, since_u)))
        c

    option : fifo_of kind past (id_of kind s i) ≡ (objects_of s).fifo (object_of kind i)
    option = options_of_lem ag kind i h (waited_live i h t a) ∙ sym (kind_fifo kind s i h)

    pub precedes_told : PrecedesBySlot s told (object_of kind i) t u → PrecedesIn kind p past (id_of kind s i) (task_id s t) (task_id s u)
    precedes_told c =
        subst (λ (f : Bool). AheadIn kind f p past (task_id s t) (task_id s u)) (sym option) (ahead_told ((objects_of s).fifo (object_of kind i)) c)

    told_precedes : PrecedesIn kind p past (id_of kind s i) (task_id s t) (task_id s u) → PrecedesBySlot s told (object_of kind i) t u
    told_precedes c =
        told_ahead ((objects_of s).fifo (object_of kind i)) (subst (λ (f : Bool). AheadIn kind f p past (task_id s t) (task_id s u)) option c)

  all_told : InOrder s told → QueuesTold kind p s past
  all_told order =
      record {
        running = ag.running;
        priority = ag.priority;
        fifo = options_of_lem ag kind;
        listed = (waiters_of_lem ag kind).on;
        stands = slot_stands;
        others = stands_at;
        once = (waiters_of_lem ag kind).once;
        number = how_many;
        claims = (waiters_of_lem ag kind).claim;
        joined = (waiters_of_lem ag kind).joined;
        forward = λ i h t u a b less. precedes_told order i h t u a b (order.forward (object_of kind i) (object_room kind i h) t u a b less);
        back = λ i h t u a b c. order.back (object_of kind i) (object_room kind i h) t u a b (told_precedes order i h t u a b c);
      }

-- the fresh state that is asked for
pub fresh_same : (p : ℕ) → p ≤ 15 → (fresh p).state ≡ fresh_state p
unfolding fresh
fresh_same p h = ap (λ (f : Fresh). f.state) (picked_no (ltb 15 p) _ _ (le-ltb 15 p h))

-- "For any history from a fresh state"
module _ (p : ℕ) (h : p ≤ 15) (xs : List Event) where
  abbrev now : State
  now = after (fresh_state p) xs

  abbrev past : List Turn
  past = past_of p xs

  abbrev told : Arrivals
  told = arrivals (fresh_state p) xs

  pub history_agrees : Agrees p now past told
  history_agrees = agrees_after p (fresh_state p) (fresh_sound p h) xs [] no_arrivals (fresh_agrees p h)

  pub in_order : InOrder now told
  in_order = subst (λ (s : State). InOrder (after s xs) (arrivals s xs)) (fresh_same p h) (history_in_order p xs)

  -- the seats, joining priorities and options say what the history tells, of the semaphores and of the queues
  pub queues_told : (kind : Kind) → QueuesTold kind p now past
  queues_told kind = all_told kind p now (end_sound p h xs) past told history_agrees in_order

  pub seats_told : SeatsTold p now past
  seats_told = queues_told a_semaphore
