-- A turn keeps a state in agreement with what is told, by kinds of turn: nothing is created, deleted or re-prioritised and at most
-- some are woken; a task is created, deleted or given another priority; a semaphore or a queue is created or deleted; the caller waits.
-- Assumes nothing.
use Prim.Native.Nat.{ℕ, suc, ◌<◌}
use native.Mathlib.Omega.{arith}
use mathlib.Core.Path.{◌≡◌, refl, sym, subst, ap, ◌∙◌}
use mathlib.Core.Logic.{◌⊎◌, inl, inr, ⊎_elim}
use mathlib.Core.Bool.{Bool, true, false, ◌||◌}
use mathlib.Core.List.{List, [], ◌∷◌}
use lib.ListN.{length, get_or}
use lib.Dec.{ltb, eqb}
use borrow.Author.Tests.{lt-ltb, ne_eqb}
use Rattle.scope.specs.declared.State.{State}
use Rattle.scope.specs.declared.Line.{Line}
use Rattle.scope.specs.declared.Answer.{Answer}
use Rattle.scope.specs.declared.Waking.{Waking}
use Rattle.scope.specs.declared.Found.TheVariants.{At, Invalid}
use Rattle.scope.specs.Choice.{pick}
use Rattle.scope.specs.Statuses.{OK, PENDING, TIME_OUT}
use Rattle.scope.specs.Identifiers.{identifier, found}
use Rattle.scope.specs.Seats.{queue_seats, waits_on}
use Rattle.scope.specs.Objects.{objects_end, objects_of}
use Rattle.scope.specs.Views.{running_task}
use Rattle.scope.specs.Answers.{wakes_with}
use Rattle.scope.specs.Waiting.{none_woken}
use Rattle.scope.specs.Ticks.{ticked, wake_due, tick}
use Rattle.scope.specs.Tasks.{task_found}
use Rattle.scope.specs.Replies.{Wake, wakes_from, wake_list}
use Rattle.laws.proofs.Branches.{both, true-false, true_or_false, eq_or_not, picked_yes, picked_no}
use Rattle.laws.proofs.Tables.{found-identifier}
use Rattle.laws.specs.Seating.{In}
use Rattle.histories.specs.Sound.{Waits, Sound}
use Rattle.histories.specs.History.{Event}
use Rattle.histories.specs.Order.{Arrivals, arrives, WaitsFor}
use Rattle.histories.proofs.Callers.{has}
use Rattle.histories.proofs.Moves.{queue_waits}
use Rattle.histories.proofs.Staying.{Fewer, fewer_then, due_fewer, ticked_fewer}
use Rattle.histories.proofs.Turns.{good}
use Rattle.books.specs.Past.{Turn, is_answer, is_answer_of, value, running_in}
use Rattle.books.specs.Waiting.{Kind, a_semaphore, a_queue, creation, options_of, deletion, wait_call, fifo_of, target, done_to, priority_in, wakes, ends_wait}
use Rattle.books.proofs.Granting.{nobody}
use Rattle.books.proofs.Woken.{wakes_at, at_wakes, Woke, none_woke, due_woke}
use Rattle.books.proofs.Agreeing.{turn_of, Waiters, Options, Agrees, options_of_lem, waiters_of_lem, object_room, kind_room, not_call, not_status, is_answer_lem}
use Rattle.books.proofs.Agreeing.{not_creates, not_new, is_new, not_of, not_on, not_done, done_other, is_done, waiters_fewer}
use Rattle.books.proofs.Claiming.{apart_slots, waits_room}
use Rattle.books.specs.Told.{room_of, object_of, serials_of, lives_of, fifos_of, task_id, id_of}

-- an answer after which the state agrees, if it did before
pub record Steps (s : State) (x : Event) (a : Answer) : Type 0 where
  pub steps : (p : ℕ) (past : List Turn) (told : Arrivals) → Agrees p s past told
      → Agrees p a.state (turn_of x a ∷ past) (arrives told (suc (length past)) s a)

-- who waits is a live task
pub waiter_live : (s : State) → Sound s → (i : ℕ) → i < objects_end → (t : ℕ) → WaitsFor s i t → get_or s.tasks.live t false ≡ true
waiter_live s ok i h t w =
    let room : t < 32 = waits_room s ok.line.queues i t w in
    let v : (w : Waits s.line s.tasks (objects_of s) t) × (w.on ≡ i) =
    queue_waits s.line s.tasks (objects_of s) ok.line t room i h w in
    ⊎_elim (λ e. e) (λ e. absurd (true-false v.0.started ((ok.tasks.each t room).started e))) (true_or_false (get_or s.tasks.live t false))

-- and its seat tells
pub waiter_seen : (q : List ℕ) (i : ℕ) → i < objects_end → (t : ℕ) → In q (queue_seats i) t → waits_on (get_or q t 0) ≡ true
unfolding waits_on
waiter_seen q i h t w =
    both _ _ (lt-ltb 0 (get_or q t 0) (omega (arith, w.0))) (lt-ltb (get_or q t 0) 2048 (omega (arith, w.1)))

or_first : (b c : Bool) → c ≡ false → (b || c) ≡ b
or_first true c e = refl
or_first false c e = e

pub or_second : (b c : Bool) → b ≡ false → (b || c) ≡ c
or_second b c e = rw e

-- how a wait ends: by a wake, where no task was deleted; by a deletion, where nobody was woken
pub ends_woken : (past : List Turn) (y : Turn) (z : ℕ) → is_answer 2 OK y ≡ false → ends_wait past y z ≡ wakes y.reply.wakes z
unfolding ends_wait
ends_woken past y z e = or_first (wakes y.reply.wakes z) _ (not_done y past 2 z e)

pub ends_deleted : (past : List Turn) (y : Turn) (z : ℕ) → y.reply.wakes ≡ [] → ends_wait past y z ≡ done_to 2 past z y
unfolding ends_wait
ends_deleted past y z e = or_second (wakes y.reply.wakes z) _ (ap (λ l. wakes l z) e)

-- the task that a call names
pub target_is : (s : State) (past : List Turn) (y : Turn) (t : ℕ) → running_in past ≡ running_task s → task_found s y.event.a ≡ At t → target past y ≡ task_id s t
unfolding target task_found running_task pick
target_is s past y t runs = go (eqb id 0) (ltb s.running 32) runs
  where
    id : ℕ
    id = y.event.a

    go : (b c : Bool) → running_in past ≡ pick c (task_id s s.running) 0
        → pick b (pick c (At s.running) Invalid) (found s.tasks.serial s.tasks.live id) ≡ At t → pick b (running_in past) id ≡ task_id s t
    go true true r e = let d : s.running ≡ t = cc in r ∙ ap (task_id s) d
    go true false r e = let z : ◌≡◌ {A = ℕ} 0 1 = cc in absurd (omega arith)
    go false c r e = found-identifier s.tasks.serial s.tasks.live id e

-- the columns that identifiers, priorities and options are in
pub record SameTasks (s : State) (a : Answer) : Type 0 where
  pub serial : a.state.tasks.serial ≡ s.tasks.serial
  pub live : a.state.tasks.live ≡ s.tasks.live
  pub priority : a.state.tasks.priority ≡ s.tasks.priority

pub record SameKind (kind : Kind) (s : State) (a : Answer) : Type 0 where
  pub serial : serials_of kind a.state ≡ serials_of kind s
  pub live : lives_of kind a.state ≡ lives_of kind s
  pub fifo : fifos_of kind a.state ≡ fifos_of kind s

-- those of both kinds, where the tables are the same
pub same_tables : (s : State) (a : Answer) → a.state.semaphores ≡ s.semaphores → a.state.queues ≡ s.queues → (kind : Kind) → SameKind kind s a
same_tables s a e f a_semaphore = record { serial = ap (λ m. m.serial) e; live = ap (λ m. m.live) e; fifo = ap (λ m. m.fifo) e }
same_tables s a e f a_queue = record { serial = ap (λ u. u.serial) f; live = ap (λ u. u.live) f; fifo = ap (λ u. u.fifo) f }

-- the other kind
abbrev pub other_kind : Kind → Kind
other_kind a_semaphore = a_queue
other_kind a_queue = a_semaphore

pub by_kinds : (P : Kind → Type 0) (kind : Kind) → P kind → P (other_kind kind) → (k : Kind) → P k
by_kinds P a_semaphore f g a_semaphore = f
by_kinds P a_semaphore f g a_queue = g
by_kinds P a_queue f g a_semaphore = g
by_kinds P a_queue f g a_queue = f

-- the calls that create or delete a task, a semaphore or a queue, or give a priority, and one that is none of them
abbrev makes : ℕ → Bool
makes c = has (1 ∷ 2 ∷ 7 ∷ 8 ∷ 9 ∷ 20 ∷ 21 ∷ []) c

pub record Spares (c : ℕ) : Type 0 where
  pub births : eqb c 1 ≡ false
  pub deaths : eqb c 2 ≡ false
  pub priorities : eqb c 7 ≡ false
  pub creations : (kind : Kind) → eqb c (creation kind) ≡ false
  pub deletions : (kind : Kind) → eqb c (deletion kind) ≡ false

pub spares : (c : ℕ) → ((k : ℕ) → makes k ≡ true → eqb c k ≡ false) → Spares c
spares c not =
    record {
      births = not 1 refl;
      deaths = not 2 refl;
      priorities = not 7 refl;
      creations = by_kinds _ a_semaphore (not 8 refl) (not 20 refl);
      deletions = by_kinds _ a_semaphore (not 9 refl) (not 21 refl);
    }

pub spared : (c : ℕ) → makes c ≡ false → Spares c
spared c e = spares c (λ k f. ne_eqb c k (λ d. true-false (ap makes d ∙ f) e))

-- since state s, tasks left queues, woken, and nobody joined one
pub record Leave (s : State) (line : Line) (list : List Wake) : Type 0 where
  pub fewer : Fewer s.line line
  pub went : (i : ℕ) → i < objects_end → (t : ℕ) → WaitsFor s i t → (In line.seat (queue_seats i) t) ⊎ (wakes list (task_id s t) ≡ true)
  pub gone : (i : ℕ) → i < objects_end → (t : ℕ) → In line.seat (queue_seats i) t → wakes list (task_id s t) ≡ false

-- and so it is by an answer
pub record Moves (s : State) (a : Answer) : Type 0 where
  pub leave : Leave s a.state.line (wake_list a)

-- nobody is woken, and who waits goes on waiting
pub moves_none : (s : State) (a : Answer) → Fewer s.line a.state.line
    → ((i : ℕ) → i < objects_end → (t : ℕ) → WaitsFor s i t → WaitsFor a.state i t) → a.woken ≡ 0 → Moves s a
moves_none s a fewer forth e =
    record {
      leave = record {
        fewer = fewer;
        went = λ i h t w. inl (forth i h t w);
        gone = λ i h t w. ap (λ l. wakes l (task_id s t)) (nobody a.woken e a.wakes a.why);
      };
    }

-- those who left are on the wake list
pub moves_woke : (s : State) → Sound s → (l : Line) (w : Waking) (why : ℕ) → s.line.seat ≡ l.seat → Fewer s.line w.line → Woke s.tasks l w
    → Leave s w.line (wakes_from w.woken 0 w.wakes why)
moves_woke s ok l w why same fewer woke =
    record {
      fewer = fewer;
      went = λ i h t a. ⊎_elim inl
          (λ b. inr (at_wakes w.woken 0 w.wakes why (task_id s t) b.0 (omega arith) (omega (arith, b.1)) b.2))
          (woke.left i h t (subst (λ (q : List ℕ). In q (queue_seats i) t) same a));
      gone = λ i h t a. ⊎_elim
          (λ e. absurd (let b = wakes_at w.woken 0 w.wakes why (task_id s t) e in
          let o = woke.out b.0 (omega (arith, b.1)) in
          let room : t < 32 = waits_room s ok.line.queues i t (fewer.seats.stood (queue_seats i) (omega arith) (omega arith) t a) in
          let d : t ≡ o.0 = apart_slots _ _ t o.0 (omega arith) (omega (arith, o.1)) (sym b.2 ∙ o.2) in
          o.3 i h (subst (λ (u : ℕ). In w.line.seat (queue_seats i) u) d a)))
          (λ e. e)
          (true_or_false (wakes (wakes_from w.woken 0 w.wakes why) (task_id s t)));
    }

-- a tick
pub tick_moves : (s : State) → Sound s → Moves s (tick s)
unfolding tick wakes_with
tick_moves s ok =
    let line : Line = ticked s.line in
    let start : Waking = none_woken line in
    record {
      leave = moves_woke s ok line (wake_due s.tasks s.line 32 0 start) TIME_OUT refl
          (fewer_then s.line line _ (ticked_fewer s.line) (due_fewer s.tasks s.line 32 0 start (omega arith) (good s ok)))
          (due_woke s.tasks line s.line 32 0 start (omega arith) (omega arith) (none_woke s.tasks line (good s ok)));
    }

-- a turn at which nobody arrives, by its parts
module _ (s : State) (x : Event) (a : Answer) (mute : eqb a.status PENDING ≡ false) (runs : a.running ≡ running_task a.state) where
  abbrev y : Turn
  y = turn_of x a

  by_parts :
      ((p : ℕ) (past : List Turn) (told : Arrivals) → Agrees p s past told → (t : ℕ) → t < 32 → get_or a.state.tasks.live t false ≡ true
      → priority_in p (y ∷ past) (task_id a.state t) ≡ get_or a.state.tasks.priority t 0)
      → ((kind : Kind) (p : ℕ) (past : List Turn) (told : Arrivals) → Agrees p s past told → Options kind a.state (y ∷ past))
      → ((kind : Kind) (p : ℕ) (past : List Turn) (told : Arrivals) → Agrees p s past told → Waiters kind p a.state (y ∷ past) told)
      → Steps s x a
  unfolding arrives
  by_parts priority options waiters =
      record {
        steps = λ p past told ag.
            subst (λ (v : Arrivals). Agrees p a.state (y ∷ past) v) (sym (picked_no (eqb a.status PENDING) _ told mute))
            (record {
              times = ag.times;
              running = runs;
              priority = priority p past told ag;
              fifo = options a_semaphore p past told ag;
              queue_fifo = options a_queue p past told ag;
              waiters = waiters a_semaphore p past told ag;
              receivers = waiters a_queue p past told ag;
            });
      }

  -- the tasks' part, where no task is created or given another priority
  same_priority : SameTasks s a → is_answer 1 OK y ≡ false → is_answer 7 OK y ≡ false
      → (p : ℕ) (past : List Turn) (told : Arrivals) → Agrees p s past told → (t : ℕ) → t < 32 → get_or a.state.tasks.live t false ≡ true
      → priority_in p (y ∷ past) (task_id a.state t) ≡ get_or a.state.tasks.priority t 0
  same_priority same no1 no7 p past told ag t h live =
      picked_no _ _ _ (not_creates y 1 _ no1) ∙ picked_no _ _ _ (not_done y past 7 _ no7)
      ∙ ap (λ (v : List ℕ). priority_in p past (identifier (get_or v t 0) t)) same.serial
      ∙ ag.priority t h (ap (λ (v : List Bool). get_or v t false) (sym same.live) ∙ live)
      ∙ ap (λ (v : List ℕ). get_or v t 0) (sym same.priority)

  -- the options, where no object of the kind is created or deleted
  same_options : (kind : Kind) → SameKind kind s a → is_answer (creation kind) OK y ≡ false
      → (p : ℕ) (past : List Turn) (told : Arrivals) → Agrees p s past told → Options kind a.state (y ∷ past)
  same_options kind same none p past told ag i h live =
      picked_no _ _ _ (not_creates y (creation kind) _ none)
      ∙ ap (λ (v : List ℕ). fifo_of kind past (identifier (get_or v i 0) i)) same.serial
      ∙ options_of_lem ag kind i h (ap (λ (v : List Bool). get_or v i false) (sym same.live) ∙ live)
      ∙ ap (λ (v : List Bool). get_or v i false) (sym same.fifo)

  -- the queues of the kind, where tasks leave by being woken only
  woken_waiters : (kind : Kind) → Moves s a → is_answer 2 OK y ≡ false
      → ((i : ℕ) → i < room_of kind → (t : ℕ) → WaitsFor a.state (object_of kind i) t → is_answer_of (deletion kind) (id_of kind s i) OK y ≡ false)
      → ((i : ℕ) → i < room_of kind → (t : ℕ) → WaitsFor a.state (object_of kind i) t → task_id a.state t ≡ task_id s t)
      → ((i : ℕ) → i < room_of kind → (t : ℕ) → WaitsFor a.state (object_of kind i) t → id_of kind a.state i ≡ id_of kind s i)
      → (p : ℕ) (past : List Turn) (told : Arrivals) → Agrees p s past told → Waiters kind p a.state (y ∷ past) told
  woken_waiters kind moves no2 shut task same p past told ag =
      waiters_fewer kind p s a.state y past told told (waiters_of_lem ag kind) (not_status y (wait_call kind) PENDING mute)
      (λ i h t w. let o = object_room kind i h in moves.leave.fewer.seats.stood (queue_seats (object_of kind i)) (omega arith) (omega arith) t w)
      (λ i h t w. let o = object_room kind i h in moves.leave.fewer.joined (queue_seats (object_of kind i)) (omega arith) (omega arith) t w)
      (λ i h t w. refl)
      (λ i h t w. ⊎_elim inl (λ e. inr (ends_woken past y (task_id s t) no2 ∙ e)) (moves.leave.went (object_of kind i) (object_room kind i h) t w))
      (λ i h t w. ends_woken past y (task_id s t) no2 ∙ moves.leave.gone (object_of kind i) (object_room kind i h) t w)
      shut task same

  same_task : SameTasks s a → (t : ℕ) → task_id a.state t ≡ task_id s t
  same_task same t = ap (λ (v : List ℕ). identifier (get_or v t 0) t) same.serial

  same_id : (kind : Kind) → SameKind kind s a → (i : ℕ) → id_of kind a.state i ≡ id_of kind s i
  same_id kind same i = ap (λ (v : List ℕ). identifier (get_or v i 0) i) same.serial

  -- the queues of a kind of which none is created or deleted
  same_waiters : (kind : Kind) → SameKind kind s a → Moves s a → is_answer 2 OK y ≡ false → is_answer (deletion kind) OK y ≡ false
      → ((i : ℕ) → i < objects_end → (t : ℕ) → WaitsFor a.state i t → task_id a.state t ≡ task_id s t)
      → (p : ℕ) (past : List Turn) (told : Arrivals) → Agrees p s past told → Waiters kind p a.state (y ∷ past) told
  same_waiters kind same moves no2 none task =
      woken_waiters kind moves no2 (λ i h t w. not_of y (deletion kind) _ OK none)
      (λ i h t w. task (object_of kind i) (object_room kind i h) t w) (λ i h t w. same_id kind same i)

  -- nothing is created, deleted or re-prioritised
  pub plain_steps : SameTasks s a → ((kind : Kind) → SameKind kind s a) → Moves s a
      → is_answer 1 OK y ≡ false → is_answer 2 OK y ≡ false → is_answer 7 OK y ≡ false
      → ((kind : Kind) → is_answer (creation kind) OK y ≡ false) → ((kind : Kind) → is_answer (deletion kind) OK y ≡ false)
      → Steps s x a
  plain_steps tasks same moves no1 no2 no7 unmade kept =
      by_parts (same_priority tasks no1 no7) (λ kind. same_options kind (same kind) (unmade kind))
      (λ kind. same_waiters kind (same kind) moves no2 (kept kind) (λ i h t w. same_task tasks t))

  -- a refusal
  pub status_steps : eqb a.status OK ≡ false → SameTasks s a → ((kind : Kind) → SameKind kind s a) → Moves s a → Steps s x a
  status_steps refused tasks same moves =
      plain_steps tasks same moves (not_status y 1 OK refused) (not_status y 2 OK refused) (not_status y 7 OK refused)
      (λ kind. not_status y (creation kind) OK refused) (λ kind. not_status y (deletion kind) OK refused)

  other : (c k : ℕ) → x.call ≡ c → eqb c k ≡ false → is_answer k OK y ≡ false
  other c k at e = not_call y k OK (ap (λ (v : ℕ). eqb v k) at ∙ e)

  -- another call
  pub call_steps : (c : ℕ) → x.call ≡ c → Spares c → SameTasks s a → ((kind : Kind) → SameKind kind s a) → Moves s a → Steps s x a
  call_steps c at free tasks same moves =
      plain_steps tasks same moves (other c 1 at free.births) (other c 2 at free.deaths) (other c 7 at free.priorities)
      (λ kind. other c (creation kind) at (free.creations kind)) (λ kind. other c (deletion kind) at (free.deletions kind))

  -- a call that creates or deletes no semaphore and no queue
  unmade : (c : ℕ) → x.call ≡ c → eqb c 8 ≡ false → eqb c 20 ≡ false → (kind : Kind) → is_answer (creation kind) OK y ≡ false
  unmade c at e f = by_kinds _ a_semaphore (other c 8 at e) (other c 20 at f)

  undeleted : (c : ℕ) → x.call ≡ c → eqb c 9 ≡ false → eqb c 21 ≡ false → (kind : Kind) → is_answer (deletion kind) OK y ≡ false
  undeleted c at e f = by_kinds _ a_semaphore (other c 9 at e) (other c 21 at f)

  -- task t is created
  pub create_steps : x.call ≡ 1 → a.status ≡ OK → (t : ℕ) → t < 32 → (serial : ℕ) → value y ≡ identifier serial t
      → get_or a.state.tasks.serial t 0 ≡ serial → get_or a.state.tasks.priority t 0 ≡ x.b
      → ((u : ℕ) → (u ≡ t → ⊥) → (task_id a.state u ≡ task_id s u) × (get_or a.state.tasks.live u false ≡ get_or s.tasks.live u false)
      × (get_or a.state.tasks.priority u 0 ≡ get_or s.tasks.priority u 0))
      → ((i : ℕ) → i < objects_end → (u : ℕ) → WaitsFor a.state i u → u ≡ t → ⊥)
      → ((kind : Kind) → SameKind kind s a) → Moves s a → Steps s x a
  create_steps at done t room serial new now urgent others out same moves =
      by_parts
      (λ p past told ag u h live. ⊎_elim
      (λ e. subst (λ (v : ℕ). priority_in p (y ∷ past) (task_id a.state v) ≡ get_or a.state.tasks.priority v 0) (sym e)
      (picked_yes _ _ _ (is_new y 1 _ (is_answer_lem y 1 OK at done) (new ∙ ap (λ (v : ℕ). identifier v t) (sym now))) ∙ sym urgent))
      (λ ne. let o = others u ne in
      picked_no _ _ _ (not_new y 1 _ (λ e. ne (apart_slots _ _ u t (omega arith) (omega arith) (sym e ∙ new))))
      ∙ picked_no _ _ _ (not_done y past 7 _ (other 1 7 at refl))
      ∙ ap (priority_in p past) o.0 ∙ ag.priority u h (sym o.1 ∙ live) ∙ sym o.2)
      (eq_or_not u t))
      (λ kind. same_options kind (same kind) (unmade 1 at refl refl kind))
      (λ kind. same_waiters kind (same kind) moves (other 1 2 at refl) (undeleted 1 at refl refl kind) (λ i h u w. (others u (out i h u w)).0))

  -- task t is given another priority
  pub set_steps : x.call ≡ 7 → a.status ≡ OK → (t : ℕ) → t < 32 → task_found s x.a ≡ At t → get_or a.state.tasks.priority t 0 ≡ x.b
      → a.state.tasks.serial ≡ s.tasks.serial → a.state.tasks.live ≡ s.tasks.live
      → ((u : ℕ) → (u ≡ t → ⊥) → get_or a.state.tasks.priority u 0 ≡ get_or s.tasks.priority u 0)
      → ((kind : Kind) → SameKind kind s a) → Moves s a → Steps s x a
  set_steps at done t room names urgent serial live others same moves =
      by_parts
      (λ p past told ag u h alive.
      let e1 : task_id a.state u ≡ task_id s u = ap (λ (v : List ℕ). identifier (get_or v u 0) u) serial in
      let aim : target past y ≡ task_id s t = target_is s past y t ag.running names in
      picked_no _ _ _ (not_creates y 1 _ (other 7 1 at refl))
      ∙ ⊎_elim
      (λ e. picked_yes _ _ _ (is_done y past 7 _ (is_answer_lem y 7 OK at done) (aim ∙ ap (task_id s) (sym e) ∙ sym e1))
      ∙ sym urgent ∙ ap (λ (v : ℕ). get_or a.state.tasks.priority v 0) (sym e))
      (λ ne. picked_no _ _ _ (done_other y past 7 _ (λ e. ne (apart_slots _ _ u t (omega arith) (omega arith) (sym e1 ∙ sym e ∙ aim))))
      ∙ ap (priority_in p past) e1 ∙ ag.priority u h (ap (λ (v : List Bool). get_or v u false) (sym live) ∙ alive) ∙ sym (others u ne))
      (eq_or_not u t))
      (λ kind. same_options kind (same kind) (unmade 7 at refl refl kind))
      (λ kind. same_waiters kind (same kind) moves (other 7 2 at refl) (undeleted 7 at refl refl kind)
      (λ i h u w. ap (λ (v : List ℕ). identifier (get_or v u 0) u) serial))

  -- task t is deleted
  pub delete_steps : Sound s → x.call ≡ 2 → a.status ≡ OK → a.woken ≡ 0 → (t : ℕ) → t < 32 → task_found s x.a ≡ At t → a.state.tasks.serial ≡ s.tasks.serial
      → ((u : ℕ) → get_or a.state.tasks.live u false ≡ true
      → (get_or s.tasks.live u false ≡ true) × (get_or a.state.tasks.priority u 0 ≡ get_or s.tasks.priority u 0))
      → Fewer s.line a.state.line
      → ((i : ℕ) → i < objects_end → (u : ℕ) → (u ≡ t → ⊥) → WaitsFor s i u → WaitsFor a.state i u)
      → ((i : ℕ) → i < objects_end → WaitsFor a.state i t → ⊥)
      → ((kind : Kind) → SameKind kind s a) → Steps s x a
  delete_steps ok at done none t room names serial others fewer stay out same =
      by_parts
      (λ p past told ag u h alive.
      picked_no _ _ _ (not_creates y 1 _ (other 2 1 at refl)) ∙ picked_no _ _ _ (not_done y past 7 _ (other 2 7 at refl))
      ∙ ap (λ (v : List ℕ). priority_in p past (identifier (get_or v u 0) u)) serial ∙ ag.priority u h (others u alive).0 ∙ sym (others u alive).1)
      (λ kind. same_options kind (same kind) (unmade 2 at refl refl kind))
      left
    where
      stood : (i : ℕ) → i < objects_end → (u : ℕ) → WaitsFor a.state i u → WaitsFor s i u
      stood i h u w = fewer.seats.stood (queue_seats i) (omega arith) (omega arith) u w

      left : (kind : Kind) (p : ℕ) (past : List Turn) (told : Arrivals) → Agrees p s past told → Waiters kind p a.state (y ∷ past) told
      left kind p past told ag =
          let aim : target past y ≡ task_id s t = target_is s past y t ag.running names in
          let empty : y.reply.wakes ≡ [] = nobody a.woken none a.wakes a.why in
          let at_object : (i : ℕ) → i < room_of kind → object_of kind i < objects_end = object_room kind in
          waiters_fewer kind p s a.state y past told told (waiters_of_lem ag kind) (not_status y (wait_call kind) PENDING mute)
          (λ i h u w. stood (object_of kind i) (at_object i h) u w)
          (λ i h u w. let o = at_object i h in fewer.joined (queue_seats (object_of kind i)) (omega arith) (omega arith) u w)
          (λ i h u w. refl)
          (λ i h u w. ⊎_elim
          (λ e. inr (ends_deleted past y (task_id s u) empty ∙ is_done y past 2 _ (is_answer_lem y 2 OK at done) (aim ∙ ap (task_id s) (sym e))))
          (λ ne. inl (stay (object_of kind i) (at_object i h) u ne w))
          (eq_or_not u t))
          (λ i h u w. ends_deleted past y (task_id s u) empty
          ∙ done_other y past 2 _ (λ e. out (object_of kind i) (at_object i h) (subst (λ (v : ℕ). WaitsFor a.state (object_of kind i) v)
          (apart_slots _ _ u t (omega (arith, waits_room s ok.line.queues (object_of kind i) u (stood (object_of kind i) (at_object i h) u w))) (omega arith) (sym e ∙ aim)) w)))
          (λ i h u w. not_of y (deletion kind) _ OK (undeleted 2 at refl refl kind))
          (λ i h u w. ap (λ (v : List ℕ). identifier (get_or v u 0) u) serial)
          (λ i h u w. same_id kind (same kind) i)

  -- what the creation of an object is not, and what its deletion is not
  abbrev Created : Kind → Type 0
  Created kind =
      (is_answer 1 OK y ≡ false) × (is_answer 2 OK y ≡ false) × (is_answer 7 OK y ≡ false) × (is_answer (creation (other_kind kind)) OK y ≡ false)
      × ((k : Kind) → is_answer (deletion k) OK y ≡ false)

  created : (kind : Kind) → x.call ≡ creation kind → Created kind
  created a_semaphore at = (other 8 1 at refl, other 8 2 at refl, other 8 7 at refl, other 8 20 at refl, undeleted 8 at refl refl)
  created a_queue at = (other 20 1 at refl, other 20 2 at refl, other 20 7 at refl, other 20 8 at refl, undeleted 20 at refl refl)

  abbrev Deleted : Kind → Type 0
  Deleted kind =
      (is_answer 1 OK y ≡ false) × (is_answer 2 OK y ≡ false) × (is_answer 7 OK y ≡ false) × (is_answer (deletion (other_kind kind)) OK y ≡ false)
      × ((k : Kind) → is_answer (creation k) OK y ≡ false)

  deleted : (kind : Kind) → x.call ≡ deletion kind → Deleted kind
  deleted a_semaphore at = (other 9 1 at refl, other 9 2 at refl, other 9 7 at refl, other 9 21 at refl, unmade 9 at refl refl)
  deleted a_queue at = (other 21 1 at refl, other 21 2 at refl, other 21 7 at refl, other 21 9 at refl, unmade 21 at refl refl)

  -- object i of the kind is created
  pub born_steps : (kind : Kind) → x.call ≡ creation kind → a.status ≡ OK → (i : ℕ) → i < room_of kind → (serial : ℕ) → value y ≡ identifier serial i
      → get_or (serials_of kind a.state) i 0 ≡ serial → get_or (fifos_of kind a.state) i false ≡ eqb (options_of kind x) 1
      → ((j : ℕ) → (j ≡ i → ⊥) → (id_of kind a.state j ≡ id_of kind s j) × (get_or (lives_of kind a.state) j false ≡ get_or (lives_of kind s) j false)
      × (get_or (fifos_of kind a.state) j false ≡ get_or (fifos_of kind s) j false))
      → ((t : ℕ) → WaitsFor a.state (object_of kind i) t → ⊥)
      → SameTasks s a → SameKind (other_kind kind) s a → Moves s a → Steps s x a
  born_steps kind at done i room serial new now option others out tasks same moves =
      by_parts
      (same_priority tasks free.0 free.2)
      (by_kinds _ kind
      (λ p past told ag j h live. ⊎_elim
      (λ e. subst (λ (v : ℕ). fifo_of kind (y ∷ past) (id_of kind a.state v) ≡ get_or (fifos_of kind a.state) v false) (sym e)
      (picked_yes _ _ _ (is_new y (creation kind) _ (is_answer_lem y (creation kind) OK at done) (new ∙ ap (λ (v : ℕ). identifier v i) (sym now))) ∙ sym option))
      (λ ne. let o = others j ne in
      picked_no _ _ _ (not_new y (creation kind) _ (λ e. ne (slots j h (sym e ∙ new))))
      ∙ ap (fifo_of kind past) o.0 ∙ options_of_lem ag kind j h (sym o.1 ∙ live) ∙ sym o.2)
      (eq_or_not j i))
      (same_options (other_kind kind) same free.3))
      (by_kinds _ kind
      (woken_waiters kind moves free.1 (λ j h u w. not_of y (deletion kind) _ OK (free.4 kind)) (λ j h u w. same_task tasks u)
      (λ j h u w. (others j (λ e. out u (subst (λ (v : ℕ). WaitsFor a.state (object_of kind v) u) e w))).0))
      (same_waiters (other_kind kind) same moves free.1 (free.4 (other_kind kind)) (λ j h u w. same_task tasks u)))
    where
      free : Created kind
      free = created kind at

      slots : (j : ℕ) → j < room_of kind → id_of kind a.state j ≡ identifier serial i → j ≡ i
      slots j h e = apart_slots _ _ j i (omega (arith, kind_room kind j h)) (omega (arith, kind_room kind i room)) e

  -- object i of the kind is deleted
  pub gone_steps : (kind : Kind) → x.call ≡ deletion kind → (i : ℕ) → i < room_of kind → x.a ≡ id_of kind s i
      → serials_of kind a.state ≡ serials_of kind s
      → ((j : ℕ) → get_or (lives_of kind a.state) j false ≡ true
      → (get_or (lives_of kind s) j false ≡ true) × (get_or (fifos_of kind a.state) j false ≡ get_or (fifos_of kind s) j false))
      → ((t : ℕ) → WaitsFor a.state (object_of kind i) t → ⊥)
      → SameTasks s a → SameKind (other_kind kind) s a → Moves s a → Steps s x a
  gone_steps kind at i room names serial others out tasks same moves =
      by_parts
      (same_priority tasks free.0 free.2)
      (by_kinds _ kind
      (λ p past told ag j h alive.
      picked_no _ _ _ (not_creates y (creation kind) _ (free.4 kind))
      ∙ ap (λ (v : List ℕ). fifo_of kind past (identifier (get_or v j 0) j)) serial ∙ options_of_lem ag kind j h (others j alive).0 ∙ sym (others j alive).1)
      (same_options (other_kind kind) same (free.4 (other_kind kind))))
      (by_kinds _ kind
      (woken_waiters kind moves free.1
      (λ j h u w. not_on y (deletion kind) (id_of kind s j) OK
      (λ e. out u (subst (λ (v : ℕ). WaitsFor a.state (object_of kind v) u) (slots j h (sym e ∙ names)) w)))
      (λ j h u w. same_task tasks u)
      (λ j h u w. ap (λ (v : List ℕ). identifier (get_or v j 0) j) serial))
      (same_waiters (other_kind kind) same moves free.1 free.3 (λ j h u w. same_task tasks u)))
    where
      free : Deleted kind
      free = deleted kind at

      slots : (j : ℕ) → j < room_of kind → id_of kind s j ≡ id_of kind s i → j ≡ i
      slots j h e = apart_slots _ _ j i (omega (arith, kind_room kind j h)) (omega (arith, kind_room kind i room)) e
