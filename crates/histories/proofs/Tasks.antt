-- The task calls keep a state sound. Each writes one row of the task table, and the table stays sound where the new row is one
-- that the rules admit; the task of that row stands as before, or leaves, or becomes ready, by the moves of one task.
-- Assumes nothing.
use Prim.Native.Nat.{ℕ, ◌+◌, ◌≤◌, ◌<◌}
use native.Mathlib.Omega.{arith}
use mathlib.Core.Path.{◌≡◌, refl, sym, subst, ap, ◌∙◌}
use mathlib.Core.Logic.{◌⊎◌, inl, inr, ⊎_elim}
use mathlib.Core.Bool.{Bool, true, false, not}
use mathlib.Core.List.{List}
use lib.ListN.{length, get_or, set, length-set}
use lib.Seq.{get_or-set_same, get_or-set_other, set-get_or}
use lib.Dec.{ltb, eqb}
use borrow.Author.Tests.{le-ltb, ltb-true, ltb-false, leb-false, not-true, not-false}
use Rattle.scope.specs.declared.State.{State}
use Rattle.scope.specs.declared.Line.{Line}
use Rattle.scope.specs.declared.Tasks.{Tasks}
use Rattle.scope.specs.declared.Found.TheVariants.{At, Invalid}
use Rattle.scope.specs.Choice.{pick}
use Rattle.scope.specs.Identifiers.{found}
use Rattle.scope.specs.Seats.{leaves, becomes_ready, waits_on, rings_left, rings_ready}
use Rattle.scope.specs.Objects.{Objects, objects_of}
use Rattle.scope.specs.Views.{with_line, with_tasks, with_seats, with_wait, ready_with, is_ready}
use Rattle.scope.specs.Tasks.{task_found, task_born, task_gone, with_started, with_suspended, with_priority}
use Rattle.laws.proofs.Branches.{eq_or_not, both, both_true, second_fails, not_of_false, true-false, true_or_false}
use Rattle.laws.proofs.Tables.{found_below, found-live, usable_at, usable_free}
use Rattle.histories.specs.Sound.{Nowhere, Waits, Ready, LineSound, TaskRow, TaskSound, TasksSound, Sound}
use Rattle.histories.specs.History.{Event}
use Rattle.histories.proofs.Deeds.{new_task, TaskChange, task_created, waiter_suspended, waiter_resumed, priority_noted}
use Rattle.histories.proofs.Deeds.{TaskMove, task_deleted, task_started, task_suspended, task_resumed, priority_set}
use Rattle.histories.proofs.Lengths.{tasks_as_long}
use Rattle.histories.proofs.Parts.{all_sound, tasks_sound}
use Rattle.histories.proofs.Moves.{Agree, Out, stays, retold, nowhere_out, gone, ready_gone, becomes_ready_lem, on_waits, off_ready, off_nowhere, idle_nowhere}
use Rattle.histories.proofs.Semaphores.{runs_ready}

-- a row of the table
record Row : Type 0 where
  name : ℕ
  serial : ℕ
  live : Bool
  started : Bool
  suspended : Bool
  priority : ℕ

abbrev row_of : Tasks → ℕ → Row
row_of k t =
    record {
      name = get_or k.name t 0;
      serial = get_or k.serial t 0;
      live = get_or k.live t false;
      started = get_or k.started t false;
      suspended = get_or k.suspended t false;
      priority = get_or k.priority t 0;
    }

-- the table with this row at t
abbrev with_row : Tasks → ℕ → Row → Tasks
with_row k t r =
    record {
      name = set k.name t r.name;
      serial = set k.serial t r.serial;
      live = set k.live t r.live;
      started = set k.started t r.started;
      suspended = set k.suspended t r.suspended;
      priority = set k.priority t r.priority;
    }

-- the table with these flags and this priority at t
abbrev with_flags : Tasks → ℕ → Bool → Bool → ℕ → Tasks
with_flags k t a b p =
    record {
      name = k.name;
      serial = k.serial;
      live = k.live;
      started = set k.started t a;
      suspended = set k.suspended t b;
      priority = set k.priority t p;
    }

-- what the rules ask of a slot, of its row
abbrev RowSound : Row → Type 0
RowSound r = TaskRow r.name r.serial r.live r.started r.suspended r.priority

module _ (k : Tasks) (sound : TasksSound k) (t : ℕ) (room : t < 32) (r : Row) where
  row_same : row_of (with_row k t r) t ≡ r
  row_same =
      rw (
        get_or-set_same k.name t r.name 0 (omega (arith, sound.sized.names)),
        get_or-set_same k.serial t r.serial 0 (omega (arith, sound.sized.serials)),
        get_or-set_same k.live t r.live false (omega (arith, sound.sized.lives)),
        get_or-set_same k.started t r.started false (omega (arith, sound.sized.starteds)),
        get_or-set_same k.suspended t r.suspended false (omega (arith, sound.sized.suspendeds)),
        get_or-set_same k.priority t r.priority 0 (omega (arith, sound.sized.priorities)),
      )

  table_sound : RowSound r → TasksSound (with_row k t r)
  table_sound right =
      record {
        sized = tasks_as_long k (with_row k t r) (simp length-set) sound.sized;
        each = λ u h.
            ⊎_elim
            (λ e. subst (TaskSound (with_row k t r)) (sym e) (subst RowSound (sym row_same) right))
            (λ (ne : u ≡ t → ⊥). simp get_or-set_other (sound.each u h))
            (eq_or_not u t);
      }

-- table j is k but for slot t: there it has these flags and this priority
record Writes (k j : Tasks) (t : ℕ) (a b : Bool) (p : ℕ) : Type 0 where
  table : TasksSound j
  agree : Agree k j t
  started : get_or j.started t false ≡ a
  suspended : get_or j.suspended t false ≡ b
  priority : get_or j.priority t 0 ≡ p

module _ (k : Tasks) (sound : TasksSound k) (t : ℕ) (room : t < 32) where
  writes_row : (r : Row) → RowSound r → Writes k (with_row k t r) t r.started r.suspended r.priority
  writes_row r right =
      let same = row_same k sound t room r in
      record {
        table = table_sound k sound t room r right;
        agree = record {
          started = λ u ne. get_or-set_other k.started t u r.started false ne;
          suspended = λ u ne. get_or-set_other k.suspended t u r.suspended false ne;
          priority = λ u ne. get_or-set_other k.priority t u r.priority 0 ne;
        };
        started = ap (λ (x : Row). x.started) same;
        suspended = ap (λ (x : Row). x.suspended) same;
        priority = ap (λ (x : Row). x.priority) same;
      }

  -- a new task takes the slot
  writes_born : (name p : ℕ) → p ≤ 15 → Writes k (task_born k t name p) t false false p
  writes_born name p small =
      writes_row (record { name = name; serial = get_or k.serial t 0 + 1; live = true; started = false; suspended = false; priority = p })
      (record {
        alive = λ a. (omega arith, small);
        name = λ d. absurd (true-false refl d);
        started = λ d. refl;
        priority = λ d. absurd (true-false refl d);
        suspended = λ d. refl;
      })

  -- the slot loses its task
  writes_gone : Writes k (task_gone k t) t false false 0
  writes_gone =
      let r : Row = record { name = 0; serial = get_or k.serial t 0; live = false; started = false; suspended = false; priority = 0 } in
      let same : with_row k t r ≡ task_gone k t = rw (set-get_or k.serial t 0) in
      subst (λ (j : Tasks). Writes k j t false false 0) same
      (writes_row r
      (record {
        alive = λ a. absurd (true-false a refl);
        name = λ d. refl;
        started = λ d. refl;
        priority = λ d. refl;
        suspended = λ d. refl;
      }))

  -- a live task has other flags or another priority
  module _ (alive : get_or k.live t false ≡ true) where
    writes_live : (a b : Bool) (p : ℕ) → (a ≡ false → b ≡ false) → p ≤ 15 → Writes k (with_flags k t a b p) t a b p
    writes_live a b p flags small =
        rw (set-get_or k.name t 0, set-get_or k.serial t 0, set-get_or k.live t false) at
        (writes_row
        (record {
          name = get_or k.name t 0;
          serial = get_or k.serial t 0;
          live = get_or k.live t false;
          started = a;
          suspended = b;
          priority = p;
        })
        (record {
          alive = λ e. (((sound.each t room).alive e).0, small);
          name = λ d. absurd (true-false alive d);
          started = λ d. absurd (true-false alive d);
          priority = λ d. absurd (true-false alive d);
          suspended = flags;
        }))

    small : get_or k.priority t 0 ≤ 15
    small = ((sound.each t room).alive alive).1

    writes_started : Writes k (with_started k t) t true (get_or k.suspended t false) (get_or k.priority t 0)
    writes_started =
        rw (set-get_or k.suspended t false, set-get_or k.priority t 0) at
        (writes_live true (get_or k.suspended t false) (get_or k.priority t 0) (λ d. absurd (true-false refl d)) small)

    writes_suspended : (b : Bool) → get_or k.started t false ≡ true
        → Writes k (with_suspended k t b) t (get_or k.started t false) b (get_or k.priority t 0)
    writes_suspended b e =
        rw (set-get_or k.started t false, set-get_or k.priority t 0) at
        (writes_live (get_or k.started t false) b (get_or k.priority t 0) (λ d. absurd (true-false e d)) small)

    writes_priority : (p : ℕ) → p ≤ 15 → Writes k (with_priority k t p) t (get_or k.started t false) (get_or k.suspended t false) p
    writes_priority p fits =
        rw (set-get_or k.started t false, set-get_or k.suspended t false) at
        (writes_live (get_or k.started t false) (get_or k.suspended t false) p (sound.each t room).suspended fits)

-- What becomes of a state whose slot t is written, by where its task stood and where it goes.
module _ (s : State) (ok : Sound s) (t : ℕ) (room : t < 32) {j : Tasks} {a b : Bool} {p : ℕ} (w : Writes s.tasks j t a b p) where
  -- a task that stands nowhere is out, and may stay so
  nowhere_gone : Nowhere s.line s.tasks t → Out s.line j (objects_of s) t
  nowhere_gone here = nowhere_out s.line s.tasks (objects_of s) ok.line j t w.agree here

  idle_now : (a ≡ false) ⊎ (b ≡ true) → (get_or j.started t false ≡ false) ⊎ (get_or j.suspended t false ≡ true)
  idle_now = ⊎_elim (λ e. inl (w.started ∙ e)) (λ e. inr (w.suspended ∙ e))

  stays_nowhere : Nowhere s.line s.tasks t → (a ≡ false) ⊎ (b ≡ true) → Sound (with_tasks s j)
  stays_nowhere here idle = tasks_sound s ok j (stays s.line j (objects_of s) t (nowhere_gone here) (idle_now idle)) w.table

  -- a waiting task waits
  stays_waiting : Waits s.line s.tasks (objects_of s) t → a ≡ true → Sound (with_tasks s j)
  stays_waiting here e =
      tasks_sound s ok j
      (retold s.line s.tasks (objects_of s) ok.line j t w.agree
      (inr (inl (record {
        on = here.on;
        within = here.within;
        alive = here.alive;
        stands = here.stands;
        started = w.started ∙ e;
        time = here.time;
        joined = here.joined;
      }))))
      w.table

  -- a task that is out in another line stays out, or becomes ready
  module _ (l : Line) (out : Out l j (objects_of s) t) where
    leaves_idle : (a ≡ false) ⊎ (b ≡ true) → Sound (with_line (with_tasks s j) l)
    leaves_idle idle = all_sound s ok l j s.semaphores (stays l j (objects_of s) t out (idle_now idle)) w.table ok.semaphores

    turns_ready : (key : List ℕ) → a ≡ true → b ≡ false
        → Sound (with_line (with_tasks s j) (with_seats l (becomes_ready l.seat key t p) (rings_ready l.rings p)))
    turns_ready key e f =
        all_sound s ok (with_seats l (becomes_ready l.seat key t p) (rings_ready l.rings p)) j s.semaphores
        (becomes_ready_lem l j (objects_of s) t room out key p (w.started ∙ e) (w.suspended ∙ f) w.priority)
        w.table ok.semaphores

-- a ready task passes its test, and who passes it is ready
ready_is : (l : Line) (k : Tasks) (t : ℕ) → Ready l k t → is_ready l k t ≡ true
unfolding ready_with waits_on
ready_is l k t here =
    both _ _ here.started
    (both _ _ (not_of_false _ here.awake)
    (not_of_false _ (second_fails (ltb 0 (get_or l.seat t 0)) _ (le-ltb (get_or l.seat t 0) 2048 (omega (arith, here.stands.0))))))

is_ready_lem : (l : Line) (k : Tasks) (m : Objects) (t : ℕ) → LineSound l k m → t < 32 → is_ready l k t ≡ true → Ready l k t
unfolding ready_with
is_ready_lem l k m t ok room e =
    let c = both_true (get_or k.started t false) _ e in
    let d = both_true (not (get_or k.suspended t false)) _ c.1 in
    off_ready l k m ok t room (not-true _ d.1) c.0 (not-true _ d.0)

module _ (s : State) (ok : Sound s) where
  -- what an identifier names is a live task, the running one where it is 0
  pub named_task : (id t : ℕ) → task_found s id ≡ At t → (t < 32) × (get_or s.tasks.live t false ≡ true)
  unfolding task_found pick
  named_task id t = go (eqb id 0) (ltb s.running 32) refl
    where
      runs : s.running < 32 → get_or s.tasks.live s.running false ≡ true
      runs h =
          ⊎_elim (λ e. e)
          (λ d. absurd (true-false (runs_ready s ok h).started ((ok.tasks.each s.running h).started d)))
          (true_or_false (get_or s.tasks.live s.running false))

      go : (b c : Bool) → ltb s.running 32 ≡ c
          → pick b (pick c (At s.running) Invalid) (found s.tasks.serial s.tasks.live id) ≡ At t
          → (t < 32) × (get_or s.tasks.live t false ≡ true)
      go true true h e =
          let d : s.running ≡ t = cc in
          let l : s.running < 32 = ltb-true s.running 32 h in
          (omega arith, subst (λ (v : ℕ). get_or s.tasks.live v false ≡ true) d (runs l))
      go true false h e = let z : ◌≡◌ {A = ℕ} 0 1 = cc in absurd (omega arith)
      go false c h e = (
        omega (arith, found_below s.tasks.serial s.tasks.live id e, ok.tasks.sized.serials),
        found-live s.tasks.serial s.tasks.live id e,
      )

  -- what the task calls do, by what their tests showed
  module _ (x : Event) where
    abbrev l : Line
    l = s.line

    abbrev k : Tasks
    k = s.tasks

    pub change_sound : {j : Tasks} {v : ℕ} → TaskChange s x j v → Sound (with_tasks s j)
    change_sound (task_created at e f) =
        let t : ℕ = new_task s in
        let h : t < length k.serial = leb-false (length k.serial) t f in
        let room : t < 32 = omega (arith, h, ok.tasks.sized.serials) in
        stays_nowhere s ok t room (writes_born k ok.tasks t room x.a x.b (ltb-false 15 x.b e))
        (idle_nowhere l k (objects_of s) ok.line t room
        ((ok.tasks.each t room).started (usable_free k.serial k.live t (usable_at k.serial k.live h))))
        (inl refl)
    change_sound (waiter_suspended at t e f g h) =
        let n = named_task x.a t e in
        let started = not-false (get_or k.started t false) f in
        stays_waiting s ok t n.0 (writes_suspended k ok.tasks t n.0 n.1 true started) (on_waits l k (objects_of s) ok.line t n.0 h) started
    change_sound (waiter_resumed at t e f g h) =
        let n = named_task x.a t e in
        let started = not-false (get_or k.started t false) f in
        stays_waiting s ok t n.0 (writes_suspended k ok.tasks t n.0 n.1 false started) (on_waits l k (objects_of s) ok.line t n.0 h) started
    change_sound (priority_noted at t e f g) =
        let n = named_task x.a t e in
        let w = writes_priority k ok.tasks t n.0 n.1 x.b (ltb-false 15 x.b f) in
        ⊎_elim (λ here. stays_nowhere s ok t n.0 w here here.idle)
        (⊎_elim (λ here. stays_waiting s ok t n.0 w here here.started) (λ here. absurd (true-false (ready_is l k t here) g)))
        (ok.line.stands t n.0)

    pub move_sound : {j : Tasks} {r : Line} {v : ℕ} → TaskMove s x j r v → Sound (with_line (with_tasks s j) r)
    move_sound (task_deleted at t e) =
        let n = named_task x.a t e in
        let w = writes_gone k ok.tasks t n.0 in
        leaves_idle s ok t n.0 w (with_wait l t 0 0 (leaves l.seat t) (rings_left l.rings l.seat t))
        (gone l k (objects_of s) ok.line (task_gone k t) t n.0 w.agree) (inl refl)
    move_sound (task_started at t e f) =
        let n = named_task x.a t e in
        let w = writes_started k ok.tasks t n.0 n.1 in
        turns_ready s ok t n.0 w l (nowhere_gone s ok t n.0 w (idle_nowhere l k (objects_of s) ok.line t n.0 f)) l.joined refl
        ((ok.tasks.each t n.0).suspended f)
    move_sound (task_suspended at t e f g h) =
        let n = named_task x.a t e in
        let started = not-false (get_or k.started t false) f in
        let w = writes_suspended k ok.tasks t n.0 n.1 true started in
        leaves_idle s ok t n.0 w (with_seats l (leaves l.seat t) (rings_left l.rings l.seat t))
        (ready_gone l k (objects_of s) ok.line (with_suspended k t true) t w.agree (off_ready l k (objects_of s) ok.line t n.0 h started g)) (inr refl)
    move_sound (task_resumed at t e f g h) =
        let n = named_task x.a t e in
        let started = not-false (get_or k.started t false) f in
        let w = writes_suspended k ok.tasks t n.0 n.1 false started in
        turns_ready s ok t n.0 w l
        (nowhere_gone s ok t n.0 w (off_nowhere l k (objects_of s) ok.line t n.0 h (not-false (get_or k.suspended t false) g)))
        l.joined started refl
    move_sound (priority_set at t e f g) =
        let n = named_task x.a t e in
        let w = writes_priority k ok.tasks t n.0 n.1 x.b (ltb-false 15 x.b f) in
        let here : Ready l k t = is_ready_lem l k (objects_of s) t ok.line n.0 g in
        turns_ready s ok t n.0 w (with_seats l (leaves l.seat t) (rings_left l.rings l.seat t))
        (ready_gone l k (objects_of s) ok.line (with_priority k t x.b) t w.agree here) l.joined here.started here.awake
