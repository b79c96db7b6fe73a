-- What is left of a waiter's time_out and the ticks since its claim or receive make up the time_out that it asked for: every event's
-- answer keeps this, whoever is suspended. Who waits after a turn waited before it, or is the caller who was answered PENDING.
-- Assumes nothing.
use Prim.Native.Nat.{ℕ, zero, suc, ◌+◌, ◌-◌, ◌≤◌, ◌<◌}
use native.Mathlib.Omega.{arith}
use mathlib.Core.Path.{◌≡◌, refl, sym, subst, ap, ◌∙◌}
use mathlib.Core.Logic.{◌⊎◌, inl, inr, ⊎_elim}
use mathlib.Core.Bool.{true, false}
use mathlib.Core.List.{List, [], ◌∷◌}
use lib.ListN.{length, get_or}
use lib.Dec.{ltb, eqb}
use borrow.Author.Tests.{ltb-true, eq-eqb, ne_eqb, eqb-true, eqb-false}
use Rattle.scope.specs.declared.State.{State}
use Rattle.scope.specs.declared.Answer.{Answer}
use Rattle.scope.specs.Choice.{pick}
use Rattle.scope.specs.Statuses.{OK, PENDING}
use Rattle.scope.specs.Lists.{has}
use Rattle.scope.specs.Objects.{objects_end, objects_of}
use Rattle.scope.specs.Views.{running_task}
use Rattle.scope.specs.Answers.{answer, plain, bad_state}
use Rattle.scope.specs.Waiting.{FOREVER, is_time_out}
use Rattle.scope.specs.Ticks.{tick}
use Rattle.scope.proofs.Times.{tick_takes_one, tick_leaves_forever}
use Rattle.laws.proofs.Branches.{both, both_true, second_fails, true-false, true_or_false, picked_yes, picked_no}
use Rattle.histories.specs.Sound.{Waits, Ready, Sound}
use Rattle.histories.specs.History.{Event, answer_to, after}
use Rattle.histories.specs.Order.{Arrivals, arrives, WaitsFor}
use Rattle.histories.proofs.Answered.{by_number}
use Rattle.histories.proofs.Moves.{queue_waits}
use Rattle.histories.proofs.Semaphores.{runs_ready}
use Rattle.histories.proofs.Ticks.{time_out_says, never_zero}
use Rattle.histories.proofs.Ledger.{event_keeps}
use Rattle.books.specs.Past.{Turn, is_answer, is_answer_of, running_in, past_from}
use Rattle.books.specs.Waiting.{Kind, deletion, wait_call, waiters_for}
use Rattle.books.specs.Times.{pauses, time_out_of, ticks_since}
use Rattle.books.proofs.Members.{has_grown, kept_has}
use Rattle.books.specs.Told.{room_of, object_of, task_id, id_of}
use Rattle.books.proofs.Agreeing.{turn_of, WaiterOf, Agrees, waiters_of_lem, object_room, not_status, waiters_shut, waiters_grown, waiters_kept}
use Rattle.books.proofs.Claiming.{apart_slots, waits_room}
use Rattle.books.proofs.Steps.{waiter_live}
use Rattle.books.proofs.Telling.{event_steps}
use Rattle.books.proofs.TimesLeft.{event_lasts}

-- a time_out of n, of which `left` is left after k ticks
abbrev pub Runs : ℕ → ℕ → ℕ → Type 0
Runs n k left = ((n ≡ FOREVER) × (left ≡ FOREVER)) ⊎ ((left + k ≡ n) × (n ≤ 65535))

-- what is left of each waiter's time_out is what the history tells
pub record Clocked (s : State) (past : List Turn) : Type 0 where
  pub runs : (kind : Kind) (i : ℕ) → i < room_of kind → (t : ℕ) → WaitsFor s (object_of kind i) t
      → Runs (time_out_of past (task_id s t)) (ticks_since past (task_id s t)) (get_or s.line.left t 0)

-- a waiter of a sound state has a time_out left, and its identifier is not 0
module _ (s : State) (ok : Sound s) (i : ℕ) (h : i < objects_end) (t : ℕ) (w : WaitsFor s i t) where
  room : t < 32
  room = waits_room s ok.line.queues i t w

  has_time : is_time_out (get_or s.line.left t 0) ≡ true
  has_time =
      let v : (v : Waits s.line s.tasks (objects_of s) t) × (v.on ≡ i) =
      queue_waits s.line s.tasks (objects_of s) ok.line t room i h w in v.0.time

  pub some_left : get_or s.line.left t 0 ≡ 0 → ⊥
  some_left = never_zero (get_or s.line.left t 0) has_time

  some_name : task_id s t ≡ 0 → ⊥
  some_name e = let live = (ok.tasks.each t room).alive (waiter_live s ok i h t w) in omega (arith, e, live.0)

-- who runs: nobody, or a task that does not wait
module _ (s : State) (ok : Sound s) where
  running_is : (z : ℕ) → running_task s ≡ z → (z ≡ 0 → ⊥) → (s.running < 32) × (z ≡ task_id s s.running)
  unfolding running_task
  running_is z e ne =
      ⊎_elim
      (λ b. (ltb-true s.running 32 b, sym e ∙ picked_yes _ _ _ b))
      (λ b. absurd (ne (sym e ∙ picked_no _ _ _ b)))
      (true_or_false (ltb s.running 32))

  runner_waits_not : (i : ℕ) → i < objects_end → (t : ℕ) → WaitsFor s i t → t ≡ s.running → ⊥
  runner_waits_not i h t w e =
      let hr : t < 32 = waits_room s ok.line.queues i t w in
      let ready : Ready s.line s.tasks s.running = runs_ready s ok (omega arith) in
      let z : WaitsFor s i s.running = subst (λ (v : ℕ). WaitsFor s i v) e w in omega (arith, z.1, ready.stands.0)

  -- so a waiter's identifier is not the running task's
  waiter_other : (i : ℕ) → i < objects_end → (t : ℕ) → WaitsFor s i t → running_task s ≡ task_id s t → ⊥
  waiter_other i h t w e =
      let r = running_is (task_id s t) e (some_name s ok i h t w) in
      runner_waits_not i h t w (apart_slots _ _ t s.running (omega (arith, room s ok i h t w)) (omega (arith, r.0)) r.1)

-- One turn. Who waits after it waited before it, under the same identifier, or is the caller of a claim or receive answered PENDING.
module _ (kind : Kind) (p : ℕ) (s : State) (ok : Sound s) (s2 : State) (ok2 : Sound s2) (y : Turn) (past : List Turn) (told told2 : Arrivals)
    (ag : Agrees p s past told) (ag2 : Agrees p s2 (y ∷ past) told2) (i : ℕ) (h : i < room_of kind) (t : ℕ) (w : WaitsFor s2 (object_of kind i) t) where
  abbrev z : ℕ
  z = task_id s2 t

  abbrev id : ℕ
  id = id_of kind s2 i

  abbrev on_list : List Turn → List ℕ
  on_list l = waiters_for kind l id

  abbrev Stood : Type 0
  Stood = (j : ℕ) × (j < room_of kind) × WaitsFor s (object_of kind j) t × (task_id s t ≡ z)

  stood : has (on_list past) z ≡ true → Stood
  stood b =
      let v : WaiterOf kind s id z = (waiters_of_lem ag kind).off id z b in
      let here : v.task < 32 = waits_room s ok.line.queues (object_of kind v.slot) v.task v.waits in
      let there : t < 32 = room s2 ok2 (object_of kind i) (object_room kind i h) t w in
      let d : v.task ≡ t = apart_slots _ _ v.task t (omega (arith, here)) (omega (arith, there)) (sym v.who) in (
        v.slot,
        v.room,
        subst (λ (u : ℕ). WaitsFor s (object_of kind v.slot) u) d v.waits,
        sym (v.who ∙ ap (task_id s) d),
      )

  before : Stood ⊎ ((is_answer_of (wait_call kind) id PENDING y ≡ true) × (running_in past ≡ z))
  before =
      let on : has (on_list (y ∷ past)) z ≡ true = (waiters_of_lem ag2 kind).on i h t w in
      ⊎_elim
      (λ e. absurd (true-false (subst (λ (l : List ℕ). has l z ≡ true) (waiters_shut y past kind id e) on) refl))
      (λ e. ⊎_elim
      (λ f. ⊎_elim (λ b. inl (stood b)) (λ b. inr (f, b))
      (has_grown (on_list past) (running_in past) z (subst (λ (l : List ℕ). has l z ≡ true) (waiters_grown y past kind id e f) on)))
      (λ f. inl (stood (kept_has _ (on_list past) z (subst (λ (l : List ℕ). has l z ≡ true) (waiters_kept y past kind id e f) on)).0))
      (true_or_false (is_answer_of (wait_call kind) id PENDING y)))
      (true_or_false (is_answer_of (deletion kind) id OK y))

-- whose turn it was to wait
module _ (y : Turn) (past : List Turn) (t : ℕ) where
  pauses_other : (running_in past ≡ t → ⊥) → pauses past t y ≡ false
  unfolding pauses
  pauses_other ne = second_fails (eqb y.reply.status PENDING) _ (ne_eqb _ _ ne)

  is_pause : y.reply.status ≡ PENDING → running_in past ≡ t → pauses past t y ≡ true
  unfolding pauses
  is_pause e f = both _ _ (eq-eqb _ _ e) (eq-eqb _ _ f)

-- what a turn's answer says
pub answer_is : (y : Turn) (k status : ℕ) → is_answer k status y ≡ true → (y.event.call ≡ k) × (y.reply.status ≡ status)
unfolding is_answer
answer_is y k status e =
    let b = both_true (eqb y.event.call k) (eqb y.reply.status status) e in (eqb-true _ _ b.0, eqb-true _ _ b.1)

pub answer_of_lem : (y : Turn) (k id status : ℕ) → is_answer_of k id status y ≡ true → is_answer k status y ≡ true
unfolding is_answer_of
answer_of_lem y k id status e = (both_true (is_answer k status y) _ e).0

-- a tick answered OK is what the definition says
refused : (s : State) (status : ℕ) → eqb status OK ≡ false → (plain s status).status ≡ OK → plain s status ≡ tick s
unfolding plain answer
refused s status e d = absurd (eqb-false status OK e d)

pub tick_done : (s : State) (x : Event) → x.call ≡ 0 → (answer_to s x).status ≡ OK → answer_to s x ≡ tick s
unfolding bad_state
tick_done s x at =
    by_number (λ (a : Answer). a.status ≡ OK → a ≡ tick s) s (refused s) x 0 at (λ d. absurd (omega (arith, d))) (λ d. refl)

-- arithmetic of a time_out
runs_on : (n k left n2 k2 left2 : ℕ) → Runs n k left → n2 ≡ n → k2 ≡ k → left2 ≡ left → Runs n2 k2 left2
runs_on n k left n2 k2 left2 r a b c =
    ⊎_elim (λ e. inl (a ∙ e.0, c ∙ e.1)) (λ e. inr (omega (arith, e.0, a, b, c), omega (arith, e.1, a))) r

runs_less : (n k left n2 k2 left2 : ℕ) → Runs n k left → (left ≡ 0 → ⊥) → n2 ≡ n → k2 ≡ 1 + k
    → (left ≡ FOREVER → left2 ≡ FOREVER) → ((left ≡ FOREVER → ⊥) → left2 ≡ left - 1) → Runs n2 k2 left2
runs_less n k left n2 k2 left2 r some a b c d =
    ⊎_elim
    (λ e. inl (a ∙ e.0, c e.1))
    (λ e. let f : left2 ≡ left - 1 = d (λ g. omega (arith, e.0, e.1, g)) in
    let one : 1 ≤ left = pos left some in inr (omega (arith, e.0, a, b, f, one), omega (arith, e.1, a)))
    r
  where
    pos : (v : ℕ) → (v ≡ 0 → ⊥) → 1 ≤ v
    pos zero ne = absurd (ne refl)
    pos (suc v) ne = omega arith

-- One event keeps the clocks.
module _ (p : ℕ) (s : State) (ok : Sound s) (x : Event) (past : List Turn) (told : Arrivals) (ag : Agrees p s past told) (clock : Clocked s past) where
  abbrev a : Answer
  a = answer_to s x

  abbrev y : Turn
  y = turn_of x a

  sound2 : Sound a.state
  sound2 = event_keeps s ok x

  abbrev told2 : Arrivals
  told2 = arrives told (suc (length past)) s a

  agrees2 : Agrees p a.state (y ∷ past) told2
  agrees2 = (event_steps s ok x).steps p past told ag

  module _ (kind : Kind) (i : ℕ) (h : i < room_of kind) (t : ℕ) (w : WaitsFor a.state (object_of kind i) t) where
    abbrev o : ℕ
    o = object_of kind i

    at_object : o < objects_end
    at_object = object_room kind i h

    abbrev me : ℕ
    me = task_id a.state t

    abbrev now : ℕ
    now = get_or a.state.line.left t 0

    abbrev Told : Type 0
    Told = Runs (time_out_of (y ∷ past) me) (ticks_since (y ∷ past) me) now

    left2 : now ≡ 0 → ⊥
    left2 = some_left a.state sound2 o at_object t w

    -- it waited before
    module _ (j : ℕ) (hj : j < room_of kind) (wj : WaitsFor s (object_of kind j) t) (same : task_id s t ≡ me) where
      abbrev from : ℕ
      from = object_of kind j

      was_object : from < objects_end
      was_object = object_room kind j hj

      abbrev was : ℕ
      was = get_or s.line.left t 0

      quiet : pauses past me y ≡ false
      quiet = pauses_other y past me (λ e. waiter_other s ok from was_object t wj (sym ag.running ∙ e ∙ sym same))

      ran : Runs (time_out_of past me) (ticks_since past me) was
      ran = subst (λ (v : ℕ). Runs (time_out_of past v) (ticks_since past v) was) same (clock.runs kind j hj t wj)

      asked : time_out_of (y ∷ past) me ≡ time_out_of past me
      asked = picked_no (pauses past me y) _ _ quiet

      ticks : ticks_since (y ∷ past) me ≡ pick (is_answer 0 OK y) 1 0 + ticks_since past me
      ticks = picked_no (pauses past me y) 0 _ quiet

      by_tick : is_answer 0 OK y ≡ true → Told
      by_tick e =
          let b = answer_is y 0 OK e in
          let d : a ≡ tick s = tick_done s x b.0 b.1 in
          let same : now ≡ get_or (tick s).state.line.left t 0 = ap (λ (v : Answer). get_or v.state.line.left t 0) d in
          runs_less (time_out_of past me) (ticks_since past me) was _ _ now ran (some_left s ok from was_object t wj) asked
          (ticks ∙ ap (λ (v : ℕ). v + ticks_since past me) (picked_yes (is_answer 0 OK y) 1 0 e))
          (λ g. same ∙ tick_leaves_forever s t g) (λ g. same ∙ tick_takes_one s t g)

      by_other : is_answer 0 OK y ≡ false → Told
      by_other e =
          ⊎_elim
          (λ f. runs_on (time_out_of past me) (ticks_since past me) was _ _ now ran asked
          (ticks ∙ ap (λ (v : ℕ). v + ticks_since past me) (picked_no (is_answer 0 OK y) 1 0 e) ∙ omega arith) f)
          (λ f. ⊎_elim (λ g. absurd (left2 g)) (λ g. absurd (runner_waits_not s ok from was_object t wj g.0)) f)
          ((event_lasts s ok x e).each t)

      stayed : Told
      stayed = ⊎_elim by_tick by_other (true_or_false (is_answer 0 OK y))

    -- it is the caller, who was answered PENDING
    arrived : y.reply.status ≡ PENDING → running_in past ≡ me → Told
    arrived e r =
        let pend : pauses past me y ≡ true = is_pause y past me e r in
        let runs = running_is s ok me (sym ag.running ∙ r) (some_name a.state sound2 o at_object t w) in
        let mine : t ≡ s.running = apart_slots _ _ t s.running (omega (arith, room a.state sound2 o at_object t w)) (omega (arith, runs.0)) runs.1 in
        let other : is_answer 0 OK y ≡ false = not_status y 0 OK (ap (λ (v : ℕ). eqb v OK) e) in
        let n : time_out_of (y ∷ past) me ≡ x.c = picked_yes (pauses past me y) _ _ pend in
        let k : ticks_since (y ∷ past) me ≡ 0 = picked_yes (pauses past me y) 0 _ pend in
        ⊎_elim
        (λ f. absurd (left2 (f ∙ ap (λ (v : ℕ). get_or s.line.left v 0) mine ∙ (runs_ready s ok runs.0).left)))
        (λ f. ⊎_elim (λ g. absurd (left2 g))
        (λ g. ⊎_elim
        (λ c. inl (n ∙ sym g.1 ∙ c, c))
        (λ c. inr (omega (arith, n, k, g.1), omega (arith, n, g.1, c.1)))
        (time_out_says now (has_time a.state sound2 o at_object t w)))
        f)
        ((event_lasts s ok x other).each t)

    goes_on : Told
    goes_on =
        ⊎_elim
        (λ b. stayed b.0 b.1 b.2 b.3)
        (λ b. arrived (answer_is y (wait_call kind) PENDING (answer_of_lem y (wait_call kind) _ PENDING b.0)).1 b.1)
        (before kind p s ok a.state sound2 y past told told2 ag agrees2 i h t w)

  event_clocked : Clocked a.state (y ∷ past)
  event_clocked = record { runs = goes_on }

pub clocked_after : (p : ℕ) (s : State) → Sound s → (xs : List Event) (past : List Turn) (told : Arrivals) → Agrees p s past told → Clocked s past
    → Clocked (after s xs) (past_from past s xs)
clocked_after p s ok [] past told ag clock = clock
clocked_after p s ok (x ∷ xs) past told ag clock =
    clocked_after p (answer_to s x).state (event_keeps s ok x) xs (turn_of x (answer_to s x) ∷ past) (arrives told (suc (length past)) s (answer_to s x))
    ((event_steps s ok x).steps p past told ag) (event_clocked p s ok x past told ag clock)
