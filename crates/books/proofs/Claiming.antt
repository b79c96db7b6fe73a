-- The caller of a claim, or a receive, that is answered PENDING joins the queue of the object that it named: all others go on waiting,
-- and the answers tell of the caller what the state says.
-- Assumes nothing.
use Prim.Native.Nat.{ℕ, suc, ◌+◌, ◌%◌, ◌≤◌, ◌<◌}
use native.Mathlib.Omega.{arith}
use mathlib.Core.Path.{◌≡◌, refl, sym, subst, ◌∙◌}
use mathlib.Core.Logic.{inl, ⊎_elim}
use mathlib.Core.Bool.{Bool, true, false}
use mathlib.Core.List.{List, [], ◌∷◌, ◌++◌}
use lib.ListN.{length, get_or}
use lib.Seq.{get_or-set_same, get_or-set_other}
use Rattle.scope.specs.declared.State.{State}
use Rattle.scope.specs.declared.Line.{Line}
use Rattle.scope.specs.Statuses.{OK, PENDING}
use Rattle.scope.specs.Identifiers.{identifier}
use Rattle.scope.specs.Seats.{queue_seats, standing, leaves, joins}
use Rattle.scope.specs.Lists.{has}
use Rattle.scope.specs.Objects.{objects_end, objects_of}
use Rattle.scope.specs.Views.{with_line}
use Rattle.scope.specs.Waiting.{waits}
use Rattle.scope.proofs.Seats.{ahead_from}
use Rattle.laws.proofs.Branches.{true_or_false, eq_or_not, not_of_false, picked_yes, picked_no}
use Rattle.laws.proofs.Arrays.{inside}
use Rattle.laws.specs.Seating.{In, AllSeated}
use Rattle.laws.proofs.Seats.Leaving.{leaves_out}
use Rattle.laws.proofs.Seats.Joining.{joins_is, joins_in}
use Rattle.laws.proofs.Seats.Counting.{standing-le}
use Rattle.histories.specs.Sound.{Ready, Sound}
use Rattle.histories.specs.Order.{Arrivals, arrival, WaitsFor}
use Rattle.histories.proofs.Moves.{seats_low}
use Rattle.histories.proofs.Staying.{Good, leaves_stays, leaves_good}
use Rattle.histories.proofs.Arriving.{joined_stood}
use Rattle.books.specs.Past.{Turn, is_answer, is_answer_of, running_in}
use Rattle.books.specs.Waiting.{Kind, a_semaphore, a_queue, deletion, wait_call, priority_in, named_by, joined_as, arrival_of, ends_wait, waiters_for}
use Rattle.books.proofs.Members.{has_before, has_last, has_grown, once_grown, has_kept, kept_has, once_kept, none_has}
use Rattle.books.proofs.Woken.{leaves_others}
use Rattle.books.proofs.Agreeing.{WaiterOf, Waiters, object_room, one_object, is_of, of_is, pends_on_other, is_pending_on, waiters_grown, waiters_kept, waiters_fewer}
use Rattle.books.specs.Told.{room_of, object_of, task_id, id_of, Once}

-- identifiers of two slots differ
pub apart_slots : (a b t u : ℕ) → t < 64 → u < 64 → identifier a t ≡ identifier b u → t ≡ u
apart_slots a b t u h l e = omega arith

-- who waits has a slot
pub waits_room : (s : State) → AllSeated s.line.seat → (i t : ℕ) → WaitsFor s i t → t < 32
waits_room s rule i t w = inside 32 s.line.seat t rule.tasks (λ z. omega (arith, z, w.0))

-- task t, which stands nowhere, joins the queue above o: all others stay
pub joins_others : (q key : List ℕ) (t o x : ℕ) → AllSeated q → o % 64 ≡ 0 → (b : ℕ) → b % 64 ≡ 0 → (u : ℕ) → (u ≡ t → ⊥) → In q b u → In (joins q key t o x) b u
joins_others q key t o x rule level b flat u ne a =
    let small : get_or q u 0 ≤ b + standing q b = (rule.seated b flat).small u a in
    let few = standing-le q b in
    let from = ahead_from q key o (o + 63) x 32 in
    ⊎_elim
    (λ s. (omega (arith, s, a), omega (arith, s, a, small, few)))
    (λ s. (omega (arith, s.1, a), omega (arith, s.1, a)))
    (joins_is q key t o x u ne)

-- where tasks stand does not change an object's identifier
line_id : (kind : Kind) (s : State) (line : Line) (i : ℕ) → id_of kind (with_line s line) i ≡ id_of kind s i
line_id a_semaphore s line i = refl
line_id a_queue s line i = refl

-- What is told of the kind after the caller, in slot r, joined the queue of its object i. `line` is where tasks stand then.
module _ (kind : Kind) (p : ℕ) (s : State) (line : Line) (y : Turn) (past : List Turn) (told : Arrivals) (ok : Waiters kind p s past told)
    (rule : AllSeated s.line.seat)
    (times : length told.time ≡ 32) (r i : ℕ) (room : r < 32) (hi : i < room_of kind)
    (called : is_answer (wait_call kind) PENDING y ≡ true)
    (mine : y.event.a ≡ id_of kind s i)
    (unshut : (id : ℕ) → is_answer_of (deletion kind) id OK y ≡ false)
    (lasts : (z : ℕ) → ends_wait past y z ≡ false)
    (runs : running_in past ≡ task_id s r)
    (urgent : priority_in p past (task_id s r) ≡ get_or line.joined r 0)
    (stays : (j : ℕ) → j < objects_end → (t : ℕ) → WaitsFor s j t → (t ≡ r → ⊥) × WaitsFor (with_line s line) j t)
    (came : (j : ℕ) → j < objects_end → (t : ℕ) → (t ≡ r → ⊥) → WaitsFor (with_line s line) j t → WaitsFor s j t)
    (kept : (t : ℕ) → (t ≡ r → ⊥) → get_or line.joined t 0 ≡ get_or s.line.joined t 0)
    (new : WaitsFor (with_line s line) (object_of kind i) r) (priority : ℕ) where
  abbrev s2 : State
  s2 = with_line s line

  abbrev on_list : List Turn → ℕ → List ℕ
  on_list = waiters_for kind

  -- where a waiter of the kind stands
  abbrev Now : ℕ → ℕ → Type 0
  Now j t = WaitsFor s2 (object_of kind j) t

  abbrev Then : ℕ → ℕ → Type 0
  Then j t = WaitsFor s (object_of kind j) t

  came_here : (j : ℕ) → j < room_of kind → (t : ℕ) → (t ≡ r → ⊥) → Now j t → Then j t
  came_here j h t ne w = came (object_of kind j) (object_room kind j h) t ne w

  here : (j : ℕ) → Now j r → j ≡ i
  here j w = one_object kind j i (omega (arith, w, new))

  other : (j : ℕ) → j < room_of kind → (t : ℕ) → (t ≡ r → ⊥) → Now j t → running_in past ≡ task_id s t → ⊥
  other j h t ne w e =
      ne (apart_slots _ _ t r (omega (arith, waits_room s rule (object_of kind j) t (came_here j h t ne w))) (omega arith) (sym e ∙ runs))

  -- the list of object id
  grown : (id : ℕ) → is_answer_of (wait_call kind) id PENDING y ≡ true → on_list (y ∷ past) id ≡ on_list past id ++ (running_in past ∷ [])
  grown id e = waiters_grown y past kind id (unshut id) e

  had : (id z : ℕ) → has (on_list past id) z ≡ true → has (on_list (y ∷ past) id) z ≡ true
  had id z b =
      ⊎_elim
      (λ e. subst (λ (l : List ℕ). has l z ≡ true) (sym (grown id e)) (has_before (on_list past id) (running_in past) z b))
      (λ e. subst (λ (l : List ℕ). has l z ≡ true) (sym (waiters_kept y past kind id (unshut id) e))
      (has_kept _ (on_list past id) z b (not_of_false _ (lasts z))))
      (true_or_false (is_answer_of (wait_call kind) id PENDING y))

  now_on : (j : ℕ) → j < room_of kind → (t : ℕ) → Now j t → has (on_list (y ∷ past) (id_of kind s j)) (task_id s t) ≡ true
  now_on j h t w =
      ⊎_elim
      (λ e. let d : j ≡ i = here j (subst (λ (v : ℕ). Now j v) e w) in
      subst (λ (v : ℕ). has (on_list (y ∷ past) (id_of kind s j)) (task_id s v) ≡ true) (sym e)
      (subst (λ (v : ℕ). has (on_list (y ∷ past) (id_of kind s v)) (task_id s r) ≡ true) (sym d)
      (subst (λ (l : List ℕ). has l (task_id s r) ≡ true)
      (sym (grown (id_of kind s i) (is_of y (wait_call kind) (id_of kind s i) PENDING called mine)))
      (subst (λ (v : ℕ). has (on_list past (id_of kind s i) ++ (running_in past ∷ [])) v ≡ true) runs
      (has_last (on_list past (id_of kind s i)) (running_in past))))))
      (λ ne. had (id_of kind s j) (task_id s t) (ok.on j h t (came_here j h t ne w)))
      (eq_or_not t r)

  older : (id z : ℕ) → has (on_list past id) z ≡ true → WaiterOf kind s2 id z
  older id z b =
      let w : WaiterOf kind s id z = ok.off id z b in
      record {
        slot = w.slot;
        task = w.task;
        room = w.room;
        waits = (stays (object_of kind w.slot) (object_room kind w.slot w.room) w.task w.waits).1;
        of = w.of ∙ sym (line_id kind s line w.slot);
        who = w.who;
      }

  now_off : (id z : ℕ) → has (on_list (y ∷ past) id) z ≡ true → WaiterOf kind s2 id z
  now_off id z b =
      ⊎_elim
      (λ e. ⊎_elim (older id z)
      (λ f. record { slot = i; task = r; room = hi; waits = new; of = sym (of_is y (wait_call kind) id PENDING e) ∙ mine ∙ sym (line_id kind s line i); who = sym f ∙ runs })
      (has_grown (on_list past id) (running_in past) z (subst (λ (l : List ℕ). has l z ≡ true) (grown id e) b)))
      (λ e. older id z (kept_has _ (on_list past id) z (subst (λ (l : List ℕ). has l z ≡ true) (waiters_kept y past kind id (unshut id) e) b)).0)
      (true_or_false (is_answer_of (wait_call kind) id PENDING y))

  first_time : (id : ℕ) → has (on_list past id) (running_in past) ≡ false
  first_time id =
      none_has (on_list past id) (running_in past)
      (λ b. let w : WaiterOf kind s id (running_in past) = ok.off id (running_in past) b in
      let z = stays (object_of kind w.slot) (object_room kind w.slot w.room) w.task w.waits in
      other w.slot w.room w.task z.0 z.1 w.who)

  now_once : (id : ℕ) → Once (on_list (y ∷ past) id)
  now_once id =
      ⊎_elim
      (λ e. subst Once (sym (grown id e)) (once_grown (on_list past id) (running_in past) (ok.once id) (first_time id)))
      (λ e. subst Once (sym (waiters_kept y past kind id (unshut id) e)) (once_kept _ (on_list past id) (ok.once id)))
      (true_or_false (is_answer_of (wait_call kind) id PENDING y))

  -- a fact of each waiter: of the caller, and of the others
  each : (P : ℕ → ℕ → Type 0) → P i r → ((j : ℕ) → j < room_of kind → (t : ℕ) → (t ≡ r → ⊥) → Now j t → Then j t → P j t)
      → (j : ℕ) → j < room_of kind → (t : ℕ) → Now j t → P j t
  each P mine2 others j h t w =
      ⊎_elim
      (λ e. let d : j ≡ i = here j (subst (λ (v : ℕ). Now j v) e w) in
      subst (λ (v : ℕ). P j v) (sym e) (subst (λ (v : ℕ). P v r) (sym d) mine2))
      (λ ne. others j h t ne w (came_here j h t ne w))
      (eq_or_not t r)

  pub waiters_more : Waiters kind p s2 (y ∷ past) (arrival told r (suc (length past)) priority)
  waiters_more =
      record {
        on = λ j h t w. subst (λ (v : ℕ). has (on_list (y ∷ past) v) (task_id s t) ≡ true) (sym (line_id kind s line j)) (now_on j h t w);
        off = now_off;
        once = now_once;
        claim = each (λ j t. named_by kind (y ∷ past) (task_id s t) ≡ id_of kind s2 j)
            (picked_yes _ _ _ (is_pending_on y past kind _ called runs) ∙ mine ∙ sym (line_id kind s line i))
            (λ j h t ne w v. picked_no _ _ _ (pends_on_other y past kind _ (other j h t ne w)) ∙ ok.claim j h t v ∙ sym (line_id kind s line j));
        since = each (λ j t. arrival_of kind (y ∷ past) (task_id s t) ≡ get_or (arrival told r (suc (length past)) priority).time t 0)
            (picked_yes _ _ _ (is_pending_on y past kind _ called runs) ∙ sym (get_or-set_same told.time r (suc (length past)) 0 (omega arith)))
            (λ j h t ne w v. picked_no _ _ _ (pends_on_other y past kind _ (other j h t ne w)) ∙ ok.since j h t v
            ∙ sym (get_or-set_other told.time r t (suc (length past)) 0 ne));
        joined = each (λ j t. joined_as kind p (y ∷ past) (task_id s t) ≡ get_or line.joined t 0)
            (picked_yes _ _ _ (is_pending_on y past kind _ called runs) ∙ urgent)
            (λ j h t ne w v. picked_no _ _ _ (pends_on_other y past kind _ (other j h t ne w)) ∙ ok.joined j h t v ∙ sym (kept t ne));
      }

-- And of the other kind: the caller joined the queue of object o, which is none of it.
module _ (kind : Kind) (p : ℕ) (s : State) (line : Line) (y : Turn) (past : List Turn) (told : Arrivals) (ok : Waiters kind p s past told) (r o : ℕ)
    (mute : is_answer (wait_call kind) PENDING y ≡ false)
    (unshut : (id : ℕ) → is_answer_of (deletion kind) id OK y ≡ false)
    (lasts : (z : ℕ) → ends_wait past y z ≡ false)
    (stays : (j : ℕ) → j < objects_end → (t : ℕ) → WaitsFor s j t → (t ≡ r → ⊥) × WaitsFor (with_line s line) j t)
    (came : (j : ℕ) → j < objects_end → (t : ℕ) → (t ≡ r → ⊥) → WaitsFor (with_line s line) j t → WaitsFor s j t)
    (kept : (t : ℕ) → (t ≡ r → ⊥) → get_or line.joined t 0 ≡ get_or s.line.joined t 0)
    (new : WaitsFor (with_line s line) o r)
    (apart : (j : ℕ) → j < room_of kind → object_of kind j ≡ o → ⊥) (n priority : ℕ) where
  elsewhere : (j : ℕ) → j < room_of kind → (t : ℕ) → WaitsFor (with_line s line) (object_of kind j) t → t ≡ r → ⊥
  elsewhere j h t w e =
      let z : WaitsFor (with_line s line) (object_of kind j) r = subst (λ (v : ℕ). WaitsFor (with_line s line) (object_of kind j) v) e w in
      apart j h (omega (arith, z, new))

  pub waiters_same : Waiters kind p (with_line s line) (y ∷ past) (arrival told r n priority)
  waiters_same =
      waiters_fewer kind p s (with_line s line) y past told (arrival told r n priority) ok mute
      (λ j h t w. came (object_of kind j) (object_room kind j h) t (elsewhere j h t w) w)
      (λ j h t w. kept t (elsewhere j h t w))
      (λ j h t w. get_or-set_other told.time r t n 0 (elsewhere j h t w))
      (λ j h t w. inl (stays (object_of kind j) (object_room kind j h) t w).1)
      (λ j h t w. lasts (task_id s t))
      (λ j h t w. unshut (id_of kind s j))
      (λ j h t w. refl)
      (λ j h t w. line_id kind s line j)

-- The line after a claim or a receive: the running task r leaves the ready order and joins the queue of object i.
module _ (s : State) (ok : Sound s) (r i : ℕ) (room : r < 32) (hi : i < objects_end) (ready : Ready s.line s.tasks r) (fifo : Bool) (priority ticks : ℕ) where
  abbrev after : Line
  after = waits s.line i fifo priority ticks r

  abbrev q : List ℕ
  q = s.line.seat

  good : Good q
  good = record { queues = ok.line.queues; low = seats_low s.line s.tasks (objects_of s) ok.line }

  pub claim_stays : (j : ℕ) → j < objects_end → (t : ℕ) → WaitsFor s j t → (t ≡ r → ⊥) × WaitsFor (with_line s after) j t
  unfolding waits
  claim_stays j h t w =
      let ne : t ≡ r → ⊥ = λ e. let z = subst (λ (v : ℕ). WaitsFor s j v) e w in omega (arith, z.1, ready.stands.0) in (
        ne,
        joins_others (leaves q r) s.line.joined r (queue_seats i) _ (leaves_good q good r).queues (omega arith) (queue_seats j) (omega arith) t ne
            (leaves_others q good r (queue_seats j) (omega arith) t ne w),
      )

  pub claim_came : (j : ℕ) → j < objects_end → (t : ℕ) → (t ≡ r → ⊥) → WaitsFor (with_line s after) j t → WaitsFor s j t
  unfolding waits
  claim_came j h t ne w =
      (leaves_stays q good r).stood (queue_seats j) (omega arith) (omega arith) t
      (joined_stood (leaves q r) s.line.joined r (queue_seats i) _ (omega arith) (queue_seats j) (omega arith) t ne w)

  pub claim_new : WaitsFor (with_line s after) i r
  unfolding waits
  claim_new =
      let g : Good (leaves q r) = leaves_good q good r in
      joins_in (leaves q r) s.line.joined r (queue_seats i) _ _ g.queues.tasks room (leaves_out q r) (g.queues.seated (queue_seats i) (omega arith))

  pub claim_kept : (t : ℕ) → (t ≡ r → ⊥) → get_or after.joined t 0 ≡ get_or s.line.joined t 0
  unfolding waits
  claim_kept t ne = get_or-set_other s.line.joined r t priority 0 ne

  pub claim_joined : get_or after.joined r 0 ≡ priority
  unfolding waits
  claim_joined = get_or-set_same s.line.joined r priority 0 (omega (arith, ok.line.joineds))
