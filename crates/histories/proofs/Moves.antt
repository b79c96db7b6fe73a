-- One task moves and all others stand as they stood. A task that leaves is `Out`: it stands on no seat, and the line is sound
-- but for it. From there it stays out, becomes ready or waits, and the line is sound again. The task table may change at its
-- slot in the same call.
-- Assumes nothing.
use Prim.Native.Nat.{ℕ, ◌+◌, ◌*◌, ◌-◌, ◌/◌, ◌%◌, ◌≤◌, ◌<◌}
use native.Mathlib.Omega.{arith}
use mathlib.Core.Path.{◌≡◌, refl, sym, subst, ap, ◌∙◌}
use mathlib.Core.Logic.{◌⊎◌, inl, inr, ⊎_elim}
use mathlib.Core.Bool.{Bool, true, false}
use mathlib.Core.List.{List, [], ◌∷◌}
use lib.ListN.{length, get_or, set, length-set}
use lib.Seq.{get_or-set_same, get_or-set_other, set-get_or}
use lib.Dec.{ltb}
use borrow.Author.Tests.{lt-ltb, ltb-true}
use Rattle.scope.specs.declared.Line.{Line}
use Rattle.scope.specs.declared.Tasks.{Tasks}
use Rattle.scope.specs.Choice.{pick}
use Rattle.scope.specs.Seats.{queue_seats, ring_seats, standing, leaves, joins, becomes_ready, ahead_of, ring_mask, mask_left, rings_left, rings_ready, waits_on}
use Rattle.scope.specs.Objects.{objects_end, Objects}
use Rattle.scope.specs.Views.{with_seats, with_wait}
use Rattle.scope.specs.Waiting.{is_time_out, queue_key, waits, woken_seats, woken_rings, wake}
use Rattle.laws.proofs.Branches.{lt_or_le, eq_or_not, picked_yes, picked_no, both, both_true, true-false}
use Rattle.laws.proofs.Arrays.{inside}
use Rattle.laws.specs.Seating.{In, Sorted, AllSeated}
use Rattle.laws.proofs.Seats.Counting.{standing_is, standing-le}
use Rattle.laws.proofs.Seats.Apart.{untouched_sorted}
use Rattle.laws.proofs.Seats.Leaving.{length-leaves, leaves_out, leaves_nowhere, leaves_is, leaves_seated, leaves_sorted, leaves_others, leaves_others_sorted}
use Rattle.laws.proofs.Seats.Joining.{length-joins, joins_is, joins_in, joins_sorted, joins_untouched, joins_others, joins_others_sorted}
use Rattle.scope.proofs.Seats.{ahead_from}
use Rattle.laws.proofs.Seats.Rule.{stands_in_lem, leaves_keeps, joins_queues}
use Rattle.laws.proofs.Seats.Rings.{queued_mask, rings_left_lem, rings_ready_lem}
use Rattle.histories.specs.Sound.{Nowhere, Waits, Ready, Stands, LineSound}

-- who leaves a seat below all rings leaves the rings as they are
rings_stay : (rings q : List ℕ) (t : ℕ) → get_or q t 0 < 2048 → rings_left rings q t ≡ rings
unfolding rings_left mask_left
rings_stay rings q t h = ap (set rings 0) (picked_yes (ltb (get_or q t 0) 2048) _ _ (lt-ltb _ _ h)) ∙ set-get_or rings 0 0

-- Seats: what becomes of everybody else when task t leaves.
module _ (q : List ℕ) (rule : AllSeated q) (low : (u : ℕ) → In q 0 u → ⊥) (t : ℕ) where
  leaves_by : (P : List ℕ → Type 0) → P q → (0 < get_or q t 0 → P (leaves q t)) → P (leaves q t)
  leaves_by P same other =
      ⊎_elim other (λ h. subst P (sym (leaves_nowhere q t (omega arith) low)) same) (lt_or_le 0 (get_or q t 0))

  -- who stood nowhere stands nowhere
  leaves-zero : (u : ℕ) → get_or q u 0 ≡ 0 → get_or (leaves q t) u 0 ≡ 0
  leaves-zero u z =
      leaves_by (λ r. get_or r u 0 ≡ 0) z
      (λ h. let at : In q (get_or q t 0 / 64 * 64) t = stands_in_lem q rule t h in
      ⊎_elim (λ p. p.1)
      (λ p. ⊎_elim (λ s. absurd (omega arith)) (λ s. s.1 ∙ z) p)
      (leaves_is q (get_or q t 0 / 64 * 64) t (omega arith) at u))

  -- who stood in a queue stands in it
  leaves_inside : (u : ℕ) → (u ≡ t → ⊥) → (o : ℕ) → o % 64 ≡ 0 → In q o u → In (leaves q t) o u
  leaves_inside u ne o level a =
      leaves_by (λ r. In r o u) a
      (λ h. let b : ℕ = get_or q t 0 / 64 * 64 in
      let flat : b % 64 ≡ 0 = omega arith in
      let at : In q b t = stands_in_lem q rule t h in
      ⊎_elim (λ p. absurd (ne (sym ((rule.seated b flat).once t u at (sym p.0)))))
      (λ p. ⊎_elim
      (λ s. (omega (arith, s, at, a), omega (arith, s, at, a)))
      (λ s. (omega (arith, s.1, a), omega (arith, s.1, a)))
      p)
      (leaves_is q b t flat at u))

  leaves_order : (key : List ℕ) (o : ℕ) → o % 64 ≡ 0 → Sorted q key o → Sorted (leaves q t) key o
  leaves_order key o level order =
      leaves_by (λ r. Sorted r key o) order
      (λ h. let b : ℕ = get_or q t 0 / 64 * 64 in
      let at : In q b t = stands_in_lem q rule t h in
      ⊎_elim
      (λ e. leaves_sorted q o t level (subst (λ (v : ℕ). In q v t) (sym e) at) key order)
      (λ ne. leaves_others_sorted q b t (omega arith) at o level ne key order)
      (eq_or_not o b))

  -- one fewer stands in its queue, as many in every other
  pub leaves-standing : (o : ℕ) → o % 64 ≡ 0 → In q o t → standing (leaves q t) o ≡ standing q o - 1
  leaves-standing o level at =
      standing_is (leaves q t) o (standing q o - 1) (length-leaves q t ∙ rule.tasks)
      (leaves_seated q o t level at (standing q o) rule.tasks (rule.seated o level))

  pub leaves_elsewhere : (b : ℕ) → b % 64 ≡ 0 → In q b t → (o : ℕ) → o % 64 ≡ 0 → (o ≡ b → ⊥) → standing (leaves q t) o ≡ standing q o
  leaves_elsewhere b flat at o level ne =
      standing_is (leaves q t) o (standing q o) (length-leaves q t ∙ rule.tasks)
      (leaves_others q b t flat at o level ne (standing q o) rule.tasks (rule.seated o level))

  leaves_fewer : (o : ℕ) → o % 64 ≡ 0 → standing (leaves q t) o ≤ standing q o
  leaves_fewer o level =
      leaves_by (λ r. standing r o ≤ standing q o) (omega arith)
      (λ h. let b : ℕ = get_or q t 0 / 64 * 64 in
      let at : In q b t = stands_in_lem q rule t h in
      ⊎_elim
      (λ e. omega (arith, leaves-standing o level (subst (λ (v : ℕ). In q v t) (sym e) at)))
      (λ ne. omega (arith, leaves_elsewhere b (omega arith) at o level ne))
      (eq_or_not o b))

-- And when task t, which stands nowhere, joins the queue above o.
module _ (q key : List ℕ) (t o p : ℕ) (rule : AllSeated q) (room : t < 32) (out : get_or q t 0 ≡ 0) (level : o % 64 ≡ 0) where
  joins-zero : (u : ℕ) → (u ≡ t → ⊥) → get_or q u 0 ≡ 0 → get_or (joins q key t o p) u 0 ≡ 0
  joins-zero u ne z = ⊎_elim (λ s. absurd (omega arith)) (λ s. s.1 ∙ z) (joins_is q key t o p u ne)

  joins_inside : (u : ℕ) → (u ≡ t → ⊥) → (b : ℕ) → b % 64 ≡ 0 → In q b u → In (joins q key t o p) b u
  joins_inside u ne b flat a =
      ⊎_elim
      (λ s. let c : o ≤ ahead_of q key o (o + 63) p 32 = ahead_from q key o (o + 63) p 32 in
      let d : get_or q u 0 ≤ o + standing q o = (rule.seated o level).small u (omega (arith, s, c), omega (arith, s)) in
      (omega (arith, s, a), omega (arith, s, a, c, d, standing-le q o)))
      (λ s. (omega (arith, s.1, a), omega (arith, s.1, a)))
      (joins_is q key t o p u ne)

  -- as many stand in every other queue
  pub joins-standing : (b : ℕ) → b % 64 ≡ 0 → (b ≡ o → ⊥) → standing (joins q key t o p) b ≡ standing q b
  joins-standing b flat ne =
      standing_is (joins q key t o p) b (standing q b) (length-joins q key t o p ∙ rule.tasks)
      (joins_others q key t o p (standing q o) rule.tasks room out (rule.seated o level) level b flat ne (standing q b) (rule.seated b flat))

  joins_order : (other : List ℕ) (b : ℕ) → b % 64 ≡ 0 → (b ≡ o → ⊥) → Sorted q other b → Sorted (joins q key t o p) other b
  joins_order other b flat ne order =
      untouched_sorted q (joins q key t o p) other b
      (joins_untouched q key t o p (standing q o) rule.tasks room out (rule.seated o level) level b flat ne) order

-- the key of a task that stands nowhere does not matter
keys_kept : (q key new : List ℕ) (t o : ℕ) → get_or q t 0 ≡ 0 → ((u : ℕ) → (u ≡ t → ⊥) → get_or new u 0 ≡ get_or key u 0) → Sorted q key o → Sorted q new o
keys_kept q key new t o out same order =
    record {
      falls = λ u v a b l.
          omega (
            arith,
            order.falls u v a b l,
            same u (λ e. omega (arith, ap (λ (w : ℕ). get_or q w 0) e, out, a.0)),
            same v (λ e. omega (arith, ap (λ (w : ℕ). get_or q w 0) e, out, b.0)),
          );
    }

-- two task tables that agree on where tasks other than t may stand
pub record Agree (k j : Tasks) (t : ℕ) : Type 0 where
  pub started : (u : ℕ) → (u ≡ t → ⊥) → get_or j.started u false ≡ get_or k.started u false
  pub suspended : (u : ℕ) → (u ≡ t → ⊥) → get_or j.suspended u false ≡ get_or k.suspended u false
  pub priority : (u : ℕ) → (u ≡ t → ⊥) → get_or j.priority u 0 ≡ get_or k.priority u 0

pub agree_same : (k : Tasks) (t : ℕ) → Agree k k t
agree_same k t = record { started = λ u ne. refl; suspended = λ u ne. refl; priority = λ u ne. refl }

-- two lines in which tasks other than t stand alike
record Others (l r : Line) (t : ℕ) : Type 0 where
  left : (u : ℕ) → (u ≡ t → ⊥) → get_or r.left u 0 ≡ get_or l.left u 0
  joined : (u : ℕ) → (u ≡ t → ⊥) → get_or r.joined u 0 ≡ get_or l.joined u 0
  out : (u : ℕ) → (u ≡ t → ⊥) → get_or l.seat u 0 ≡ 0 → get_or r.seat u 0 ≡ 0
  at : (u : ℕ) → (u ≡ t → ⊥) → (o : ℕ) → o % 64 ≡ 0 → In l.seat o u → In r.seat o u

stands_other : (l r : Line) (k j : Tasks) (m : Objects) (t : ℕ) → Others l r t → Agree k j t → (u : ℕ) → (u ≡ t → ⊥) → Stands l k m u → Stands r j m u
stands_other l r k j m t same agree u ne =
    ⊎_elim
    (λ s. inl (record {
      seat = same.out u ne s.seat;
      left = same.left u ne ∙ s.left;
      joined = same.joined u ne ∙ s.joined;
      idle = ⊎_elim (λ p. inl (agree.started u ne ∙ p)) (λ p. inr (agree.suspended u ne ∙ p)) s.idle;
    }))
    (λ w. inr (⊎_elim
    (λ s. inl (record {
      on = s.on;
      within = s.within;
      alive = s.alive;
      stands = same.at u ne (queue_seats s.on) (omega arith) s.stands;
      started = agree.started u ne ∙ s.started;
      time = ap is_time_out (same.left u ne) ∙ s.time;
      joined = omega (arith, same.joined u ne, s.joined);
    }))
    (λ s. inr (record {
      stands = subst (λ (p : ℕ). In r.seat (ring_seats p) u) (sym (agree.priority u ne))
          (same.at u ne (ring_seats (get_or k.priority u 0)) (omega arith) s.stands);
      started = agree.started u ne ∙ s.started;
      awake = agree.suspended u ne ∙ s.awake;
      left = same.left u ne ∙ s.left;
      joined = same.joined u ne ∙ s.joined;
    }))
    w))

-- the line is sound but for task t, which stands on no seat and has nothing of a wait
pub record Out (l : Line) (k : Tasks) (m : Objects) (t : ℕ) : Type 0 where
  pub lefts : length l.left ≡ 32
  pub joineds : length l.joined ≡ 32
  pub queues : AllSeated l.seat
  pub rings : l.rings ≡ ring_mask l.seat ∷ []
  pub others : (u : ℕ) → u < 32 → (u ≡ t → ⊥) → Stands l k m u
  pub sorted : (i : ℕ) → i < objects_end → m.fifo i ≡ false → Sorted l.seat l.joined (queue_seats i)
  pub counts : (i : ℕ) → i < objects_end → 0 < standing l.seat (queue_seats i) → m.stock i ≡ 0
  pub seat : get_or l.seat t 0 ≡ 0
  pub left : get_or l.left t 0 ≡ 0
  pub joined : get_or l.joined t 0 ≡ 0

-- all tasks stand where those other than t do and t does
all_stand : (P : ℕ → Type 0) (t : ℕ) → P t → ((u : ℕ) → u < 32 → (u ≡ t → ⊥) → P u) → (u : ℕ) → u < 32 → P u
all_stand P t here other u h = ⊎_elim (λ e. subst P (sym e) here) (other u h) (eq_or_not u t)

-- it stays out, not started or suspended
pub stays : (l : Line) (k : Tasks) (m : Objects) (t : ℕ) → Out l k m t
    → (get_or k.started t false ≡ false) ⊎ (get_or k.suspended t false ≡ true) → LineSound l k m
stays l k m t out idle =
    record {
      lefts = out.lefts;
      joineds = out.joineds;
      queues = out.queues;
      rings = out.rings;
      stands = all_stand (Stands l k m) t (inl (record { seat = out.seat; left = out.left; joined = out.joined; idle = idle })) out.others;
      sorted = out.sorted;
      counts = out.counts;
    }

module _ (l : Line) (k : Tasks) (m : Objects) (ok : LineSound l k m) where
  -- who stands where, told by its seat
  pub seats_low : (u : ℕ) → In l.seat 0 u → ⊥
  seats_low u a =
      ⊎_elim (λ s. omega (arith, s.seat, a.0))
      (λ w. ⊎_elim (λ s. omega (arith, s.stands.0, a.1)) (λ s. omega (arith, s.stands.0, a.1)) w)
      (ok.stands u (inside 32 l.seat u ok.queues.tasks (λ z. omega (arith, z, a.0))))

  -- the task table changes at slot t, and t stands by the new one
  pub retold : (j : Tasks) (t : ℕ) → Agree k j t → Stands l j m t → LineSound l j m
  retold j t agree here =
      record {
        lefts = ok.lefts;
        joineds = ok.joineds;
        queues = ok.queues;
        rings = ok.rings;
        stands = all_stand (Stands l j m) t here
            (λ u h ne. stands_other l l k j m t
            (record { left = λ v nv. refl; joined = λ v nv. refl; out = λ v nv z. z; at = λ v nv o level a. a }) agree u ne (ok.stands u h));
        sorted = ok.sorted;
        counts = ok.counts;
      }

  -- a task that stands nowhere is out, whatever becomes of its slot
  pub nowhere_out : (j : Tasks) (t : ℕ) → Agree k j t → Nowhere l k t → Out l j m t
  nowhere_out j t agree here =
      record {
        lefts = ok.lefts;
        joineds = ok.joineds;
        queues = ok.queues;
        rings = ok.rings;
        others = λ u h ne. stands_other l l k j m t
            (record { left = λ v nv. refl; joined = λ v nv. refl; out = λ v nv z. z; at = λ v nv o level a. a }) agree u ne (ok.stands u h);
        sorted = ok.sorted;
        counts = ok.counts;
        seat = here.seat;
        left = here.left;
        joined = here.joined;
      }

  -- task t leaves, and has a and b for what was left and joined
  leaves_out_with : (j : Tasks) (t : ℕ) → Agree k j t → (a b : List ℕ) → length a ≡ 32 → length b ≡ 32 → get_or a t 0 ≡ 0 → get_or b t 0 ≡ 0
      → ((u : ℕ) → (u ≡ t → ⊥) → get_or a u 0 ≡ get_or l.left u 0)
      → ((u : ℕ) → (u ≡ t → ⊥) → get_or b u 0 ≡ get_or l.joined u 0)
      → Out (record { left = a; seat = leaves l.seat t; joined = b; rings = rings_left l.rings l.seat t }) j m t
  leaves_out_with j t agree a b la lb za zb same_a same_b =
      let r : Line = record { left = a; seat = leaves l.seat t; joined = b; rings = rings_left l.rings l.seat t } in
      record {
        lefts = la;
        joineds = lb;
        queues = leaves_keeps l.seat ok.queues seats_low t;
        rings = rings_left_lem l.rings l.seat ok.rings ok.queues seats_low t;
        others = λ u h ne. stands_other l r k j m t
            (record {
              left = same_a;
              joined = same_b;
              out = λ v nv z. leaves-zero l.seat ok.queues seats_low t v z;
              at = λ v nv o level c. leaves_inside l.seat ok.queues seats_low t v nv o level c;
            }) agree u ne (ok.stands u h);
        sorted = λ i h f. keys_kept (leaves l.seat t) l.joined b t (queue_seats i) (leaves_out l.seat t) same_b
            (leaves_order l.seat ok.queues seats_low t l.joined (queue_seats i) (omega arith) (ok.sorted i h f));
        counts = λ i h c. ok.counts i h (omega (arith, c, leaves_fewer l.seat ok.queues seats_low t (queue_seats i) (omega arith)));
        seat = leaves_out l.seat t;
        left = za;
        joined = zb;
      }

  -- task t leaves its queue, if it stands in one, and waits no longer
  pub gone : (j : Tasks) (t : ℕ) → t < 32 → Agree k j t → Out (with_wait l t 0 0 (leaves l.seat t) (rings_left l.rings l.seat t)) j m t
  gone j t room agree =
      leaves_out_with j t agree (set l.left t 0) (set l.joined t 0)
      (length-set l.left t 0 ∙ ok.lefts) (length-set l.joined t 0 ∙ ok.joineds)
      (get_or-set_same l.left t 0 0 (omega (arith, ok.lefts))) (get_or-set_same l.joined t 0 0 (omega (arith, ok.joineds)))
      (λ u ne. get_or-set_other l.left t u 0 0 ne) (λ u ne. get_or-set_other l.joined t u 0 0 ne)

  -- one that stands in no ring leaves the rings as they are
  waiter_gone : (t : ℕ) → t < 32 → get_or l.seat t 0 < 2048 → Out (with_wait l t 0 0 (leaves l.seat t) l.rings) k m t
  waiter_gone t room low =
      subst (λ (r : List ℕ). Out (with_wait l t 0 0 (leaves l.seat t) r) k m t) (rings_stay l.rings l.seat t low)
      (gone k t room (agree_same k t))

  -- a ready task leaves
  pub ready_gone : (j : Tasks) (t : ℕ) → Agree k j t → Ready l k t
      → Out (with_seats l (leaves l.seat t) (rings_left l.rings l.seat t)) j m t
  ready_gone j t agree here =
      leaves_out_with j t agree l.left l.joined ok.lefts ok.joineds here.left here.joined (λ u ne. refl) (λ u ne. refl)

-- a queue that is not FIFO is by priority
key_is : (fifo : Bool) (p : ℕ) → fifo ≡ false → queue_key fifo p ≡ p
unfolding queue_key
key_is fifo p f = picked_no fifo 0 p f

-- task t, which is out, takes a seat
module _ (l : Line) (k : Tasks) (m : Objects) (t : ℕ) (room : t < 32) (out : Out l k m t) where
  -- it becomes ready; the keys do not matter
  pub becomes_ready_lem : (key : List ℕ) (p : ℕ) → get_or k.started t false ≡ true → get_or k.suspended t false ≡ false → get_or k.priority t 0 ≡ p
      → LineSound (with_seats l (becomes_ready l.seat key t p) (rings_ready l.rings p)) k m
  becomes_ready_lem key p started awake e =
      let r : Line = with_seats l (becomes_ready l.seat key t p) (rings_ready l.rings p) in
      let level : ring_seats p % 64 ≡ 0 = omega arith in
      record {
        lefts = out.lefts;
        joineds = out.joineds;
        queues = joins_queues l.seat key t (ring_seats p) 0 out.queues room out.seat level;
        rings = rings_ready_lem l.rings l.seat out.rings key t p out.queues room out.seat;
        stands = all_stand (Stands r k m) t
            (inr (inr (record {
              stands = subst (λ (v : ℕ). In r.seat (ring_seats v) t) (sym e)
                  (joins_in l.seat key t (ring_seats p) 0 _ out.queues.tasks room out.seat (out.queues.seated (ring_seats p) level));
              started = started;
              awake = awake;
              left = out.left;
              joined = out.joined;
            })))
            (λ u h ne. stands_other l r k k m t
            (record {
              left = λ v nv. refl;
              joined = λ v nv. refl;
              out = λ v nv z. joins-zero l.seat key t (ring_seats p) 0 out.queues room out.seat level v nv z;
              at = λ v nv o flat c. joins_inside l.seat key t (ring_seats p) 0 out.queues room out.seat level v nv o flat c;
            }) (agree_same k t) u ne (out.others u h ne));
        sorted = λ i h f. joins_order l.seat key t (ring_seats p) 0 out.queues room out.seat level l.joined (queue_seats i) (omega arith)
            (λ d. omega arith) (out.sorted i h f);
        counts = λ i h c. out.counts i h
            (omega (arith, c, joins-standing l.seat key t (ring_seats p) 0 out.queues room out.seat level (queue_seats i) (omega arith) (λ d. omega arith)));
      }

  -- it joins the queue of object i
  pub joins_queue : (i p ticks : ℕ) → i < objects_end → m.live i ≡ true → m.stock i ≡ 0
      → get_or k.started t false ≡ true → is_time_out ticks ≡ true → p ≤ 15
      → LineSound (with_wait l t ticks p (joins l.seat l.joined t (queue_seats i) (queue_key (m.fifo i) p)) l.rings) k m
  joins_queue i p ticks hi alive none started time small =
      let x : ℕ = queue_key (m.fifo i) p in
      let r : Line = with_wait l t ticks p (joins l.seat l.joined t (queue_seats i) x) l.rings in
      let level : queue_seats i % 64 ≡ 0 = omega arith in
      record {
        lefts = length-set l.left t ticks ∙ out.lefts;
        joineds = length-set l.joined t p ∙ out.joineds;
        queues = joins_queues l.seat l.joined t (queue_seats i) x out.queues room out.seat level;
        rings = out.rings ∙ ap (λ (v : ℕ). v ∷ []) (queued_mask l.seat l.joined t (queue_seats i) x out.queues room out.seat level (omega arith));
        stands = all_stand (Stands r k m) t
            (inr (inl (record {
              on = i;
              within = hi;
              alive = alive;
              stands = joins_in l.seat l.joined t (queue_seats i) x _ out.queues.tasks room out.seat (out.queues.seated (queue_seats i) level);
              started = started;
              time = ap is_time_out (get_or-set_same l.left t ticks 0 (omega (arith, out.lefts))) ∙ time;
              joined = omega (arith, get_or-set_same l.joined t p 0 (omega (arith, out.joineds)));
            })))
            (λ u h ne. stands_other l r k k m t
            (record {
              left = λ v nv. get_or-set_other l.left t v ticks 0 nv;
              joined = λ v nv. get_or-set_other l.joined t v p 0 nv;
              out = λ v nv z. joins-zero l.seat l.joined t (queue_seats i) x out.queues room out.seat level v nv z;
              at = λ v nv o flat c. joins_inside l.seat l.joined t (queue_seats i) x out.queues room out.seat level v nv o flat c;
            }) (agree_same k t) u ne (out.others u h ne));
        sorted = λ n h f.
            ⊎_elim
            (λ e. let g : m.fifo i ≡ false = subst (λ (v : ℕ). m.fifo v ≡ false) e f in
            subst (λ (v : ℕ). Sorted r.seat r.joined (queue_seats v)) (sym e)
            (subst (λ (v : ℕ). Sorted (joins l.seat l.joined t (queue_seats i) v) (set l.joined t p) (queue_seats i)) (sym (key_is _ p g))
            (joins_sorted l.seat l.joined t (queue_seats i) p _ out.queues.tasks room out.seat
            (out.queues.seated (queue_seats i) level) out.joineds (out.sorted i hi g))))
            (λ ne. joins_others_sorted l.seat l.joined t (queue_seats i) x _ out.queues.tasks room out.seat
            (out.queues.seated (queue_seats i) level) level (queue_seats n) (omega arith) (λ d. ne (omega arith)) p (out.sorted n h f))
            (eq_or_not n i);
        counts = λ n h c.
            ⊎_elim
            (λ e. subst (λ (v : ℕ). m.stock v ≡ 0) (sym e) none)
            (λ ne. out.counts n h
            (omega (arith, c, joins-standing l.seat l.joined t (queue_seats i) x out.queues room out.seat level (queue_seats n) (omega arith) (λ d. ne (omega arith)))))
            (eq_or_not n i);
      }

module _ (l : Line) (k : Tasks) (m : Objects) (ok : LineSound l k m) (t : ℕ) (room : t < 32) where
  -- a ready task leaves the ready order and waits for object i
  pub waits_sound : (i p ticks : ℕ) → Ready l k t → i < objects_end → m.live i ≡ true → m.stock i ≡ 0 → is_time_out ticks ≡ true → p ≤ 15
      → LineSound (waits l i (m.fifo i) p ticks t) k m
  unfolding waits
  waits_sound i p ticks here hi alive none time small =
      joins_queue (with_seats l (leaves l.seat t) (rings_left l.rings l.seat t)) k m t room (ready_gone l k m ok k t (agree_same k t) here) i p ticks hi alive none here.started time small

  -- a task that was started and waits leaves and waits no longer: it is ready unless it is suspended
  pub wake_sound : (suspended : Bool) → get_or l.seat t 0 < 2048 → get_or k.started t false ≡ true → get_or k.suspended t false ≡ suspended
      → LineSound (wake l suspended (get_or k.priority t 0) t) k m
  unfolding wake woken_seats woken_rings pick
  wake_sound true low started e = stays (with_wait l t 0 0 (leaves l.seat t) l.rings) k m t (waiter_gone l k m ok t room low) (inr e)
  wake_sound false low started e =
      becomes_ready_lem (with_wait l t 0 0 (leaves l.seat t) l.rings) k m t room (waiter_gone l k m ok t room low) l.joined (get_or k.priority t 0) started e refl

  -- and one fewer stands in the queue that it leaves
  pub wake-standing : (suspended : Bool) (p i : ℕ) → i < objects_end → In l.seat (queue_seats i) t
      → standing (wake l suspended p t).seat (queue_seats i) ≡ standing l.seat (queue_seats i) - 1
  unfolding wake woken_seats pick
  wake-standing true p i hi at = leaves-standing l.seat ok.queues (seats_low l k m ok) t (queue_seats i) (omega arith) at
  wake-standing false p i hi at =
      joins-standing (leaves l.seat t) l.joined t (ring_seats p) 0 (leaves_keeps l.seat ok.queues (seats_low l k m ok) t) room (leaves_out l.seat t)
      (omega arith) (queue_seats i) (omega arith) (λ d. omega arith)
      ∙ leaves-standing l.seat ok.queues (seats_low l k m ok) t (queue_seats i) (omega arith) at

  -- as many stand in that of every other object
  pub wake_elsewhere : (suspended : Bool) (p i j : ℕ) → i < objects_end → In l.seat (queue_seats j) t → (i ≡ j → ⊥)
      → standing (wake l suspended p t).seat (queue_seats i) ≡ standing l.seat (queue_seats i)
  unfolding wake woken_seats pick
  wake_elsewhere true p i j hi at ne = leaves_elsewhere l.seat ok.queues (seats_low l k m ok) t (queue_seats j) (omega arith) at (queue_seats i) (omega arith) (λ d. ne (omega arith))
  wake_elsewhere false p i j hi at ne =
      joins-standing (leaves l.seat t) l.joined t (ring_seats p) 0 (leaves_keeps l.seat ok.queues (seats_low l k m ok) t) room (leaves_out l.seat t)
      (omega arith) (queue_seats i) (omega arith) (λ d. omega arith)
      ∙ leaves_elsewhere l.seat ok.queues (seats_low l k m ok) t (queue_seats j) (omega arith) at (queue_seats i) (omega arith) (λ d. ne (omega arith))

  -- who stands in an object's queue waits there
  pub queue_waits : (i : ℕ) → i < objects_end → In l.seat (queue_seats i) t → (w : Waits l k m t) × (w.on ≡ i)
  queue_waits i hi at =
      ⊎_elim (λ s. absurd (omega (arith, s.seat, at.0)))
      (λ w. ⊎_elim (λ s. (s, omega (arith, s.stands, at))) (λ s. absurd (omega (arith, s.stands.0, at.1))) w)
      (ok.stands t room)

  -- who stands above all queues is ready
  pub ring_ready : 2048 ≤ get_or l.seat t 0 → Ready l k t
  ring_ready h =
      ⊎_elim (λ s. absurd (omega (arith, s.seat)))
      (λ w. ⊎_elim (λ s. absurd (omega (arith, s.stands.1, s.within))) (λ s. s) w)
      (ok.stands t room)

  -- a seat tells who waits
  pub waits_on_lem : Waits l k m t → waits_on (get_or l.seat t 0) ≡ true
  unfolding waits_on
  waits_on_lem s = both _ _ (lt-ltb 0 (get_or l.seat t 0) (omega (arith, s.stands.0))) (lt-ltb (get_or l.seat t 0) 2048 (omega (arith, s.stands.1, s.within)))

  pub on_waits : waits_on (get_or l.seat t 0) ≡ true → Waits l k m t
  unfolding waits_on
  on_waits e =
      let p : (ltb 0 (get_or l.seat t 0) ≡ true) × (ltb (get_or l.seat t 0) 2048 ≡ true) = both_true _ _ e in
      ⊎_elim (λ s. absurd (omega (arith, s.seat, ltb-true 0 (get_or l.seat t 0) p.0)))
      (λ w. ⊎_elim (λ s. s) (λ s. absurd (omega (arith, s.stands.0, ltb-true (get_or l.seat t 0) 2048 p.1))) w)
      (ok.stands t room)

  -- and who does not wait is ready or stands nowhere, as its flags say
  pub off_ready : waits_on (get_or l.seat t 0) ≡ false → get_or k.started t false ≡ true → get_or k.suspended t false ≡ false → Ready l k t
  off_ready e started awake =
      ⊎_elim (λ s. absurd (⊎_elim (λ p. true-false started p) (λ p. true-false p awake) s.idle))
      (λ w. ⊎_elim (λ s. absurd (true-false (waits_on_lem s) e)) (λ s. s) w)
      (ok.stands t room)

  pub off_nowhere : waits_on (get_or l.seat t 0) ≡ false → get_or k.suspended t false ≡ true → Nowhere l k t
  off_nowhere e suspended =
      ⊎_elim (λ s. s) (λ w. ⊎_elim (λ s. absurd (true-false (waits_on_lem s) e)) (λ s. absurd (true-false suspended s.awake)) w) (ok.stands t room)

  pub idle_nowhere : get_or k.started t false ≡ false → Nowhere l k t
  idle_nowhere e =
      ⊎_elim (λ s. s) (λ w. ⊎_elim (λ s. absurd (true-false s.started e)) (λ s. absurd (true-false s.started e)) w) (ok.stands t room)
