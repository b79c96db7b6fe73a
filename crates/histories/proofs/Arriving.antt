-- The order of a queue is the order of arrival, and by joining priority first where the queue is not FIFO. It is kept where tasks
-- leave, and where one joins that arrives last: it sits behind all whose priority is as great, and in a FIFO queue behind all.
-- Assumes nothing.
use Prim.Native.Nat.{ℕ, suc, ◌+◌, ◌%◌, ◌≤◌, ◌<◌}
use native.Mathlib.Omega.{arith}
use native.Mathlib.Nat.{eq-or-lt_of_le}
use mathlib.Core.Path.{◌≡◌, refl, sym, subst, ap, ◌∙◌}
use mathlib.Core.Logic.{◌⊎◌, inl, inr, ⊎_elim}
use mathlib.Core.Bool.{Bool, true, false}
use mathlib.Core.List.{List}
use lib.ListN.{length, get_or, set, length-set}
use lib.Seq.{get_or-set_same, get_or-set_other}
use Rattle.scope.specs.declared.Line.{Line}
use Rattle.scope.specs.declared.Tasks.{Tasks}
use Rattle.scope.specs.Choice.{pick}
use Rattle.scope.specs.Seats.{queue_seats, leaves, joins, ahead_of, rings_left}
use Rattle.scope.specs.Objects.{objects_end, Objects}
use Rattle.scope.specs.Views.{with_seats, with_wait}
use Rattle.scope.specs.Waiting.{queue_key, waits}
use Rattle.laws.proofs.Branches.{lt_or_le, eq_or_not}
use Rattle.laws.specs.Seating.{In, Sorted}
use Rattle.scope.proofs.Seats.{ahead_from}
use Rattle.laws.proofs.Seats.Joining.{joins_is, joins_in, joins_behind, joins_before}
use Rattle.histories.specs.Order.{Arrivals, arrival, Ahead}
use Rattle.histories.specs.Sound.{Ready, LineSound}
use Rattle.histories.proofs.Moves.{Out, agree_same, ready_gone, seats_low}
use Rattle.histories.proofs.Staying.{Good, Fewer, leaves_stays}

-- before event n: all arrivals lie before it, each queue is in order, and by the joining priorities
pub record Ordered (l : Line) (fifo : ℕ → Bool) (told : Arrivals) (n : ℕ) : Type 0 where
  pub times : length told.time ≡ 32
  pub priorities : length told.priority ≡ 32
  pub below : (t : ℕ) → get_or told.time t 0 < n
  pub joined : (i : ℕ) → i < objects_end → (t : ℕ) → In l.seat (queue_seats i) t → get_or l.joined t 0 ≡ get_or told.priority t 0
  pub order : (i : ℕ) → i < objects_end → (t u : ℕ) → In l.seat (queue_seats i) t → In l.seat (queue_seats i) u
      → get_or l.seat t 0 < get_or l.seat u 0 → Ahead (fifo i) told t u

-- tasks leave, and a queue that is empty may become FIFO or not
pub record Passes (l : Line) (fifo : ℕ → Bool) (r : Line) (now : ℕ → Bool) : Type 0 where
  pub line : Fewer l r
  pub fifos : (i : ℕ) → i < objects_end → (now i ≡ fifo i) ⊎ ((t : ℕ) → In r.seat (queue_seats i) t → ⊥)

pub passes_ordered : (l r : Line) (fifo now : ℕ → Bool) (told : Arrivals) (n : ℕ) → Passes l fifo r now → Ordered l fifo told n → Ordered r now told n
passes_ordered l r fifo now told n pass ok =
    record {
      times = ok.times;
      priorities = ok.priorities;
      below = ok.below;
      joined = λ i h t a.
          pass.line.joined (queue_seats i) (omega arith) (omega arith) t a
          ∙ ok.joined i h t (pass.line.seats.stood (queue_seats i) (omega arith) (omega arith) t a);
      order = λ i h t u a b less.
          let flat : queue_seats i % 64 ≡ 0 = omega arith in
          let low : queue_seats i < 2048 = omega arith in
          ⊎_elim
          (λ e. subst (λ (f : Bool). Ahead f told t u) (sym e)
          (ok.order i h t u (pass.line.seats.stood (queue_seats i) flat low t a) (pass.line.seats.stood (queue_seats i) flat low u b)
          (pass.line.seats.order (queue_seats i) flat low t u a b less)))
          (λ none. absurd (none t a))
          (pass.fifos i h);
    }

-- an event at which nobody arrives
pub ordered_later : (l : Line) (fifo : ℕ → Bool) (told : Arrivals) (n : ℕ) → Ordered l fifo told n → Ordered l fifo told (suc n)
ordered_later l fifo told n ok =
    record {
      times = ok.times;
      priorities = ok.priorities;
      below = λ t. omega (arith, ok.below t);
      joined = ok.joined;
      order = ok.order;
    }

-- Task t, which stands nowhere, joins the queue above o with priority p. Those of before, in whatever queue, stay in order.
module _ (q key : List ℕ) (t o x : ℕ) (level : o % 64 ≡ 0) where
  abbrev seats : List ℕ
  seats = joins q key t o x

  pub joined_stood : (b : ℕ) → b % 64 ≡ 0 → (u : ℕ) → (u ≡ t → ⊥) → In seats b u → In q b u
  joined_stood b flat u ne (a, c) =
      let from : o ≤ ahead_of q key o (o + 63) x 32 = ahead_from q key o (o + 63) x 32 in
      ⊎_elim (λ s. (omega arith, omega arith)) (λ s. (omega (arith, s.1), omega (arith, s.1))) (joins_is q key t o x u ne)

  joined_order : (u v : ℕ) → (u ≡ t → ⊥) → (v ≡ t → ⊥) → get_or seats u 0 < get_or seats v 0 → get_or q u 0 < get_or q v 0
  joined_order u v ne nf l =
      ⊎_elim
      (λ s. ⊎_elim (λ s2. omega arith) (λ s2. omega arith) (joins_is q key t o x v nf))
      (λ s. ⊎_elim (λ s2. ⊎_elim (λ w. omega arith) (λ w. absurd (omega arith)) s.0) (λ s2. omega arith) (joins_is q key t o x v nf))
      (joins_is q key t o x u ne)

-- And it arrives last: it sits where its priority and its arrival put it.
module _ (l : Line) (k : Tasks) (m : Objects) (t : ℕ) (room : t < 32) (out : Out l k m t) (i p : ℕ) (hi : i < objects_end)
    (told : Arrivals) (n : ℕ) (ok : Ordered l m.fifo told n) where
  abbrev taken : Bool → List ℕ
  taken b = joins l.seat l.joined t (queue_seats i) (queue_key b p)

  abbrev tale : Arrivals
  tale = arrival told t n p

  -- what is told of the newcomer, and of all others
  time_new : get_or tale.time t 0 ≡ n
  time_new = get_or-set_same told.time t n 0 (omega (arith, ok.times))

  priority_new : get_or tale.priority t 0 ≡ p
  priority_new = get_or-set_same told.priority t p 0 (omega (arith, ok.priorities))

  time_old : (u : ℕ) → (u ≡ t → ⊥) → get_or tale.time u 0 ≡ get_or told.time u 0
  time_old u ne = get_or-set_other told.time t u n 0 ne

  priority_old : (u : ℕ) → (u ≡ t → ⊥) → get_or tale.priority u 0 ≡ get_or told.priority u 0
  priority_old u ne = get_or-set_other told.priority t u p 0 ne

  ahead_old : (b : Bool) (u v : ℕ) → (u ≡ t → ⊥) → (v ≡ t → ⊥) → Ahead b told u v → Ahead b tale u v
  ahead_old true u v ne nf h = omega (arith, h, time_old u ne, time_old v nf)
  ahead_old false u v ne nf h =
      ⊎_elim (λ c. inl (omega (arith, c, priority_old u ne, priority_old v nf)))
      (λ c. inr (omega (arith, c.0, priority_old u ne, priority_old v nf), omega (arith, c.1, time_old u ne, time_old v nf)))
      h

  behind_all : (x u : ℕ) → In l.seat (queue_seats i) u → x ≤ get_or l.joined u 0
      → get_or (joins l.seat l.joined t (queue_seats i) x) u 0 < get_or (joins l.seat l.joined t (queue_seats i) x) t 0
  behind_all x u a h =
      (joins_behind l.seat l.joined t (queue_seats i) x _ out.queues.tasks room out.seat (out.queues.seated (queue_seats i) (omega arith)) u a h).1

  before_all : Sorted l.seat l.joined (queue_seats i) → (u : ℕ) → In l.seat (queue_seats i) u → get_or l.joined u 0 < p
      → get_or (joins l.seat l.joined t (queue_seats i) p) t 0 < get_or (joins l.seat l.joined t (queue_seats i) p) u 0
  before_all order u a h =
      (joins_before l.seat l.joined t (queue_seats i) p _ out.queues.tasks room out.seat (out.queues.seated (queue_seats i) (omega arith))
      out.joineds order u a h).1

  -- who sits ahead of it precedes it
  ahead_new : (b : Bool) → (b ≡ false → Sorted l.seat l.joined (queue_seats i)) → (u : ℕ) → (u ≡ t → ⊥) → In l.seat (queue_seats i) u
      → get_or (taken b) u 0 < get_or (taken b) t 0 → Ahead b tale u t
  unfolding queue_key pick
  ahead_new true sorted u ne a less = omega (arith, time_new, time_old u ne, ok.below u)
  ahead_new false sorted u ne a less =
      let e : get_or l.joined u 0 ≡ get_or tale.priority u 0 = ok.joined i hi u a ∙ sym (priority_old u ne) in
      ⊎_elim (λ h. absurd (omega (arith, less, before_all (sorted refl) u a h)))
      (λ h. ⊎_elim
      (λ d. inr (omega (arith, d, e, priority_new), omega (arith, time_new, time_old u ne, ok.below u)))
      (λ g. inl (omega (arith, g, e, priority_new)))
      (eq-or-lt_of_le {n = p} {m = get_or l.joined u 0} h))
      (lt_or_le (get_or l.joined u 0) p)

  -- and it precedes who sits behind
  behind_new : (b : Bool) → (u : ℕ) → (u ≡ t → ⊥) → In l.seat (queue_seats i) u → get_or (taken b) t 0 < get_or (taken b) u 0 → Ahead b tale t u
  unfolding queue_key pick
  behind_new true u ne a less = absurd (omega (arith, less, behind_all 0 u a (omega arith)))
  behind_new false u ne a less =
      ⊎_elim (λ h. inl (omega (arith, h, priority_new, priority_old u ne, ok.joined i hi u a)))
      (λ h. absurd (omega (arith, less, behind_all p u a h)))
      (lt_or_le (get_or l.joined u 0) p)

  abbrev fifo : Bool
  fifo = m.fifo i

  -- its seat is in the queue that it joined, and all others stood where they stand
  here : (j : ℕ) → In (taken fifo) (queue_seats j) t → j ≡ i
  here j a =
      let at : In (taken fifo) (queue_seats i) t =
      joins_in l.seat l.joined t (queue_seats i) (queue_key fifo p) _ out.queues.tasks room out.seat
      (out.queues.seated (queue_seats i) (omega arith)) in
      omega (arith, at, a)

  old : (j u : ℕ) → (u ≡ t → ⊥) → In (taken fifo) (queue_seats j) u → In l.seat (queue_seats j) u
  old j u ne a = joined_stood l.seat l.joined t (queue_seats i) (queue_key fifo p) (omega arith) (queue_seats j) (omega arith) u ne a

  -- two tasks of queue j, by which of them is the newcomer
  pair : (j : ℕ) → j < objects_end → (u v : ℕ) → (u ≡ t) ⊎ (u ≡ t → ⊥) → (v ≡ t) ⊎ (v ≡ t → ⊥) → In (taken fifo) (queue_seats j) u → In (taken fifo) (queue_seats j) v
      → get_or (taken fifo) u 0 < get_or (taken fifo) v 0 → Ahead (m.fifo j) tale u v
  pair j h u v (inl e) (inl f) a b less =
      absurd (omega (arith, less, ap (λ (w : ℕ). get_or (taken fifo) w 0) e, ap (λ (w : ℕ). get_or (taken fifo) w 0) f))
  pair j h u v (inl e) (inr nf) a b less =
      let d : j ≡ i = here j (subst (λ (w : ℕ). In (taken fifo) (queue_seats j) w) e a) in
      subst (λ (w : ℕ). Ahead (m.fifo j) tale w v) (sym e)
      (subst (λ (w : ℕ). Ahead (m.fifo w) tale t v) (sym d)
      (behind_new fifo v nf (subst (λ (w : ℕ). In l.seat (queue_seats w) v) d (old j v nf b))
      (subst (λ (w : ℕ). get_or (taken fifo) w 0 < get_or (taken fifo) v 0) e less)))
  pair j h u v (inr ne) (inl f) a b less =
      let d : j ≡ i = here j (subst (λ (w : ℕ). In (taken fifo) (queue_seats j) w) f b) in
      subst (λ (w : ℕ). Ahead (m.fifo j) tale u w) (sym f)
      (subst (λ (w : ℕ). Ahead (m.fifo w) tale u t) (sym d)
      (ahead_new fifo (out.sorted i hi) u ne (subst (λ (w : ℕ). In l.seat (queue_seats w) u) d (old j u ne a))
      (subst (λ (w : ℕ). get_or (taken fifo) u 0 < get_or (taken fifo) w 0) f less)))
  pair j h u v (inr ne) (inr nf) a b less =
      ahead_old (m.fifo j) u v ne nf
      (ok.order j h u v (old j u ne a) (old j v nf b)
      (joined_order l.seat l.joined t (queue_seats i) (queue_key fifo p) (omega arith) u v ne nf less))

  pub joins_ordered : (ticks : ℕ) → Ordered (with_wait l t ticks p (taken fifo) l.rings) m.fifo tale (suc n)
  joins_ordered ticks =
      record {
        times = length-set told.time t n ∙ ok.times;
        priorities = length-set told.priority t p ∙ ok.priorities;
        below = λ u. ⊎_elim
            (λ e. omega (arith, time_new, ap (λ (v : ℕ). get_or tale.time v 0) e))
            (λ ne. omega (arith, time_old u ne, ok.below u))
            (eq_or_not u t);
        joined = λ j h u a. ⊎_elim
            (λ e. subst (λ (v : ℕ). get_or (set l.joined t p) v 0 ≡ get_or tale.priority v 0) (sym e)
            (get_or-set_same l.joined t p 0 (omega (arith, out.joineds)) ∙ sym priority_new))
            (λ ne. get_or-set_other l.joined t u p 0 ne ∙ ok.joined j h u (old j u ne a) ∙ sym (priority_old u ne))
            (eq_or_not u t);
        order = λ j h u v a b less. pair j h u v (eq_or_not u t) (eq_or_not v t) a b less;
      }

-- a ready task leaves the ready order and waits for object i
pub waits_ordered : (l : Line) (k : Tasks) (m : Objects) (sound : LineSound l k m) (t : ℕ) → t < 32 → Ready l k t → (i p ticks : ℕ) → i < objects_end
    → (told : Arrivals) (n : ℕ) → Ordered l m.fifo told n
    → Ordered (waits l i (m.fifo i) p ticks t) m.fifo (arrival told t n p) (suc n)
unfolding waits
waits_ordered l k m sound t room ready i p ticks hi told n ok =
    let good : Good l.seat = record { queues = sound.queues; low = seats_low l k m sound } in
    joins_ordered (with_seats l (leaves l.seat t) (rings_left l.rings l.seat t)) k m t room (ready_gone l k m sound k t (agree_same k t) ready) i p hi told n
    (passes_ordered l (with_seats l (leaves l.seat t) (rings_left l.rings l.seat t)) m.fifo m.fifo told n
    (record {
      line = record { seats = leaves_stays l.seat good t; joined = λ o a b u h. refl };
      fifos = λ j h. inl refl;
    }) ok)
    ticks
