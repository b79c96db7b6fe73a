-- Who stays in an object's queue stays there in the same order, with the same joining priority: when a task leaves, when one
-- becomes ready, and so when any number of tasks are woken, one after the other.
-- Assumes nothing.
use Prim.Native.Nat.{ℕ, zero, suc, ◌+◌, ◌*◌, ◌/◌, ◌%◌, ◌≤◌, ◌<◌}
use native.Mathlib.Omega.{arith}
use mathlib.Core.Path.{◌≡◌, refl, sym, subst, ap, ◌∙◌}
use mathlib.Core.Logic.{inr, ⊎_elim}
use mathlib.Core.Bool.{Bool, true, false}
use mathlib.Core.List.{List}
use lib.ListN.{get_or}
use lib.Seq.{get_or-set_other}
use lib.Dec.{ltb}
use borrow.Author.Tests.{ltb-true}
use Rattle.scope.specs.declared.Line.{Line}
use Rattle.scope.specs.declared.Tasks.{Tasks}
use Rattle.scope.specs.declared.Waking.{Waking}
use Rattle.scope.specs.Choice.{pick}
use Rattle.scope.specs.Seats.{queue_seats, ring_seats, first_standing, leaves, becomes_ready}
use Rattle.scope.specs.Views.{with_wait}
use Rattle.scope.specs.Waiting.{woken_seats, wake, wake_next, wake_all}
use Rattle.scope.specs.Ticks.{ticked, is_due, wake_due}
use Rattle.scope.proofs.Rows.{branch}
use Rattle.laws.proofs.Branches.{lt_or_le}
use Rattle.laws.specs.Seating.{In, AllSeated}
use Rattle.laws.proofs.Seats.Leaving.{Lowered, leaves_out, leaves_nowhere, leaves_is}
use Rattle.laws.proofs.Seats.Joining.{joins_untouched}
use Rattle.laws.proofs.Seats.Rule.{stands_in_lem, leaves_keeps, joins_queues}

-- seats that say queues, and none of them below the first queue
pub record Good (q : List ℕ) : Type 0 where
  pub queues : AllSeated q
  pub low : (u : ℕ) → In q 0 u → ⊥

-- who stands in a queue below the rings, by seats r, stood there by seats q, and in the same order
pub record Stays (q r : List ℕ) : Type 0 where
  pub stood : (o : ℕ) → o % 64 ≡ 0 → o < 2048 → (t : ℕ) → In r o t → In q o t
  pub order : (o : ℕ) → o % 64 ≡ 0 → o < 2048 → (t u : ℕ) → In r o t → In r o u → get_or r t 0 < get_or r u 0 → get_or q t 0 < get_or q u 0

pub stays_same : (q : List ℕ) → Stays q q
stays_same q = record { stood = λ o a b t h. h; order = λ o a b t u h g l. l }

pub stays_then : (q r x : List ℕ) → Stays q r → Stays r x → Stays q x
stays_then q r x f g =
    record {
      stood = λ o a b t h. f.stood o a b t (g.stood o a b t h);
      order = λ o a b t u h i l. f.order o a b t u (g.stood o a b t h) (g.stood o a b u i) (g.order o a b t u h i l);
    }

-- one task leaves: those behind it come forward
module _ (q r : List ℕ) (b x : ℕ) (level : b % 64 ≡ 0) (lo : b < x) (hi : x < b + 63) (gone : (u : ℕ) → Lowered x (b + 63) (get_or q u 0) (get_or r u 0)) where
  lowered_stood : (o : ℕ) → o % 64 ≡ 0 → (t : ℕ) → In r o t → In q o t
  lowered_stood o flat t (a, c) =
      ⊎_elim (λ p. absurd (omega arith))
      (λ p. ⊎_elim (λ s. (omega arith, omega arith)) (λ s. (omega (arith, s.1), omega (arith, s.1))) p)
      (gone t)

  lowered_order : (o : ℕ) → o % 64 ≡ 0 → (t u : ℕ) → In r o t → In r o u → get_or r t 0 < get_or r u 0 → get_or q t 0 < get_or q u 0
  lowered_order o flat t u (a, c) (d, e) l =
      ⊎_elim (λ p. absurd (omega arith))
      (λ p. ⊎_elim (λ p2. absurd (omega arith))
      (λ p2. ⊎_elim
      (λ s. ⊎_elim (λ s2. omega arith) (λ s2. ⊎_elim (λ w. absurd (omega arith)) (λ w. omega arith) s2.0) p2)
      (λ s. ⊎_elim (λ s2. omega arith) (λ s2. omega arith) p2)
      p)
      (gone u))
      (gone t)

pub leaves_stays : (q : List ℕ) → Good q → (t : ℕ) → Stays q (leaves q t)
leaves_stays q good t =
    ⊎_elim
    (λ h. let b : ℕ = get_or q t 0 / 64 * 64 in
    let level : b % 64 ≡ 0 = omega arith in
    let at : In q b t = stands_in_lem q good.queues t h in
    record {
      stood = λ o flat c. lowered_stood q (leaves q t) b (get_or q t 0) level at.0 at.1 (leaves_is q b t level at) o flat;
      order = λ o flat c. lowered_order q (leaves q t) b (get_or q t 0) level at.0 at.1 (leaves_is q b t level at) o flat;
    })
    (λ h. subst (Stays q) (sym (leaves_nowhere q t (omega arith) good.low)) (stays_same q))
    (lt_or_le 0 (get_or q t 0))

pub leaves_good : (q : List ℕ) → Good q → (t : ℕ) → Good (leaves q t)
leaves_good q good t =
    record {
      queues = leaves_keeps q good.queues good.low t;
      low = λ u a. good.low u ((leaves_stays q good t).stood 0 refl (omega arith) u a);
    }

-- a task that stands nowhere becomes ready: no queue is touched
module _ (q key : List ℕ) (t p : ℕ) (good : Good q) (room : t < 32) (out : get_or q t 0 ≡ 0) where
  pub ready_stays : Stays q (becomes_ready q key t p)
  ready_stays =
      let r : List ℕ = becomes_ready q key t p in
      let same : (o : ℕ) → o % 64 ≡ 0 → o < 2048 → (u : ℕ) → In r o u → get_or r u 0 ≡ get_or q u 0 =
      λ o flat c u a. joins_untouched q key t (ring_seats p) 0 _ good.queues.tasks room out (good.queues.seated (ring_seats p) (omega arith)) (omega arith)
      o flat (λ e. omega arith) u (inr a) in
      record {
        stood = λ o flat c u a. let e : get_or r u 0 ≡ get_or q u 0 = same o flat c u a in (omega (arith, e, a.0), omega (arith, e, a.1));
        order = λ o flat c u v a b l. omega (arith, l, same o flat c u a, same o flat c v b);
      }

  pub ready_good : Good (becomes_ready q key t p)
  ready_good =
      record {
        queues = joins_queues q key t (ring_seats p) 0 good.queues room out (omega arith);
        low = λ u a. good.low u (ready_stays.stood 0 refl (omega arith) u a);
      }

-- the same of a line: and with the joining priority that it had
pub record Fewer (l r : Line) : Type 0 where
  pub seats : Stays l.seat r.seat
  pub joined : (o : ℕ) → o % 64 ≡ 0 → o < 2048 → (t : ℕ) → In r.seat o t → get_or r.joined t 0 ≡ get_or l.joined t 0

pub fewer_same : (l : Line) → Fewer l l
fewer_same l = record { seats = stays_same l.seat; joined = λ o a b t h. refl }

pub fewer_then : (l r x : Line) → Fewer l r → Fewer r x → Fewer l x
fewer_then l r x f g =
    record {
      seats = stays_then l.seat r.seat x.seat f.seats g.seats;
      joined = λ o a b t h. g.joined o a b t h ∙ f.joined o a b t (g.seats.stood o a b t h);
    }

-- task t leaves, and whatever it has for a wait does not matter as long as it stands in no queue
pub left_fewer : (l : Line) → Good l.seat → (t left joined : ℕ) (r rings : List ℕ) → Stays (leaves l.seat t) r
    → Fewer l (with_wait l t left joined r rings)
left_fewer l good t left joined r rings more =
    record {
      seats = stays_then l.seat (leaves l.seat t) r (leaves_stays l.seat good t) more;
      joined = λ o a b u h.
          get_or-set_other l.joined t u joined 0
          (λ e. omega (arith, ap (λ (v : ℕ). get_or (leaves l.seat t) v 0) e, leaves_out l.seat t, (more.stood o a b u h).0));
    }

-- task t is woken
module _ (l : Line) (good : Good l.seat) (t : ℕ) (room : t < 32) where
  wake_fewer : (b : Bool) (p : ℕ) → Fewer l (wake l b p t)
  unfolding wake woken_seats pick
  wake_fewer true p = left_fewer l good t 0 0 (leaves l.seat t) _ (stays_same (leaves l.seat t))
  wake_fewer false p =
      left_fewer l good t 0 0 (becomes_ready (leaves l.seat t) l.joined t p) _
      (ready_stays (leaves l.seat t) l.joined t p (leaves_good l.seat good t) room (leaves_out l.seat t))

  wake_good : (b : Bool) (p : ℕ) → Good (wake l b p t).seat
  unfolding wake woken_seats pick
  wake_good true p = leaves_good l.seat good t
  wake_good false p = ready_good (leaves l.seat t) l.joined t p (leaves_good l.seat good t) room (leaves_out l.seat t)

module _ (k : Tasks) (w : Waking) (t : ℕ) (room : t < 32) (good : Good w.line.seat) where
  pub next_fewer : Fewer w.line (wake_next k w t).line
  unfolding wake_next
  next_fewer = wake_fewer w.line good t room _ _

  next_good : Good (wake_next k w t).line.seat
  unfolding wake_next
  next_good = wake_good w.line good t room _ _

-- all who wait for an object are woken
pub all_fewer : (k : Tasks) (i n : ℕ) (w : Waking) → Good w.line.seat → Fewer w.line (wake_all k i n w).line
unfolding wake_all
all_fewer k i zero w good = fewer_same w.line
all_fewer k i (suc n) w good = go (λ v g. all_fewer k i n v g) (ltb (first_standing w.line.seat (queue_seats i)) 32) refl
  where
    t : ℕ
    t = first_standing w.line.seat (queue_seats i)

    go : ((v : Waking) → Good v.line.seat → Fewer v.line (wake_all k i n v).line) → (b : Bool) → ltb t 32 ≡ b
        → Fewer w.line (elim b as (λ x. Waking) [ true ↦ wake_all k i n (wake_next k w t) | false ↦ w ]).line
    go rec true e =
        let h : t < 32 = ltb-true t 32 e in
        fewer_then w.line (wake_next k w t).line _ (next_fewer k w t h good) (rec (wake_next k w t) (next_good k w t h good))
    go rec false e = fewer_same w.line

-- all who were due are woken
pub due_fewer : (k : Tasks) (l : Line) (n t : ℕ) (w : Waking) → n + t ≤ 32 → Good w.line.seat → Fewer w.line (wake_due k l n t w).line
unfolding wake_due
due_fewer k l zero t w h good = fewer_same w.line
due_fewer k l (suc n) t w h good =
    branch (λ (v : Waking). Fewer w.line v.line) (is_due l t) _ _
    (fewer_then w.line (wake_next k w t).line _ (next_fewer k w t (omega arith) good)
    (due_fewer k l n (suc t) (wake_next k w t) (omega arith) (next_good k w t (omega arith) good)))
    (due_fewer k l n (suc t) w (omega arith) good)

-- a tick takes from the time_outs only
pub ticked_fewer : (l : Line) → Fewer l (ticked l)
ticked_fewer l = record { seats = stays_same l.seat; joined = λ o a b t h. refl }
