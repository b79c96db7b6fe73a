-- What a sound line says of an object that tasks wait for, and what waking them does, whatever the object is: a first one stands there
-- or nobody does, nobody waits for what is not live, each wake takes one from the queue, and an object may change where nobody stands.
-- Assumes nothing.
use Prim.Native.Nat.{ℕ, zero, suc, ◌+◌, ◌-◌, ◌%◌, ◌≤◌, ◌<◌}
use native.Mathlib.Omega.{arith}
use mathlib.Core.Path.{◌≡◌, refl, sym, subst, ◌∙◌}
use mathlib.Core.Logic.{◌⊎◌, inl, inr, ⊎_elim}
use mathlib.Core.Bool.{Bool, true, false}
use mathlib.Core.List.{List}
use lib.ListN.{get_or}
use lib.Dec.{ltb}
use borrow.Author.Tests.{ltb-true, ltb-false}
use Rattle.scope.specs.declared.Line.{Line}
use Rattle.scope.specs.declared.Tasks.{Tasks}
use Rattle.scope.specs.declared.Waking.{Waking}
use Rattle.scope.specs.Objects.{objects_end, Objects}
use Rattle.scope.specs.Seats.{queue_seats, first_standing, standing}
use Rattle.scope.specs.Waiting.{wake_next, wake_all}
use Rattle.laws.proofs.Branches.{lt_or_le, eq_or_not, true-false}
use Rattle.laws.proofs.Arrays.{inside}
use Rattle.laws.specs.Seating.{In, Sorted, AllSeated}
use Rattle.laws.proofs.Seats.First.{on_seat_lem, first_is}
use Rattle.histories.specs.Sound.{Waits, LineSound}
use Rattle.histories.proofs.Objects.{Elsewhere}
use Rattle.histories.proofs.Moves.{wake_sound, wake-standing, queue_waits}

-- nobody stands in an empty queue
nobody : (q : List ℕ) (o t : ℕ) → AllSeated q → o % 64 ≡ 0 → standing q o ≡ 0 → In q o t → ⊥
nobody q o t rule level none at = omega (arith, (rule.seated o level).small t at, at.0)

module _ (l : Line) (k : Tasks) (m : Objects) (line : LineSound l k m) (i : ℕ) where
  -- who is found first stands in the queue
  pub first_in_lem : first_standing l.seat (queue_seats i) < 32 → In l.seat (queue_seats i) (first_standing l.seat (queue_seats i))
  first_in_lem h =
      let e : get_or l.seat (first_standing l.seat (queue_seats i)) 0 ≡ queue_seats i + 1 = on_seat_lem l.seat (queue_seats i + 1) h in
      (omega arith, omega arith)

  -- where nobody is first nobody stands
  pub first_empty : 32 ≤ first_standing l.seat (queue_seats i) → standing l.seat (queue_seats i) ≡ 0
  first_empty h =
      ⊎_elim
      (λ c. absurd (omega (arith, h, (first_is l.seat (queue_seats i) _ line.queues.tasks (line.queues.seated (queue_seats i) (omega arith)) c).0)))
      (λ c. omega arith)
      (lt_or_le 0 (standing l.seat (queue_seats i)))

  module _ (hi : i < objects_end) where
    -- nobody waits for what is not live
    pub dead_nobody : m.live i ≡ false → (t : ℕ) → In l.seat (queue_seats i) t → ⊥
    dead_nobody dead t at =
        let room : t < 32 = inside 32 l.seat t line.queues.tasks (λ z. omega (arith, z, at.0)) in
        let w : (w : Waits l k m t) × (w.on ≡ i) = queue_waits l k m line t room i hi at in
        true-false (subst (λ (v : ℕ). m.live v ≡ true) w.1 w.0.alive) dead

    pub dead_empty : m.live i ≡ false → standing l.seat (queue_seats i) ≡ 0
    dead_empty dead =
        ⊎_elim (λ h. absurd (dead_nobody dead _ (first_in_lem h))) first_empty (lt_or_le (first_standing l.seat (queue_seats i)) 32)

  -- object i changes, and the line is sound by what it is now
  module _ (n : Objects) (same : Elsewhere m n i) where
    pub object_changes : ((t : ℕ) → In l.seat (queue_seats i) t → n.live i ≡ true)
        → (n.fifo i ≡ false → Sorted l.seat l.joined (queue_seats i))
        → (0 < standing l.seat (queue_seats i) → n.stock i ≡ 0)
        → LineSound l k n
    object_changes alive order count =
        record {
          lefts = line.lefts;
          joineds = line.joineds;
          queues = line.queues;
          rings = line.rings;
          stands = λ t h.
              ⊎_elim inl
              (λ w. inr (⊎_elim
              (λ s. inl (record {
                on = s.on;
                within = s.within;
                alive = ⊎_elim
                    (λ e. subst (λ (v : ℕ). n.live v ≡ true) (sym e) (alive t (subst (λ (v : ℕ). In l.seat (queue_seats v) t) e s.stands)))
                    (λ ne. same.live s.on ne ∙ s.alive)
                    (eq_or_not s.on i);
                stands = s.stands;
                started = s.started;
                time = s.time;
                joined = s.joined;
              }))
              inr
              w))
              (line.stands t h);
          sorted = λ j h f.
              ⊎_elim
              (λ e. subst (λ (v : ℕ). Sorted l.seat l.joined (queue_seats v)) (sym e) (order (subst (λ (v : ℕ). n.fifo v ≡ false) e f)))
              (λ ne. line.sorted j h (sym (same.fifo j ne) ∙ f))
              (eq_or_not j i);
          counts = λ j h c.
              ⊎_elim
              (λ e. subst (λ (v : ℕ). n.stock v ≡ 0) (sym e) (count (subst (λ (v : ℕ). 0 < standing l.seat (queue_seats v)) e c)))
              (λ ne. same.stock j ne ∙ line.counts j h c)
              (eq_or_not j i);
        }

    -- where nobody stands it may be anything
    pub empty_changes : standing l.seat (queue_seats i) ≡ 0 → LineSound l k n
    empty_changes none =
        object_changes
        (λ t at. absurd (nobody l.seat (queue_seats i) t line.queues (omega arith) none at))
        (λ f. record { falls = λ t u a b c. absurd (nobody l.seat (queue_seats i) t line.queues (omega arith) none a) })
        (λ c. absurd (omega arith))

-- the next of those to be woken, who waits
pub next_sound : (k : Tasks) (m : Objects) (w : Waking) (t : ℕ) → t < 32 → LineSound w.line k m → Waits w.line k m t
    → LineSound (wake_next k w t).line k m
unfolding wake_next
next_sound k m w t room line at =
    wake_sound w.line k m line t room (get_or k.suspended t false) (omega (arith, at.stands.1, at.within)) at.started refl

next_standing : (k : Tasks) (m : Objects) (w : Waking) (t i : ℕ) → t < 32 → i < objects_end → LineSound w.line k m → In w.line.seat (queue_seats i) t
    → standing (wake_next k w t).line.seat (queue_seats i) ≡ standing w.line.seat (queue_seats i) - 1
unfolding wake_next
next_standing k m w t i room hi line at = wake-standing w.line k m line t room (get_or k.suspended t false) (get_or k.priority t 0) i hi at

-- all who wait for object i are woken
pub all_woken : (k : Tasks) (m : Objects) (i : ℕ) → i < objects_end → (n : ℕ) (w : Waking) → LineSound w.line k m
    → standing w.line.seat (queue_seats i) ≤ n
    → LineSound (wake_all k i n w).line k m × (standing (wake_all k i n w).line.seat (queue_seats i) ≡ 0)
unfolding wake_all
all_woken k m i hi zero w line few = (line, omega arith)
all_woken k m i hi (suc n) w line few = go (λ v a b. all_woken k m i hi n v a b) (ltb (first_standing w.line.seat (queue_seats i)) 32) refl
  where
    t : ℕ
    t = first_standing w.line.seat (queue_seats i)

    go : ((v : Waking) → LineSound v.line k m → standing v.line.seat (queue_seats i) ≤ n
        → LineSound (wake_all k i n v).line k m × (standing (wake_all k i n v).line.seat (queue_seats i) ≡ 0))
        → (b : Bool) → ltb t 32 ≡ b
        → LineSound (elim b as (λ x. Waking) [ true ↦ wake_all k i n (wake_next k w t) | false ↦ w ]).line k m
        × (standing (elim b as (λ x. Waking) [ true ↦ wake_all k i n (wake_next k w t) | false ↦ w ]).line.seat (queue_seats i) ≡ 0)
    go rec true e =
        let h : t < 32 = ltb-true t 32 e in
        let at : In w.line.seat (queue_seats i) t = first_in_lem w.line k m line i h in
        rec (wake_next k w t) (next_sound k m w t h line (queue_waits w.line k m line t h i hi at).0)
        (omega (arith, next_standing k m w t i h hi line at))
    go rec false e = (line, first_empty w.line k m line i (ltb-false t 32 e))
