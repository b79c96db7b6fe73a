-- M-106: "The rings, read from priority 15 down, are proved equal to the old ready order after every call and tick", and "one ready
-- order has one form in them". A ring that the mask leaves out is empty, and a ring is the part of the ready order that has its priority.
-- Assumes nothing.
use Prim.Native.Nat.{ℕ, zero, suc, ◌≤◌, ◌<◌}
use native.Mathlib.Omega.{arith}
use mathlib.Core.Path.{◌≡◌, refl, sym, ap, ◌∙◌}
use mathlib.Core.Logic.{⊎_elim}
use mathlib.Core.Bool.{true, false}
use mathlib.Core.List.{List, [], ◌∷◌, ◌++◌}
use lib.ListN.{length}
use lib.Dec.{ltb, eqb}
use borrow.Author.Tests.{eq-eqb, ltb-false}
use Rattle.scope.specs.declared.State.{State}
use Rattle.scope.specs.Choice.{has_bit}
use Rattle.scope.specs.Lists.{keep}
use Rattle.scope.specs.Seats.{ring_seats, standing, mask_of, holds_task, ring_mask, ready_below, ready_order}
use Rattle.scope.specs.Objects.{objects_of}
use Rattle.scope.specs.Rules.{rings_right, keeps, sound}
use Rattle.scope.specs.Step.{stepped}
use Rattle.laws.proofs.Branches.{picked_yes, picked_no, true_or_false}
use Rattle.laws.proofs.Bits.{bits_at, bits_same}
use Rattle.laws.proofs.Seats.Rings.{holds_standing}
use Rattle.histories.specs.Sound.{Sound, Sized}
use Rattle.histories.specs.History.{Event, after}
use Rattle.histories.proofs.Stays.{step_keeps}
use Rattle.histories.proofs.Fresh.{fresh_always}
use Rattle.histories.proofs.Order.{after_sound}
use Rattle.scope.specs.Fresh.{fresh}
use Rattle.lists.specs.Rules.{ready_of, OldRule, ring, rings_below, rings_read}
use Rattle.lists.proofs.Members.{from_no, queue_length}
use Rattle.lists.proofs.Again.{own_line}
use Rattle.lists.proofs.Form.{ring_of}
use Rattle.lists.proofs.Sound.{sound_lists, lists_sound}

module _ (s : State) (ok : Sound s) where
  -- the mask says of each ring whether it holds a task
  mask_says : (p : ℕ) → p < 16 → has_bit (mask_of s.line.rings) p ≡ holds_task s.line.seat p
  unfolding ring_mask
  mask_says p h = ap (λ (r : List ℕ). has_bit (mask_of r) p) ok.line.rings ∙ bits_at (holds_task s.line.seat) 16 p h

  -- one that holds none is empty
  ring_empty : (p : ℕ) → holds_task s.line.seat p ≡ false → ring s p ≡ []
  unfolding holds_task
  ring_empty p e = from_no s.line.seat (ring_seats p) 31 1 (ltb-false _ 32 e)

  read_below : (n : ℕ) → n ≤ 16 → rings_below s n ≡ ready_below s.line.seat n
  read_below zero h = refl
  read_below (suc p) h =
      ap (λ (xs : List ℕ). xs ++ rings_below s p)
      (⊎_elim
      (λ e. picked_yes (has_bit (mask_of s.line.rings) p) (ring s p) [] e)
      (λ e. picked_no (has_bit (mask_of s.line.rings) p) (ring s p) [] e ∙ sym (ring_empty p (sym (mask_says p h) ∙ e)))
      (true_or_false (has_bit (mask_of s.line.rings) p)))
      ∙ ap (λ (xs : List ℕ). ring s p ++ xs) (read_below p (omega (arith, h)))

  -- "The rings, read from priority 15 down, are .. equal to the old ready order": on every sound state
  pub rings_read_lem : rings_read s ≡ ready_of s
  unfolding ready_order
  rings_read_lem = read_below 16 (omega arith)

  -- how many stand in a ring
  ring-length : (p : ℕ) → length (ring s p) ≡ standing s.line.seat (ring_seats p)
  ring-length p =
      queue_length s.line.seat (ring_seats p) (standing s.line.seat (ring_seats p)) ok.line.queues.tasks
      (ok.line.queues.seated (ring_seats p) (omega arith))

-- ".. after every call and tick"
pub rings_after : (s : State) → Sound s → (call mark a b c d e : ℕ) (m : List ℕ)
    → rings_read (stepped s call mark a b c d e m).state ≡ ready_of (stepped s call mark a b c d e m).state
rings_after s ok call mark a b c d e m = rings_read_lem (stepped s call mark a b c d e m).state (step_keeps s ok call mark a b c d e m)

-- so in every history from a fresh state
pub rings_always : (p : ℕ) (xs : List Event) → rings_read (after (fresh p).state xs) ≡ ready_of (after (fresh p).state xs)
rings_always p xs = rings_read_lem (after (fresh p).state xs) (after_sound (fresh p).state xs (fresh_always p))

-- "one ready order has one form in them": the same priorities and the same ready order, so the same rings and the same mask
module _ (s r : State) (ok : Sound s) (fine : Sound r) (priorities : s.tasks.priority ≡ r.tasks.priority) (order : ready_of s ≡ ready_of r) where
  pub one_ring : (p : ℕ) → p < 16 → ring s p ≡ ring r p
  one_ring p h =
      sym (ring_of s.line.seat s.tasks.priority (own_line s.line s.tasks (objects_of s) ok.line) p h)
      ∙ ap (λ (k : List ℕ). keep (λ u. eqb (lib.ListN.get_or k u 0) p) (ready_of s)) priorities
      ∙ ap (λ (l : List ℕ). keep (λ u. eqb (lib.ListN.get_or r.tasks.priority u 0) p) l) order
      ∙ ring_of r.line.seat r.tasks.priority (own_line r.line r.tasks (objects_of r) fine.line) p h

  same_holds : (p : ℕ) → p < 16 → holds_task s.line.seat p ≡ holds_task r.line.seat p
  same_holds p h =
      holds_standing s.line.seat ok.line.queues p
      ∙ ap (ltb 0) (sym (ring-length s ok p) ∙ ap length (one_ring p h) ∙ ring-length r fine p)
      ∙ sym (holds_standing r.line.seat fine.line.queues p)

  pub one_mask : s.line.rings ≡ r.line.rings
  unfolding ring_mask
  one_mask =
      ok.line.rings
      ∙ ap (λ (m : ℕ). m ∷ []) (bits_same (holds_task s.line.seat) (holds_task r.line.seat) 16 same_holds)
      ∙ sym fine.line.rings

-- "The state rule is restated over the rings": the new rule is the old one and a right mask, and a state that the old rule admits is
-- admitted with just one mask
abbrev masked : State → State
masked s =
    record {
      line = record { left = s.line.left; seat = s.line.seat; joined = s.line.joined; rings = ring_mask s.line.seat ∷ [] };
      tasks = s.tasks;
      semaphores = s.semaphores;
      pools = s.pools;
      queues = s.queues;
      running = s.running;
    }

old_masked : (s : State) → OldRule s → OldRule (masked s)
unfolding keeps
old_masked s h = (
  h.0,
  h.1,
  record {
    ready = record { each = h.2.ready.each; once = h.2.ready.once };
    priorities = h.2.priorities;
    running = h.2.running;
    stands = record { stands = h.2.stands.stands; one = h.2.stands.one; once = h.2.stands.once };
    left = h.2.left;
    joined = h.2.joined;
    others = h.2.others;
    sorted = h.2.sorted;
    below = h.2.below;
    empty = h.2.empty;
    nothing = h.2.nothing;
    within = h.2.within;
    idle = h.2.idle;
    zeros = h.2.zeros;
  },
  h.3,
)

pub old_admits : (s : State) → Sized (masked s) → OldRule s → sound (masked s) ≡ true
unfolding rings_right
old_admits s sized h = lists_sound (masked s) sized (eq-eqb (ring_mask s.line.seat) (ring_mask s.line.seat) refl, old_masked s h)

pub new_admits : (s : State) → Sized s → sound s ≡ true → OldRule s
new_admits s sized e = (sound_lists s sized e).1
