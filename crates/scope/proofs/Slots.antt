-- "Those reaching 0 are woken with 13 in ascending slot order": in a tick's wake list each task's slot is above those of all
-- before it, however they stood in their queues. While the tick goes through the slots, those woken so far lie below the one it
-- is at.
-- Assumes nothing.
use Prim.Native.Nat.{ℕ, zero, suc, ◌+◌, ◌≤◌, ◌<◌}
use native.Mathlib.Omega.{arith}
use native.Mathlib.Nat.{eq-or-lt_of_le}
use mathlib.Core.Path.{◌≡◌, refl, ◌∙◌}
use mathlib.Core.Logic.{⊎_elim}
use mathlib.Core.List.{List}
use lib.ListN.{length, get_or, set, length-set}
use lib.Seq.{get_or-set_same, get_or-set_other}
use Rattle.scope.specs.declared.State.{State}
use Rattle.scope.specs.declared.Line.{Line}
use Rattle.scope.specs.declared.Tasks.{Tasks}
use Rattle.scope.specs.declared.Waking.{Waking}
use Rattle.scope.specs.Identifiers.{identifier, slot_of}
use Rattle.scope.specs.Waiting.{wake_next}
use Rattle.scope.specs.Answers.{no_wakes, wakes_with}
use Rattle.scope.specs.Ticks.{is_due, wake_due, tick}
use Rattle.scope.proofs.Rows.{branch}

-- the slots of the first n of a wake list ascend, and all lie below slot t
record Ascends (wakes : List ℕ) (n t : ℕ) : Type 0 where
  size : length wakes ≡ 32
  few : n ≤ t
  below : (a : ℕ) → a < n → slot_of (get_or wakes a 0) < t
  rises : (a b : ℕ) → a < b → b < n → slot_of (get_or wakes a 0) < slot_of (get_or wakes b 0)

module _ (wakes : List ℕ) (n t u : ℕ) (p : Ascends wakes n t) where
  -- nobody is woken
  passed : t ≤ u → Ascends wakes n u
  passed h =
      record {
        size = p.size;
        few = omega (arith, p.few);
        below = λ a l. omega (arith, p.below a l);
        rises = p.rises;
      }

  -- the task in slot x is woken next
  module _ (serial x : ℕ) (next : t ≤ x) (past : x < u) (room : u ≤ 32) where
    new : slot_of (get_or (set wakes n (identifier serial x)) n 0) ≡ x
    new = rw (get_or-set_same wakes n (identifier serial x) 0 (omega (arith, p.size, p.few))) (omega arith)

    old : (a : ℕ) → a < n → slot_of (get_or (set wakes n (identifier serial x)) a 0) ≡ slot_of (get_or wakes a 0)
    old a l = rw (get_or-set_other wakes n a (identifier serial x) 0 (λ e. omega arith))

    woken : Ascends (set wakes n (identifier serial x)) (n + 1) u
    woken =
        record {
          size = length-set wakes n (identifier serial x) ∙ p.size;
          few = omega (arith, p.few);
          below = λ a l.
              ⊎_elim (λ e. rw e (omega (arith, new)))
              (λ h. omega (arith, old a h, p.below a h))
              (eq-or-lt_of_le {n = a} {m = n} (omega arith));
          rises = λ a b h l.
              ⊎_elim (λ e. rw e (omega (arith, new, old a (omega arith), p.below a (omega arith))))
              (λ g. omega (arith, old a (omega arith), old b g, p.rises a b h g))
              (eq-or-lt_of_le {n = b} {m = n} (omega arith));
        }

abbrev Rising : Waking → ℕ → Type 0
Rising w t = Ascends w.wakes w.woken t

all : (k : Tasks) (l : Line) (n t : ℕ) (w : Waking) → t + n ≤ 32 → Rising w t → Rising (wake_due k l n t w) 32
unfolding wake_due wake_next
all k l zero t w h p = passed _ _ t 32 p (omega arith)
all k l (suc n) t w h p =
    branch (λ (v : Waking). Rising v 32) (is_due l _) _ _
    (all k l n (suc t) _ (omega arith) (woken w.wakes w.woken t (suc t) p _ _ (omega arith) (omega arith) (omega arith)))
    (all k l n (suc t) _ (omega arith) (passed _ _ t (suc t) p (omega arith)))

start : Ascends no_wakes 0 0
start = record { size = refl; few = omega arith; below = λ a h. absurd (omega arith); rises = λ a b h i. absurd (omega arith) }

pub woken_in_slot_order : (s : State) (a b : ℕ) → a < b → b < (tick s).woken → slot_of (get_or (tick s).wakes a 0) < slot_of (get_or (tick s).wakes b 0)
unfolding tick wakes_with
woken_in_slot_order s = (all s.tasks s.line 32 0 _ (omega arith) start).rises
