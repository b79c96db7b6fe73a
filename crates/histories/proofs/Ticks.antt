-- A tick keeps a state sound. While it goes through the tasks, the line from which nothing is taken yet, less those woken, stays sound;
-- nobody whom it has gone past has one tick left there. At the end all were gone past, and one can be taken from each.
-- Assumes nothing.
use Prim.Native.Nat.{ℕ, zero, suc, ◌+◌, ◌-◌, ◌≤◌, ◌<◌}
use native.Mathlib.Omega.{arith}
use mathlib.Core.Path.{◌≡◌, refl, sym, ap, ◌∙◌}
use mathlib.Core.Logic.{◌⊎◌, inl, inr, ⊎_elim}
use mathlib.Core.Bool.{true, false}
use mathlib.Core.List.{List, [], ◌∷◌}
use lib.ListN.{length, get_or, set, length-map}
use lib.Seq.{get_or-set_same, get_or-set_other}
use lib.Dec.{leb, eqb}
use borrow.Author.Tests.{le-leb, leb-true, eq-eqb, ne_eqb}
use Rattle.scope.specs.declared.State.{State}
use Rattle.scope.specs.declared.Line.{Line}
use Rattle.scope.specs.declared.Tasks.{Tasks}
use Rattle.scope.specs.declared.Waking.{Waking}
use Rattle.scope.specs.Choice.{pick}
use Rattle.scope.specs.Objects.{Objects, objects_of}
use Rattle.scope.specs.Answers.{wakes_with}
use Rattle.scope.specs.Waiting.{FOREVER, is_time_out, woken_seats, woken_rings, wake, wake_next, none_woken}
use Rattle.scope.specs.Ticks.{time_left, times_left, ticked, is_due, wake_due, tick}
use Rattle.scope.proofs.Rows.{tested}
use Rattle.scope.proofs.Times.{every_time_out, due_has_one}
use Rattle.laws.proofs.Branches.{lt_or_le, eq_or_not, picked_yes, picked_no, both, both_true, true-false}
use Rattle.histories.specs.Sound.{Waits, LineSound, Sound}
use Rattle.histories.proofs.Moves.{wake_sound, waits_on_lem}
use Rattle.histories.proofs.Parts.{line_sound}

-- a time_out, and what a tick leaves of it
time_out : (x : ℕ) → 1 ≤ x → x ≤ 65535 → is_time_out x ≡ true
unfolding is_time_out
time_out x a b = picked_no _ _ _ (ne_eqb x FOREVER (λ e. omega arith)) ∙ both _ _ (le-leb 1 x a) (le-leb x 65535 b)

pub time_out_says : (x : ℕ) → is_time_out x ≡ true → (x ≡ FOREVER) ⊎ ((1 ≤ x) × (x ≤ 65535))
unfolding is_time_out
time_out_says x e =
    ⊎_elim inl
    (λ ne. let p : (leb 1 x ≡ true) × (leb x 65535 ≡ true) = both_true _ _ (sym (picked_no _ _ _ (ne_eqb x FOREVER ne)) ∙ e) in
    inr (leb-true 1 x p.0, leb-true x 65535 p.1))
    (eq_or_not x FOREVER)

pub never_zero : (x : ℕ) → is_time_out x ≡ true → x ≡ 0 → ⊥
never_zero x e z = ⊎_elim (λ f. omega arith) (λ f. omega arith) (time_out_says x e)

left_zero : (x : ℕ) → x ≡ 0 → time_left x ≡ 0
unfolding time_left
left_zero x z = picked_no _ _ _ (ne_eqb x FOREVER (λ e. omega arith)) ∙ omega arith

left_runs : (x : ℕ) → is_time_out x ≡ true → (x ≡ 1 → ⊥) → is_time_out (time_left x) ≡ true
unfolding time_left
left_runs x e more =
    ⊎_elim
    (λ f. ap is_time_out (picked_yes _ _ _ (eq-eqb x FOREVER f)) ∙ e)
    (λ f. let d : pick (eqb x FOREVER) x (x - 1) ≡ x - 1 = picked_no _ _ _ (ne_eqb x FOREVER (λ g. omega arith)) in
    ⊎_elim (λ h. ap is_time_out d ∙ time_out (x - 1) (omega arith) (omega arith)) (λ h. absurd (more (omega arith))) (lt_or_le 1 x))
    (time_out_says x e)

length_times : (x : List ℕ) → length (times_left x) ≡ length x
unfolding times_left
length_times x = length-map x time_left

-- one is taken from each, where nobody has but one left
ticked_sound : (l : Line) (k : Tasks) (m : Objects) → LineSound l k m → ((u : ℕ) → u < 32 → get_or l.left u 0 ≡ 1 → ⊥) → LineSound (ticked l) k m
ticked_sound l k m ok more =
    record {
      lefts = length_times l.left ∙ ok.lefts;
      joineds = ok.joineds;
      queues = ok.queues;
      rings = ok.rings;
      stands = λ u h.
          ⊎_elim
          (λ s. inl (record { seat = s.seat; left = none u s.left; joined = s.joined; idle = s.idle }))
          (λ w. inr (⊎_elim
          (λ s. inl (record {
            on = s.on;
            within = s.within;
            alive = s.alive;
            stands = s.stands;
            started = s.started;
            time = ap is_time_out (every_time_out l.left u) ∙ left_runs _ s.time (more u h);
            joined = s.joined;
          }))
          (λ s. inr (record {
            stands = s.stands;
            started = s.started;
            awake = s.awake;
            left = none u s.left;
            joined = s.joined;
          }))
          w))
          (ok.stands u h);
      sorted = ok.sorted;
      counts = ok.counts;
    }
  where
    none : (u : ℕ) → get_or l.left u 0 ≡ 0 → get_or (times_left l.left) u 0 ≡ 0
    none u z = every_time_out l.left u ∙ left_zero _ z

-- who has one left waits
one_waits : (l : Line) (k : Tasks) (m : Objects) → LineSound l k m → (t : ℕ) → t < 32 → get_or l.left t 0 ≡ 1 → Waits l k m t
one_waits l k m ok t room one =
    ⊎_elim (λ s. absurd (omega (arith, s.left))) (λ w. ⊎_elim (λ s. s) (λ s. absurd (omega (arith, s.left))) w) (ok.stands t room)

-- so it is due
one_due : (l : Line) (k : Tasks) (m : Objects) → LineSound l k m → (t : ℕ) → t < 32 → get_or l.left t 0 ≡ 1 → is_due l t ≡ true
unfolding is_due
one_due l k m ok t room one = both _ _ (waits_on_lem l k m ok t room (one_waits l k m ok t room one)) (eq-eqb (get_or l.left t 0) 1 one)

-- whether one is taken from each before a task is woken or after does not matter
times_set : (left : List ℕ) (t : ℕ) → set (times_left left) t 0 ≡ times_left (set left t 0)
unfolding times_left time_left pick
times_set [] t = refl
times_set (x ∷ left) zero = refl
times_set (x ∷ left) (suc t) = ap (λ (r : List ℕ). time_left x ∷ r) (times_set left t)

module _ (k : Tasks) (t : ℕ) where
  abbrev woken : Line → Line
  woken v = wake v (get_or k.suspended t false) (get_or k.priority t 0) t

  next_taken : (v : Line) (w : Waking) → w.line ≡ ticked v → (wake_next k w t).line ≡ ticked (woken v)
  unfolding wake_next wake woken_seats woken_rings
  next_taken v w e = rw (e, times_set v.left t)

  woken-left : (v : Line) → (woken v).left ≡ set v.left t 0
  unfolding wake
  woken-left v = refl

-- the line v from which nothing is taken yet: from task t on its time_outs are those of before, and nobody below has one left
module _ (l : Line) (k : Tasks) (m : Objects) (sound : LineSound l k m) where
  due_sound : (n t : ℕ) (v : Line) (w : Waking) → n + t ≡ 32 → w.line ≡ ticked v → LineSound v k m
      → ((u : ℕ) → t ≤ u → get_or v.left u 0 ≡ get_or l.left u 0) → ((u : ℕ) → u < t → get_or v.left u 0 ≡ 1 → ⊥)
      → LineSound (wake_due k l n t w).line k m
  unfolding wake_due
  due_sound zero t v w e taken ok rest past = rw taken (ticked_sound v k m ok (λ u h. past u (omega arith)))
  due_sound (suc n) t v w e taken ok rest past =
      let room : t < 32 = omega arith in
      tested (λ (r : Waking). LineSound r.line k m) (is_due l t) _ _
      (λ d. let at : Waits v k m t = one_waits v k m ok t room (rest t (omega arith) ∙ due_has_one l t d) in
      let other : (u : ℕ) → (u ≡ t → ⊥) → get_or (woken k t v).left u 0 ≡ get_or v.left u 0 =
      λ u ne. rw woken-left (get_or-set_other v.left t u 0 0 ne) in
      due_sound n (suc t) (woken k t v) (wake_next k w t) (omega arith) (next_taken k t v w taken)
      (wake_sound v k m ok t room (get_or k.suspended t false) (omega (arith, at.stands.1, at.within)) at.started refl)
      (λ u h. other u (λ a. omega arith) ∙ rest u (omega arith))
      (λ u h one. ⊎_elim
      (λ a. omega (arith, rw (a, woken-left, get_or-set_same v.left t 0 0 (omega (arith, ok.lefts))) at one))
      (λ ne. past u (omega arith) (sym (other u ne) ∙ one))
      (eq_or_not u t)))
      (λ d. due_sound n (suc t) v w (omega arith) taken ok (λ u h. rest u (omega arith))
      (λ u h one. ⊎_elim
      (λ a. true-false (one_due l k m sound t room (sym (rest t (omega arith)) ∙ rw a at one)) d)
      (λ ne. past u (omega arith) one)
      (eq_or_not u t)))

pub tick_sound : (s : State) → Sound s → Sound (tick s).state
unfolding tick wakes_with
tick_sound s ok =
    line_sound s ok _
    (due_sound s.line s.tasks (objects_of s) ok.line 32 0 s.line (none_woken (ticked s.line)) refl refl ok.line
    (λ u h. refl) (λ u h. absurd (omega arith)))
