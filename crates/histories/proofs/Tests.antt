-- What the tests of a state say at each slot, and when they pass there: by their choices.
-- Assumes nothing.
use Prim.Native.Nat.{ℕ, ◌+◌, ◌-◌, ◌%◌, ◌≤◌, ◌<◌}
use native.Mathlib.Omega.{arith}
use mathlib.Core.Path.{◌≡◌, refl, sym, ◌∙◌}
use mathlib.Core.Logic.{⊎_elim}
use mathlib.Core.Bool.{Bool, true, false, not, ◌&&◌}
use mathlib.Core.List.{List}
use lib.ListN.{get_or}
use lib.Dec.{ltb, leb, eqb}
use borrow.Author.Tests.{lt-ltb, le-ltb, le-leb, eq-eqb, ltb-true, leb-true, eqb-true, not-true}
use Rattle.scope.specs.declared.Tasks.{Tasks}
use Rattle.scope.specs.Choice.{pick}
use Rattle.scope.specs.Seats.{ring_seats, waits_on, queue_of, on_seat}
use Rattle.scope.specs.Views.{ready_with}
use Rattle.scope.specs.Waiting.{is_time_out}
use Rattle.scope.specs.Rules.{ready_right, wait_right, joined_right, holds_right, start_right, task_right}
use Rattle.scope.proofs.Rows.{by_choice}
use Rattle.laws.proofs.Branches.{picked_yes, picked_no, both, both_true, not_of_false, true_or_false, lt_or_le}

pub chosen_yes : (b x y : Bool) → pick b x y ≡ true → b ≡ true → x ≡ true
chosen_yes b x y e h = sym (picked_yes b x y h) ∙ e

pub chosen_no : (b x y : Bool) → pick b x y ≡ true → b ≡ false → y ≡ true
chosen_no b x y e h = sym (picked_no b x y h) ∙ e

pub choose : (b : Bool) {x y : Bool} → (b ≡ true → x ≡ true) → (b ≡ false → y ≡ true) → pick b x y ≡ true
choose b f g = by_choice (λ (v : Bool). v ≡ true) b f g

-- a seat that one waits on
pub waits_is : (x : ℕ) → 0 < x → x < 2048 → waits_on x ≡ true
unfolding waits_on
waits_is x h l = both _ _ (lt-ltb _ _ h) (lt-ltb _ _ l)

pub waits_says : (x : ℕ) → waits_on x ≡ true → (0 < x) × (x < 2048)
unfolding waits_on
waits_says x e = let b = both_true (ltb 0 x) (ltb x 2048) e in (ltb-true _ _ b.0, ltb-true _ _ b.1)

-- whether a task is ready decides where it sits
module _ (started suspended : Bool) (priority x : ℕ) where
  pub ready_says : ready_right started suspended priority x ≡ true → ready_with started suspended x ≡ true
      → (ring_seats priority < x) × (x < ring_seats priority + 63)
  unfolding ready_right
  ready_says e r =
      let b = both_true (ltb (ring_seats priority) x) _ (chosen_yes (ready_with started suspended x) _ _ e r) in
      (ltb-true _ _ b.0, ltb-true _ _ b.1)

  pub idle_says : ready_right started suspended priority x ≡ true → ready_with started suspended x ≡ false → x < 2048
  unfolding ready_right
  idle_says e r = ltb-true _ _ (chosen_no (ready_with started suspended x) _ _ e r)

  pub ready_right_lem : (ready_with started suspended x ≡ true → (ring_seats priority < x) × (x < ring_seats priority + 63))
      → (ready_with started suspended x ≡ false → x < 2048) → ready_right started suspended priority x ≡ true
  unfolding ready_right
  ready_right_lem f g =
      choose (ready_with started suspended x) (λ r. both _ _ (lt-ltb _ _ (f r).0) (lt-ltb _ _ (f r).1)) (λ r. lt-ltb _ _ (g r))

  pub ready_started : ready_with started suspended x ≡ true → started ≡ true
  unfolding ready_with
  ready_started e = (both_true started _ e).0

module _ (started suspended : Bool) (x : ℕ) where
  pub start_says : start_right started suspended x ≡ true → started ≡ false → (waits_on x ≡ false) × (suspended ≡ false)
  unfolding start_right
  start_says e h = let b = both_true (not (waits_on x)) _ (chosen_no started _ _ e h) in (not-true _ b.0, not-true _ b.1)

  pub start_right_lem : (started ≡ false → (waits_on x ≡ false) × (suspended ≡ false)) → start_right started suspended x ≡ true
  unfolding start_right
  start_right_lem f = choose started (λ a. refl) (λ a. both _ _ (not_of_false _ (f a).0) (not_of_false _ (f a).1))

module _ (live : ℕ → Bool) (x left joined : ℕ) where
  pub wait_says : wait_right live x left joined ≡ true → waits_on x ≡ true
      → (64 ≤ x) × (live (queue_of x) ≡ true) × (is_time_out left ≡ true) × (joined ≤ 15)
  unfolding wait_right
  wait_says e w =
      let a = both_true (leb 64 x) _ (chosen_yes (waits_on x) _ _ e w) in
      let b = both_true (live (queue_of x)) _ a.1 in
      let c = both_true (is_time_out left) _ b.1 in
      (leb-true _ _ a.0, b.0, c.0, leb-true _ _ c.1)

  pub rest_says : wait_right live x left joined ≡ true → waits_on x ≡ false → (left ≡ 0) × (joined ≡ 0)
  unfolding wait_right
  rest_says e w =
      let a = both_true (eqb left 0) _ (chosen_no (waits_on x) _ _ e w) in
      (eqb-true _ _ a.0, eqb-true _ _ a.1)

  pub wait_right_lem : (waits_on x ≡ true → (64 ≤ x) × (live (queue_of x) ≡ true) × (is_time_out left ≡ true) × (joined ≤ 15))
      → (waits_on x ≡ false → (left ≡ 0) × (joined ≡ 0)) → wait_right live x left joined ≡ true
  unfolding wait_right
  wait_right_lem f g =
      choose (waits_on x)
      (λ w. let r = f w in both _ _ (le-leb _ _ r.0) (both _ _ r.1 (both _ _ r.2 (le-leb _ _ r.3))))
      (λ w. let r = g w in both _ _ (eq-eqb _ _ r.0) (eq-eqb _ _ r.1))

module _ (q joined : List ℕ) (fifo : ℕ → Bool) (x priority : ℕ) where
  pub joined_says : joined_right q joined fifo x priority ≡ true → waits_on x ≡ true → 1 < x % 64 → fifo (queue_of x) ≡ false
      → priority ≤ get_or joined (on_seat q (x - 1)) 0
  unfolding joined_right
  joined_says e w l f =
      leb-true _ _
      (chosen_no (fifo (queue_of x)) _ _ (chosen_yes (waits_on x && ltb 1 (x % 64)) _ _ e (both _ _ w (lt-ltb _ _ l))) f)

  pub joined_right_lem : (waits_on x ≡ true → 1 < x % 64 → fifo (queue_of x) ≡ false → priority ≤ get_or joined (on_seat q (x - 1)) 0)
      → joined_right q joined fifo x priority ≡ true
  unfolding joined_right
  joined_right_lem f =
      choose (waits_on x && ltb 1 (x % 64))
      (λ e. let b = both_true (waits_on x) _ e in
      choose (fifo (queue_of x)) (λ a. refl) (λ a. le-leb _ _ (f b.0 (ltb-true _ _ b.1) a)))
      (λ e. refl)

-- what a queue holds, by whether tasks wait for it
module _ (n held most : ℕ) where
  pub holds_says : holds_right n held most ≡ true → (held ≤ most) × (0 < n → held ≡ 0)
  unfolding holds_right
  holds_says e = (
    ⊎_elim (λ h. omega (arith, none h)) (λ h. leb-true _ _ (chosen_no (ltb 0 n) _ _ e (le-ltb 0 n h))) (lt_or_le 0 n),
    none,
  )
    where
      none : 0 < n → held ≡ 0
      none h = eqb-true _ _ (chosen_yes (ltb 0 n) _ _ e (lt-ltb 0 n h))

  pub holds_right_lem : held ≤ most → (0 < n → held ≡ 0) → holds_right n held most ≡ true
  unfolding holds_right
  holds_right_lem l f = choose (ltb 0 n) (λ e. eq-eqb _ _ (f (ltb-true 0 n e))) (λ e. le-leb _ _ l)

-- a slot's priority is in range
pub task_range : (k : Tasks) (t : ℕ) → task_right k t ≡ true → get_or k.priority t 0 ≤ 15
unfolding task_right
task_range k t e =
    ⊎_elim
    (λ a. leb-true _ _ (both_true (leb 1 (get_or k.serial t 0)) _ (chosen_yes (get_or k.live t false) _ _ e a)).1)
    (λ a. let z = both_true (eqb (get_or k.name t 0) 0) _ (chosen_no (get_or k.live t false) _ _ e a) in
    let y = both_true (not (get_or k.started t false)) _ z.1 in
    let x = both_true (not (get_or k.suspended t false)) _ y.1 in
    let w : get_or k.priority t 0 ≡ 0 = eqb-true _ _ x.1 in
    omega (arith, w))
    (true_or_false (get_or k.live t false))
