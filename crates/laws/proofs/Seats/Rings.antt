-- The mask follows the seats: whoever leaves, joins a wait queue or becomes ready, the mask with one bit changed at most is the mask
-- of the seats after it. A ring holds a task just if somebody stands in it, and only one ring's number of tasks changes.
-- Assumes nothing.
use Prim.Native.Nat.{ℕ, ◌+◌, ◌-◌, ◌*◌, ◌/◌, ◌%◌, ◌^◌, ◌<◌}
use native.Mathlib.Omega.{arith}
use mathlib.Core.Path.{◌≡◌, refl, sym, subst, ap, ◌∙◌}
use mathlib.Core.Logic.{⊎_elim}
use mathlib.Core.Bool.{true, false}
use mathlib.Core.List.{List, [], ◌∷◌}
use lib.ListN.{get_or}
use lib.Dec.{ltb}
use borrow.Author.Tests.{lt-ltb, le-ltb}
use Rattle.laws.proofs.Branches.{picked_yes, picked_no, lt_or_le, eq_or_not, true_or_false}
use Rattle.laws.proofs.Bits.{bits_past, bits_at, bits_same, bits_turned}
use Rattle.scope.specs.Choice.{has_bit, bits}
use Rattle.scope.specs.Seats.{standing, leaves, joins, ring_seats, holds_task, ring_mask, mask_filled, mask_emptied, mask_left, ring_of, rings_left, rings_ready}
use Rattle.laws.specs.Seating.{In, AllSeated}
use Rattle.laws.proofs.Seats.Counting.{standing_is}
use Rattle.laws.proofs.Seats.Leaving.{length-leaves, leaves_nowhere, leaves_others}
use Rattle.laws.proofs.Seats.Joining.{length-joins, joins_seated, joins_others}
use Rattle.laws.proofs.Seats.First.{first_test}
use Rattle.laws.proofs.Seats.Rule.{stands_in_lem, leaves_keeps, joins_queues}

-- a ring holds a task just if somebody stands in it
pub holds_standing : (q : List ℕ) → AllSeated q → (p : ℕ) → holds_task q p ≡ ltb 0 (standing q (ring_seats p))
unfolding holds_task
holds_standing q rule p = first_test q (ring_seats p) _ rule.tasks (rule.seated (ring_seats p) (omega arith))

-- as many stand in it, so it holds a task as it did
holds_kept : (q r : List ℕ) → AllSeated q → AllSeated r → (p : ℕ) → standing r (ring_seats p) ≡ standing q (ring_seats p) → holds_task q p ≡ holds_task r p
holds_kept q r rule new p e = holds_standing q rule p ∙ ap (ltb 0) (sym e) ∙ sym (holds_standing r new p)

-- the mask of other seats, by which rings hold a task
same_mask : (q r : List ℕ) → ((p : ℕ) → p < 16 → holds_task q p ≡ holds_task r p) → ring_mask q ≡ ring_mask r
unfolding ring_mask
same_mask q r f = bits_same (holds_task q) (holds_task r) 16 f

-- ring p holds a task now, all others as they did
filled : (q r : List ℕ) (p : ℕ) → holds_task r p ≡ true → ((k : ℕ) → (k ≡ p → ⊥) → holds_task q k ≡ holds_task r k)
    → mask_filled (ring_mask q) p ≡ ring_mask r
unfolding ring_mask mask_filled
filled q r p has same =
    ⊎_elim
    (λ h. picked_yes (ltb p 16) _ _ (lt-ltb p 16 h)
    ∙ ⊎_elim
    (λ e. picked_yes (has_bit (bits (holds_task q) 16) p) _ _ (bits_at (holds_task q) 16 p h ∙ e)
    ∙ bits_same (holds_task q) (holds_task r) 16
    (λ k b. ⊎_elim (λ d. subst (λ (v : ℕ). holds_task q v ≡ holds_task r v) (sym d) (e ∙ sym has)) (same k) (eq_or_not k p)))
    (λ e. picked_no (has_bit (bits (holds_task q) 16) p) _ _ (bits_at (holds_task q) 16 p h ∙ e)
    ∙ sym (bits_turned (holds_task q) (holds_task r) 16 p h e has (λ k b ne. same k ne)))
    (true_or_false (holds_task q p)))
    (λ h. picked_no (ltb p 16) _ _ (le-ltb p 16 h)
    ∙ bits_same (holds_task q) (holds_task r) 16 (λ k b. same k (λ d. omega arith)))
    (lt_or_le p 16)

-- ring p holds none any more, all others as they did
emptied : (q r : List ℕ) (p : ℕ) → holds_task r p ≡ false → ((k : ℕ) → (k ≡ p → ⊥) → holds_task q k ≡ holds_task r k)
    → mask_emptied (ring_mask q) p ≡ ring_mask r
unfolding ring_mask mask_emptied
emptied q r p gone same =
    ⊎_elim
    (λ h. ⊎_elim
    (λ e. let turned : bits (holds_task q) 16 ≡ bits (holds_task r) 16 + 2 ^ p =
    bits_turned (holds_task r) (holds_task q) 16 p h gone e (λ k b ne. sym (same k ne)) in
    picked_yes (has_bit (bits (holds_task q) 16) p) _ _ (bits_at (holds_task q) 16 p h ∙ e) ∙ omega (arith, turned))
    (λ e. picked_no (has_bit (bits (holds_task q) 16) p) _ _ (bits_at (holds_task q) 16 p h ∙ e)
    ∙ bits_same (holds_task q) (holds_task r) 16
    (λ k b. ⊎_elim (λ d. subst (λ (v : ℕ). holds_task q v ≡ holds_task r v) (sym d) (e ∙ sym gone)) (same k) (eq_or_not k p)))
    (true_or_false (holds_task q p)))
    (λ h. picked_no (has_bit (bits (holds_task q) 16) p) _ _ (bits_past (holds_task q) 16 p h)
    ∙ bits_same (holds_task q) (holds_task r) 16 (λ k b. same k (λ d. omega arith)))
    (lt_or_le p 16)

-- task t leaves
module _ (q : List ℕ) (rule : AllSeated q) (low : (u : ℕ) → In q 0 u → ⊥) (t : ℕ) where
  after : AllSeated (leaves q t)
  after = leaves_keeps q rule low t

  -- every other queue has as many
  others : 0 < get_or q t 0 → (p : ℕ) → (ring_seats p ≡ get_or q t 0 / 64 * 64 → ⊥) → holds_task q p ≡ holds_task (leaves q t) p
  others h p ne =
      let b : ℕ = get_or q t 0 / 64 * 64 in
      holds_kept q (leaves q t) rule after p
      (standing_is (leaves q t) (ring_seats p) (standing q (ring_seats p)) (length-leaves q t ∙ rule.tasks)
      (leaves_others q b t (omega arith) (stands_in_lem q rule t h) (ring_seats p) (omega arith) ne (standing q (ring_seats p)) rule.tasks
      (rule.seated (ring_seats p) (omega arith))))

  pub left_mask : mask_left (ring_mask q) (leaves q t) (get_or q t 0) ≡ ring_mask (leaves q t)
  unfolding mask_left
  left_mask =
      ⊎_elim
      (λ h. picked_yes (ltb (get_or q t 0) 2048) _ _ (lt-ltb _ _ h)
      ∙ ⊎_elim
      (λ s. same_mask q (leaves q t) (λ p b. others s p (λ e. omega arith)))
      (λ s. ap ring_mask (sym (leaves_nowhere q t (omega arith) low)))
      (lt_or_le 0 (get_or q t 0)))
      (λ h. let p : ℕ = ring_of (get_or q t 0) in
      let rest : (k : ℕ) → (k ≡ p → ⊥) → holds_task q k ≡ holds_task (leaves q t) k = λ k ne. others (omega arith) k (λ e. ne (omega arith)) in
      picked_no (ltb (get_or q t 0) 2048) _ _ (le-ltb _ _ h)
      ∙ ⊎_elim
      (λ e. picked_yes (holds_task (leaves q t) p) _ _ e
      ∙ same_mask q (leaves q t)
      (λ k b. ⊎_elim
      (λ d. subst (λ (v : ℕ). holds_task q v ≡ holds_task (leaves q t) v) (sym d) (held p (omega arith) ∙ sym e))
      (rest k)
      (eq_or_not k p)))
      (λ e. picked_no (holds_task (leaves q t) p) _ _ e ∙ emptied q (leaves q t) p e rest)
      (true_or_false (holds_task (leaves q t) p)))
      (lt_or_le (get_or q t 0) 2048)
    where
      -- it stood there itself
      held : (p : ℕ) → ring_seats p ≡ get_or q t 0 / 64 * 64 → holds_task q p ≡ true
      held p e =
          let at : In q (ring_seats p) t = subst (λ (v : ℕ). In q v t) (sym e) (stands_in_lem q rule t (omega arith)) in
          holds_standing q rule p
          ∙ lt-ltb 0 (standing q (ring_seats p)) (omega (arith, (rule.seated (ring_seats p) (omega arith)).small t at, at.0))

-- task t, which stands nowhere, joins the queue above o
module _ (q key : List ℕ) (t o x : ℕ) (rule : AllSeated q) (room : t < 32) (out : get_or q t 0 ≡ 0) (level : o % 64 ≡ 0) where
  abbrev joined : List ℕ
  joined = joins q key t o x

  now : AllSeated joined
  now = joins_queues q key t o x rule room out level

  besides : (p : ℕ) → (ring_seats p ≡ o → ⊥) → holds_task q p ≡ holds_task joined p
  besides p ne =
      holds_kept q joined rule now p
      (standing_is joined (ring_seats p) (standing q (ring_seats p)) (length-joins q key t o x ∙ rule.tasks)
      (joins_others q key t o x (standing q o) rule.tasks room out (rule.seated o level) level (ring_seats p) (omega arith) ne
      (standing q (ring_seats p)) (rule.seated (ring_seats p) (omega arith))))

  -- no ring
  pub queued_mask : o < 2048 → ring_mask q ≡ ring_mask joined
  queued_mask small = same_mask q joined (λ p b. besides p (λ e. omega arith))

  -- the ring of p
  pub ready_mask : (p : ℕ) → o ≡ ring_seats p → mask_filled (ring_mask q) p ≡ ring_mask joined
  ready_mask p e =
      filled q joined p
      (holds_standing joined now p
      ∙ lt-ltb 0 (standing joined (ring_seats p))
      (omega (
        arith,
        ap (standing joined) e,
        standing_is joined o (standing q o + 1) (length-joins q key t o x ∙ rule.tasks)
            (joins_seated q key t o x (standing q o) rule.tasks room out (rule.seated o level)),
      )))
      (λ k ne. besides k (λ d. ne (omega arith)))

-- The same of the column: its one place is the mask.
abbrev pub rings_of : List ℕ → List ℕ
rings_of q = ring_mask q ∷ []

module _ (rings q : List ℕ) (is : rings ≡ rings_of q) where
  pub rings_left_lem : AllSeated q → ((u : ℕ) → In q 0 u → ⊥) → (t : ℕ) → rings_left rings q t ≡ rings_of (leaves q t)
  unfolding rings_left
  rings_left_lem rule low t = rw is (ap (λ (m : ℕ). m ∷ []) (left_mask q rule low t))

  pub rings_ready_lem : (key : List ℕ) (t p : ℕ) → AllSeated q → t < 32 → get_or q t 0 ≡ 0 → rings_ready rings p ≡ rings_of (joins q key t (ring_seats p) 0)
  unfolding rings_ready
  rings_ready_lem key t p rule room out = rw is (ap (λ (m : ℕ). m ∷ []) (ready_mask q key t (ring_seats p) 0 rule room out (omega arith) p refl))
