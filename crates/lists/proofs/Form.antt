-- One meaning has one array of seats: two sound states with the same priorities, the same ready order and the same queues have the
-- same seats. A seat is a place on a list, and a ring is the part of the ready order that has its priority.
-- Assumes nothing.
use Prim.Native.Nat.{ℕ, zero, suc, ◌+◌, ◌<◌}
use native.Mathlib.Omega.{arith}
use native.Mathlib.Nat.{eq-or-lt_of_le}
use mathlib.Core.Path.{◌≡◌, refl, sym, subst, ap, ◌∙◌}
use mathlib.Core.Logic.{⊎_elim}
use mathlib.Core.Bool.{Bool, true}
use mathlib.Core.List.{List, [], ◌∷◌, ◌++◌, append-nil}
use lib.ListN.{get_or}
use lib.Seq.{ext_get_or}
use lib.Dec.{eqb}
use borrow.Author.Tests.{eq-eqb, ne_eqb}
use Rattle.scope.specs.declared.State.{State}
use Rattle.scope.specs.Lists.{has, keep}
use Rattle.scope.specs.Seats.{queue_seats, ring_seats, on_seat, standing, tasks_from, queue, ready_below, ready_order}
use Rattle.scope.specs.Objects.{objects_of}
use Rattle.laws.proofs.Branches.{lt_or_le, true-false}
use Rattle.laws.specs.Seating.{In}
use Rattle.laws.proofs.Seats.First.{on_seat_lem}
use Rattle.histories.specs.Sound.{Sound}
use Rattle.histories.proofs.Objects.{live_object}
use Rattle.lists.specs.Along.{queue_above, first_in}
use Rattle.lists.specs.Rules.{ready_of, queue_in}
use Rattle.lists.proofs.Plain.{has_says, keep_all, keep_none, keep_append}
use Rattle.lists.proofs.Members.{from_yes, from_no, queue_says, queue_has}
use Rattle.lists.proofs.Ready.{below_says}
use Rattle.lists.proofs.Again.{Own, own_line, range_below}

-- the list behind the first
abbrev rest : List ℕ → List ℕ
rest [] = []
rest (x ∷ xs) = xs

-- a queue's list tells the seats of those on it
module _ (q r : List ℕ) (base : ℕ) where
  same_seat : (n k : ℕ) → tasks_from q base n k ≡ tasks_from r base n k → (t : ℕ) → has (tasks_from q base n k) t ≡ true → get_or q t 0 ≡ get_or r t 0
  same_seat zero k e t h = absurd (true-false h refl)
  same_seat (suc n) k e t h =
      ⊎_elim
      (λ a. ⊎_elim
      (λ b. let d : on_seat q (base + k) ∷ tasks_from q base n (suc k) ≡ on_seat r (base + k) ∷ tasks_from r base n (suc k) =
      sym (from_yes q base n k a) ∙ e ∙ from_yes r base n k b in
      ⊎_elim
      (λ f. ap (λ (v : ℕ). get_or q v 0) (sym f) ∙ on_seat_lem q (base + k) a
      ∙ sym (on_seat_lem r (base + k) b) ∙ ap (λ (v : ℕ). get_or r v 0) (sym (ap first_in d) ∙ f))
      (λ l. same_seat n (suc k) (ap rest d) t l)
      (has_says (on_seat q (base + k)) t (tasks_from q base n (suc k)) (subst (λ (l : List ℕ). has l t ≡ true) (from_yes q base n k a) h)))
      (λ b. absurd (true-false (subst (λ (l : List ℕ). has l t ≡ true) (e ∙ from_no r base n k b) h) refl))
      (lt_or_le (on_seat r (base + k)) 32))
      (λ a. absurd (true-false (subst (λ (l : List ℕ). has l t ≡ true) (from_no q base n k a) h) refl))
      (lt_or_le (on_seat q (base + k)) 32)

-- a ring is the part of the ready order that has its priority
module _ (q priority : List ℕ) (own : Own q priority) (p : ℕ) where
  abbrev of : ℕ → Bool
  of u = eqb (get_or priority u 0) p

  ring_above : (n : ℕ) → p < n → keep of (ready_below q n) ≡ queue_above q (ring_seats p)
  ring_above zero h = absurd (omega arith)
  ring_above (suc m) h =
      keep_append of (queue_above q (ring_seats m)) (ready_below q m)
      ∙ ⊎_elim
      (λ e. ap (λ (l : List ℕ). keep of (queue_above q (ring_seats m)) ++ l)
      (keep_none of (ready_below q m)
      (λ u k. let r = below_says q m u k in
      ne_eqb (get_or priority u 0) p (λ d. omega (arith, own r.0 u r.2, r.1, d, e))))
      ∙ append-nil (keep of (queue_above q (ring_seats m)))
      ∙ keep_all of (queue_above q (ring_seats m))
      (λ u k. eq-eqb (get_or priority u 0) p (omega (arith, own m u (queue_says q (ring_seats m) u k), e)))
      ∙ ap (λ (x : ℕ). queue_above q (ring_seats x)) (sym e))
      (λ l. ap (λ (xs : List ℕ). xs ++ keep of (ready_below q m))
      (keep_none of (queue_above q (ring_seats m))
      (λ u k. ne_eqb (get_or priority u 0) p (λ d. omega (arith, own m u (queue_says q (ring_seats m) u k), d, l))))
      ∙ ring_above m l)
      (eq-or-lt_of_le {n = p} {m = m} (omega arith))

  pub ring_of : p < 16 → keep of (ready_order q) ≡ queue_above q (ring_seats p)
  unfolding ready_order
  ring_of h = ring_above 16 h

-- two states with the same lists
record Alike (s r : State) : Type 0 where
  priorities : s.tasks.priority ≡ r.tasks.priority
  order : ready_of s ≡ ready_of r
  queues : (i : ℕ) → i < 24 → queue_in s i ≡ queue_in r i

-- who stands somewhere in one stands there in the other
module _ (s r : State) (ok : Sound s) (fine : Sound r) (same : Alike s r) where
  waiter : (i t : ℕ) → i < 24 → In s.line.seat (queue_seats i) t → get_or s.line.seat t 0 ≡ get_or r.line.seat t 0
  unfolding queue
  waiter i t h a =
      same_seat s.line.seat r.line.seat (queue_seats i) 32 1 (same.queues i h) t
      (queue_has s.line.seat (queue_seats i) (standing s.line.seat (queue_seats i)) ok.line.queues.tasks
      (ok.line.queues.seated (queue_seats i) (omega arith)) t a)

  rings : (p : ℕ) → p < 16 → queue_above s.line.seat (ring_seats p) ≡ queue_above r.line.seat (ring_seats p)
  rings p h =
      sym (ring_of s.line.seat s.tasks.priority (own_line s.line s.tasks (objects_of s) ok.line) p h)
      ∙ ap (λ (k : List ℕ). keep (λ u. eqb (get_or k u 0) p) (ready_of s)) same.priorities
      ∙ ap (λ (l : List ℕ). keep (λ u. eqb (get_or r.tasks.priority u 0) p) l) same.order
      ∙ ring_of r.line.seat r.tasks.priority (own_line r.line r.tasks (objects_of r) fine.line) p h

  ready : (p t : ℕ) → p < 16 → In s.line.seat (ring_seats p) t → get_or s.line.seat t 0 ≡ get_or r.line.seat t 0
  ready p t h a =
      same_seat s.line.seat r.line.seat (ring_seats p) 32 1 (rings p h) t
      (queue_has s.line.seat (ring_seats p) (standing s.line.seat (ring_seats p)) ok.line.queues.tasks
      (ok.line.queues.seated (ring_seats p) (omega arith)) t a)

  stands_same : (t : ℕ) → t < 32 → 0 < get_or s.line.seat t 0 → get_or s.line.seat t 0 ≡ get_or r.line.seat t 0
  stands_same t room h =
      ⊎_elim (λ n. absurd (omega (arith, n.seat, h)))
      (λ w. ⊎_elim (λ x. waiter x.on t (live_object s.semaphores s.queues x.on ok.queues.sized.lives x.alive) x.stands)
      (λ x. ready (get_or s.tasks.priority t 0) t (range_below s.tasks ok.tasks t room) x.stands)
      w)
      (ok.line.stands t room)

-- the seats are told by the lists: the ready order, and the wait queues of the sixteen semaphores and the eight queues
pub one_array : (s r : State) → Sound s → Sound r → s.tasks.priority ≡ r.tasks.priority → ready_of s ≡ ready_of r
    → ((i : ℕ) → i < 24 → queue_in s i ≡ queue_in r i) → s.line.seat ≡ r.line.seat
one_array s r ok fine p o w =
    ext_get_or 0 s.line.seat r.line.seat (ok.line.queues.tasks ∙ sym fine.line.queues.tasks)
    (λ t h. let room : t < 32 = omega (arith, h, ok.line.queues.tasks) in
    ⊎_elim (λ a. stands_same s r ok fine (record { priorities = p; order = o; queues = w }) t room a)
    (λ a. ⊎_elim
    (λ b. sym (stands_same r s fine ok (record { priorities = sym p; order = sym o; queues = λ i l. sym (w i l) }) t room b))
    (λ b. omega (arith, a, b))
    (lt_or_le 0 (get_or r.line.seat t 0)))
    (lt_or_le 0 (get_or s.line.seat t 0)))
