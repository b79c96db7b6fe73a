-- To wake a task takes it out of its queue and inserts it in the ready order unless it is suspended; to wake all of a queue does so
-- from its first to its last, and the wake list is the queue. By induction on the queue.
-- Assumes nothing.
use Prim.Native.Nat.{ℕ, zero, suc, ◌+◌, ◌≤◌, ◌<◌}
use native.Mathlib.Omega.{arith}
use native.Mathlib.Numerals.{add-one}
use mathlib.Core.Path.{◌≡◌, refl, sym, subst, ap, ◌∙◌}
use mathlib.Core.Logic.{⊎_elim}
use mathlib.Core.Bool.{Bool, true, false, not}
use mathlib.Core.List.{List, [], ◌∷◌, ◌++◌, map, append-nil, append_assoc}
use lib.ListN.{length, get_or, set, length-set}
use lib.Seq.{get_or-set_same, get_or-set_other}
use lib.Dec.{eqb}
use borrow.Author.Tests.{lt-ltb, le-ltb, eq-eqb}
use Rattle.scope.specs.declared.Line.{Line}
use Rattle.scope.specs.declared.Tasks.{Tasks}
use Rattle.scope.specs.declared.Waking.{Waking}
use Rattle.scope.specs.Choice.{pick}
use Rattle.scope.specs.Lists.{has, without}
use Rattle.scope.specs.Seats.{queue_seats, first_ring, first_standing, leaves, becomes_ready, queue, ready_order}
use Rattle.scope.specs.Objects.{objects_end}
use Rattle.scope.specs.Waiting.{woken_seats, wake, wake_next, wake_all}
use Rattle.scope.specs.Replies.{Wake, wakes_from}
use Rattle.scope.proofs.Rows.{by_choice}
use Rattle.laws.proofs.Branches.{lt_or_le, not_of_true, picked_no}
use Rattle.laws.specs.Seating.{In}
use Rattle.laws.proofs.Seats.First.{on_seat_le}
use Rattle.histories.specs.Sound.{TasksSound}
use Rattle.histories.proofs.Staying.{Good, leaves_good}
use Rattle.lists.specs.Along.{Once, first_in}
use Rattle.lists.specs.Calls.{made_ready, woken_into, all_woken_into, wake_of}
use Rattle.lists.proofs.Plain.{has_head, without_none}
use Rattle.lists.proofs.Members.{from_yes, from_no, queue_once, queue_says, queue_below}
use Rattle.lists.proofs.Leaving.{leaves-queue, leaves_order}
use Rattle.lists.proofs.Again.{Own, own_left, again_order, again_queue, again_good, again_own, off_order, range_below}

-- the queue's first
pub first_standing_lem : (q : List ℕ) (i : ℕ) → first_standing q (queue_seats i) ≡ first_in (queue q i)
unfolding queue
first_standing_lem q i =
    ⊎_elim
    (λ h. sym (ap first_in (from_yes q (queue_seats i) 31 1 h)))
    (λ h. let e : first_standing q (queue_seats i) ≡ 32 = omega (arith, h, on_seat_le q (queue_seats i + 1)) in
    e ∙ sym (ap first_in (from_no q (queue_seats i) 31 1 h)))
    (lt_or_le (first_standing q (queue_seats i)) 32)

-- who is on a queue stands in it
pub on_queue_in : (q : List ℕ) (i t : ℕ) → has (queue q i) t ≡ true → (t < 32) × In q (queue_seats i) t
unfolding queue
on_queue_in q i t h = (queue_below q (queue_seats i) t h, queue_says q (queue_seats i) t h)

pub queue_no_doubles : (q : List ℕ) (i : ℕ) → Once (queue q i)
unfolding queue
queue_no_doubles q i = queue_once q (queue_seats i)

-- a list of distinct tasks without its first
pub without_first : (x : ℕ) (xs : List ℕ) → Once (x ∷ xs) → without x (x ∷ xs) ≡ xs
without_first x xs a =
    picked_no (not (eqb x x)) (x ∷ without x xs) (without x xs) (not_of_true (eqb x x) (eq-eqb x x refl))
    ∙ without_none x xs (λ h. a.0 x h refl)

module _ (k : Tasks) (tasks : TasksSound k) where
  -- one task, which is on no ring, is woken
  module _ (l : Line) (good : Good l.seat) (own : Own l.seat k.priority) (t : ℕ) (room : t < 32) (low : get_or l.seat t 0 < first_ring) where
    abbrev pub woken : Line
    woken = wake l (get_or k.suspended t false) (get_or k.priority t 0) t

    abbrev left : List ℕ
    left = leaves l.seat t

    abbrev again : List ℕ
    again = becomes_ready left l.joined t (get_or k.priority t 0)

    stays_out : without t (ready_order l.seat) ≡ ready_order l.seat
    stays_out = off_order l.seat t low

    pub woken_good : Good woken.seat
    unfolding wake woken_seats
    woken_good =
        by_choice Good (get_or k.suspended t false) (λ y. leaves_good l.seat good t)
        (λ n. again_good l.seat l.joined k.priority good own t room (get_or k.priority t 0))

    pub woken_own : Own woken.seat k.priority
    unfolding wake woken_seats
    woken_own =
        by_choice (λ (q : List ℕ). Own q k.priority) (get_or k.suspended t false)
        (λ y. own_left l.seat l.joined k.priority good own t room)
        (λ n. again_own l.seat l.joined k.priority good own t room (get_or k.priority t 0) refl)

    pub woken_order : ready_order woken.seat ≡ woken_into k t (ready_order l.seat)
    unfolding wake woken_seats pick
    woken_order = go (get_or k.suspended t false)
      where
        go : (b : Bool) → ready_order (pick b left again) ≡ pick b (ready_order l.seat) (made_ready k (get_or k.priority t 0) t (ready_order l.seat))
        go true = leaves_order l.seat good.queues good.low t ∙ stays_out
        go false =
            again_order l.seat l.joined k.priority good own t room (get_or k.priority t 0) (range_below k tasks t room)
            ∙ ap (λ (xs : List ℕ). made_ready k (get_or k.priority t 0) t xs) stays_out

    pub woken-queue : (j : ℕ) → j < objects_end → queue woken.seat j ≡ without t (queue l.seat j)
    unfolding wake woken_seats
    woken-queue j h =
        by_choice (λ (q : List ℕ). queue q j ≡ without t (queue l.seat j)) (get_or k.suspended t false)
        (λ y. leaves-queue l.seat good.queues good.low t j)
        (λ n. again_queue l.seat l.joined k.priority good own t room (get_or k.priority t 0) j h)

    -- where it waits for i, no other queue holds it
    pub woken_other : (i j : ℕ) → In l.seat (queue_seats i) t → j < objects_end → (j ≡ i → ⊥) → queue woken.seat j ≡ queue l.seat j
    woken_other i j at h ne =
        woken-queue j h ∙ without_none t (queue l.seat j) (λ o. ne (omega (arith, (on_queue_in l.seat j t o).1, at)))

-- a wake list, read off its array: a place behind the last read does not matter, and one place more is one wake more
from_set : (n j : ℕ) (ws : List ℕ) (c v why : ℕ) → j + n ≤ c → wakes_from n j (set ws c v) why ≡ wakes_from n j ws why
from_set zero j ws c v why h = refl
from_set (suc n) j ws c v why h =
    ap (λ (x : ℕ). record { task = x; status = why } ∷ wakes_from n (suc j) (set ws c v) why) (get_or-set_other ws c j v 0 (λ e. omega arith))
    ∙ ap (λ (l : List Wake). record { task = get_or ws j 0; status = why } ∷ l) (from_set n (suc j) ws c v why (omega arith))

from_more : (n j : ℕ) (ws : List ℕ) (why : ℕ)
    → wakes_from (suc n) j ws why ≡ wakes_from n j ws why ++ (record { task = get_or ws (j + n) 0; status = why } ∷ [])
from_more zero j ws why =
    let e : j ≡ j + 0 = omega arith in ap (λ (x : ℕ). record { task = get_or ws x 0; status = why } ∷ []) e
from_more (suc n) j ws why =
    let e : suc j + n ≡ j + suc n = omega arith in
    ap (λ (l : List Wake). record { task = get_or ws j 0; status = why } ∷ l)
    (from_more n (suc j) ws why
    ∙ ap (λ (x : ℕ). wakes_from n (suc j) ws why ++ (record { task = get_or ws x 0; status = why } ∷ [])) e)

abbrev pub wakes_of : ℕ → Waking → List Wake
wakes_of why w = wakes_from w.woken 0 w.wakes why

-- the next of those to be woken is the last of the wake list
pub next_wakes : (k : Tasks) (w : Waking) (t why : ℕ) → length w.wakes ≡ 32 → w.woken < 32
    → wakes_of why (wake_next k w t) ≡ wakes_of why w ++ (wake_of k why t ∷ [])
unfolding wake_next
next_wakes k w t why long few =
    let v : ℕ = (wake_of k why t).task in
    ap (λ (n : ℕ). wakes_from n 0 (set w.wakes w.woken v) why) (add-one w.woken)
    ∙ from_more w.woken 0 (set w.wakes w.woken v) why
    ∙ ap (λ (l : List Wake). l ++ (record { task = get_or (set w.wakes w.woken v) (0 + w.woken) 0; status = why } ∷ []))
    (from_set w.woken 0 w.wakes w.woken v why (omega arith))
    ∙ ap (λ (x : ℕ). wakes_of why w ++ (record { task = x; status = why } ∷ []))
    (let e : 0 + w.woken ≡ w.woken = omega arith in
    ap (λ (x : ℕ). get_or (set w.wakes w.woken v) x 0) e ∙ get_or-set_same w.wakes w.woken v 0 (omega arith))

pub next_line : (k : Tasks) (w : Waking) (t : ℕ) → (wake_next k w t).line ≡ wake w.line (get_or k.suspended t false) (get_or k.priority t 0) t
unfolding wake_next
next_line k w t = refl

pub next_count : (k : Tasks) (w : Waking) (t : ℕ) → (wake_next k w t).woken ≡ w.woken + 1
unfolding wake_next
next_count k w t = refl

pub next_size : (k : Tasks) (w : Waking) (t : ℕ) → length (wake_next k w t).wakes ≡ length w.wakes
unfolding wake_next
next_size k w t = length-set w.wakes w.woken _

-- all of a queue are woken
pub record AllWoken (k : Tasks) (i why : ℕ) (xs : List ℕ) (w r : Waking) : Type 0 where
  pub order : ready_order r.line.seat ≡ all_woken_into k xs (ready_order w.line.seat)
  pub empty : queue r.line.seat i ≡ []
  pub others : (j : ℕ) → j < objects_end → (j ≡ i → ⊥) → queue r.line.seat j ≡ queue w.line.seat j
  pub list : wakes_of why r ≡ wakes_of why w ++ map (wake_of k why) xs

module _ (k : Tasks) (tasks : TasksSound k) (i : ℕ) (hi : i < objects_end) where
  all_yes : (n : ℕ) (w : Waking) → first_standing w.line.seat (queue_seats i) < 32
      → wake_all k i (suc n) w ≡ wake_all k i n (wake_next k w (first_standing w.line.seat (queue_seats i)))
  unfolding wake_all
  all_yes n w h =
      ap (λ (b : Bool). elim b as (λ x. Waking) [ true ↦ wake_all k i n (wake_next k w (first_standing w.line.seat (queue_seats i))) | false ↦ w ]) (lt-ltb _ _ h)

  all_no : (n : ℕ) (w : Waking) → queue w.line.seat i ≡ [] → wake_all k i n w ≡ w
  unfolding wake_all
  all_no zero w e = refl
  all_no (suc n) w e =
      let f : first_standing w.line.seat (queue_seats i) ≡ 32 = first_standing_lem w.line.seat i ∙ ap first_in e in
      ap (λ (b : Bool). elim b as (λ x. Waking) [ true ↦ wake_all k i n (wake_next k w (first_standing w.line.seat (queue_seats i))) | false ↦ w ])
      (le-ltb (first_standing w.line.seat (queue_seats i)) 32 (omega (arith, f)))

  pub all_woken : (why : ℕ) (xs : List ℕ) (n : ℕ) (w : Waking) → Good w.line.seat → Own w.line.seat k.priority → queue w.line.seat i ≡ xs
      → length xs ≤ n → length w.wakes ≡ 32 → w.woken + length xs ≤ 32 → AllWoken k i why xs w (wake_all k i n w)
  all_woken why [] n w good own e few long fits =
      subst (λ (r : Waking). AllWoken k i why [] w r) (sym (all_no n w e))
      (record { order = refl; empty = e; others = λ j h ne. refl; list = sym (append-nil (wakes_of why w)) })
  all_woken why (x ∷ xs) zero w good own e few long fits = absurd (omega arith)
  all_woken why (x ∷ xs) (suc n) w good own e few long fits =
      let f : first_standing w.line.seat (queue_seats i) ≡ x = first_standing_lem w.line.seat i ∙ ap first_in e in
      let on = on_queue_in w.line.seat i x (subst (λ (l : List ℕ). has l x ≡ true) (sym e) (has_head x xs)) in
      let low : get_or w.line.seat x 0 < first_ring = omega (arith, on.1, hi) in
      let v : Waking = wake_next k w x in
      let line : v.line ≡ woken k tasks w.line good own x on.0 low = next_line k w x in
      let once : Once (x ∷ xs) = subst (λ (l : List ℕ). Once l) e (queue_no_doubles w.line.seat i) in
      let rest : queue v.line.seat i ≡ xs =
      ap (λ (l : Line). queue l.seat i) line ∙ woken-queue k tasks w.line good own x on.0 low i hi ∙ ap (without x) e ∙ without_first x xs once in
      let rec : AllWoken k i why xs v (wake_all k i n v) =
      all_woken why xs n v (subst (λ (l : Line). Good l.seat) (sym line) (woken_good k tasks w.line good own x on.0 low))
      (subst (λ (l : Line). Own l.seat k.priority) (sym line) (woken_own k tasks w.line good own x on.0 low)) rest
      (omega arith) (next_size k w x ∙ long) (omega (arith, next_count k w x, fits)) in
      subst (λ (r : Waking). AllWoken k i why (x ∷ xs) w r)
      (sym (all_yes n w (omega (arith, f, on.0)) ∙ ap (λ (t : ℕ). wake_all k i n (wake_next k w t)) f))
      (record {
        order = rec.order
            ∙ ap (λ (l : List ℕ). all_woken_into k xs l)
            (ap (λ (l : Line). ready_order l.seat) line ∙ woken_order k tasks w.line good own x on.0 low);
        empty = rec.empty;
        others = λ j h ne. rec.others j h ne ∙ ap (λ (l : Line). queue l.seat j) line ∙ woken_other k tasks w.line good own x on.0 low i j on.1 h ne;
        list = rec.list
            ∙ ap (λ (l : List Wake). l ++ map (wake_of k why) xs) (next_wakes k w x why long (omega arith))
            ∙ append_assoc (wakes_of why w) (wake_of k why x ∷ []) (map (wake_of k why) xs);
      })
