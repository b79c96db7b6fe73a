-- What the calls that wake and that wait do to the paper's lists, for the object that they name: all of a queue are woken, its first is
-- woken, or the running task joins it, by the queue's rule. An answer's lists are those of its line.
-- Assumes nothing.
use Prim.Native.Nat.{ℕ, ◌<◌}
use native.Mathlib.Omega.{arith}
use mathlib.Core.Path.{◌≡◌, refl, sym, subst, ap, ◌∙◌}
use mathlib.Core.Logic.{⊎_elim}
use mathlib.Core.Bool.{Bool, true, false}
use mathlib.Core.List.{List, [], ◌∷◌, ◌++◌, map}
use lib.ListN.{length, get_or, length-replicate}
use lib.Dec.{leb, eqb}
use borrow.Author.Tests.{eq-eqb, ne_eqb}
use Rattle.scope.specs.declared.State.{State}
use Rattle.scope.specs.declared.Line.{Line}
use Rattle.scope.specs.declared.Answer.{Answer}
use Rattle.scope.specs.declared.Waking.{Waking}
use Rattle.scope.specs.Lists.{has, without, insert}
use Rattle.scope.specs.Seats.{queue_seats, first_ring, first_standing, leaves, joins, queue, ready_order, rings_left}
use Rattle.scope.specs.Objects.{objects_end, objects_of}
use Rattle.scope.specs.Views.{with_seats}
use Rattle.scope.specs.Waiting.{wake_next, none_woken, wake_all, queue_key, waits}
use Rattle.laws.proofs.Branches.{eq_or_not, true_or_false, picked_yes, picked_no}
use Rattle.laws.specs.Seating.{In}
use Rattle.laws.proofs.Seats.Counting.{standing-le}
use Rattle.histories.specs.Sound.{Ready, Sound}
use Rattle.histories.proofs.Staying.{Good}
use Rattle.histories.proofs.Moves.{Out, agree_same, ready_gone}
use Rattle.histories.proofs.Semaphores.{runs_ready}
use Rattle.lists.specs.Along.{Once, first_in}
use Rattle.lists.specs.Rules.{ready_of, queue_in}
use Rattle.lists.specs.Calls.{ListsAfter, joined_by, with_queue, woken_into, all_woken_into, wake_of}
use Rattle.lists.proofs.Plain.{has_head}
use Rattle.lists.proofs.Leaving.{leaves-queue, leaves_order}
use Rattle.lists.proofs.Joining.{joins-queue, joins-queue_end, joins-queue_other, joins_queue_order}
use Rattle.lists.proofs.Again.{Own, off_queue, good_line, own_line}
use Rattle.lists.proofs.Sound.{queue_waiters}
use Rattle.lists.proofs.Wakes.{first_standing_lem, on_queue_in, queue_no_doubles, without_first, woken, woken_order, woken-queue, woken_other, wakes_of, next_wakes, next_line, AllWoken, all_woken}

-- the queues with another one for object i, at i and elsewhere
queue_at : (queues now : ℕ → List ℕ) (i : ℕ) (xs : List ℕ) → now i ≡ xs → ((j : ℕ) → j < objects_end → (j ≡ i → ⊥) → now j ≡ queues j)
    → (j : ℕ) → j < objects_end → now j ≡ with_queue queues i xs j
queue_at queues now i xs e f j h =
    ⊎_elim
    (λ d. ap now d ∙ e ∙ sym (picked_yes (eqb j i) xs (queues j) (eq-eqb j i d)))
    (λ ne. f j h ne ∙ sym (picked_no (eqb j i) xs (queues j) (ne_eqb j i ne)))
    (eq_or_not j i)

module _ (s : State) (ok : Sound s) (i : ℕ) (hi : i < objects_end) where
  good : Good s.line.seat
  good = good_line s.line s.tasks (objects_of s) ok.line

  own : Own s.line.seat s.tasks.priority
  own = own_line s.line s.tasks (objects_of s) ok.line

  -- an answer's lists are those of its line, and only object i's queue is another
  at_line : (a : Answer) (l : Line) (order xs : List ℕ) → a.state.line ≡ l → ready_order l.seat ≡ order → queue l.seat i ≡ xs
      → ((j : ℕ) → j < objects_end → (j ≡ i → ⊥) → queue l.seat j ≡ queue_in s j) → ListsAfter a order (with_queue (queue_in s) i xs)
  at_line a l order xs e r here there =
      record {
        ready = ap (λ (x : Line). ready_order x.seat) e ∙ r;
        waiting = λ j h. ap (λ (x : Line). queue x.seat j) e ∙ queue_at (queue_in s) (queue l.seat) i xs here there j h;
      }

  short : length (queue_in s i) < 33
  short = omega (arith, queue_waiters s ok i, standing-le s.line.seat (queue_seats i))

  -- all are woken
  abbrev all_out : Waking
  all_out = wake_all s.tasks i 32 (none_woken s.line)

  deleted : (why : ℕ) → AllWoken s.tasks i why (queue_in s i) (none_woken s.line) all_out
  deleted why =
      all_woken s.tasks ok.tasks i hi why (queue_in s i) 32 (none_woken s.line) good own refl
      (omega (arith, short)) (length-replicate {A = ℕ} 32 0) (omega (arith, short))

  pub delete_wakes : (why : ℕ) → wakes_of why all_out ≡ map (wake_of s.tasks why) (queue_in s i)
  delete_wakes why = (deleted why).list

  pub delete_lists : (a : Answer) → a.state.line ≡ all_out.line → ListsAfter a (all_woken_into s.tasks (queue_in s i) (ready_of s)) (with_queue (queue_in s) i [])
  delete_lists a e = at_line a all_out.line _ [] e (deleted 0).order (deleted 0).empty (deleted 0).others

  -- its first is woken
  module _ (t : ℕ) (ts : List ℕ) (e : queue_in s i ≡ t ∷ ts) where
    on : (t < 32) × In s.line.seat (queue_seats i) t
    on = on_queue_in s.line.seat i t (subst (λ (l : List ℕ). has l t ≡ true) (sym e) (has_head t ts))

    low : get_or s.line.seat t 0 < first_ring
    low = omega (arith, on.1, hi)

    pub first : first_standing s.line.seat (queue_seats i) ≡ t
    first = first_standing_lem s.line.seat i ∙ ap first_in e

    pub some : first_standing s.line.seat (queue_seats i) < 32
    some = omega (arith, first, on.0)

    abbrev first_out : Waking
    first_out = wake_next s.tasks (none_woken s.line) t

    pub first_wakes : (why : ℕ) → wakes_of why first_out ≡ wake_of s.tasks why t ∷ []
    first_wakes why = next_wakes s.tasks (none_woken s.line) t why (length-replicate {A = ℕ} 32 0) (omega arith)

    pub first_lists : (a : Answer) → a.state.line ≡ first_out.line → ListsAfter a (woken_into s.tasks t (ready_of s)) (with_queue (queue_in s) i ts)
    first_lists a d =
        at_line a (woken s.tasks ok.tasks s.line good own t on.0 low) _ ts (d ∙ next_line s.tasks (none_woken s.line) t)
        (woken_order s.tasks ok.tasks s.line good own t on.0 low)
        (woken-queue s.tasks ok.tasks s.line good own t on.0 low i hi
        ∙ ap (without t) e
        ∙ without_first t ts (subst (λ (l : List ℕ). Once l) e (queue_no_doubles s.line.seat i)))
        (λ j h ne. woken_other s.tasks ok.tasks s.line good own t on.0 low i j on.1 h ne)

  -- nobody waits
  pub none : queue_in s i ≡ [] → first_standing s.line.seat (queue_seats i) ≡ 32
  none e = first_standing_lem s.line.seat i ∙ ap first_in e

  -- the running task joins
  module _ (run : s.running < 32) (fifo : Bool) (says : (objects_of s).fifo i ≡ fifo) where
    abbrev t : ℕ
    t = s.running

    abbrev p : ℕ
    p = get_or s.tasks.priority t 0

    abbrev left : List ℕ
    left = leaves s.line.seat t

    here : Ready s.line s.tasks t
    here = runs_ready s ok run

    out : Out (with_seats s.line left (rings_left s.line.rings s.line.seat t)) s.tasks (objects_of s) t
    out = ready_gone s.line s.tasks (objects_of s) ok.line s.tasks t (agree_same s.tasks t) here

    left-queue : (j : ℕ) → j < objects_end → queue left j ≡ queue_in s j
    left-queue j h =
        leaves-queue s.line.seat ok.line.queues good.low t j
        ∙ off_queue s.line.seat t j h (omega (arith, here.stands))

    fifo_key : fifo ≡ true → queue_key fifo p ≡ 0
    unfolding queue_key
    fifo_key f = picked_yes fifo 0 p f

    other_key : fifo ≡ false → queue_key fifo p ≡ p
    unfolding queue_key
    other_key f = picked_no fifo 0 p f

    abbrev joined_seats : List ℕ
    joined_seats = joins left s.line.joined t (queue_seats i) (queue_key fifo p)

    joined-queue : queue joined_seats i ≡ joined_by fifo s.line.joined p t (queue_in s i)
    joined-queue =
        ⊎_elim
        (λ f. joins-queue_end left s.line.joined t i (queue_key fifo p) out.queues run out.seat (fifo_key f)
        ∙ ap (λ (l : List ℕ). l ++ (t ∷ [])) (left-queue i hi)
        ∙ sym (picked_yes fifo _ _ f))
        (λ f. ap (λ (x : ℕ). queue (joins left s.line.joined t (queue_seats i) x) i) (other_key f)
        ∙ joins-queue left s.line.joined t i p out.queues run out.seat ok.line.joineds (out.sorted i hi (says ∙ f))
        ∙ ap (λ (l : List ℕ). insert (λ u. leb p (get_or s.line.joined u 0)) t l) (left-queue i hi)
        ∙ sym (picked_no fifo (queue_in s i ++ (t ∷ [])) _ f))
        (true_or_false fifo)

    waits_seats : (ticks : ℕ) → (waits s.line i fifo p ticks t).seat ≡ joined_seats
    unfolding waits
    waits_seats ticks = refl

    pub wait_lists : (ticks : ℕ) (a : Answer) → a.state.line ≡ waits s.line i fifo p ticks t
        → ListsAfter a (without t (ready_of s)) (with_queue (queue_in s) i (joined_by fifo s.line.joined p t (queue_in s i)))
    wait_lists ticks a e =
        let seats : (waits s.line i fifo p ticks t).seat ≡ joined_seats = waits_seats ticks in
        at_line a (waits s.line i fifo p ticks t) _ _ e
        (ap ready_order seats
        ∙ joins_queue_order left s.line.joined t i (queue_key fifo p) out.queues run out.seat hi
        ∙ leaves_order s.line.seat ok.line.queues good.low t)
        (ap (λ (q : List ℕ). queue q i) seats ∙ joined-queue)
        (λ j h ne. ap (λ (q : List ℕ). queue q j) seats
        ∙ joins-queue_other left s.line.joined t i (queue_key fifo p) out.queues run out.seat j ne ∙ left-queue j h)
