-- The grants that the grid counts are those of the books: from each semaphore as many as its books have, in every history. Turn by
-- turn: a claim answered OK is one of both; only a release wakes with 0, and whom it wakes had claimed that semaphore; a delivery, which
-- wakes with 0 too, is none of either.
-- Assumes nothing.
use Prim.Native.Nat.{ℕ, ◌+◌, ◌≤◌, ◌<◌}
use native.Mathlib.Omega.{arith}
use mathlib.Core.Path.{◌≡◌, refl, sym, ap, ◌∙◌}
use mathlib.Core.Logic.{⊎_elim}
use mathlib.Core.Bool.{Bool, true, false}
use mathlib.Core.List.{List, [], ◌∷◌, ◌++◌}
use lib.ListN.{length}
use lib.Dec.{eqb}
use borrow.Author.Tests.{eqb-false, ne_eqb}
use Rattle.scope.specs.declared.State.{State}
use Rattle.scope.specs.declared.Answer.{Answer}
use Rattle.scope.specs.Choice.{pick}
use Rattle.scope.specs.Statuses.{OK}
use Rattle.scope.specs.Answers.{answer, plain, bad_state, shows, wakes_with, delivers_to}
use Rattle.scope.specs.Semaphores.{sem_delete_at}
use Rattle.scope.specs.Queues.{queue_delete_at}
use Rattle.scope.specs.Ticks.{tick}
use Rattle.laws.proofs.Branches.{eq_or_not, true_or_false, second_decides, picked_no}
use Rattle.laws.proofs.Tables.{found_below, found-identifier}
use Rattle.histories.specs.Sound.{Sound}
use Rattle.histories.specs.History.{Event, answer_to}
use Rattle.histories.specs.Order.{Arrivals, WaitsFor}
use Rattle.histories.proofs.Deeds.{Deed, refused, tells, tasks_change, task_moves, sems_change, pools_change, queues_change, caller_waits, first_woken, sem_deleted}
use Rattle.histories.proofs.Deeds.{receiver_waits, delivered, queue_deleted, time_passes, by_deed}
use Rattle.books.specs.Past.{Turn, is_answer, is_answer_of, past_of}
use Rattle.books.specs.Told.{task_id, sem_id}
use Rattle.books.specs.Waiting.{granted_to, wakes_grant, grants}
use Rattle.books.proofs.Agreeing.{turn_of, Agrees, not_call, not_status, is_answer_lem, not_of}
use Rattle.books.proofs.Granting.{nobody, wakes_all, wakes_none, wakes_nobody, only_releases_grant}
use Rattle.books.proofs.Releasing.{Released, release_done, wakes_one}
use Rattle.grids.specs.Grants.{Given, woken_by, grants_at, grants_since, from_semaphore}
use Rattle.grids.proofs.Along.{history_has}
use Rattle.grids.proofs.Noted.{no_grants_lem, claim_grants, release_grants, one_woken}

from_both : (id : ℕ) (xs ys : List Given) → from_semaphore id (xs ++ ys) ≡ from_semaphore id xs + from_semaphore id ys
from_both id [] ys = omega arith
from_both id (x ∷ xs) ys = omega (arith, from_both id xs ys)

-- what is not done wakes nobody
record Wakes (a : Answer) : Type 0 where
  unless : eqb a.status OK ≡ false → a.woken ≡ 0

deed_wakes : (s : State) (x : Event) {a : Answer} → Deed s x a → Wakes a
unfolding plain answer shows wakes_with delivers_to sem_delete_at queue_delete_at tick
deed_wakes s x (refused status e f listed) = record { unless = λ d. refl }
deed_wakes s x (tells call at e v0 v1 v2 v3 negative) = record { unless = λ d. refl }
deed_wakes s x (tasks_change c) = record { unless = λ d. refl }
deed_wakes s x (task_moves c) = record { unless = λ d. refl }
deed_wakes s x (sems_change c) = record { unless = λ d. refl }
deed_wakes s x (pools_change c) = record { unless = λ d. refl }
deed_wakes s x (queues_change c) = record { unless = λ d. refl }
deed_wakes s x (caller_waits at i e f g time) = record { unless = λ d. refl }
deed_wakes s x (first_woken at i e f) = record { unless = λ d. absurd (eqb-false OK OK d refl) }
deed_wakes s x (sem_deleted at i e) = record { unless = λ d. absurd (eqb-false OK OK d refl) }
deed_wakes s x (receiver_waits at i e f g time) = record { unless = λ d. refl }
deed_wakes s x (delivered c i e f g) = record { unless = λ d. absurd (eqb-false OK OK d refl) }
deed_wakes s x (queue_deleted at i e) = record { unless = λ d. absurd (eqb-false OK OK d refl) }
deed_wakes s x (time_passes at) = record { unless = λ d. absurd (eqb-false OK OK d refl) }

event_wakes : (s : State) (x : Event) → Wakes (answer_to s x)
unfolding bad_state
event_wakes s x = by_deed s x Wakes (λ a d. deed_wakes s x d) (λ h. record { unless = λ d. refl })

-- a turn's grants from semaphore id, both ways
module _ (s : State) (ok : Sound s) (x : Event) (past : List Turn) (p : ℕ) (told : Arrivals) (ag : Agrees p s past told) (id : ℕ) where
  abbrev y : Turn
  y = turn_of x (answer_to s x)

  abbrev Same : Type 0
  Same = from_semaphore id (grants_at past y) ≡ pick (is_answer_of 11 id OK y) 1 0 + wakes_grant past id y

  not_claim : is_answer 11 OK y ≡ false → pick {A = ℕ} (is_answer_of 11 id OK y) 1 0 ≡ 0
  not_claim e = picked_no (is_answer_of 11 id OK y) 1 0 (not_of y 11 id OK e)

  claim : is_answer 11 OK y ≡ true → is_answer_of 11 id OK y ≡ eqb x.a id
  unfolding is_answer_of
  claim e = second_decides (is_answer 11 OK y) (eqb x.a id) e

  other_call : (x.call ≡ 12 → ⊥) → Same
  other_call ne =
      ⊎_elim
      (λ e. ap (from_semaphore id) (claim_grants y past e) ∙ (let z : pick {A = ℕ} (eqb x.a id) 1 0 + 0 ≡ pick (is_answer_of 11 id OK y) 1 0 + wakes_grant past id y =
      omega (arith, none, ap (λ (b : Bool). pick {A = ℕ} b 1 0) (claim e)) in z))
      (λ e. ap (from_semaphore id) (no_grants_lem y past e no12) ∙ (let z : 0 ≡ pick {A = ℕ} (is_answer_of 11 id OK y) 1 0 + wakes_grant past id y = omega (arith, none, not_claim e) in z))
      (true_or_false (is_answer 11 OK y))
    where
      none : wakes_grant past id y ≡ 0
      none = wakes_none past id y (only_releases_grant s x ne)

      no12 : is_answer 12 OK y ≡ false
      no12 = not_call y 12 OK (ne_eqb x.call 12 ne)

  module _ (at : x.call ≡ 12) where
    no11 : is_answer 11 OK y ≡ false
    no11 = not_call y 11 OK (ap (λ (c : ℕ). eqb c 11) at)

    -- nobody is woken
    silent : y.reply.wakes ≡ [] → from_semaphore id (grants_at past y) ≡ 0 → Same
    silent e d = d ∙ (let z : 0 ≡ pick {A = ℕ} (is_answer_of 11 id OK y) 1 0 + wakes_grant past id y = omega (arith, not_claim no11, wakes_nobody past id y e) in z)

    undone : ((answer_to s x).status ≡ OK → ⊥) → Same
    undone ne =
        let e : eqb (answer_to s x).status OK ≡ false = ne_eqb (answer_to s x).status OK ne in
        silent (nobody _ ((event_wakes s x).unless e) _ _) (ap (from_semaphore id) (no_grants_lem y past no11 (not_status y 12 OK e)))

    done : (answer_to s x).status ≡ OK → Same
    done d =
        ⊎_elim
        (λ z. let e : y.reply.wakes ≡ [] = nobody (answer_to s x).woken z (answer_to s x).wakes (answer_to s x).why in
        silent e (ap (from_semaphore id) (grants12 ∙ ap (woken_by x.a) e)))
        (λ z. one z.0 z.1 (wakes_one (answer_to s x).woken (answer_to s x).wakes (answer_to s x).why (task_id s z.0) z.2 r.why z.3))
        r.woke
      where
        r : Released s x.a (answer_to s x)
        r = release_done s x at d

        grants12 : grants_at past y ≡ woken_by x.a y.reply.wakes
        grants12 = release_grants y past no11 (is_answer_lem y 12 OK at d)

        named : x.a ≡ sem_id s r.slot
        named = found-identifier s.semaphores.serial s.semaphores.live x.a r.names

        room : r.slot < 16
        room = omega (arith, found_below s.semaphores.serial s.semaphores.live x.a r.names, ok.semaphores.sized.serials)

        one : (t : ℕ) → WaitsFor s r.slot t → y.reply.wakes ≡ record { task = task_id s t; status = OK } ∷ [] → Same
        one t w only =
            ap (from_semaphore id) (grants12 ∙ ap (woken_by x.a) only ∙ one_woken x.a (task_id s t))
            ∙ (let z : pick {A = ℕ} (eqb x.a id) 1 0 + 0 ≡ pick (is_answer_of 11 id OK y) 1 0 + wakes_grant past id y =
            omega (
              arith,
              not_claim no11,
              wakes_all past id y r.says,
              ap (granted_to past id) only,
              ap (λ (v : ℕ). pick {A = ℕ} (eqb v id) 1 0) (ag.waiters.claim r.slot room t w ∙ sym named),
            ) in z)

  turn_same : Same
  turn_same = ⊎_elim (λ at. ⊎_elim (λ d. done at d) (λ ne. undone at ne) (eq_or_not (answer_to s x).status OK)) other_call (eq_or_not x.call 12)

-- all of a history's
record Booked (s : State) (past : List Turn) : Type 0 where
  all : (id : ℕ) → from_semaphore id (grants_since (length past) past) ≡ grants past id

pub grants_booked : (p : ℕ) → p ≤ 15 → (xs : List Event) (id : ℕ) → from_semaphore id (grants_since (length (past_of p xs)) (past_of p xs)) ≡ grants (past_of p xs) id
grants_booked p h xs id =
    (history_has Booked
    (λ s ok x past p told ag d. record {
      all = λ id. omega (arith, from_both id (grants_since (length past) past) (grants_at past (turn_of x (answer_to s x))), d.all id, turn_same s ok x past p told ag id);
    })
    p h xs (record { all = λ id. refl })).all id
