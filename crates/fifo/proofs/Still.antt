-- "A later set_priority moves nobody in a queue", and who is suspended keeps its place: only a tick, a deletion of a task or of a semaphore,
-- a claim and a release change the place of who waits for a semaphore. All other calls wake none of these, and nobody joins.
-- Assumes nothing.
use Prim.Native.Nat.{ℕ, suc, ◌+◌, ◌≤◌}
use native.Mathlib.Omega.{arith}
use mathlib.Core.Path.{◌≡◌, refl, sym, ap, ◌∙◌}
use mathlib.Core.Bool.{true, false, not}
use mathlib.Core.List.{List, ◌∷◌}
use lib.ListN.{length}
use lib.Dec.{ltb}
use borrow.Author.Tests.{ne_eqb}
use Rattle.scope.specs.Choice.{pick}
use Rattle.scope.specs.Statuses.{OK, PENDING, TIME_OUT}
use Rattle.scope.specs.Lists.{has, keep}
use Rattle.laws.proofs.Branches.{not_of_false, picked_no, true-false}
use Rattle.histories.specs.History.{Event}
use Rattle.books.specs.Past.{Turn, past_of, is_answer, is_answer_of}
use Rattle.books.specs.Waiting.{pends, arrived_at, wakes, ends_wait, waiting}
use Rattle.books.proofs.Agreeing.{not_call, not_of, not_done, not_pends, waiting_less}
use Rattle.books.proofs.Members.{kept_has}
use Rattle.books.proofs.Steps.{ends_woken}
use Rattle.fifo.specs.Places.{found_ahead, ahead, releases_since, leaves_ungranted, departing, departed}
use Rattle.fifo.specs.Claims.{moves_waiters, SamePlace}
use Rattle.fifo.proofs.Grown.{turn_after}
use Rattle.fifo.proofs.Counting.{keep_same, keep_all, keep_none}
use Rattle.fifo.proofs.Leaving.{not_woken, spares_waiter}
use Rattle.fifo.proofs.Places.{ungranted_deleted}

module _ (p : ℕ) (h : p ≤ 15) (xs : List Event) (x : Event) (other : moves_waiters x.call ≡ false) where
  abbrev past : List Turn
  past = past_of p xs

  abbrev y : Turn
  y = turn_after p xs x

  -- none of the five calls
  none_of : (c : ℕ) → moves_waiters c ≡ true → x.call ≡ c → ⊥
  none_of c listed e = true-false listed (ap moves_waiters (sym e) ∙ other)

  not_so : (k status : ℕ) → moves_waiters k ≡ true → is_answer k status y ≡ false
  not_so k status listed = not_call y k status (ne_eqb x.call k (none_of k listed))

  nobody_joins : (u : ℕ) → pends past u y ≡ false
  nobody_joins u = not_pends y past u (not_so 11 PENDING refl)

  -- who waits for a semaphore is not woken, and stays
  silent : (id u : ℕ) → has (waiting past id) u ≡ true → wakes y.reply.wakes u ≡ false
  silent id u on =
      spares_waiter p h xs x id u on (not_of y 12 id OK (not_so 12 OK refl)) (not_of y 9 id OK (not_so 9 OK refl)) (none_of 0 refl)

  nobody_goes : (id u : ℕ) → has (waiting past id) u ≡ true → ends_wait past y u ≡ false
  nobody_goes id u on = ends_woken past y u (not_so 2 OK refl) ∙ silent id u on

  nobody_departs : (id u : ℕ) → has (waiting past id) u ≡ true → leaves_ungranted past y u ≡ false
  nobody_departs id u on =
      ungranted_deleted past y u (not_woken TIME_OUT y.reply.wakes u (silent id u on)) ∙ not_done y past 2 u (not_so 2 OK refl)

  module _ (id t : ℕ) where
    same_queue : waiting (y ∷ past) id ≡ waiting past id
    same_queue =
        waiting_less y past id (not_of y 9 id OK (not_so 9 OK refl)) (not_of y 11 id PENDING (not_so 11 PENDING refl))
        ∙ keep_all (λ u. not (ends_wait past y u)) (waiting past id) (λ u b. not_of_false _ (nobody_goes id u b))

    same_arrival : (u : ℕ) → arrived_at (y ∷ past) u ≡ arrived_at past u
    same_arrival u = picked_no (pends past u y) (suc (length past)) (arrived_at past u) (nobody_joins u)

    -- every other call leaves its place as it was
    pub place_kept : SamePlace past (y ∷ past) id t
    place_kept =
        record {
          queue = same_queue;
          found = picked_no (pends past t y) (length (waiting past x.a)) (found_ahead past t) (nobody_joins t);
          others = ap (keep (λ u. ltb (arrived_at (y ∷ past) u) (arrived_at (y ∷ past) t))) same_queue
              ∙ keep_same (λ u. ltb (arrived_at (y ∷ past) u) (arrived_at (y ∷ past) t)) (λ u. ltb (arrived_at past u) (arrived_at past t)) (waiting past id)
              (λ u b. rw (same_arrival u, same_arrival t));
          since = omega (
            arith,
            picked_no (pends past t y) 0 (pick (is_answer_of 12 id OK y) 1 0 + releases_since past id t) (nobody_joins t),
            picked_no {A = ℕ} (is_answer_of 12 id OK y) 1 0 (not_of y 12 id OK (not_so 12 OK refl)),
          );
          left = omega (
            arith,
            picked_no (pends past t y) 0 (length (departing past y id t) + departed past id t) (nobody_joins t),
            ap (λ (l : List ℕ). length l) (keep_none (leaves_ungranted past y) (ahead past id t) (λ u b. nobody_departs id u (kept_has _ (waiting past id) u b).0)),
          );
        }

-- "suspended tasks": suspending and resuming whomever, and set_priority of whomever
module _ (p : ℕ) (h : p ≤ 15) (xs : List Event) (x : Event) (id t : ℕ) where
  by_call : (c : ℕ) → moves_waiters c ≡ false → x.call ≡ c → SamePlace (past_of p xs) (turn_after p xs x ∷ past_of p xs) id t
  by_call c e at = place_kept p h xs x (ap moves_waiters at ∙ e) id t

  pub suspend_moves_nobody : x.call ≡ 5 → SamePlace (past_of p xs) (turn_after p xs x ∷ past_of p xs) id t
  suspend_moves_nobody = by_call 5 refl

  pub resume_moves_nobody : x.call ≡ 6 → SamePlace (past_of p xs) (turn_after p xs x ∷ past_of p xs) id t
  resume_moves_nobody = by_call 6 refl

  pub set_priority_moves_nobody : x.call ≡ 7 → SamePlace (past_of p xs) (turn_after p xs x ∷ past_of p xs) id t
  set_priority_moves_nobody = by_call 7 refl
