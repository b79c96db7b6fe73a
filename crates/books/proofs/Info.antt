-- "while a semaphore lives, its count = initial count + releases answered OK - claims granted - tasks now waiting; tasks wait only
-- when the count is negative, and then its size is their number": of the count that sem_info answers, told by the answers alone.
-- Assumes nothing.
use Prim.Native.Nat.{ℕ, ◌≤◌, ◌<◌}
use native.Mathlib.Omega.{arith}
use mathlib.Core.Path.{◌≡◌, refl, sym, subst, ap, ◌∙◌}
use mathlib.Core.Bool.{false}
use mathlib.Core.List.{List}
use lib.ListN.{length}
use lib.Dec.{eqb}
use borrow.Author.Tests.{eqb-false}
use Rattle.scope.specs.declared.State.{State}
use Rattle.scope.specs.declared.Answer.{Answer}
use Rattle.scope.specs.Statuses.{OK}
use Rattle.scope.specs.Views.{waiters_of, less}
use Rattle.scope.specs.Answers.{bit_of, answer, plain, bad_state}
use Rattle.scope.specs.Semaphores.{sem_found, sem_info_at}
use Rattle.scope.specs.Replies.{reply_of}
use Rattle.scope.specs.Fresh.{fresh_state}
use Rattle.laws.proofs.Tables.{found_below, found-live, found-identifier}
use Rattle.histories.specs.History.{Event, answer_to, after, total, SemaphoreAt}
use Rattle.histories.specs.Books.{Counted, releases as releasesOf, grants as grantsOf}
use Rattle.histories.proofs.Answered.{by_name, by_number}
use Rattle.histories.proofs.Ledger.{Creation}
use Rattle.histories.proofs.Demand.{WaitingNegative, end_sound, count_of_history, waiting_of_history}
use Rattle.books.specs.Past.{Turn, past_of}
use Rattle.books.specs.Waiting.{is_fifo, waiting}
use Rattle.books.proofs.Told.{seats_told}
use Rattle.books.proofs.Totals.{releases_told, grants_told, initial_told}
use Rattle.books.specs.Told.{SemInfoTold, SeatsTold, sem_id}

less_of : {a b c d : ℕ} → a ≡ c → b ≡ d → less a b ≡ less c d
less_of p q = rw (p, q)

-- the call named a live semaphore, and was answered with what its slot holds
record Asked (s : State) (id : ℕ) (a : Answer) : Type 0 where
  slot : ℕ
  names : SemaphoreAt s id slot
  same : a ≡ sem_info_at s slot

module _ (s : State) where
  refused : (id status : ℕ) → eqb status OK ≡ false → (plain s status).status ≡ OK → Asked s id (plain s status)
  unfolding plain answer
  refused id status e d = absurd (eqb-false status OK e d)

  info_done : (x : Event) → x.call ≡ 13 → (answer_to s x).status ≡ OK → Asked s x.a (answer_to s x)
  unfolding bad_state
  info_done x at =
      by_number (λ (a : Answer). a.status ≡ OK → Asked s x.a a) s (refused x.a) x 13 at (λ d. absurd (omega (arith, d)))
      (by_name (λ (a : Answer). a.status ≡ OK → Asked s x.a a) s (refused x.a) (sem_found s x.a) (sem_info_at s)
      (λ i e d. record { slot = i; names = e; same = refl }))

-- "For any history from a fresh state"
module _ (p : ℕ) (h : p ≤ 15) (xs : List Event) where
  abbrev now : State
  now = after (fresh_state p) xs

  abbrev past : List Turn
  past = past_of p xs

  slot_told : (id i : ℕ) → SemaphoreAt now id i → SemInfoTold past id (reply_of (sem_info_at now i))
  unfolding sem_info_at answer
  slot_told id i names =
      let hi : i < 16 = omega (arith, found_below now.semaphores.serial now.semaphores.live id names, (end_sound p h xs).semaphores.sized.serials) in
      let all : SeatsTold p now past = seats_told p h xs in
      let e : id ≡ sem_id now i = found-identifier now.semaphores.serial now.semaphores.live id names in
      let number : length (waiting past id) ≡ waiters_of now.line i = ap (λ (v : ℕ). length (waiting past v)) e ∙ all.number i hi in
      let w : WaitingNegative now i = waiting_of_history p h xs i hi in
      let r : (c : Creation 8 (fresh_state p) xs id)
      × Counted now i c.event.b (total (releasesOf id) (fresh_state p) xs) (total (grantsOf id) (fresh_state p) xs) =
      count_of_history p h xs id i names in
      let g = grants_told p h xs id in
      let f = releases_told p h xs id in
      let b = initial_told p h xs id r.0 in
      record {
        option = ap bit_of (sym (all.fifo i hi (found-live now.semaphores.serial now.semaphores.live id names)) ∙ ap (is_fifo past) (sym e));
        counted = r.1
            ∙ less_of (omega (arith, f, b)) (omega (arith, g, number));
        waiters = sym number;
        minus = λ d. w.waiting (omega (arith, d, number));
        some = λ d. omega (arith, w.some d, number);
        size = λ d. omega (arith, w.size d, number);
      }

  -- what sem_info answers
  pub info_told : (x : Event) → x.call ≡ 13 → (answer_to now x).status ≡ OK → SemInfoTold past x.a (reply_of (answer_to now x))
  info_told x at done =
      let k : Asked now x.a (answer_to now x) = info_done now x at done in
      subst (λ (a : Answer). SemInfoTold past x.a (reply_of a)) (sym k.same) (slot_told x.a k.slot k.names)
