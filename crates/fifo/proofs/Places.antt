-- At every moment while a task waits for a FIFO semaphore: tasks ahead of it = p − releases answered OK there since its joining − those
-- ahead that left ungranted since. By one turn more: a release takes the first, who is ahead; whoever else leaves is counted as departed;
-- who joins, joins behind.
-- Assumes nothing.
use Prim.Native.Nat.{ℕ, suc, ◌+◌, ◌≤◌}
use native.Mathlib.Omega.{arith}
use mathlib.Core.Path.{◌≡◌, refl, sym, subst, ap, ◌∙◌}
use mathlib.Core.Logic.{⊎_elim}
use mathlib.Core.Bool.{Bool, true, false, not, ◌||◌}
use mathlib.Core.List.{List, [], ◌∷◌, ◌++◌}
use lib.ListN.{length}
use lib.Dec.{ltb, eqb}
use borrow.Author.Tests.{lt-ltb, le-ltb, eqb-true, not-true}
use Rattle.scope.specs.Choice.{pick}
use Rattle.scope.specs.Statuses.{OK, PENDING, TIME_OUT}
use Rattle.scope.specs.Lists.{has, keep}
use Rattle.scope.specs.Replies.{Wake}
use Rattle.laws.proofs.Branches.{true-false, true_or_false, both_true, picked_yes, picked_no}
use Rattle.histories.specs.History.{Event}
use Rattle.books.specs.Past.{Turn, past_of, is_answer, is_answer_of, running_in}
use Rattle.books.specs.Waiting.{done_to, pends_on, pends, claimed, arrived_at, wakes, ends_wait, waiting, Ahead}
use Rattle.books.specs.Times.{wakes_as}
use Rattle.books.specs.Told.{Once, GrantTold}
use Rattle.books.proofs.Agreeing.{not_call, not_of, is_of, of_is, not_done, pends_other, is_pending, waiting_shut, waiting_more, waiting_less}
use Rattle.books.proofs.Members.{has_not, has_last, has_grown, has_kept, kept_has, once_kept}
use Rattle.books.proofs.Steps.{or_second, ends_woken}
use Rattle.books.proofs.Clocks.{answer_is, answer_of_lem}
use Rattle.books.proofs.Told.{seats_told}
use Rattle.fifo.specs.Places.{found_ahead, ahead, releases_since, leaves_ungranted, departing, departed}
use Rattle.fifo.specs.Claims.{Fifo, Counted}
use Rattle.fifo.proofs.Grown.{turn_after, by_turns, at_next}
use Rattle.fifo.proofs.Counting.{kept_and_left, keep_same, keep_all, keep_none, keep_grown, keep_one}
use Rattle.fifo.proofs.Leaving.{one_woken, other_spared, grant_no_time_out, claimed_there, waited_not_made, grant_there, claim_wakes, woken_timed_out}

-- nobody arrives later than now
arrived_le : (past : List Turn) (u : ℕ) → arrived_at past u ≤ length past
arrived_le [] u = omega arith
arrived_le (x ∷ past) u =
    ⊎_elim
    (λ e. omega (arith, picked_yes (pends past u x) (suc (length past)) (arrived_at past u) e))
    (λ e. omega (arith, picked_no (pends past u x) (suc (length past)) (arrived_at past u) e, arrived_le past u))
    (true_or_false (pends past u x))

-- the last of a list on which each stands once
once_apart : (xs : List ℕ) (y : ℕ) → Once (xs ++ (y ∷ [])) → has xs y ≡ false
once_apart [] y o = refl
once_apart (x ∷ xs) y o =
    has_not x xs y (λ e. true-false (subst (λ (v : ℕ). has (xs ++ (y ∷ [])) v ≡ true) (sym e) (has_last xs y)) o.0) (once_apart xs y o.1)

-- leaving ungranted, where nobody times out; no task is deleted
pub ungranted_deleted : (past : List Turn) (y : Turn) (u : ℕ) → wakes_as TIME_OUT y.reply.wakes u ≡ false → leaves_ungranted past y u ≡ done_to 2 past u y
unfolding leaves_ungranted
ungranted_deleted past y u e = or_second (wakes_as TIME_OUT y.reply.wakes u) _ e

ends_ungranted : (past : List Turn) (y : Turn) (u : ℕ) → wakes y.reply.wakes u ≡ wakes_as TIME_OUT y.reply.wakes u → ends_wait past y u ≡ leaves_ungranted past y u
unfolding leaves_ungranted ends_wait
ends_ungranted past y u e = ap (λ (b : Bool). b || done_to 2 past u y) e

pub pending_by : (past : List Turn) (u : ℕ) (y : Turn) → pends past u y ≡ true → (is_answer 11 PENDING y ≡ true) × (running_in past ≡ u)
unfolding pends_on
pending_by past u y e = let b = both_true (is_answer 11 PENDING y) _ e in (b.0, eqb-true _ _ b.1)

module _ (p : ℕ) (h : p ≤ 15) (xs : List Event) (x : Event) where
  abbrev past : List Turn
  past = past_of p xs

  abbrev y : Turn
  y = turn_after p xs x

  abbrev later : List Turn
  later = y ∷ past

  -- who waits for semaphore id after a turn that is no claim there did not join at that turn
  stayed : (id u : ℕ) → has (waiting later id) u ≡ true → is_answer_of 11 id PENDING y ≡ false → pends past u y ≡ false
  stayed id u on other =
      ⊎_elim
      (λ e. let c : claimed later u ≡ id = at_next p (λ (l : List Turn). (i v : ℕ) → has (waiting l i) v ≡ true → claimed l v ≡ i) (claimed_there p h) xs x id u on in
      absurd (true-false
      (is_of y 11 id PENDING (pending_by past u y e).0 (sym (picked_yes (pends past u y) x.a (claimed past u) e) ∙ c))
      other))
      (λ e. e)
      (true_or_false (pends past u y))

  -- at a call of another number
  module _ (c : ℕ) (at : x.call ≡ c) where
    not_answer : (k status : ℕ) → eqb c k ≡ false → is_answer k status y ≡ false
    not_answer k status e = not_call y k status (ap (λ (v : ℕ). eqb v k) at ∙ e)

    nobody_released : (id : ℕ) → eqb c 12 ≡ false → is_answer_of 12 id OK y ≡ false
    nobody_released id e = not_of y 12 id OK (not_answer 12 OK e)

    nobody_deleted : (u : ℕ) → eqb c 2 ≡ false → done_to 2 past u y ≡ false
    nobody_deleted u e = not_done y past 2 u (not_answer 2 OK e)

  module _ (id t : ℕ) where
    abbrev here : List ℕ
    here = waiting past id

    abbrev was : ℕ → Bool
    was u = ltb (arrived_at past u) (arrived_at past t)

    abbrev is : ℕ → Bool
    is u = ltb (arrived_at later u) (arrived_at later t)

    abbrev one : ℕ
    one = pick (is_answer_of 12 id OK y) 1 0

    abbrev left : ℕ
    left = length (departing past y id t)

    same_arrival : (u : ℕ) → pends past u y ≡ false → arrived_at later u ≡ arrived_at past u
    same_arrival u e = picked_no (pends past u y) (suc (length past)) (arrived_at past u) e

    same_test : (u : ℕ) → pends past u y ≡ false → pends past t y ≡ false → is u ≡ was u
    same_test u e f = rw (same_arrival u e, same_arrival t f)

    -- somebody joins this queue
    module _ (claim : is_answer_of 11 id PENDING y ≡ true) where
      called : x.call ≡ 11
      called = (answer_is y 11 PENDING (answer_of_lem y 11 id PENDING claim)).0

      grown : waiting later id ≡ here ++ (running_in past ∷ [])
      grown = waiting_more y past id (not_of y 9 id OK (not_answer 11 called 9 OK refl)) claim

      -- who is none of those who wait
      newcomer : has here (running_in past) ≡ false
      newcomer =
          once_apart here (running_in past)
          (subst Once grown (at_next p (λ (l : List Turn). (i : ℕ) → Once (waiting l i)) (λ l. (seats_told p h l).once) xs x id))

      others_stay : (u : ℕ) → has here u ≡ true → pends past u y ≡ false
      others_stay u b = pends_other y past u (λ e. true-false (subst (λ (v : ℕ). has here v ≡ true) (sym e) b) newcomer)

      -- it is task t: all who wait are ahead
      joins : pends past t y ≡ true → length (ahead later id t) + releases_since later id t + departed later id t ≡ found_ahead later t
      joins e =
          let who : running_in past ≡ t = (pending_by past t y e).1 in
          let now : arrived_at later t ≡ suc (length past) = picked_yes (pends past t y) (suc (length past)) (arrived_at past t) e in
          let all : ahead later id t ≡ here =
          ap (keep is) grown
          ∙ keep_grown is here (running_in past) (le-ltb (arrived_at later (running_in past)) (arrived_at later t) (omega (arith, ap (arrived_at later) who)))
          ∙ keep_all is here (λ u b. lt-ltb (arrived_at later u) (arrived_at later t) (omega (arith, now, same_arrival u (others_stay u b), arrived_le past u))) in
          omega (
            arith,
            ap (λ (l : List ℕ). length l) all,
            picked_yes (pends past t y) 0 (one + releases_since past id t) e,
            picked_yes (pends past t y) 0 (left + departed past id t) e,
            picked_yes (pends past t y) (length (waiting past x.a)) (found_ahead past t) e,
            ap (λ (v : ℕ). length (waiting past v)) (of_is y 11 id PENDING claim),
          )

      -- it is another: it joins behind
      joins_behind : pends past t y ≡ false → length (ahead past id t) ≡ length (ahead later id t) + one + left
      joins_behind e =
          let last : arrived_at later (running_in past) ≡ suc (length past) =
          picked_yes (pends past (running_in past) y) (suc (length past)) (arrived_at past (running_in past))
          (is_pending y past (running_in past) (answer_of_lem y 11 id PENDING claim) refl) in
          let same : ahead later id t ≡ ahead past id t =
          ap (keep is) grown
          ∙ keep_grown is here (running_in past)
          (le-ltb (arrived_at later (running_in past)) (arrived_at later t) (omega (arith, last, same_arrival t e, arrived_le past t)))
          ∙ keep_same is was here (λ u b. same_test u (others_stay u b) e) in
          let none : departing past y id t ≡ [] = keep_none (leaves_ungranted past y) (ahead past id t) (λ u b. quiet u) in
          omega (
            arith,
            ap (λ (l : List ℕ). length l) same,
            ap (λ (l : List ℕ). length l) none,
            picked_no {A = ℕ} (is_answer_of 12 id OK y) 1 0 (nobody_released 11 called id refl),
          )
        where
          quiet : (u : ℕ) → leaves_ungranted past y u ≡ false
          quiet u =
              let silent : y.reply.wakes ≡ [] = claim_wakes p h xs x called in
              ungranted_deleted past y u (ap (λ (l : List Wake). wakes_as TIME_OUT l u) silent) ∙ nobody_deleted 11 called u refl

    -- nobody joins this queue, and it goes on
    module _ (mute : is_answer_of 11 id PENDING y ≡ false) (lives : is_answer_of 9 id OK y ≡ false) (on : has (waiting later id) t ≡ true) where
      less : waiting later id ≡ keep (λ u. not (ends_wait past y u)) here
      less = waiting_less y past id lives mute

      kept : (has here t ≡ true) × (not (ends_wait past y t) ≡ true)
      kept = kept_has (λ u. not (ends_wait past y u)) here t (subst (λ (l : List ℕ). has l t ≡ true) less on)

      -- who leaves and who stays
      parts : length (ahead past id t) ≡ length (ahead later id t) + length (keep (ends_wait past y) (ahead past id t))
      parts =
          let same : ahead later id t ≡ keep was (keep (λ u. not (ends_wait past y u)) here) =
          keep_same is was (waiting later id) (λ u b. same_test u (stayed id u b mute) (stayed id t on mute)) ∙ ap (keep was) less in
          omega (arith, kept_and_left (ends_wait past y) was here, ap (λ (l : List ℕ). length l) same)

      -- a release takes the first, who is ahead
      module _ (fifo : Fifo past id) (release : is_answer_of 12 id OK y ≡ true) where
        freed : x.call ≡ 12
        freed = (answer_is y 12 OK (answer_of_lem y 12 id OK release)).0

        grant : GrantTold p past id y.reply.wakes
        grant = grant_there p h xs x id t kept.0 release

        ends_as : (u : ℕ) → ends_wait past y u ≡ wakes (record { task = grant.task; status = OK } ∷ []) u
        ends_as u = ends_woken past y u (not_answer 12 freed 2 OK refl) ∙ ap (λ (l : List Wake). wakes l u) grant.only

        another : grant.task ≡ t → ⊥
        another e = true-false (ends_as t ∙ (one_woken grant.task t e).0) (not-true (ends_wait past y t) kept.1)

        is_ahead : has (ahead past id t) grant.task ≡ true
        is_ahead =
            has_kept was here grant.task grant.waited
            (lt-ltb (arrived_at past grant.task) (arrived_at past t)
            (subst (λ (b : Bool). Ahead b p past grant.task t) fifo (grant.first t kept.0 (λ e. another (sym e)))))

        released : length (keep (ends_wait past y) (ahead past id t)) ≡ one + left
        released =
            let only : length (keep (ends_wait past y) (ahead past id t)) ≡ 1 =
            keep_one (ends_wait past y) (ahead past id t) (once_kept was here ((seats_told p h xs).once id)) grant.task is_ahead
            (ends_as grant.task ∙ (one_woken grant.task grant.task refl).0)
            (λ u b ne. ends_as u ∙ other_spared grant.task u (λ e. ne (sym e))) in
            let none : departing past y id t ≡ [] =
            keep_none (leaves_ungranted past y) (ahead past id t)
            (λ u b. ungranted_deleted past y u (ap (λ (l : List Wake). wakes_as TIME_OUT l u) grant.only ∙ grant_no_time_out grant.task u)
            ∙ nobody_deleted 12 freed u refl) in
            omega (arith, only, ap (λ (l : List ℕ). length l) none, picked_yes {A = ℕ} (is_answer_of 12 id OK y) 1 0 release)

      -- at any other turn who leaves is departed
      others_leave : is_answer_of 12 id OK y ≡ false → length (keep (ends_wait past y) (ahead past id t)) ≡ one + left
      others_leave e =
          let same : keep (ends_wait past y) (ahead past id t) ≡ departing past y id t =
          keep_same (ends_wait past y) (leaves_ungranted past y) (ahead past id t)
          (λ u b. ends_ungranted past y u (woken_timed_out p h xs x id u (kept_has was here u b).0 e lives)) in
          omega (arith, ap (λ (l : List ℕ). length l) same, picked_no {A = ℕ} (is_answer_of 12 id OK y) 1 0 e)

      stays : Fifo past id → length (ahead past id t) ≡ length (ahead later id t) + one + left
      stays fifo =
          ⊎_elim (λ e. omega (arith, parts, released fifo e)) (λ e. omega (arith, parts, others_leave e)) (true_or_false (is_answer_of 12 id OK y))

    -- task t was there before
    waited : has (waiting later id) t ≡ true → pends past t y ≡ false → has here t ≡ true
    waited on e =
        ⊎_elim
        (λ shut. absurd (true-false (subst (λ (l : List ℕ). has l t ≡ true) (waiting_shut y past id shut) on) refl))
        (λ lives. ⊎_elim
        (λ claim. ⊎_elim
        (λ b. b)
        (λ b. absurd (true-false (is_pending y past t (answer_of_lem y 11 id PENDING claim) b) e))
        (has_grown here (running_in past) t (subst (λ (l : List ℕ). has l t ≡ true) (grown claim) on)))
        (λ mute. (kept mute lives on).0)
        (true_or_false (is_answer_of 11 id PENDING y)))
        (true_or_false (is_answer_of 9 id OK y))

    same_fifo : has here t ≡ true → Fifo later id → Fifo past id
    same_fifo b fifo = sym (picked_no _ _ _ (waited_not_made p h xs x id t b)) ∙ fifo

    moved : has (waiting later id) t ≡ true → Fifo past id → pends past t y ≡ false
        → length (ahead past id t) ≡ length (ahead later id t) + one + left
    moved on fifo e =
        ⊎_elim
        (λ shut. absurd (true-false (subst (λ (l : List ℕ). has l t ≡ true) (waiting_shut y past id shut) on) refl))
        (λ lives. ⊎_elim (λ claim. joins_behind claim e) (λ mute. stays mute lives on fifo) (true_or_false (is_answer_of 11 id PENDING y)))
        (true_or_false (is_answer_of 9 id OK y))

    step : Counted past → has (waiting later id) t ≡ true → Fifo later id
        → length (ahead later id t) + releases_since later id t + departed later id t ≡ found_ahead later t
    step so on fifo =
        ⊎_elim
        (λ e. ⊎_elim
        (λ claim. joins claim e)
        (λ mute. absurd (true-false e (stayed id t on mute)))
        (true_or_false (is_answer_of 11 id PENDING y)))
        (λ e. let b : has here t ≡ true = waited on e in
        let f : Fifo past id = same_fifo b fifo in
        omega (
          arith,
          so id t b f,
          moved on f e,
          picked_no (pends past t y) 0 (one + releases_since past id t) e,
          picked_no (pends past t y) 0 (left + departed past id t) e,
          picked_no (pends past t y) (length (waiting past x.a)) (found_ahead past t) e,
        ))
        (true_or_false (pends past t y))

-- "For any history from a fresh state": at every moment while it waits
pub ahead_counted : (p : ℕ) → p ≤ 15 → (xs : List Event) → Counted (past_of p xs)
ahead_counted p h = by_turns p Counted (λ id t on fifo. absurd (true-false on refl)) (λ xs x so id t on fifo. step p h xs x id t so on fifo)
