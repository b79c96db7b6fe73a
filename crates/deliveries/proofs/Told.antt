-- For every history from a fresh state: each queue that lives holds the messages that the answers tell, in their order; the messages
-- accepted equal those delivered plus those held; a receive shows the first of them, and a delivery the very message lent, while the queue
-- holds nothing.
-- Assumes nothing.
use Prim.Native.Nat.{ℕ, zero, suc, ◌+◌, ◌≤◌, ◌<◌}
use native.Mathlib.Omega.{arith}
use mathlib.Core.Path.{◌≡◌, refl, sym, subst, ap, ◌∙◌}
use mathlib.Core.Logic.{◌⊎◌}
use mathlib.Core.Bool.{true, false}
use mathlib.Core.List.{List, [], ◌∷◌}
use lib.ListN.{length, get_or, take, get_or-replicate}
use lib.Dec.{ltb, leb, eqb}
use borrow.Author.Tests.{leb-true, ltb-true, eqb-false}
use Rattle.scope.specs.declared.State.{State}
use Rattle.scope.specs.declared.Queues.{Queues}
use Rattle.scope.specs.declared.Answer.{Answer}
use Rattle.scope.specs.Statuses.{OK}
use Rattle.scope.specs.Answers.{bit_of, answer, plain, bad_state, shows}
use Rattle.scope.specs.Messages.{first_length, first_shown, message_in, cells_of, messages_of}
use Rattle.scope.specs.Queues.{most_of, longest_of, held_of, are_limits, store_of, queue_found, queue_receive_at, queue_wait_at, queue_info_at}
use Rattle.scope.specs.Rules.{queue_right}
use Rattle.scope.specs.Replies.{reply_of}
use Rattle.scope.specs.Fresh.{fresh_state}
use Rattle.scope.proofs.Rows.{by_choice}
use Rattle.laws.proofs.Branches.{both_true, true-false, picked_yes}
use Rattle.laws.proofs.Tables.{found-identifier}
use Rattle.laws.proofs.Messages.Stores.{held_counts, length_row, take_messages}
use Rattle.laws.proofs.Messages.Keeps.{InForm, shows_length, shows_message}
use Rattle.histories.specs.Sound.{Sound}
use Rattle.histories.specs.History.{Event, answer_to, after, QueueAt}
use Rattle.histories.proofs.Fresh.{fresh_sound}
use Rattle.histories.proofs.Answered.{by_name, by_number}
use Rattle.histories.proofs.Objects.{holds_nothing}
use Rattle.histories.proofs.Queues.{in_form, limits_small, named_queue}
use Rattle.histories.proofs.Demand.{end_sound}
use Rattle.books.specs.Past.{Turn, past_of}
use Rattle.books.specs.Waiting.{a_queue, fifo_of, receiving}
use Rattle.books.specs.Told.{StandsFor, QueuesTold, DeliveryTold}
use Rattle.books.proofs.Told.{queues_told}
use Rattle.books.proofs.Sending.{send_delivers, send_holds}
use Rattle.deliveries.specs.Messages.{messages, accepted, delivered}
use Rattle.deliveries.specs.Told.{QueueInfoTold, ReceivedTold}
use Rattle.deliveries.proofs.Steps.{id_in, Holds, holds_after}

-- a fresh state has no queue
fresh_holds : (p : ℕ) → Holds (fresh_state p).queues []
unfolding fresh_state
fresh_holds p =
    record {
      told = λ i hi live. absurd (true-false live (get_or-replicate 8 i false false hi));
      counted = λ i hi live. absurd (true-false live (get_or-replicate 8 i false false hi));
      unissued = λ id e. (refl, refl);
    }

-- "longest message (1 to 64)": of a live queue
longest_small : (u : Queues) (i : ℕ) → get_or u.live i false ≡ true → queue_right u i ≡ true → longest_of u i ≤ 64
unfolding queue_right are_limits
longest_small u i live right =
    let a = both_true (leb 1 (get_or u.serial i 0)) _ (sym (picked_yes (get_or u.live i false) _ _ live) ∙ right) in
    let b = both_true (leb 1 (most_of u i)) _ a.1 in
    let c = both_true (leb (most_of u i) 16) _ b.1 in
    leb-true (longest_of u i) 64 (both_true (leb 1 (longest_of u i)) _ c.1).1

-- "For any history from a fresh state"
module _ (p : ℕ) (h : p ≤ 15) (xs : List Event) where
  abbrev now : State
  now = after (fresh_state p) xs

  abbrev past : List Turn
  past = past_of p xs

  ok : Sound now
  ok = end_sound p h xs

  holds : Holds now.queues past
  holds = holds_after (fresh_state p) (fresh_sound p h) xs [] (fresh_holds p)

  -- while a queue lives
  module _ (id i : ℕ) (names : QueueAt now id i) where
    room : i < 8
    room = (named_queue now ok id i names).0

    alive : get_or now.queues.live i false ≡ true
    alive = (named_queue now ok id i names).1

    named : id ≡ id_in now.queues i
    named = found-identifier now.queues.serial now.queues.live id names

    -- it holds the messages that are told
    pub messages_told : messages_of (store_of now.queues) i ≡ messages past id
    messages_told = holds.told i room alive ∙ ap (messages past) (sym named)

    -- "messages accepted equal those delivered plus those held"
    pub messages_counted : accepted past id ≡ delivered past id + held_of now.queues i
    messages_counted =
        subst (λ (v : ℕ). accepted past v ≡ delivered past v + held_of now.queues i) (sym named) (holds.counted i room alive)

    pub held_number : held_of now.queues i ≡ length (messages past id)
    held_number = sym (held_counts (store_of now.queues) i) ∙ ap (λ (l : List (List ℕ)). length l) messages_told

    -- so they are those that were accepted and not yet delivered
    pub told_counted : accepted past id ≡ delivered past id + length (messages past id)
    told_counted = omega (arith, messages_counted, held_number)

    -- "a queue with waiters holds nothing"
    pub nothing_told : 0 < length (receiving past id) → messages past id ≡ []
    nothing_told some =
        none (messages past id)
        (sym held_number ∙ holds_nothing now.line now.tasks now.semaphores now.queues ok.line i room
        (omega (arith, some, (queues_told p h xs a_queue).number i room, ap (λ (v : ℕ). length (receiving past v)) named)))
      where
        none : (l : List (List ℕ)) → length l ≡ 0 → l ≡ []
        none [] e = refl
        none (m ∷ l) e = absurd (omega (arith, e))

    -- what queue_info gives of it
    info_at : QueueInfoTold past id (queue_info_at now i).values
    unfolding queue_info_at answer
    info_at =
        let all : QueuesTold a_queue p now past = queues_told p h xs a_queue in
        record {
          option = ap bit_of (sym (all.fifo i room alive) ∙ ap (fifo_of a_queue past) (sym named));
          counted = messages_counted;
          held = held_number;
          waiters = sym (all.number i room) ∙ ap (λ (v : ℕ). length (receiving past v)) (sym named);
          nothing = nothing_told;
        }

    -- what a receive shows of it
    received_at : (after_it : State) → ltb 0 (held_of now.queues i) ≡ true
        → ReceivedTold past id (reply_of (shows after_it (first_length (cells_of now.queues.cells i)) (first_shown (cells_of now.queues.cells i))))
    unfolding shows
    received_at after_it e = go (held_of now.queues i) refl (ltb-true 0 (held_of now.queues i) e)
      where
        row : List ℕ
        row = cells_of now.queues.cells i

        few : held_of now.queues i ≤ 16
        few = omega (arith, ok.queues.held i room, limits_small now.queues ok.queues i room alive)

        longest : longest_of now.queues i ≤ 64
        longest = longest_small now.queues i alive (ok.queues.each i room)

        go : (n : ℕ) → held_of now.queues i ≡ n → 0 < n
            → ReceivedTold past id (reply_of (shows after_it (first_length (cells_of now.queues.cells i)) (first_shown (cells_of now.queues.cells i))))
        go zero d l = absurd (omega arith)
        go (suc n) d l =
            let form : InForm row (suc n) (longest_of now.queues i) =
            subst (λ (k : ℕ). InForm row k (longest_of now.queues i)) d ((in_form now.queues ok.queues).form i room) in
            let wide : length row ≡ 1040 = length_row (store_of now.queues) (in_form now.queues ok.queues).sized i room in
            record {
              first = message_in (take 65 row);
              others = _;
              held = sym messages_told ∙ take_messages (store_of now.queues) (in_form now.queues ok.queues).sized i room (omega (arith, d)) few;
              long = shows_length row n (longest_of now.queues i) longest wide form;
              shown = shows_message row n (longest_of now.queues i) longest wide form;
            }

  -- what queue_info answers
  pub info_told : (x : Event) → x.call ≡ 26 → (answer_to now x).status ≡ OK → QueueInfoTold past x.a (reply_of (answer_to now x)).values
  unfolding bad_state plain answer
  info_told x at =
      by_number P now no_reply x 26 at (λ d. absurd (omega (arith, d)))
      (by_name P now no_reply (queue_found now x.a) (queue_info_at now) (λ i e d. info_at x.a i e))
    where
      P : Answer → Type 0
      P a = a.status ≡ OK → QueueInfoTold past x.a a.values

      no_reply : (status : ℕ) → eqb status OK ≡ false → P (plain now status)
      no_reply status e d = absurd (eqb-false status OK e d)

  -- what a receive answers
  pub received_told : (x : Event) → x.call ≡ 25 → (answer_to now x).status ≡ OK → ReceivedTold past x.a (reply_of (answer_to now x))
  unfolding bad_state plain answer queue_receive_at queue_wait_at
  received_told x at =
      by_number P now no_reply x 25 at (λ d. absurd (omega (arith, d)))
      (by_name P now no_reply (queue_found now x.a) (queue_receive_at now x.b x.c)
      (λ i e. by_choice P _ (λ f d. absurd (omega (arith, d)))
      (λ f. by_choice P _ (λ g d. absurd (omega (arith, d)))
      (λ g. by_choice P _ (λ some d. received_at x.a i e _ some)
      (λ some. by_choice P _ (λ j d. absurd (omega (arith, d)))
      (λ j. by_choice P _ (λ k d. absurd (omega (arith, d))) (λ k d. absurd (omega (arith, d)))))))))
    where
      P : Answer → Type 0
      P a = a.status ≡ OK → ReceivedTold past x.a (reply_of a)

      no_reply : (status : ℕ) → eqb status OK ≡ false → P (plain now status)
      no_reply status e d = absurd (eqb-false status OK e d)

  -- what a send or jump answers that delivers: to who waits and none precedes, the very message lent; the queue holds nothing
  module _ (x : Event) (at : (x.call ≡ 23) ⊎ (x.call ≡ 24)) (done : (answer_to now x).status ≡ OK) where
    pub delivered_told : (reply_of (answer_to now x)).delivers ≡ true
        → DeliveryTold p past x.a x.b x.message (reply_of (answer_to now x)) × (messages past x.a ≡ [])
    delivered_told gives = (told, nothing)
      where
        some : receiving past x.a ≡ [] → ⊥
        some e = true-false gives (send_holds p h xs x at done e).1

        told : DeliveryTold p past x.a x.b x.message (reply_of (answer_to now x))
        told = send_delivers p h xs x at done some

        w : StandsFor a_queue now x.a told.task
        w = (queues_told p h xs a_queue).others x.a told.task told.waited

        long : (l : List ℕ) → (l ≡ [] → ⊥) → 0 < length l
        long [] ne = absurd (ne refl)
        long (z ∷ l) ne = omega arith

        nothing : messages past x.a ≡ []
        nothing = nothing_told x.a w.slot w.names (long (receiving past x.a) some)
