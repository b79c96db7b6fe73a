-- M-100, "A message goes to the first waiter", told by the answers alone: where somebody waits for the queue, a send or jump answered OK
-- wakes the one none precedes and shows it the message; where nobody does it wakes nobody.
-- Assumes nothing.
use Prim.Native.Nat.{ℕ, ◌+◌, ◌≤◌, ◌<◌}
use native.Mathlib.Omega.{arith}
use mathlib.Core.Path.{◌≡◌, refl, sym, subst, ap, ◌∙◌}
use mathlib.Core.Logic.{◌⊎◌, inl, inr, ⊎_elim}
use mathlib.Core.Bool.{true, false}
use mathlib.Core.List.{List, [], ◌∷◌}
use lib.ListN.{length, get_or}
use lib.Dec.{ltb, eqb}
use borrow.Author.Tests.{ltb-true, lt-ltb, eqb-false}
use native.Mathlib.Nat.{eq-or-lt_of_le}
use Rattle.scope.specs.declared.State.{State}
use Rattle.scope.specs.declared.Answer.{Answer}
use Rattle.scope.specs.Statuses.{OK}
use Rattle.scope.specs.Lists.{has}
use Rattle.scope.specs.Seats.{queue_seats}
use Rattle.scope.specs.Objects.{queue_object}
use Rattle.scope.specs.Views.{waiters_of}
use Rattle.scope.specs.Answers.{answer, plain, bad_state, delivers_to, on_found}
use Rattle.scope.specs.Waiting.{wake_next}
use Rattle.scope.specs.Messages.{Store, shown_of, appended, pushed}
use Rattle.scope.specs.Queues.{queue_found, first_receiver, queue_put_at}
use Rattle.scope.specs.Replies.{Reply, reply_of}
use Rattle.scope.specs.Fresh.{fresh_state}
use Rattle.scope.proofs.Rows.{by_choice}
use Rattle.laws.proofs.Branches.{true-false}
use Rattle.laws.proofs.Tables.{found_below, found_slot, found-identifier}
use Rattle.laws.proofs.Seats.First.{first_is}
use Rattle.histories.specs.Sound.{Sound}
use Rattle.histories.specs.History.{Event, answer_to, after, QueueAt}
use Rattle.histories.specs.Order.{WaitsFor}
use Rattle.histories.proofs.Answered.{by_name, by_number}
use Rattle.histories.proofs.Demand.{end_sound}
use Rattle.books.specs.Past.{Turn, past_of}
use Rattle.books.specs.Waiting.{a_queue, receiving, PrecedesIn}
use Rattle.books.specs.Told.{DeliveryTold, StandsFor, QueuesTold, task_id, id_of}
use Rattle.books.proofs.Granting.{nobody}
use Rattle.books.proofs.Told.{queues_told}
use Rattle.books.proofs.Releasing.{first_stands, wakes_one}

-- what a send or jump that is answered OK did: it named a live queue, and delivered its message to the first of those who wait for it, or
-- nobody waits for it and it woke nobody
record Sent (s : State) (id n : ℕ) (message : List ℕ) (a : Answer) : Type 0 where
  slot : ℕ
  names : QueueAt s id slot
  went : ((ltb (first_receiver s slot) 32 ≡ true) × (a.woken ≡ 1) × (a.why ≡ OK) × (get_or a.wakes 0 0 ≡ task_id s (first_receiver s slot))
      × (a.delivers ≡ true) × (a.length ≡ n) × (a.shown ≡ shown_of message n))
      ⊎ ((ltb (first_receiver s slot) 32 ≡ false) × (a.woken ≡ 0) × (a.delivers ≡ false))

module _ (s : State) (id n : ℕ) (message : List ℕ) where
  abbrev Done : Answer → Type 0
  Done a = a.status ≡ OK → Sent s id n message a

  refused : (status : ℕ) → eqb status OK ≡ false → Done (plain s status)
  unfolding plain answer
  refused status e d = absurd (eqb-false status OK e d)

  put_at : (put : Store → ℕ → List ℕ → Store) (i : ℕ) → QueueAt s id i → Done (queue_put_at put s n message i)
  unfolding queue_put_at delivers_to wake_next plain answer
  put_at put i names =
      by_choice Done _ (λ e d. absurd (omega (arith, d)))
      (λ e. by_choice Done _
      (λ f d. record { slot = i; names = names; went = inl (f, refl, refl, refl, refl, refl, refl) })
      (λ f. by_choice Done _ (λ g d. absurd (omega (arith, d))) (λ g d. record { slot = i; names = names; went = inr (f, refl, refl) })))

  put_done : (x : Event) → x.a ≡ id → x.b ≡ n → x.message ≡ message → (x.call ≡ 23) ⊎ (x.call ≡ 24) → Done (answer_to s x)
  unfolding bad_state
  put_done x a b c at =
      ⊎_elim
      (λ e. by_number Done s refused x 23 e (λ d. absurd (omega (arith, d))) (by appended))
      (λ e. by_number Done s refused x 24 e (λ d. absurd (omega (arith, d))) (by pushed))
      at
    where
      by : (put : Store → ℕ → List ℕ → Store) → Done (on_found (queue_found s x.a) s (queue_put_at put s x.b x.message))
      by put =
          subst (λ (v : ℕ). Done (on_found (queue_found s v) s (queue_put_at put s x.b x.message))) (sym a)
          (subst (λ (v : ℕ). Done (on_found (queue_found s id) s (queue_put_at put s v x.message))) (sym b)
          (subst (λ (v : List ℕ). Done (on_found (queue_found s id) s (queue_put_at put s n v))) (sym c)
          (by_name Done s refused (queue_found s id) (queue_put_at put s n message) (put_at put))))

-- "For any history from a fresh state"
module _ (p : ℕ) (h : p ≤ 15) (xs : List Event) (x : Event) (at : (x.call ≡ 23) ⊎ (x.call ≡ 24)) (done : (answer_to (after (fresh_state p) xs) x).status ≡ OK) where
  abbrev now : State
  now = after (fresh_state p) xs

  abbrev past : List Turn
  past = past_of p xs

  abbrev reply : Reply
  reply = reply_of (answer_to now x)

  ok : Sound now
  ok = end_sound p h xs

  all : QueuesTold a_queue p now past
  all = queues_told p h xs a_queue

  sent : Sent now x.a x.b x.message (answer_to now x)
  sent = put_done now x.a x.b x.message x refl refl refl at done

  room : sent.slot < 8
  room = omega (arith, found_below now.queues.serial now.queues.live x.a sent.names, ok.queues.sized.serials)

  named : x.a ≡ id_of a_queue now sent.slot
  named = found-identifier now.queues.serial now.queues.live x.a sent.names

  abbrev o : ℕ
  o = queue_object sent.slot

  -- the first of those who wait
  abbrev t : ℕ
  t = first_receiver now sent.slot

  module _ (some : 0 < waiters_of now.line o) where
    first : (t < 32) × (get_or now.line.seat t 0 ≡ queue_seats o + 1)
    first = first_is now.line.seat (queue_seats o) _ ok.line.queues.tasks (ok.line.queues.seated (queue_seats o) (omega arith)) some

    waits : WaitsFor now o t
    waits = (omega (arith, first.1), omega (arith, first.1))

    in_front_lem : (u : ℕ) → WaitsFor now o u → (u ≡ t → ⊥) → get_or now.line.seat t 0 < get_or now.line.seat u 0
    in_front_lem u a ne =
        ⊎_elim
        (λ e. absurd (ne ((ok.line.queues.seated (queue_seats o) (omega arith)).once u t a (sym e))))
        (λ l. l)
        (eq-or-lt_of_le {n = get_or now.line.seat t 0} {m = get_or now.line.seat u 0} (omega (arith, first.1, a.0)))

    precedes : (u : ℕ) → has (receiving past x.a) u ≡ true → (u ≡ task_id now t → ⊥) → PrecedesIn a_queue p past x.a (task_id now t) u
    precedes u e ne =
        let w : StandsFor a_queue now x.a u = all.others x.a u e in
        let d : w.slot ≡ sent.slot = one w.names in
        let a : WaitsFor now o w.task = subst (λ (v : ℕ). WaitsFor now (queue_object v) w.task) d w.waits in
        subst (λ (v : ℕ). PrecedesIn a_queue p past v (task_id now t) u) (sym named)
        (subst (λ (v : ℕ). PrecedesIn a_queue p past (id_of a_queue now sent.slot) (task_id now t) v) (sym w.who)
        (all.forward sent.slot room t w.task waits a (in_front_lem w.task a (λ f. ne (w.who ∙ ap (task_id now) f)))))
      where
        one : {i : ℕ} → QueueAt now x.a i → i ≡ sent.slot
        one n =
            found_slot now.queues.serial now.queues.live x.a n
            ∙ sym (found_slot now.queues.serial now.queues.live x.a sent.names)

    delivery : DeliveryTold p past x.a x.b x.message reply
    delivery =
        ⊎_elim
        (λ g. record {
          task = task_id now t;
          only = wakes_one (answer_to now x).woken (answer_to now x).wakes (answer_to now x).why (task_id now t) g.1 g.2 g.3;
          says = g.4;
          long = g.5;
          shown = g.6;
          waited = subst (λ (v : ℕ). has (receiving past v) (task_id now t) ≡ true) (sym named) (all.listed sent.slot room t waits);
          first = precedes;
        })
        (λ g. absurd (true-false (lt-ltb t 32 first.0) g.0))
        sent.went

  -- where somebody waits for the queue
  pub send_delivers : (receiving past x.a ≡ [] → ⊥) → DeliveryTold p past x.a x.b x.message reply
  send_delivers some =
      delivery (omega (arith, all.number sent.slot room, ap (λ (v : ℕ). length (receiving past v)) named, long (receiving past x.a) some))
    where
      long : (l : List ℕ) → (l ≡ [] → ⊥) → 0 < length l
      long [] ne = absurd (ne refl)
      long (z ∷ l) ne = omega arith

  -- and where nobody does
  pub send_holds : receiving past x.a ≡ [] → (reply.wakes ≡ []) × (reply.delivers ≡ false)
  send_holds e =
      ⊎_elim
      (λ g. let w : WaitsFor now o t = first_stands now.line.seat (queue_seats o) (ltb-true t 32 g.0) in
      absurd (true-false (all.listed sent.slot room t w)
      (ap (λ (l : List ℕ). has l (task_id now t)) (ap (receiving past) (sym named) ∙ e))))
      (λ g. (nobody (answer_to now x).woken g.1 (answer_to now x).wakes (answer_to now x).why, g.2))
      sent.went
