-- What one turn does to what is told of queue id: nothing; it is new, and holds nothing; a message more at the end or in front; the first
-- one gone; a message that was accepted and delivered at once.
-- Assumes nothing.
use Prim.Native.Nat.{ℕ, suc, ◌+◌}
use native.Mathlib.Omega.{arith}
use mathlib.Core.Path.{◌≡◌, refl, ap, ◌∙◌}
use mathlib.Core.Bool.{Bool, true, false, ◌||◌}
use mathlib.Core.List.{List, [], ◌∷◌, ◌++◌}
use lib.Dec.{eqb}
use Rattle.scope.specs.Choice.{pick}
use Rattle.scope.specs.Statuses.{OK}
use Rattle.laws.proofs.Branches.{both, first_fails, second_fails, not_of_true, not_of_false, picked_yes, picked_no}
use Rattle.books.specs.Past.{Turn, is_answer, is_answer_of, creates}
use Rattle.books.proofs.Agreeing.{not_call, not_status, is_answer_lem, not_creates, not_of, not_on, is_of}
use Rattle.deliveries.specs.Messages.{lent, puts, rest, messages, is_accepted, accepted, is_delivered, delivered}

or_none : (b c : Bool) → b ≡ false → c ≡ false → (b || c) ≡ false
or_none b c e f = rw (e, f)

or_first : (b c : Bool) → b ≡ true → (b || c) ≡ true
or_first b c e = rw e

or_second : (b c : Bool) → b ≡ false → c ≡ true → (b || c) ≡ true
or_second b c e f = rw (e, f)

-- a turn that counts for nothing of queue id
pub record Uncounted (id : ℕ) (y : Turn) : Type 0 where
  pub unsent : is_answer_of 23 id OK y ≡ false
  pub unjumped : is_answer_of 24 id OK y ≡ false
  pub unreceived : is_answer_of 25 id OK y ≡ false

-- and one that is nothing to it
pub record Silent (id : ℕ) (y : Turn) : Type 0 where
  pub unmade : creates 20 id y ≡ false
  pub undeleted : is_answer_of 21 id OK y ≡ false
  pub uncounted : Uncounted id y

-- by its call, by what it names, or by its status
pub uncounted_call : (id : ℕ) (y : Turn) → eqb y.event.call 23 ≡ false → eqb y.event.call 24 ≡ false → eqb y.event.call 25 ≡ false → Uncounted id y
uncounted_call id y a b c =
    record {
      unsent = not_of y 23 id OK (not_call y 23 OK a);
      unjumped = not_of y 24 id OK (not_call y 24 OK b);
      unreceived = not_of y 25 id OK (not_call y 25 OK c);
    }

pub uncounted_other : (id : ℕ) (y : Turn) → (y.event.a ≡ id → ⊥) → Uncounted id y
uncounted_other id y ne =
    record { unsent = not_on y 23 id OK ne; unjumped = not_on y 24 id OK ne; unreceived = not_on y 25 id OK ne }

pub silent_call : (id : ℕ) (y : Turn) → eqb y.event.call 20 ≡ false → eqb y.event.call 21 ≡ false → Uncounted id y → Silent id y
silent_call id y a b none =
    record { unmade = not_creates y 20 id (not_call y 20 OK a); undeleted = not_of y 21 id OK (not_call y 21 OK b); uncounted = none }

pub silent_other : (id : ℕ) (y : Turn) → creates 20 id y ≡ false → (y.event.a ≡ id → ⊥) → Silent id y
silent_other id y unmade ne = record { unmade = unmade; undeleted = not_on y 21 id OK ne; uncounted = uncounted_other id y ne }

pub silent_status : (id : ℕ) (y : Turn) → eqb y.reply.status OK ≡ false → Silent id y
silent_status id y e =
    record {
      unmade = not_creates y 20 id (not_status y 20 OK e);
      undeleted = not_of y 21 id OK (not_status y 21 OK e);
      uncounted = record {
        unsent = not_of y 23 id OK (not_status y 23 OK e);
        unjumped = not_of y 24 id OK (not_status y 24 OK e);
        unreceived = not_of y 25 id OK (not_status y 25 OK e);
      };
    }

module _ (past : List Turn) (id : ℕ) (y : Turn) where
  -- the tests of a turn
  unput : (call : ℕ) → is_answer_of call id OK y ≡ false → puts call id y ≡ false
  unfolding puts
  unput call e = first_fails _ _ e

  handed : (call : ℕ) → y.reply.delivers ≡ true → puts call id y ≡ false
  unfolding puts
  handed call e = second_fails (is_answer_of call id OK y) _ (not_of_true _ e)

  is_put : (call : ℕ) → is_answer_of call id OK y ≡ true → y.reply.delivers ≡ false → puts call id y ≡ true
  unfolding puts
  is_put call e f = both _ _ e (not_of_false _ f)

  unaccepted : is_answer_of 23 id OK y ≡ false → is_answer_of 24 id OK y ≡ false → is_accepted id y ≡ false
  unfolding is_accepted
  unaccepted e f = or_none _ _ e f

  undelivered : is_accepted id y ≡ false → is_answer_of 25 id OK y ≡ false → is_delivered id y ≡ false
  unfolding is_delivered
  undelivered e f = or_none _ _ (first_fails _ _ e) f

  -- one more is counted, or none
  more : (p : Turn → Bool) (n : ℕ) → p y ≡ true → pick {A = ℕ} (p y) 1 0 + n ≡ suc n
  more p n e = omega (arith, picked_yes {A = ℕ} (p y) 1 0 e)

  same : (p : Turn → Bool) (n : ℕ) → p y ≡ false → pick {A = ℕ} (p y) 1 0 + n ≡ n
  same p n e = omega (arith, picked_no {A = ℕ} (p y) 1 0 e)

  pub messages_silent : Silent id y → messages (y ∷ past) id ≡ messages past id
  messages_silent s =
      picked_no _ _ _ (or_none _ _ s.unmade s.undeleted) ∙ picked_no _ _ _ (unput 23 s.uncounted.unsent)
      ∙ picked_no _ _ _ (unput 24 s.uncounted.unjumped) ∙ picked_no _ _ _ s.uncounted.unreceived

  pub accepted_silent : Uncounted id y → accepted (y ∷ past) id ≡ accepted past id
  accepted_silent s = same (is_accepted id) (accepted past id) (unaccepted s.unsent s.unjumped)

  pub delivered_silent : Uncounted id y → delivered (y ∷ past) id ≡ delivered past id
  delivered_silent s = same (is_delivered id) (delivered past id) (undelivered (unaccepted s.unsent s.unjumped) s.unreceived)

  -- a new queue
  pub messages_new : creates 20 id y ≡ true → messages (y ∷ past) id ≡ []
  messages_new e = picked_yes _ _ _ (or_first _ _ e)

  -- a call that names the queue, answered OK
  module _ (c : ℕ) (at : y.event.call ≡ c) (done : y.reply.status ≡ OK) (mine : y.event.a ≡ id) where
    other : (k : ℕ) → eqb c k ≡ false → is_answer k OK y ≡ false
    other k e = not_call y k OK (ap (λ (v : ℕ). eqb v k) at ∙ e)

    open_still : eqb c 20 ≡ false → eqb c 21 ≡ false → (creates 20 id y || is_answer_of 21 id OK y) ≡ false
    open_still e f = or_none _ _ (not_creates y 20 id (other 20 e)) (not_of y 21 id OK (other 21 f))

    this : is_answer_of c id OK y ≡ true
    this = is_of y c id OK (is_answer_lem y c OK at done) mine

  -- a send that delivers nothing
  module _ (at : y.event.call ≡ 23) (done : y.reply.status ≡ OK) (mine : y.event.a ≡ id) where
    pub sent_accepted : is_accepted id y ≡ true
    unfolding is_accepted
    sent_accepted = or_first _ _ (this 23 at done mine)

    pub messages_sent : y.reply.delivers ≡ false → messages (y ∷ past) id ≡ messages past id ++ (lent y ∷ [])
    messages_sent e = picked_no _ _ _ (open_still 23 at done mine refl refl) ∙ picked_yes _ _ _ (is_put 23 (this 23 at done mine) e)

    pub accepted_sent : accepted (y ∷ past) id ≡ suc (accepted past id)
    accepted_sent = more (is_accepted id) (accepted past id) sent_accepted

  -- a jump
  module _ (at : y.event.call ≡ 24) (done : y.reply.status ≡ OK) (mine : y.event.a ≡ id) where
    pub jumped_accepted : is_accepted id y ≡ true
    unfolding is_accepted
    jumped_accepted = or_second _ _ (not_of y 23 id OK (other 24 at done mine 23 refl)) (this 24 at done mine)

    pub messages_jumped : y.reply.delivers ≡ false → messages (y ∷ past) id ≡ lent y ∷ messages past id
    messages_jumped e =
        picked_no _ _ _ (open_still 24 at done mine refl refl) ∙ picked_no _ _ _ (unput 23 (not_of y 23 id OK (other 24 at done mine 23 refl)))
        ∙ picked_yes _ _ _ (is_put 24 (this 24 at done mine) e)

    pub accepted_jumped : accepted (y ∷ past) id ≡ suc (accepted past id)
    accepted_jumped = more (is_accepted id) (accepted past id) jumped_accepted

  -- either of them
  module _ (c : ℕ) (at : y.event.call ≡ c) (e20 : eqb c 20 ≡ false) (e21 : eqb c 21 ≡ false) (e25 : eqb c 25 ≡ false) (done : y.reply.status ≡ OK)
      (mine : y.event.a ≡ id) where
    pub messages_handed : y.reply.delivers ≡ true → messages (y ∷ past) id ≡ messages past id
    messages_handed e =
        picked_no _ _ _ (open_still c at done mine e20 e21) ∙ picked_no _ _ _ (handed 23 e) ∙ picked_no _ _ _ (handed 24 e)
        ∙ picked_no _ _ _ (not_of y 25 id OK (other c at done mine 25 e25))

    pub delivered_held : y.reply.delivers ≡ false → delivered (y ∷ past) id ≡ delivered past id
    unfolding is_delivered
    delivered_held e =
        same (is_delivered id) (delivered past id)
        (or_none _ _ (second_fails (is_accepted id y) _ e) (not_of y 25 id OK (other c at done mine 25 e25)))

    pub delivered_handed : is_accepted id y ≡ true → y.reply.delivers ≡ true → delivered (y ∷ past) id ≡ suc (delivered past id)
    unfolding is_delivered
    delivered_handed a e = more (is_delivered id) (delivered past id) (or_first _ _ (both _ _ a e))

  -- a receive
  module _ (at : y.event.call ≡ 25) (done : y.reply.status ≡ OK) (mine : y.event.a ≡ id) where
    unsent : is_answer_of 23 id OK y ≡ false
    unsent = not_of y 23 id OK (other 25 at done mine 23 refl)

    unjumped : is_answer_of 24 id OK y ≡ false
    unjumped = not_of y 24 id OK (other 25 at done mine 24 refl)

    pub messages_received : messages (y ∷ past) id ≡ rest (messages past id)
    messages_received =
        picked_no _ _ _ (open_still 25 at done mine refl refl) ∙ picked_no _ _ _ (unput 23 unsent) ∙ picked_no _ _ _ (unput 24 unjumped)
        ∙ picked_yes _ _ _ (this 25 at done mine)

    pub accepted_received : accepted (y ∷ past) id ≡ accepted past id
    accepted_received = same (is_accepted id) (accepted past id) (unaccepted unsent unjumped)

    pub delivered_received : delivered (y ∷ past) id ≡ suc (delivered past id)
    unfolding is_delivered
    delivered_received =
        more (is_delivered id) (delivered past id) (or_second _ _ (first_fails _ _ (unaccepted unsent unjumped)) (this 25 at done mine))
