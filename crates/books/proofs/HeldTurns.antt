-- What a turn is to pool id: made by it, deleted, got from, returned to, or none of these; then it leaves all that is told of the
-- pool as it was. By the call, its argument, the status and the value.
-- Assumes nothing.
use Prim.Native.Nat.{ℕ}
use native.Mathlib.Omega.{arith}
use mathlib.Core.Path.{◌≡◌, ◌∙◌}
use mathlib.Core.Bool.{true, false}
use mathlib.Core.List.{List, ◌∷◌}
use lib.ListN.{get_or}
use lib.Dec.{eqb}
use borrow.Author.Tests.{eq-eqb, ne_eqb}
use Rattle.scope.specs.declared.Answer.{Answer}
use Rattle.scope.specs.Statuses.{OK}
use Rattle.scope.specs.Replies.{reply_of}
use Rattle.laws.proofs.Branches.{both, first_fails, second_fails, picked_no}
use Rattle.histories.specs.History.{Event}
use Rattle.books.specs.Past.{Turn, is_answer, is_answer_of, creates}
use Rattle.books.specs.Held.{address_in, length_in, size_in, is_forced, pool_lives, held}

-- the turn of a call and its answer
abbrev pub turn_of : Event → Answer → Turn
turn_of x a = record { event = x; reply = reply_of a }

module _ (call : ℕ) (x : Event) (a : Answer) where
  pub is_answer_lem : x.call ≡ call → a.status ≡ OK → is_answer call OK (turn_of x a) ≡ true
  unfolding is_answer
  is_answer_lem d e = both _ _ (eq-eqb _ _ d) (eq-eqb _ _ e)

  pub not_call : (x.call ≡ call → ⊥) → is_answer call OK (turn_of x a) ≡ false
  unfolding is_answer
  not_call ne = first_fails (eqb x.call call) _ (ne_eqb _ _ ne)

  pub not_done : eqb a.status OK ≡ false → is_answer call OK (turn_of x a) ≡ false
  unfolding is_answer
  not_done e = second_fails (eqb x.call call) _ e

module _ (call id : ℕ) (t : Turn) where
  pub is_of : is_answer call OK t ≡ true → t.event.a ≡ id → is_answer_of call id OK t ≡ true
  unfolding is_answer_of
  is_of d e = both _ _ d (eq-eqb _ _ e)

  pub not_answer : is_answer call OK t ≡ false → is_answer_of call id OK t ≡ false
  unfolding is_answer_of
  not_answer e = first_fails _ _ e

  pub not_of : (t.event.a ≡ id → ⊥) → is_answer_of call id OK t ≡ false
  unfolding is_answer_of
  not_of ne = second_fails (is_answer call OK t) _ (ne_eqb _ _ ne)

  pub makes : is_answer call OK t ≡ true → get_or t.reply.values 0 0 ≡ id → creates call id t ≡ true
  unfolding creates
  makes d e = both _ _ d (eq-eqb _ _ e)

  pub not_makes : is_answer call OK t ≡ false → creates call id t ≡ false
  unfolding creates
  not_makes e = first_fails _ _ e

  pub not_made : (get_or t.reply.values 0 0 ≡ id → ⊥) → creates call id t ≡ false
  unfolding creates
  not_made ne = second_fails (is_answer call OK t) _ (ne_eqb _ _ ne)

-- the turn is none of the four for pool id
pub record Quiet (id : ℕ) (t : Turn) : Type 0 where
  pub made : creates 14 id t ≡ false
  pub gone : is_answer_of 15 id OK t ≡ false
  pub got : is_answer_of 17 id OK t ≡ false
  pub back : is_answer_of 18 id OK t ≡ false

module _ (id : ℕ) (x : Event) (a : Answer) where
  abbrev t : Turn
  t = turn_of x a

  -- a refusal, another call, another pool
  pub quiet_refused : eqb a.status OK ≡ false → Quiet id t
  quiet_refused e =
      record {
        made = not_makes 14 id t (not_done 14 x a e);
        gone = not_answer 15 id t (not_done 15 x a e);
        got = not_answer 17 id t (not_done 17 x a e);
        back = not_answer 18 id t (not_done 18 x a e);
      }

  pub quiet_call : (x.call ≡ 14 → ⊥) → (x.call ≡ 15 → ⊥) → (x.call ≡ 17 → ⊥) → (x.call ≡ 18 → ⊥) → Quiet id t
  quiet_call n14 n15 n17 n18 =
      record {
        made = not_makes 14 id t (not_call 14 x a n14);
        gone = not_answer 15 id t (not_call 15 x a n15);
        got = not_answer 17 id t (not_call 17 x a n17);
        back = not_answer 18 id t (not_call 18 x a n18);
      }

  pub quiet_other : (x.call ≡ 14 → ⊥) → (x.a ≡ id → ⊥) → Quiet id t
  quiet_other n14 ne =
      record {
        made = not_makes 14 id t (not_call 14 x a n14);
        gone = not_of 15 id t ne;
        got = not_of 17 id t ne;
        back = not_of 18 id t ne;
      }

  pub quiet_create : x.call ≡ 14 → (get_or a.values 0 0 ≡ id → ⊥) → Quiet id t
  quiet_create e ne =
      record {
        made = not_made 14 id t ne;
        gone = not_answer 15 id t (not_call 15 x a (λ d. omega arith));
        got = not_answer 17 id t (not_call 17 x a (λ d. omega arith));
        back = not_answer 18 id t (not_call 18 x a (λ d. omega arith));
      }

-- such a turn changes nothing of what is told
module _ (id : ℕ) (t : Turn) (past : List Turn) where
  -- what only a creation tells
  module _ (e : creates 14 id t ≡ false) where
    pub address_same : address_in (t ∷ past) id ≡ address_in past id
    address_same = picked_no _ _ _ e

    pub length_same : length_in (t ∷ past) id ≡ length_in past id
    length_same = picked_no _ _ _ e

    pub size_same : size_in (t ∷ past) id ≡ size_in past id
    size_same = picked_no _ _ _ e

    pub forced_same : is_forced (t ∷ past) id ≡ is_forced past id
    forced_same = picked_no _ _ _ e

    pub lives_same : is_answer_of 15 id OK t ≡ false → pool_lives (t ∷ past) id ≡ pool_lives past id
    lives_same d = picked_no _ _ _ e ∙ picked_no _ _ _ d

  pub held_same : Quiet id t → held (t ∷ past) id ≡ held past id
  held_same q = picked_no _ _ _ q.gone ∙ picked_no _ _ _ q.got ∙ picked_no _ _ _ q.back
