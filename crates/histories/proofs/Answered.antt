-- What an event is answered with: a refusal, which gives the state back, or what the call's row of the table does. So what holds
-- of the refusals and of each row holds of every answer.
-- Assumes nothing.
use Prim.Native.Nat.{ℕ}
use native.Mathlib.Omega.{arith}
use mathlib.Core.Path.{◌≡◌, refl, sym, subst}
use mathlib.Core.Bool.{Bool, true, false}
use lib.ListN.{get_or}
use lib.Dec.{eqb}
use borrow.Author.Tests.{eq-eqb, ne_eqb}
use Rattle.scope.specs.declared.State.{State}
use Rattle.scope.specs.declared.Answer.{Answer}
use Rattle.scope.specs.Statuses.{OK}
use Rattle.scope.specs.Answers.{plain, bad_state}
use Rattle.scope.specs.Calls.{Call, calls, call_at}
use Rattle.scope.specs.Rules.{sound}
use Rattle.scope.specs.Step.{caller_refusal, answered, stepped}
pub use Rattle.scope.proofs.Rows.{Rows, none, more, row_at, by_name}
use Rattle.laws.proofs.Branches.{both, first_fails, second_fails}
use Rattle.histories.specs.History.{Event, answer_to}
use Rattle.histories.specs.Books.{answered_ok}

-- the answer to an event
module _ (P : Answer → Type 0) (s : State) (refused : (status : ℕ) → eqb status OK ≡ false → P (plain s status)) where
  -- the answer to x, by what its own row does
  pub by_own : (x : Event) → P (bad_state s) → P ((call_at x.call).does s x.a x.b x.c x.d x.e x.message) → P (answer_to s x)
  unfolding stepped answered
  by_own x bad does = whole (sound s)
    where
      part : (b : Bool) → eqb (caller_refusal x.call x.mark s.running) OK ≡ b
          → P (elim b as (λ y. Answer) [
            | true ↦ (call_at x.call).does s x.a x.b x.c x.d x.e x.message
            | false ↦ plain s (caller_refusal x.call x.mark s.running)
          ])
      part true e = does
      part false e = refused _ e

      whole : (b : Bool) → P (elim b as (λ y. Answer) [ true ↦ answered s x.call x.mark x.a x.b x.c x.d x.e x.message | false ↦ bad_state s ])
      whole true = part _ refl
      whole false = bad

  -- by what every row does
  abbrev pub Does : Event → ℕ → Call → Type 0
  Does x k c = x.call ≡ k → P (c.does s x.a x.b x.c x.d x.e x.message)

  pub by_row : (x : Event) → P (bad_state s) → Rows (Does x) 0 calls → P (answer_to s x)
  by_row x bad rows = by_own x bad (row_at (Does x) 0 calls rows (λ k e. refused _ refl) x.call (omega arith))

  -- by what row k does
  pub by_number : (x : Event) (k : ℕ) → x.call ≡ k → P (bad_state s) → P ((call_at k).does s x.a x.b x.c x.d x.e x.message) → P (answer_to s x)
  by_number x k e bad does =
      by_own x bad (subst (λ (j : ℕ). P ((call_at j).does s x.a x.b x.c x.d x.e x.message)) (sym e) does)

-- what an answer does not count as: another call, another identifier, another status
module _ (call id : ℕ) (x : Event) (a : Answer) where
  pub by_call : eqb x.call call ≡ false → answered_ok call id x a ≡ false
  unfolding answered_ok
  by_call e = first_fails (eqb x.call call) _ e

  pub by_other : (x.a ≡ id → ⊥) → answered_ok call id x a ≡ false
  unfolding answered_ok
  by_other ne = second_fails (eqb x.call call) _ (first_fails (eqb x.a id) _ (ne_eqb _ _ ne))

  pub by_status : eqb a.status OK ≡ false → answered_ok call id x a ≡ false
  unfolding answered_ok
  by_status e = second_fails (eqb x.call call) _ (second_fails (eqb x.a id) _ e)

  pub counts_as : x.call ≡ call → x.a ≡ id → a.status ≡ OK → answered_ok call id x a ≡ true
  unfolding answered_ok
  counts_as d e f = both _ _ (eq-eqb _ _ d) (both _ _ (eq-eqb _ _ e) (eq-eqb _ _ f))

-- the call made a new object, with this identifier
pub record Creates (call id : ℕ) (x : Event) (a : Answer) : Type 0 where
  pub called : x.call ≡ call
  pub done : a.status ≡ OK
  pub value : get_or a.values 0 0 ≡ id
