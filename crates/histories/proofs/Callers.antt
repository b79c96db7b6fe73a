-- How a caller is refused: a call that the table lists, with a status that its row lists and that is neither PENDING nor that of a
-- broken state; an unknown call with BAD_CALL. The rows are tried one by one.
-- Assumes nothing.
use Prim.Native.Nat.{ℕ, ◌/◌, ◌%◌, ◌^◌, ◌≤◌, ◌<◌}
use native.Mathlib.Omega.{arith}
use mathlib.Core.Path.{◌≡◌, refl, sym, ap, ◌∙◌}
use mathlib.Core.Bool.{Bool, true, false, not, ◌&&◌}
use mathlib.Core.List.{List, [], ◌∷◌}
use lib.Dec.{ltb, leb, eqb}
use borrow.Author.Tests.{leb-true, le-leb}
use Rattle.scope.specs.declared.State.{State}
use Rattle.scope.specs.declared.Answer.{Answer}
use Rattle.scope.specs.Choice.{every}
use Rattle.scope.specs.Statuses.{OK, PENDING, ILLEGAL_USE, NO_CALLER, BAD_CALL, BAD_STATE}
use Rattle.scope.specs.Answers.{plain}
use Rattle.scope.specs.Calls.{Call, known_calls, call_at, may_call}
use Rattle.scope.specs.Step.{caller_refusal, answered}
use Rattle.scope.proofs.Rows.{by_choice}
use Rattle.laws.proofs.Branches.{both_true, true-false, picked_yes}
use Rattle.laws.proofs.Searches.{every_at}

-- the row lists the status
abbrev pub has : List ℕ → ℕ → Bool
has [] x = false
has (y ∷ row) x = elim (eqb x y) [ true ↦ true | false ↦ has row x ]

-- and it is not that of a state that breaks a rule
abbrev pub fits : List ℕ → ℕ → Bool
fits row x = has row x && not (eqb x BAD_STATE)

-- every row lists 0, and how a caller is refused: always with 25, a task with 24 where it may call, an interrupt with 2 where it
-- may not
abbrev may : Call → ℕ → Bool
may c mark = eqb (c.who / 2 ^ mark % 2) 1

abbrev callers : Call → Bool
callers c =
    has c.statuses BAD_STATE && (fits c.statuses BAD_CALL && (fits c.statuses OK
    && (elim (may c 0) [ true ↦ fits c.statuses NO_CALLER | false ↦ true ]
    && elim (may c 1) [ true ↦ true | false ↦ fits c.statuses ILLEGAL_USE ])))

record Callers (c : Call) : Type 0 where
  broken : has c.statuses BAD_STATE ≡ true
  bad : fits c.statuses BAD_CALL ≡ true
  done : fits c.statuses OK ≡ true
  nobody : may c 0 ≡ true → fits c.statuses NO_CALLER ≡ true
  illegal : may c 1 ≡ false → fits c.statuses ILLEGAL_USE ≡ true

callers_says : (c : Call) → callers c ≡ true → Callers c
callers_says c e =
    let p = both_true _ _ e in
    let q = both_true _ _ p.1 in
    let o = both_true _ _ q.1 in
    let r = both_true _ _ o.1 in
    record {
      broken = p.0;
      bad = q.0;
      done = o.0;
      nobody = λ h. sym (ap (λ (b : Bool). elim b as (λ x. Bool) [ true ↦ fits c.statuses NO_CALLER | false ↦ true ]) h) ∙ r.0;
      illegal = λ h. sym (ap (λ (b : Bool). elim b as (λ x. Bool) [ true ↦ true | false ↦ fits c.statuses ILLEGAL_USE ]) h) ∙ r.1;
    }

all_call : every (λ n. callers (call_at n)) known_calls ≡ true
unfolding every
all_call = refl

module _ (call : ℕ) (below : call < known_calls) where
  row_callers : Callers (call_at call)
  row_callers = callers_says (call_at call) (every_at (λ n. callers (call_at n)) known_calls all_call call below)

  pub listed_broken : has (call_at call).statuses BAD_STATE ≡ true
  listed_broken = row_callers.broken

  pub listed_bad : fits (call_at call).statuses BAD_CALL ≡ true
  listed_bad = row_callers.bad

  pub listed_done : fits (call_at call).statuses OK ≡ true
  listed_done = row_callers.done

  pub refusal_fits : (mark running : ℕ) → eqb (caller_refusal call mark running) OK ≡ false → fits (call_at call).statuses (caller_refusal call mark running) ≡ true
  unfolding caller_refusal may_call
  refusal_fits mark running =
      let P : ℕ → Type 0 = λ x. eqb x OK ≡ false → fits (call_at call).statuses x ≡ true in
      by_choice P (leb known_calls call) (λ e. absurd (omega (arith, leb-true known_calls call e)))
      (λ e. by_choice P (ltb 1 mark) (λ f z. row_callers.bad)
      (λ f. by_choice P (eqb mark 0)
      (λ g. by_choice P (may_call call 0) (λ h. by_choice P (ltb running 32) (λ i z. absurd (true-false refl z)) (λ i z. row_callers.nobody h)) (λ h z. row_callers.bad))
      (λ g. by_choice P (may_call call 1) (λ h z. absurd (true-false refl z)) (λ h z. row_callers.illegal h))))

-- a caller's refusal is never PENDING
pub not_pending : (call mark running : ℕ) → eqb (caller_refusal call mark running) PENDING ≡ false
unfolding caller_refusal
not_pending call mark running =
    let P : ℕ → Type 0 = λ x. eqb x PENDING ≡ false in
    by_choice P _ (λ e. refl)
    (λ e. by_choice P _ (λ f. refl)
    (λ f. by_choice P _
    (λ g. by_choice P _ (λ h. by_choice P _ (λ i. refl) (λ i. refl)) (λ h. refl))
    (λ g. by_choice P _ (λ h. refl) (λ h. refl))))

-- an unknown call
pub unknown : (s : State) (call mark a b c d e : ℕ) (m : List ℕ) → known_calls ≤ call → answered s call mark a b c d e m ≡ plain s BAD_CALL
unfolding answered caller_refusal
unknown s call mark a b c d e m h =
    ap (λ (x : ℕ). elim (eqb x OK) as (λ y. Answer) [ true ↦ (call_at call).does s a b c d e m | false ↦ plain s x ])
    (picked_yes (leb known_calls call) BAD_CALL _ (le-leb known_calls call h))
