-- "the answers of each call are proved to stay within its row": on every state, with every argument and mark; and an unknown call
-- is answered 25, or 26 where the state breaks a rule.
-- Assumes nothing.
use Prim.Native.Nat.{ℕ, ◌≤◌, ◌<◌}
use mathlib.Core.Path.{◌≡◌, refl, ap}
use mathlib.Core.Logic.{◌⊎◌, inl, inr}
use mathlib.Core.Bool.{Bool, true, false}
use mathlib.Core.List.{List, [], ◌∷◌}
use lib.Dec.{eqb}
use Rattle.scope.specs.declared.State.{State}
use Rattle.scope.specs.declared.Answer.{Answer}
use Rattle.scope.specs.Choice.{pick}
use Rattle.scope.specs.Statuses.{BAD_CALL, BAD_STATE}
use Rattle.scope.specs.Answers.{answer, plain, bad_state}
use Rattle.scope.specs.Calls.{known_calls, call_at}
use Rattle.scope.specs.Step.{stepped}
use Rattle.rows.specs.Rows.{in_statuses, may_give}
use Rattle.laws.proofs.Branches.{both_true}
use Rattle.histories.proofs.Outcomes.{has, answered_outcome, listed_broken, unknown}
use Rattle.histories.proofs.Refusals.{by_rules}

has_in : (row : List ℕ) (x : ℕ) → has row x ≡ true → in_statuses x row ≡ true
unfolding pick
has_in [] x e = e
has_in (y ∷ row) x e = go (has_in row x) (eqb x y) e
  where
    go : (has row x ≡ true → in_statuses x row ≡ true) → (b : Bool) → elim b as (λ v. Bool) [ true ↦ true | false ↦ has row x ] ≡ true
        → pick b true (in_statuses x row) ≡ true
    go rec true f = refl
    go rec false f = rec f

module _ (s : State) (call mark a b c d e : ℕ) (m : List ℕ) where
  pub row_kept : call < known_calls → may_give call (stepped s call mark a b c d e m).status ≡ true
  unfolding may_give bad_state
  row_kept known =
      by_rules s call mark a b c d e m (λ x. in_statuses x.status (call_at call).statuses ≡ true)
      (λ h. has_in (call_at call).statuses _ (both_true (has (call_at call).statuses _) _ (answered_outcome call known s mark a b c d e m).listed).0)
      (λ h. has_in (call_at call).statuses BAD_STATE (listed_broken call known))

  pub unknown_call : known_calls ≤ call → ((stepped s call mark a b c d e m).status ≡ BAD_CALL) ⊎ ((stepped s call mark a b c d e m).status ≡ BAD_STATE)
  unfolding bad_state plain answer
  unknown_call h =
      by_rules s call mark a b c d e m (λ x. (x.status ≡ BAD_CALL) ⊎ (x.status ≡ BAD_STATE))
      (λ g. inl (ap (λ (x : Answer). x.status) (unknown s call mark a b c d e m h)))
      (λ g. inr refl)
