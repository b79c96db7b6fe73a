-- Every answer to every call on every state, whatever the arguments: if its status is neither 0 nor 1 it is a refusal, which
-- gives the state back; and it is BAD_STATE just if the state breaks a rule.
-- Assumes nothing.
use Prim.Native.Nat.{ℕ}
use mathlib.Core.Path.{◌≡◌, refl, sym, subst, ap}
use mathlib.Core.Logic.{◌⊎◌, inr, ⊎_elim}
use mathlib.Core.Bool.{Bool, true, false, not}
use mathlib.Core.List.{List}
use lib.Dec.{eqb}
use borrow.Author.Tests.{eq-eqb}
use Rattle.scope.specs.declared.State.{State}
use Rattle.scope.specs.declared.Answer.{Answer}
use Rattle.scope.specs.Choice.{pick}
use Rattle.scope.specs.Statuses.{OK, PENDING, BAD_STATE}
use Rattle.scope.specs.Views.{running_task}
use Rattle.scope.specs.Answers.{answer, plain, bad_state}
use Rattle.scope.specs.Rules.{sound}
use Rattle.scope.specs.Calls.{known_calls, call_at}
use Rattle.scope.specs.Step.{answered, stepped}
use Rattle.laws.proofs.Branches.{lt_or_le, true-false, both_true, picked_no}
use Rattle.histories.specs.Refusals.{Refusal}
use Rattle.histories.proofs.Outcomes.{has, Outcome, answered_outcome, unknown}

module _ (s : State) (call mark a b c d e : ℕ) (m : List ℕ) where
  -- a state that keeps the rules, and one that does not
  pub stepped-sound : sound s ≡ true → stepped s call mark a b c d e m ≡ answered s call mark a b c d e m
  unfolding stepped
  stepped-sound h = ap (λ (t : Bool). elim t as (λ y. Answer) [ true ↦ answered s call mark a b c d e m | false ↦ bad_state s ]) h

  pub stepped_broken : sound s ≡ false → stepped s call mark a b c d e m ≡ bad_state s
  unfolding stepped
  stepped_broken h = ap (λ (t : Bool). elim t as (λ y. Answer) [ true ↦ answered s call mark a b c d e m | false ↦ bad_state s ]) h

-- done, pending, or a status and nothing more, which is not BAD_STATE
record Kind (s : State) (x : Answer) : Type 0 where
  good : eqb x.status BAD_STATE ≡ false
  kind : (x.status ≡ OK) ⊎ ((x.status ≡ PENDING) ⊎ (x ≡ plain s x.status))

not_bad : (b : Bool) → not b ≡ true → b ≡ false
not_bad true e = absurd (true-false refl (sym e))
not_bad false e = refl

answered_kind : (s : State) (call mark a b c d e : ℕ) (m : List ℕ) → Kind s (answered s call mark a b c d e m)
unfolding plain answer
answered_kind s call mark a b c d e m =
    ⊎_elim
    (λ h. let o : Outcome s (call_at call).statuses (answered s call mark a b c d e m) = answered_outcome call h s mark a b c d e m in
    record { good = not_bad _ (both_true (has (call_at call).statuses (answered s call mark a b c d e m).status) _ o.listed).1; kind = o.kind })
    (λ h. subst (Kind s) (sym (unknown s call mark a b c d e m h)) (record { good = refl; kind = inr (inr refl) }))
    (lt_or_le call known_calls)

plain_refusal : (s : State) (x : ℕ) → eqb x BAD_STATE ≡ false → Refusal s (plain s x)
unfolding plain answer
plain_refusal s x e =
    record {
      state = refl;
      values = refl;
      negative = refl;
      wakes = refl;
      woken = refl;
      why = refl;
      running = sym (picked_no (eqb x BAD_STATE) 0 (running_task s) e);
      delivers = refl;
      length = refl;
      shown = refl;
    }

broken_refusal : (s : State) → Refusal s (bad_state s)
unfolding bad_state pick
broken_refusal s = record { state = refl; values = refl; negative = refl; wakes = refl; woken = refl; why = refl; running = refl; delivers = refl; length = refl; shown = refl }

module _ (s : State) (call mark a b c d e : ℕ) (m : List ℕ) where
  abbrev it : Answer
  it = stepped s call mark a b c d e m

  pub by_rules : (P : Answer → Type 0) → (sound s ≡ true → P (answered s call mark a b c d e m)) → (sound s ≡ false → P (bad_state s)) → P it
  by_rules P f g = go (sound s) refl
    where
      go : (t : Bool) → sound s ≡ t → P it
      go true h = subst P (sym (stepped-sound s call mark a b c d e m h)) (f h)
      go false h = subst P (sym (stepped_broken s call mark a b c d e m h)) (g h)

  pub refusal : (it.status ≡ OK → ⊥) → (it.status ≡ PENDING → ⊥) → Refusal s it
  refusal =
      by_rules (λ x. (x.status ≡ OK → ⊥) → (x.status ≡ PENDING → ⊥) → Refusal s x)
      (λ h n o. let k : Kind s (answered s call mark a b c d e m) = answered_kind s call mark a b c d e m in
      ⊎_elim (λ z. absurd (n z))
      (λ r. ⊎_elim (λ z. absurd (o z)) (λ z. subst (Refusal s) (sym z) (plain_refusal s _ k.good)) r)
      k.kind)
      (λ h n o. broken_refusal s)

  -- BAD_STATE just if the state breaks a rule
  pub bad_state_lem : it.status ≡ BAD_STATE → sound s ≡ false
  bad_state_lem =
      by_rules (λ x. x.status ≡ BAD_STATE → sound s ≡ false)
      (λ h z. absurd (true-false (eq-eqb _ _ z) (answered_kind s call mark a b c d e m).good))
      (λ h z. h)

  pub broken_state : sound s ≡ false → it.status ≡ BAD_STATE
  unfolding bad_state
  broken_state h = ap (λ (x : Answer). x.status) (stepped_broken s call mark a b c d e m h)
