-- The promises of `perform` and `step` leave no choice: two results that they allow are equal, by the answer that both stand for.
-- Assumes nothing.
use Prim.Native.Nat.{ℕ}
use mathlib.Core.Path.{◌≡◌, sym, ap, ◌∙◌}
use mathlib.Core.List.{List}
use Rattle.scope.specs.declared.State.{State}
use Rattle.scope.specs.declared.Answer.{Answer}
use Rattle.scope.specs.Choice.{pick}
use Rattle.scope.specs.Rules.{sound}
use Rattle.scope.specs.Step.{answered}
use Rattle.answers.specs.declared.Outcome.{Outcome}
use Rattle.answers.specs.Outcomes.{answer_shown}
use Rattle.answers.proofs.Outcomes.{runs_so, outcome_one}
use Rattle.answers.specs.Steps.{Steps}

module _ (s : State) (call mark a b c d e : ℕ) (m : List ℕ) (n n' : State) (wakes wakes' shown shown' : List ℕ) (r r' : Outcome) where
  abbrev Performs : State → List ℕ → List ℕ → Outcome → Type 0
  Performs x ws hs o = (answer_shown x ws hs o ≡ answered s call mark a b c d e m) × (x.running ≡ o.runs)

  abbrev Same : Type 0
  Same = (n ≡ n') × (wakes ≡ wakes') × (shown ≡ shown') × (r ≡ r')

  pub perform_one : Performs n wakes shown r → Performs n' wakes' shown' r' → Same
  perform_one p q =
      let o = outcome_one n n' wakes wakes' shown shown' r r' (p.0 ∙ sym q.0) in
      (sym (runs_so n r.runs p.1) ∙ o.0 ∙ runs_so n' r'.runs q.1, o.1, o.2, o.3)

  pub step_one : Steps s call mark a b c d e m n wakes shown r → Steps s call mark a b c d e m n' wakes' shown' r' → Same
  step_one p q =
      let same = p.0 ∙ sym q.0 in
      let state : n ≡ n' = ap (λ (x : Answer). x.state) same in
      let runs : r.runs ≡ r'.runs = p.1 ∙ ap (λ (x : State). pick (sound s) x.running 32) state ∙ sym q.1 in (
        state,
        ap (λ (x : Answer). x.wakes) same,
        ap (λ (x : Answer). x.shown) same,
        λ i.
            record {
              status = (same i).status;
              values = (same i).values;
              negative = (same i).negative;
              woken = (same i).woken;
              why = (same i).why;
              runs = runs i;
              delivers = (same i).delivers;
              length = (same i).length;
            },
      )
