-- The state check by rows: a rule that stands in a list of rules holds where the list is kept, whichever row it is, and where each
-- holds the list is kept.
-- Assumes nothing.
use mathlib.Core.Path.{◌≡◌, refl}
use mathlib.Core.Bool.{Bool, true}
use mathlib.Core.List.{List, [], ◌∷◌}
use Rattle.scope.specs.declared.State.{State}
use Rattle.scope.specs.Rules.{order_rules, table_rules, keeps, sound}
use Rattle.laws.proofs.Branches.{both, both_true}

-- the rule is a row of the list
pub data Row (rule : State → Bool) : List (State → Bool) → Type 0 where
  first : {rules : List (State → Bool)} → Row rule (rule ∷ rules)
  later : {other : State → Bool} {rules : List (State → Bool)} → Row rule rules → Row rule (other ∷ rules)

pub ruleset rows = (first, later)

-- each rule of the list holds
pub data Each (s : State) : List (State → Bool) → Type 0 where
  none : Each s []
  more : {rule : State → Bool} {rules : List (State → Bool)} → rule s ≡ true → Each s rules → Each s (rule ∷ rules)

pub row_holds : (rules : List (State → Bool)) (s : State) → keeps rules s ≡ true → (rule : State → Bool) → Row rule rules → rule s ≡ true
unfolding keeps
row_holds [] s e rule row = elim row [ ]
row_holds (test ∷ rules) s e rule first = (both_true (rule s) (keeps rules s) e).0
row_holds (other ∷ rules) s e rule (later row) = row_holds rules s (both_true (other s) (keeps rules s) e).1 rule row

pub each_keeps : (rules : List (State → Bool)) (s : State) → Each s rules → keeps rules s ≡ true
unfolding keeps
each_keeps [] s none = refl
each_keeps (rule ∷ rules) s (more h rest) = both (rule s) (keeps rules s) h (each_keeps rules s rest)

module _ (s : State) where
  pub sound-keeps : sound s ≡ true → (keeps order_rules s ≡ true) × (keeps table_rules s ≡ true)
  unfolding sound
  sound-keeps e = both_true (keeps order_rules s) (keeps table_rules s) e

  pub keeps-sound : keeps order_rules s ≡ true → keeps table_rules s ≡ true → sound s ≡ true
  unfolding sound
  keeps-sound a b = both (keeps order_rules s) (keeps table_rules s) a b
