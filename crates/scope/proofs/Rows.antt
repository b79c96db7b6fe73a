-- A walk over the call table: what holds of each row holds of the row of any number, and what holds of the refusals and of a call
-- on the object found holds of the call by identifier.
-- Assumes nothing.
use Prim.Native.Nat.{ℕ, zero, suc, ◌+◌}
use native.Mathlib.Omega.{arith}
use mathlib.Core.Path.{◌≡◌, refl, subst}
use mathlib.Core.Bool.{Bool, true, false}
use mathlib.Core.List.{List, [], ◌∷◌}
use lib.ListN.{get_or}
use lib.Dec.{eqb}
use Rattle.scope.specs.declared.State.{State}
use Rattle.scope.specs.declared.Answer.{Answer}
use Rattle.scope.specs.declared.Found.{Found}
use Rattle.scope.specs.declared.Found.TheVariants.{At, Deleted, Invalid}
use Rattle.scope.specs.Choice.{pick}
use Rattle.scope.specs.Statuses.{OK}
use Rattle.scope.specs.Answers.{plain, on_found}
use Rattle.scope.specs.Calls.{Call, no_call}

-- what holds of each row of a table, whose first row is row n
pub data Rows (P : ℕ → Call → Type 0) : ℕ → List Call → Type 0 where
  none : {n : ℕ} → Rows P n []
  more : {n : ℕ} {c : Call} {cs : List Call} → P n c → Rows P (suc n) cs → Rows P n (c ∷ cs)

pub row_at : (P : ℕ → Call → Type 0) (n : ℕ) (cs : List Call) → Rows P n cs → ((k : ℕ) → P k no_call) → (k : ℕ) → P (n + k) (get_or cs k no_call)
row_at P n [] rows other k = other (n + k)
row_at P n (c ∷ cs) (more p rows) other zero = subst (λ (j : ℕ). P j c) {x = n} (omega arith) p
row_at P n (c ∷ cs) (more p rows) other (suc k) =
    subst (λ (j : ℕ). P j (get_or cs k no_call)) {x = suc n + k} (omega arith) (row_at P (suc n) cs rows other k)

-- a choice of two, by what the test said, and where that does not matter
pub by_choice : {A : Type 0} (P : A → Type 0) (b : Bool) {x y : A} → (b ≡ true → P x) → (b ≡ false → P y) → P (pick b x y)
unfolding pick
by_choice P true f g = f refl
by_choice P false f g = g refl

pub either : (P : Answer → Type 0) (b : Bool) {x y : Answer} → P x → P y → P (pick b x y)
unfolding pick
either P true p q = p
either P false p q = q

-- what each branch has by what the test said, and what both have
pub tested : {A : Type 0} (P : A → Type 0) (b : Bool) (x y : A) → (b ≡ true → P x) → (b ≡ false → P y) → P (elim b as (λ z. A) [ true ↦ x | false ↦ y ])
tested P true x y f g = f refl
tested P false x y f g = g refl

pub branch : {A : Type 0} (P : A → Type 0) (b : Bool) (x y : A) → P x → P y → P (elim b as (λ z. A) [ true ↦ x | false ↦ y ])
branch P b x y p q = tested P b x y (λ e. p) (λ e. q)

-- a call by identifier
module _ (P : Answer → Type 0) (s : State) (refused : (status : ℕ) → eqb status OK ≡ false → P (plain s status)) where
  pub by_name : (o : Found) (f : ℕ → Answer) → ((i : ℕ) → o ≡ At i → P (f i)) → P (on_found o s f)
  unfolding on_found
  by_name (At i) f g = g i refl
  by_name Deleted f g = refused _ refl
  by_name Invalid f g = refused _ refl
