-- A call with an identifier answers by the slot that it names, or with the refusal.
-- Assumes nothing.
use Prim.Native.Nat.{ℕ}
use mathlib.Core.Path.{◌≡◌, refl, sym, ap, ◌∙◌}
use Rattle.std.specs.Prelude.{Result, Ok, Err}
use Rattle.scope.specs.declared.State.{State}
use Rattle.scope.specs.declared.Answer.{Answer}
use Rattle.scope.specs.declared.Refusal.{Refusal}
use Rattle.scope.specs.declared.Found.{Found}
use Rattle.scope.specs.declared.Found.TheVariants.{At, Deleted, Invalid}
use Rattle.scope.specs.Answers.{plain, on_found}
use Rattle.scope.specs.Refusals.{number_of}
use Rattle.tables.specs.Slots.{slot_of}

-- the answer by what the code found
abbrev pub on_slot : Result ℕ Refusal → State → (ℕ → Answer) → Answer
on_slot (Ok i) s g = g i
on_slot (Err r) s g = plain s (number_of r)

pub slot_answers : (s : State) (g : ℕ → Answer) (o : Found) → on_slot (slot_of o) s g ≡ on_found o s g
unfolding on_found slot_of
slot_answers s g (At i) = refl
slot_answers s g Deleted = refl
slot_answers s g Invalid = refl

-- a call with an identifier answers by the slot that it names
pub slot_found : (s : State) (g : ℕ → Answer) {f : Result ℕ Refusal} {i : ℕ} {a : Answer} (o : Found) → f ≡ slot_of o → f ≡ Ok i → a ≡ g i → a ≡ on_found o s g
slot_found s g o e h p = p ∙ (ap (λ (x : Result ℕ Refusal). on_slot x s g) (sym h ∙ e) ∙ slot_answers s g o)
