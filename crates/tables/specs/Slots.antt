-- What a call works on, as its code has it: a slot of its table, or a refusal.
-- Assumes nothing.
use Rattle.std.specs.Prelude.{ℕ, List, get_or, Result, Ok, Err}
use Rattle.scope.specs.Identifiers.{identifier}
use Rattle.scope.specs.declared.Found.{Found}
use Rattle.scope.specs.declared.Found.TheVariants.{At, Deleted, Invalid}
use Rattle.scope.specs.declared.Refusal.{Refusal}
use Rattle.scope.specs.declared.Refusal.TheVariants.{InvalidId, ObjectDeleted}

-- the object that an identifier names, or "identifier (4, 5)"
unfoldable pub slot_of : Found → Result ℕ Refusal
slot_of (At i) = Ok i
slot_of Deleted = Err ObjectDeleted
slot_of Invalid = Err InvalidId

-- the identifier of the object in a slot
abbrev pub identifier_at : List ℕ → ℕ → ℕ
identifier_at serial i = identifier (get_or serial i 0) i
