-- What is said of a list's order: each stands in a relation to all behind it. So of keys that never rise, and of no doubles.
-- Assumes nothing.
use Rattle.std.specs.Prelude.{ℕ, ◌≤◌, ◌≡◌, true, List, [], ◌∷◌, get_or}
use Rattle.scope.specs.Lists.{has}
use Rattle.scope.specs.Seats.{tasks_from}

-- each x is in relation R to every u behind it
abbrev pub Along : (ℕ → ℕ → Type 0) → List ℕ → Type 0
Along R [] = Unit {0}
Along R (x ∷ xs) = ((u : ℕ) → has xs u ≡ true → R x u) × Along R xs

-- nobody stands there twice
abbrev pub Once : List ℕ → Type 0
Once xs = Along (λ x u. x ≡ u → ⊥) xs

-- the keys never rise along it
abbrev pub NeverRising : List ℕ → List ℕ → Type 0
NeverRising key xs = Along (λ x u. get_or key u 0 ≤ get_or key x 0) xs

-- the queue whose seats begin above `base`, first first: `queue q i` is the one above `queue_seats i`
abbrev pub queue_above : List ℕ → ℕ → List ℕ
queue_above q base = tasks_from q base 32 1

-- the first of a list of tasks, 32 where it is empty
abbrev pub first_in : List ℕ → ℕ
first_in [] = 32
first_in (x ∷ xs) = x
