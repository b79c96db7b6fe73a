-- Lists of numbers, as the paper's queues are: whether one is on a list, the list without it, and with it put in its place.
-- Assumes nothing.
use Rattle.std.specs.Prelude.{ℕ, Bool, true, false, not, List, [], ◌∷◌, eqb}
use Rattle.scope.specs.Choice.{pick}

-- t is on the list
abbrev pub has : List ℕ → ℕ → Bool
has [] t = false
has (x ∷ xs) t = pick (eqb x t) true (has xs t)

-- those that pass the test, in the same order
abbrev pub keep : (ℕ → Bool) → List ℕ → List ℕ
keep p [] = []
keep p (x ∷ xs) = pick (p x) (x ∷ keep p xs) (keep p xs)

-- all but t, in the same order
abbrev pub without : ℕ → List ℕ → List ℕ
without t xs = keep (λ x. not (eqb x t)) xs

-- t goes behind all those, from the first on, that stay ahead of it
abbrev pub insert : (ℕ → Bool) → ℕ → List ℕ → List ℕ
insert ahead t [] = t ∷ []
insert ahead t (x ∷ xs) = pick (ahead x) (x ∷ insert ahead t xs) (t ∷ x ∷ xs)
