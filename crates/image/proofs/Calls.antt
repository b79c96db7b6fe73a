-- What a function that puts, takes or tests the columns of a table needs of each call.
-- Assumes nothing.
use mathlib.Core.Path.{◌≡◌, ap, ◌∙◌}
use mathlib.Core.Bool.{Bool, ◌&&◌}
use mathlib.Core.List.{List}
use Prim.Native.Nat.{ℕ}
use Rattle.fields.specs.Columns.{put_column, take_column}

-- a column that was put, with as many slots as its array has, after others
pub put_after : (w S n at : ℕ) (xs : List ℕ) (m : ℕ) {s s' t : List ℕ} → s' ≡ put_column w 1 S m xs at s → m ≡ n → s ≡ t
    → s' ≡ put_column w 1 S n xs at t
put_after w S n at xs m {s} e p q = e ∙ ap (λ (k : ℕ). put_column w 1 S k xs at s) p ∙ ap (λ (l : List ℕ). put_column w 1 S n xs at l) q

-- a column that was taken, with as many slots as its array has
pub took : (w S n at : ℕ) (b : List ℕ) {xs : List ℕ} (m : ℕ) → xs ≡ take_column w 1 S m b at → m ≡ n → xs ≡ take_column w 1 S n b at
took w S n at b m e p = e ∙ ap (λ (k : ℕ). take_column w 1 S k b at) p

-- two tests, joined
pub joined : {a b p q : Bool} → a ≡ p → b ≡ q → (a && b) ≡ (p && q)
joined {b} {p} e f = ap (λ (x : Bool). x && b) e ∙ ap (λ (x : Bool). p && x) f
