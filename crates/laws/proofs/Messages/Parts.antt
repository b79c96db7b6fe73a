-- Parts of lists: a part of a part, zeros, and one part put in place of another.
-- Assumes nothing.
use Prim.Native.Nat.{ℕ, zero, suc, ◌+◌, ◌-◌, ◌≤◌}
use native.Mathlib.Omega.{arith}
use native.Mathlib.Nat.{zero-add}
use mathlib.Core.Path.{◌≡◌, sym, ap, ◌∙◌}
use mathlib.Core.List.{List, [], ◌∷◌, ◌++◌, append_assoc}
use lib.ListN.{length, take, drop, replicate, length-drop, length-replicate, take-append-drop, replicate-append-replicate}
use lib.Seq.{paste, take-paste, drop-paste, length-take-le, take-append-le, take_all, drop_at, take-take, drop-drop, take-add, drop-append-le, take-nil}

-- what is left of a part without its first elements
pub drop-take : (a b : ℕ) (l : List ℕ) → drop a (take (a + b) l) ≡ take b (drop a l)
drop-take zero b l = ap (λ (n : ℕ). take n l) (zero-add b)
drop-take (suc a) b [] = ap (drop (suc a)) (take-nil (suc a + b)) ∙ sym (take-nil b)
drop-take (suc a) b (x ∷ l) = let e : suc a + b ≡ suc (a + b) = omega arith in ap (λ (n : ℕ). drop (suc a) (take n (x ∷ l))) e ∙ drop-take a b l

-- zeros without the first n
pub drop_zeros : (n m : ℕ) → n ≤ m → drop {A = ℕ} n (replicate m 0) ≡ replicate (m - n) 0
drop_zeros n m h =
    let e : m ≡ n + (m - n) = omega arith in
    ap (λ (k : ℕ). drop {A = ℕ} n (replicate k 0)) e
    ∙ ap (drop {A = ℕ} n) (sym (replicate-append-replicate n (m - n) 0))
    ∙ drop_at (replicate n 0) (replicate (m - n) 0) n (length-replicate {A = ℕ} n 0)

-- what is put in whole
pub pasted : (d : List ℕ) (at : ℕ) (x : List ℕ) (n : ℕ) → length x ≡ n → paste d at x n ≡ take at d ++ (x ++ drop (at + n) d)
pasted d at x n e =
    ap (λ (l : List ℕ). take at d ++ l ++ drop (at + n) d) (take_all n x (omega arith))
    ∙ append_assoc (take at d) x (drop (at + n) d)

three : (x y z f : List ℕ) → x ++ (y ++ z) ++ f ≡ x ++ (y ++ (z ++ f))
three x y z f = append_assoc x (y ++ z) f ∙ ap (λ (l : List ℕ). x ++ l) (append_assoc y z f)

-- the part of d that begins at `at` and has m elements
module _ (d : List ℕ) (at m : ℕ) (room : at + m ≤ length d) where
  abbrev part : List ℕ
  part = take m (drop at d)

  -- its first b elements with what is before it, and its last ones with what is behind it
  start_of : (b : ℕ) → b ≤ m → take at d ++ take b part ≡ take (at + b) d
  start_of b h = ap (λ (l : List ℕ). take at d ++ l) (take-take b m (drop at d) h) ∙ sym (take-add at b d)

  rest_of : (c : ℕ) → c ≤ m → drop c part ++ drop (at + m) d ≡ drop (at + c) d
  rest_of c h =
      ap (λ (l : List ℕ). drop c part ++ l) (sym (drop-drop m at d))
      ∙ sym (drop-append-le c part (drop m (drop at d)) (omega (arith, length-take-le m (drop at d) (omega (arith, length-drop at d)))))
      ∙ ap (drop c) (take-append-drop m (drop at d))
      ∙ drop-drop c at d

  -- w elements from b on are another list
  pub in_middle : (b w : ℕ) (x : List ℕ) → b + w ≤ m → length x ≡ w
      → paste d (at + b) x w ≡ take at d ++ (take b part ++ (x ++ drop (b + w) part) ++ drop (at + m) d)
  in_middle b w x h e =
      let i : at + b + w ≡ at + (b + w) = omega arith in
      pasted d (at + b) x w e
      ∙ ap (λ (k : ℕ). take (at + b) d ++ (x ++ drop k d)) i
      ∙ sym
      (ap (λ (l : List ℕ). take at d ++ l) (three (take b part) x (drop (b + w) part) (drop (at + m) d))
      ∙ sym (append_assoc (take at d) (take b part) (x ++ (drop (b + w) part ++ drop (at + m) d)))
      ∙ ap (λ (l : List ℕ). l ++ (x ++ (drop (b + w) part ++ drop (at + m) d))) (start_of b (omega arith))
      ∙ ap (λ (l : List ℕ). take (at + b) d ++ (x ++ l)) (rest_of (b + w) h))

  -- b elements go up by w, and w elements x are before them
  pub moved_up : (b w : ℕ) (x : List ℕ) → b + w ≤ m → length x ≡ w
      → paste (paste d (at + w) (drop at d) b) at x w ≡ take at d ++ (x ++ (take b part ++ drop (b + w) part) ++ drop (at + m) d)
  moved_up b w x h e =
      pasted up at x w e
      ∙ ap (λ (l : List ℕ). l ++ (x ++ drop (at + w) up)) front
      ∙ ap (λ (l : List ℕ). take at d ++ (x ++ l)) behind
      ∙ sym
      (ap (λ (l : List ℕ). take at d ++ l) (three x (take b part) (drop (b + w) part) (drop (at + m) d))
      ∙ ap (λ (l : List ℕ). take at d ++ (x ++ (l ++ (drop (b + w) part ++ drop (at + m) d)))) (take-take b m (drop at d) (omega arith))
      ∙ ap (λ (l : List ℕ). take at d ++ (x ++ (take b (drop at d) ++ l))) (rest_of (b + w) h)
      ∙ ap (λ (k : ℕ). take at d ++ (x ++ (take b (drop at d) ++ drop k d))) i)
    where
      i : at + (b + w) ≡ at + w + b
      i = omega arith

      up : List ℕ
      up = paste d (at + w) (drop at d) b

      split : up ≡ take (at + w) d ++ (take b (drop at d) ++ drop (at + w + b) d)
      split = append_assoc (take (at + w) d) (take b (drop at d)) (drop (at + w + b) d)

      long : length (take (at + w) d) ≡ at + w
      long = length-take-le (at + w) d (omega arith)

      front : take at up ≡ take at d
      front =
          ap (take at) split
          ∙ take-append-le at (take (at + w) d) (take b (drop at d) ++ drop (at + w + b) d) (omega (arith, long))
          ∙ take-take at (at + w) d (omega arith)

      behind : drop (at + w) up ≡ take b (drop at d) ++ drop (at + w + b) d
      behind = ap (drop (at + w)) split ∙ drop_at (take (at + w) d) (take b (drop at d) ++ drop (at + w + b) d) (at + w) long

  -- b elements come down by w, and w elements x are behind them
  pub moved_down : (b w : ℕ) (x : List ℕ) → w + b ≤ m → length x ≡ w
      → paste (paste d at (drop (at + w) d) b) (at + b) x w ≡ take at d ++ (drop w (take (w + b) part) ++ (x ++ drop (w + b) part) ++ drop (at + m) d)
  moved_down b w x h e =
      pasted down (at + b) x w e
      ∙ ap (λ (l : List ℕ). l ++ (x ++ drop (at + b + w) down)) (take-paste d at (drop (at + w) d) b (omega arith) enough)
      ∙ ap (λ (l : List ℕ). take at d ++ take b (drop (at + w) d) ++ (x ++ l)) behind
      ∙ append_assoc (take at d) (take b (drop (at + w) d)) (x ++ drop (at + (w + b)) d)
      ∙ sym
      (ap (λ (l : List ℕ). take at d ++ l) (three (drop w (take (w + b) part)) x (drop (w + b) part) (drop (at + m) d))
      ∙ ap (λ (l : List ℕ). take at d ++ (l ++ (x ++ (drop (w + b) part ++ drop (at + m) d)))) moved
      ∙ ap (λ (l : List ℕ). take at d ++ (take b (drop (at + w) d) ++ (x ++ l))) (rest_of (w + b) h))
    where
      down : List ℕ
      down = paste d at (drop (at + w) d) b

      i : at + b + w ≡ at + (w + b)
      i = omega arith

      enough : b ≤ length (drop (at + w) d)
      enough = omega (arith, length-drop (at + w) d)

      behind : drop (at + b + w) down ≡ drop (at + (w + b)) d
      behind =
          sym (drop-drop w (at + b) down)
          ∙ ap (drop w) (drop-paste d at (drop (at + w) d) b (omega arith) enough)
          ∙ drop-drop w (at + b) d
          ∙ ap (λ (k : ℕ). drop k d) i

      moved : drop w (take (w + b) part) ≡ take b (drop (at + w) d)
      moved =
          ap (drop w) (take-take (w + b) m (drop at d) h)
          ∙ drop-take w b (drop at d)
          ∙ ap (take b) (drop-drop w at d)
