-- What the loops over a row lean on: a row as a part of the places of all pools, and a search that takes the least of what it marks.
-- Assumes nothing.
use Prim.Native.Nat.{ℕ, ◌+◌, ◌-◌, ◌*◌, ◌≤◌, ◌<◌}
use native.Mathlib.Omega.{arith}
use Rattle.std.proofs.Common.{min}
use mathlib.Core.Path.{◌≡◌, refl, sym, subst, ap, ◌∙◌}
use mathlib.Core.Logic.{⊎_elim}
use mathlib.Core.Bool.{Bool, true, false}
use mathlib.Core.List.{List, ◌++◌}
use lib.ListN.{length, take, drop, set, length-drop, take-append-drop}
use lib.Seq.{take_all, paste, length-take-le, take-set-le, drop-set-add, set-append_left, drop-drop}
use mathlib.Core.List.{append_assoc}
use lib.Dec.{ltb}
use borrow.Author.Tests.{ltb-true, ltb-false}
use Rattle.scope.specs.Choice.{pick, least}
use Rattle.scope.specs.Places.{row_of, with_row}
use Rattle.laws.proofs.Branches.{eq_or_not, true_or_false, picked_yes, picked_no}
use Rattle.laws.proofs.Searches.{least_is}

-- the places lent as a slice are the row
pub row_lent : (places : List ℕ) (i : ℕ) → take (i * 64 + 64 - i * 64) (drop (i * 64) places) ≡ row_of places i
unfolding row_of
row_lent places i =
    let e : i * 64 + 64 - i * 64 ≡ 64 = omega arith in
    ap (λ (n : ℕ). take n (drop (i * 64) places)) e

-- a row whose 64 places are all put in
pub pasted : (places row : List ℕ) (i : ℕ) → length row ≡ 64 → paste places (i * 64) row 64 ≡ with_row places i row
unfolding with_row
pasted places row i e =
    let a : take 64 row ≡ row = take_all 64 row (omega arith) in
    ap (λ (r : List ℕ). take (i * 64) places ++ r ++ drop (i * 64 + 64) places) a ∙ append_assoc (take (i * 64) places) row (drop (i * 64 + 64) places)

-- one place of a row
pub set_row : (places : List ℕ) (i k x : ℕ) → i * 64 + 64 ≤ length places → k < 64 → set places (i * 64 + k) x ≡ with_row places i (set (row_of places i) k x)
unfolding with_row row_of
set_row places i k x room h =
    let b : ℕ = i * 64 in
    let d : List ℕ = drop b places in
    let few : k < length (take 64 d) = omega (arith, length-take-le 64 d (omega (arith, length-drop b places))) in
    sym (take-append-drop b (set places (b + k) x))
    ∙ ap (λ (l : List ℕ). l ++ drop b (set places (b + k) x)) (take-set-le b places (b + k) x (omega arith))
    ∙ ap (λ (l : List ℕ). take b places ++ l) (drop-set-add b places k x)
    ∙ ap (λ (l : List ℕ). take b places ++ set l k x) (sym (take-append-drop 64 d))
    ∙ ap (λ (l : List ℕ). take b places ++ l) (set-append_left (take 64 d) (drop 64 d) k x few)
    ∙ ap (λ (l : List ℕ). take b places ++ (set (take 64 d) k x ++ l)) (drop-drop 64 b places)

-- the lesser by a test
lesser : (x y : ℕ) → min x y ≡ pick (ltb x y) x y
unfolding pick
lesser x y = go (ltb x y) refl
  where
    go : (b : Bool) → ltb x y ≡ b → min x y ≡ pick b x y
    go true e = omega (arith, ltb-true x y e)
    go false e = omega (arith, ltb-false x y e)

-- a search over the numbers below n that does not stop: what it holds after t of them is the least that passed, n where none did
pub record Finding (n : ℕ) (p : ℕ → Bool) (found t : ℕ) : Type 0 where
  pub upto : t ≤ n
  pub bound : found ≤ n
  pub none : (j : ℕ) → j < t → j < found → p j ≡ false
  pub hit : found < n → p found ≡ true

pub finding_start : (n : ℕ) (p : ℕ → Bool) → Finding n p n 0
finding_start n p =
    record { upto = omega arith; bound = omega arith; none = λ j h. absurd (omega arith); hit = λ h. absurd (omega arith) }

module _ {n : ℕ} {p : ℕ → Bool} {found t : ℕ} (m : Finding n p found t) where
  -- a number that passes marks itself
  passed : t < n → p t ≡ true → (b : Bool) → ltb found t ≡ b → Finding n p (pick b found t) (t + 1)
  unfolding pick
  passed h e true d =
      record {
        upto = omega arith;
        bound = m.bound;
        none = λ j l k. m.none j (omega (arith, ltb-true found t d)) k;
        hit = m.hit;
      }
  passed h e false d =
      record { upto = omega arith; bound = omega arith; none = λ j l k. m.none j k (omega (arith, ltb-false found t d)); hit = λ l. e }

  -- one that fails marks n
  failed : t < n → p t ≡ false → (b : Bool) → ltb found n ≡ b → Finding n p (pick b found n) (t + 1)
  unfolding pick
  failed h e true d =
      record { upto = omega arith; bound = m.bound; none = λ j l k. before j l k; hit = m.hit }
    where
      before : (j : ℕ) → j < t + 1 → j < found → p j ≡ false
      before j l k = ⊎_elim (λ q. subst (λ (x : ℕ). p x ≡ false) (sym q) e) (λ q. m.none j (omega arith) k) (eq_or_not j t)
  failed h e false d =
      record { upto = omega arith; bound = omega arith; none = λ j l k. before j l k; hit = λ l. absurd (omega arith) }
    where
      before : (j : ℕ) → j < t + 1 → j < n → p j ≡ false
      before j l k =
          ⊎_elim (λ q. subst (λ (x : ℕ). p x ≡ false) (sym q) e) (λ q. m.none j (omega arith) (omega (arith, ltb-false found n d))) (eq_or_not j t)

  pub finding_more : {mark next : ℕ} → t < n → mark ≡ pick (p t) t n → next ≡ min found mark → Finding n p next (t + 1)
  finding_more {mark} {next} h e d =
      ⊎_elim
      (λ q. let f : mark ≡ t = e ∙ picked_yes (p t) t n q in
      subst (λ (x : ℕ). Finding n p x (t + 1)) (sym (d ∙ ap (λ (x : ℕ). min found x) f ∙ lesser found t)) (passed h q _ refl))
      (λ q. let f : mark ≡ n = e ∙ picked_no (p t) t n q in
      subst (λ (x : ℕ). Finding n p x (t + 1)) (sym (d ∙ ap (λ (x : ℕ). min found x) f ∙ lesser found n)) (failed h q _ refl))
      (true_or_false (p t))

  pub finding_done : n ≤ t → found ≡ least p n
  finding_done h = sym (least_is p n found m.bound (λ j l. m.none j (omega (arith, m.bound)) l) m.hit)
