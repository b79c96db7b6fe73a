-- What sharing a byte means: two areas share one exactly where some address lies in both; pools that are apart have none in
-- common, and an area that overlaps no live pool has none in common with any.
-- Assumes nothing.
use Prim.Native.Nat.{ℕ, ◌+◌, ◌≤◌, ◌<◌, max}
use native.Mathlib.Omega.{arith}
use mathlib.Core.Path.{◌≡◌, refl, sym, ◌∙◌}
use mathlib.Core.Logic.{⊎_elim}
use mathlib.Core.Bool.{Bool, true, false, not, ◌&&◌}
use lib.Dec.{ltb}
use lib.ListN.{get_or}
use borrow.Author.Tests.{lt-ltb, le-ltb, ltb-true, not-true}
use Rattle.scope.specs.declared.Pools.{Pools}
use Rattle.scope.specs.Choice.{pick}
use Rattle.scope.specs.Areas.{share_byte}
use Rattle.scope.specs.Pools.{overlaps, overlapped}
use Rattle.scope.specs.Rules.{pair_shares, pools_apart}
use Rattle.laws.proofs.Branches.{both, both_true, second_fails, true-false, picked_yes, picked_no, not_of_false, lt_or_le}
use Rattle.laws.proofs.Searches.{every_yes, every_at, least_below}

-- the byte at x lies in the area
abbrev pub In : ℕ → ℕ → ℕ → Type 0
In x address n = (address ≤ x) × (x < address + n)

module _ (a1 n1 a2 n2 : ℕ) where
  pub shared : 1 ≤ n1 → 1 ≤ n2 → share_byte a1 n1 a2 n2 ≡ true → (x : ℕ) × In x a1 n1 × In x a2 n2
  unfolding share_byte
  shared p q e =
      let u = both_true (ltb a1 (a2 + n2)) (ltb a2 (a1 + n1)) e in
      let l : a1 < a2 + n2 = ltb-true _ _ u.0 in
      let m : a2 < a1 + n1 = ltb-true _ _ u.1 in
      (max a1 a2, (omega arith, omega arith), (omega arith, omega arith))

  pub shares : (x : ℕ) → In x a1 n1 → In x a2 n2 → share_byte a1 n1 a2 n2 ≡ true
  unfolding share_byte
  shares x i j =
      let l : a1 < a2 + n2 = omega (arith, i.0, j.1) in
      let m : a2 < a1 + n1 = omega (arith, i.1, j.0) in
      both (ltb a1 (a2 + n2)) (ltb a2 (a1 + n1)) (lt-ltb _ _ l) (lt-ltb _ _ m)

  -- either way round
  pub share_swap : share_byte a1 n1 a2 n2 ≡ share_byte a2 n2 a1 n1
  unfolding share_byte
  share_swap = swap (ltb a1 (a2 + n2)) (ltb a2 (a1 + n1))
    where
      swap : (a b : Bool) → (a && b) ≡ (b && a)
      swap true true = refl
      swap true false = refl
      swap false true = refl
      swap false false = refl

  -- the first ends before the second begins
  pub before_apart : a1 + n1 ≤ a2 → share_byte a1 n1 a2 n2 ≡ false
  unfolding share_byte
  before_apart h = second_fails (ltb a1 (a2 + n2)) _ (le-ltb a2 (a1 + n1) h)

module _ (p : Pools) where
  -- a rule of a state, pair by pair
  pub apart_at : pools_apart p ≡ true → (i j : ℕ) → i < j → j < 8 → pair_shares p i j ≡ false
  unfolding pools_apart
  apart_at e i j h l =
      let r = every_at (λ k. pick (ltb i k) (not (pair_shares p i k)) true) 8 (every_at _ 8 e i (omega arith)) j l in
      not-true (pair_shares p i j) (sym (picked_yes (ltb i j) (not (pair_shares p i j)) true (lt-ltb i j h)) ∙ r)

  pub apart_all : ((i j : ℕ) → i < j → j < 8 → pair_shares p i j ≡ false) → pools_apart p ≡ true
  unfolding pools_apart
  apart_all f = every_yes _ 8 (λ i h. every_yes _ 8 (λ j l. go i j l))
    where
      go : (i j : ℕ) → j < 8 → pick (ltb i j) (not (pair_shares p i j)) true ≡ true
      go i j l =
          ⊎_elim
          (λ h. picked_yes (ltb i j) (not (pair_shares p i j)) true (lt-ltb i j h) ∙ not_of_false _ (f i j h l))
          (λ h. picked_no (ltb i j) (not (pair_shares p i j)) true (le-ltb i j h))
          (lt_or_le i j)

  abbrev pub IsLive : ℕ → Type 0
  IsLive i = get_or p.live i false ≡ true

  -- the byte at x lies in pool i's area
  abbrev pub InPool : ℕ → ℕ → Type 0
  InPool x i = In x (get_or p.address i 0) (get_or p.length i 0)

  -- "no two live pools share a byte"
  ordered_apart : pools_apart p ≡ true → (i j : ℕ) → i < j → j < 8 → IsLive i → IsLive j → (x : ℕ) → InPool x i → InPool x j → ⊥
  unfolding pair_shares
  ordered_apart e i j h l a b x m n =
      true-false (both _ _ a (both _ _ b (shares _ _ _ _ x m n))) (apart_at e i j h l)

  pub no_byte : pools_apart p ≡ true → (i j : ℕ) → (i ≡ j → ⊥) → i < 8 → j < 8 → IsLive i → IsLive j → (x : ℕ) → InPool x i → InPool x j → ⊥
  no_byte e i j d h l a b x m n =
      ⊎_elim
      (λ q. ordered_apart e i j q l a b x m n)
      (λ q. ordered_apart e j i (omega arith) h b a x n m)
      (lt_or_le i j)

  -- an area that creation admits shares none with a live pool
  pub no_overlap : (address n : ℕ) → 8 ≤ overlapped p address n → (i : ℕ) → i < 8 → IsLive i → (x : ℕ) → In x address n → InPool x i → ⊥
  unfolding overlapped overlaps
  no_overlap address n h i l a x m q =
      true-false (both _ _ a (shares _ _ _ _ x m q)) (least_below (overlaps p address n) 8 i (omega arith))
