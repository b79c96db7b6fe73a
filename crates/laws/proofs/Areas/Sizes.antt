-- The branches of the tests on sizes and areas, and of the search for a buffer, against their definitions.
-- Assumes nothing.
use Prim.Native.Nat.{ℕ, ◌+◌, ◌-◌, ◌*◌, ◌/◌, ◌%◌, ◌≤◌, ◌<◌}
use native.Mathlib.Omega.{arith}
use native.Mathlib.Nat.{min-eq_left, min-eq_right, mul-le-mul}
use mathlib.Core.Path.{◌≡◌, refl, sym, ◌∙◌}
use mathlib.Core.Bool.{false}
use lib.Dec.{ltb, leb}
use borrow.Author.Tests.{lt-ltb, le-ltb, le-leb, lt-leb, eq-eqb, ne_eqb}
use Rattle.scope.specs.Areas.{is_size, buffers_of, share_byte, buffer_at}
use Rattle.scope.specs.Choice.{pick}
use Rattle.laws.proofs.Branches.{pick_yes, pick_no, first_fails, second_fails, second_decides}

module _ (n size : ℕ) where
  pub size_none : size ≡ 0 → false ≡ is_size n size
  unfolding is_size
  size_none e = sym (first_fails (leb 1 size) _ (lt-leb 1 size (omega arith)))

  pub size_some : (size ≡ 0 → ⊥) → 1 ≤ n / size → leb (n / size) 64 ≡ is_size n size
  unfolding is_size
  size_some e h =
      sym (second_decides (leb 1 size) _ (le-leb 1 size (omega arith)) ∙ second_decides (leb 1 (n / size)) _ (le-leb 1 (n / size) h))

  pub size_over : n / size < 1 → false ≡ is_size n size
  unfolding is_size
  size_over h = sym (second_fails (leb 1 size) _ (first_fails (leb 1 (n / size)) _ (lt-leb 1 (n / size) h)))

  pub buffers_none : size ≡ 0 → 0 ≡ buffers_of n size
  unfolding buffers_of
  buffers_none e = pick_no (leb 1 size) _ _ (lt-leb 1 size (omega arith)) refl

  pub buffers_few : (size ≡ 0 → ⊥) → n / size < 64 → n / size ≡ buffers_of n size
  unfolding buffers_of
  buffers_few e h =
      let l : n / size ≤ 64 = omega arith in
      pick_yes (leb 1 size) _ _ (le-leb 1 size (omega arith)) (sym (min-eq_left l))

  pub buffers_most : (size ≡ 0 → ⊥) → 64 ≤ n / size → 64 ≡ buffers_of n size
  unfolding buffers_of
  buffers_most e h = pick_yes (leb 1 size) _ _ (le-leb 1 size (omega arith)) (sym (min-eq_right h))

module _ (a1 n1 a2 n2 : ℕ) where
  pub share_one : a1 < a2 + n2 → ltb a2 (a1 + n1) ≡ share_byte a1 n1 a2 n2
  unfolding share_byte
  share_one h = sym (second_decides (ltb a1 (a2 + n2)) _ (lt-ltb a1 (a2 + n2) h))

  pub share_none : a2 + n2 ≤ a1 → false ≡ share_byte a1 n1 a2 n2
  unfolding share_byte
  share_none h = sym (first_fails (ltb a1 (a2 + n2)) _ (le-ltb a1 (a2 + n2) h))

module _ (address size n x : ℕ) where
  pub at_below : x < address → 64 ≡ buffer_at address size n x
  unfolding buffer_at
  at_below h = pick_yes _ _ _ (lt-ltb x address h) refl

  pub at_empty : address ≤ x → size ≡ 0 → 64 ≡ buffer_at address size n x
  unfolding buffer_at
  at_empty h e = pick_no _ _ _ (le-ltb x address h) (pick_yes _ _ _ (eq-eqb size 0 e) refl)

  module _ (h : address ≤ x) (e : size ≡ 0 → ⊥) where
    pub at_inside : ((x - address) % size ≡ 0 → ⊥) → 64 ≡ buffer_at address size n x
    unfolding buffer_at
    at_inside r =
        pick_no _ _ _ (le-ltb x address h) (pick_no _ _ _ (ne_eqb size 0 e) (pick_no _ _ _ (ne_eqb ((x - address) % size) 0 r) refl))

    pub at_start : (r : ℕ) → (x - address) % size ≡ 0 → r ≡ pick (ltb ((x - address) / size) n) ((x - address) / size) 64 → r ≡ buffer_at address size n x
    unfolding buffer_at
    at_start r z p =
        pick_no _ _ _ (le-ltb x address h) (pick_no _ _ _ (ne_eqb size 0 e) (pick_yes _ _ _ (eq-eqb ((x - address) % size) 0 z) p))

-- the product of a buffer's number and a size is far from the end of a u64
pub far : (k size : ℕ) → k < 64 → size < 4294967296 → k * size ≤ 270582939648
far k size h l = mul-le-mul {n₂ = 63} {m₂ = 4294967296} (omega arith) (omega arith)
