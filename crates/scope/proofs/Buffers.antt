-- "Buffers = length ÷ size, rounded down, laid from the address, no overhead." In an area that creation admits each buffer ends
-- by the area's end, so no address wraps, and the next buffer starts a size further on.
-- Assumes nothing.
use Prim.Native.Nat.{ℕ, ◌+◌, ◌*◌, ◌/◌, ◌≤◌, ◌<◌, min}
use native.Mathlib.Omega.{arith}
use native.Mathlib.Nat.{min-le_left, mul-le-mul_right, div-mul-le_self, suc-mul}
use mathlib.Core.Path.{◌≡◌, refl}
use mathlib.Core.Bool.{Bool, true, false, ◌&&◌}
use lib.Dec.{leb}
use borrow.Author.Tests.{leb-true}
use Rattle.scope.specs.Choice.{pick}
use Rattle.scope.specs.Areas.{memory, is_area, buffers_of, buffer_address}

area_ends : (address length : ℕ) → is_area address length ≡ true → address + length ≤ memory
unfolding is_area
area_ends address length h = go (leb 1 length) h
  where
    go : (b : Bool) → (b && leb (address + length) memory) ≡ true → address + length ≤ memory
    go true e = leb-true _ _ e
    go false e = let z : ◌≡◌ {A = ℕ} 0 1 = cc in absurd (omega arith)

-- a pool's marks and places have one for each of its buffers
pub buffers_few : (length size : ℕ) → buffers_of length size ≤ 64
unfolding buffers_of pick
buffers_few length size = go (leb 1 size)
  where
    go : (b : Bool) → pick b (min (length / size) 64) 0 ≤ 64
    go true = omega arith
    go false = omega arith

-- where there is a buffer there is a size
some : (length size k : ℕ) → k < buffers_of length size → (1 ≤ size) × (k < length / size)
unfolding buffers_of pick
some length size k h = go (leb 1 size) refl h
  where
    go : (b : Bool) → leb 1 size ≡ b → k < pick b (min (length / size) 64) 0 → (1 ≤ size) × (k < length / size)
    go true e l = (leb-true _ _ e, omega (arith, min-le_left (length / size) 64))
    go false e l = absurd (omega arith)

module _ (address length size : ℕ) (area : is_area address length ≡ true) where
  ends : (k : ℕ) → k < buffers_of length size → (1 ≤ size) × (address + (k * size + size) ≤ address + length) × (address + length ≤ memory)
  ends k h =
      let s = some length size k h in
      (s.0, omega (arith, mul-le-mul_right size s.1, div-mul-le_self length size, suc-mul k size), area_ends address length area)

  -- every buffer lies in the area
  pub buffer_inside : (k : ℕ) → k < buffers_of length size → (address ≤ buffer_address address size k) × (buffer_address address size k + size ≤ address + length)
  unfolding buffer_address
  buffer_inside k h = (omega (arith, ends k h), omega (arith, ends k h))

  -- and ends by where any later one starts, so no two are at one address
  pub buffers_in_order : (k j : ℕ) → k < j → j < buffers_of length size → buffer_address address size k + size ≤ buffer_address address size j
  unfolding buffer_address
  buffers_in_order k j h b = omega (arith, mul-le-mul_right size h, suc-mul k size, ends j b)
