-- The buffers of a pool that creation admits: "laid from the address, no overhead". No two share a byte, and the address of one
-- is found as its number again.
-- Assumes nothing.
use Prim.Native.Nat.{ℕ, suc, ◌+◌, ◌-◌, ◌*◌, ◌/◌, ◌%◌, ◌≤◌, ◌<◌, min}
use native.Mathlib.Omega.{arith}
use native.Mathlib.Nat.{min-eq_left, mod-eq_of_lt, mul-le-mul_right, div-mul-le_self, suc-mul, mul-div_cancel, mul-mod_left, div-add-mod'}
use mathlib.Core.Path.{◌≡◌, refl, sym, ap, ◌∙◌}
use mathlib.Core.Logic.{⊎_elim}
use mathlib.Core.Bool.{true, false}
use lib.Dec.{leb, ltb}
use borrow.Author.Tests.{lt-ltb, le-ltb, leb-true}
use Rattle.scope.specs.Areas.{is_area, is_size, buffers_of, share_byte, buffer_address, buffer_at}
use Rattle.scope.proofs.Buffers.{buffers_in_order}
use Rattle.laws.proofs.Branches.{both_true, pick_yes, pick_no, picked_yes, lt_or_le, eq_or_not}
use Rattle.laws.proofs.Areas.Sizes.{at_below, at_inside, at_start}
use Rattle.laws.proofs.Areas.Bytes.{share_swap, before_apart}

module _ (address length size : ℕ) (area : is_area address length ≡ true) (sized : is_size length size ≡ true) where
  fits : address + length ≤ 4294967296
  unfolding is_area
  fits = leb-true _ _ (both_true (leb 1 length) _ area).1

  some : 1 ≤ size
  unfolding is_size
  some = leb-true _ _ (both_true (leb 1 size) _ sized).0

  pub count : buffers_of length size ≡ length / size
  unfolding is_size buffers_of
  count =
      let m = both_true (leb 1 (length / size)) _ (both_true (leb 1 size) _ sized).1 in
      picked_yes (leb 1 size) (min (length / size) 64) 0 (both_true (leb 1 size) _ sized).0 ∙ min-eq_left (leb-true _ _ m.1)

  -- buffer k ends before the area does
  ends : (k : ℕ) → k < buffers_of length size → k * size + size ≤ length
  ends k h =
      let l : suc k ≤ length / size = omega (arith, count) in
      let m = mul-le-mul_right size l in
      let d = div-mul-le_self length size in
      let s = suc-mul k size in
      omega arith

  -- the address does not wrap
  pub starts : (k : ℕ) → k < buffers_of length size → buffer_address address size k ≡ address + k * size
  unfolding buffer_address
  starts k h = mod-eq_of_lt (omega (arith, ends k h, fits, some))

  pub buffers_apart : (k l : ℕ) → (k ≡ l → ⊥) → k < buffers_of length size → l < buffers_of length size → share_byte (buffer_address address size k) size (buffer_address address size l) size ≡ false
  buffers_apart k l n h b =
      ⊎_elim
      (λ q. before_apart _ _ _ _ (buffers_in_order address length size area k l q b))
      (λ q. share_swap _ _ _ _ ∙ before_apart _ _ _ _ (buffers_in_order address length size area l k (omega arith) h))
      (lt_or_le k l)

  module _ (n : ℕ) (most : n ≤ buffers_of length size) where
    -- the search for x, where k is its place by division
    whole : (x k : ℕ) → address ≤ x → x - address ≡ k * size → k < n → k ≡ buffer_at address size n x
    whole x k h e l =
        let z : (x - address) % size ≡ 0 = ap (λ (y : ℕ). y % size) e ∙ mul-mod_left k size in
        let q : (x - address) / size ≡ k = ap (λ (y : ℕ). y / size) e ∙ mul-div_cancel k some in
        let b : (x - address) / size < n = omega arith in
        at_start address size n x h (λ d. omega (arith, some)) k z
        (pick_yes (ltb ((x - address) / size) n) ((x - address) / size) 64 (lt-ltb _ _ b) (sym q))

    -- a buffer's address is found as the buffer
    pub found_at : (k : ℕ) → k < n → buffer_at address size n (buffer_address address size k) ≡ k
    found_at k h = rw (starts k (omega arith)) (sym (whole (address + k * size) k (omega arith) (omega arith) h))

    -- and nothing else is found: what is found is one of the n buffers and starts at x
    pub found_is : (x : ℕ) → buffer_at address size n x < 64 → (buffer_at address size n x < n) × (buffer_address address size (buffer_at address size n x) ≡ x)
    found_is x f =
        ⊎_elim
        (λ h. absurd (omega (arith, at_below address size n x h)))
        (λ h. ⊎_elim
        (λ z. ⊎_elim (λ l. hit h z l) (λ l. absurd (omega (arith, miss h z l))) (lt_or_le ((x - address) / size) n))
        (λ z. absurd (omega (arith, at_inside address size n x h (λ d. omega (arith, some)) z)))
        (eq_or_not ((x - address) % size) 0))
        (lt_or_le x address)
      where
        miss : address ≤ x → (x - address) % size ≡ 0 → n ≤ (x - address) / size → 64 ≡ buffer_at address size n x
        miss h z l =
            at_start address size n x h (λ d. omega (arith, some)) 64 z
            (pick_no (ltb ((x - address) / size) n) ((x - address) / size) 64 (le-ltb _ _ l) refl)

        hit : address ≤ x → (x - address) % size ≡ 0 → (x - address) / size < n → (buffer_at address size n x < n) × (buffer_address address size (buffer_at address size n x) ≡ x)
        hit h z l =
            let d = div-add-mod' (x - address) size in
            let e : (x - address) / size ≡ buffer_at address size n x = whole x ((x - address) / size) h (omega arith) l in
            rw (← e) (l, starts ((x - address) / size) (omega arith) ∙ omega arith)
