-- Two buffers out of one live pool share no byte, since they are laid one after the other, and each lies inside its pool's area.
-- Assumes nothing.
use Prim.Native.Nat.{ℕ, ◌<◌}
use native.Mathlib.Omega.{arith}
use mathlib.Core.Path.{◌≡◌}
use mathlib.Core.Logic.{⊎_elim}
use mathlib.Core.Bool.{true, false}
use lib.ListN.{length, get_or, get_or-eq_default}
use Rattle.scope.specs.declared.Pools.{Pools}
use Rattle.scope.specs.Areas.{is_out, buffer_address}
use Rattle.scope.specs.Pools.{pool_buffers}
use Rattle.scope.proofs.Buffers.{buffer_inside}
use Rattle.laws.proofs.Branches.{true-false, lt_or_le}
use Rattle.laws.proofs.Areas.Marks.{out_below}
use Rattle.laws.proofs.Areas.Bytes.{In, InPool, shares}
use Rattle.laws.proofs.Areas.Buffers.{buffers_apart}
use Rattle.histories.specs.Sound.{PoolsSound}
use Rattle.histories.proofs.Pools.{row_says}

-- the byte at x lies in buffer k of pool i
abbrev pub InBuffer : Pools → ℕ → ℕ → ℕ → Type 0
InBuffer p i k x = In x (buffer_address (get_or p.address i 0) (get_or p.size i 0) k) (get_or p.size i 0)

-- live pool i has buffer k out
pub record Out (p : Pools) (i k : ℕ) : Type 0 where
  pub alive : get_or p.live i false ≡ true
  pub marked : is_out (get_or p.out i 0) k ≡ true

module _ (p : Pools) (sound : PoolsSound p) where
  pub slot : (i : ℕ) → get_or p.live i false ≡ true → i < 8
  slot i a = ⊎_elim (λ h. h) (λ h. absurd (true-false a (get_or-eq_default p.live false (omega (arith, sound.sized.lives))))) (lt_or_le i 8)

  one_of : (i k : ℕ) → Out p i k → k < pool_buffers p i
  one_of i k o = out_below _ k _ o.marked (row_says p sound i (slot i o.alive) o.alive).2

  pub in_pool : (i k x : ℕ) → Out p i k → InBuffer p i k x → InPool p x i
  in_pool i k x o m =
      let r = row_says p sound i (slot i o.alive) o.alive in
      let b = buffer_inside (get_or p.address i 0) (get_or p.length i 0) (get_or p.size i 0) r.0 k (one_of i k o) in
      (omega (arith, b.0, m.0), omega (arith, b.1, m.1))

  pub one_pool : (i k l x : ℕ) → Out p i k → Out p i l → (k ≡ l → ⊥) → InBuffer p i k x → InBuffer p i l x → ⊥
  one_pool i k l x a b ne m n =
      let r = row_says p sound i (slot i a.alive) a.alive in
      true-false (shares _ _ _ _ x m n)
      (buffers_apart (get_or p.address i 0) (get_or p.length i 0) (get_or p.size i 0) r.0 r.1 k l ne (one_of i k a) (one_of i l b))
