-- Two buffers out of live pools share no byte: buffers of one pool are laid one after the other, and each lies inside its pool's
-- area, of which no two share a byte.
-- Assumes nothing.
use Prim.Native.Nat.{ℕ}
use mathlib.Core.Path.{◌≡◌, sym, subst}
use mathlib.Core.Logic.{⊎_elim}
use Rattle.scope.specs.declared.Pools.{Pools}
use Rattle.laws.proofs.Branches.{eq_or_not}
use Rattle.laws.proofs.Areas.Bytes.{no_byte}
use Rattle.histories.specs.Sound.{PoolsSound}
use Rattle.histories.proofs.Owners.{InBuffer, Out, slot, in_pool, one_pool}

module _ (p : Pools) (sound : PoolsSound p) where
  pub buffers_out_apart : (i j k l x : ℕ) → Out p i k → Out p j l → (i ≡ j → k ≡ l → ⊥) → InBuffer p i k x → InBuffer p j l x → ⊥
  buffers_out_apart i j k l x a b ne m n =
      ⊎_elim
      (λ e. one_pool p sound i k l x a (subst (λ (v : ℕ). Out p v l) (sym e) b) (ne e) m (subst (λ (v : ℕ). InBuffer p v l x) (sym e) n))
      (λ d. no_byte p sound.apart i j d (slot p sound i a.alive) (slot p sound j b.alive) a.alive b.alive x (in_pool p sound i k x a m) (in_pool p sound j l x b n))
      (eq_or_not i j)
