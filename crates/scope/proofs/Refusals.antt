-- No refusal has the number 0.
-- Assumes nothing.
use Prim.Native.Nat.{ℕ}
use native.Mathlib.Omega.{arith}
use mathlib.Core.Path.{◌≡◌}
use Rattle.scope.specs.declared.Refusal.{Refusal}
use Rattle.scope.specs.declared.Refusal.TheVariants.{IllegalUse, InvalidParameter, InvalidId, ObjectDeleted, InvalidOptions, TooManyObjects, NameNotFound, InvalidCount, SemaphoreNotAvailable, SemaphoreOverflow, InvalidBuffSize, PoolOverlap, PoolInUse, NoMoreMemory, InvalidBuff, InvalidPriority, TaskAlreadyStarted, TaskNotStarted, TaskAlreadySuspended, TaskNotSuspended, NoCaller, BadCall, BadState, InvalidLength, QueueFull, QueueEmpty}
use Rattle.scope.specs.Refusals.{number_of}

pub number-nonzero : (r : Refusal) → number_of r ≡ 0 → ⊥
number-nonzero IllegalUse e = absurd (omega (arith, e))
number-nonzero InvalidParameter e = absurd (omega (arith, e))
number-nonzero InvalidId e = absurd (omega (arith, e))
number-nonzero ObjectDeleted e = absurd (omega (arith, e))
number-nonzero InvalidOptions e = absurd (omega (arith, e))
number-nonzero TooManyObjects e = absurd (omega (arith, e))
number-nonzero NameNotFound e = absurd (omega (arith, e))
number-nonzero InvalidCount e = absurd (omega (arith, e))
number-nonzero SemaphoreNotAvailable e = absurd (omega (arith, e))
number-nonzero SemaphoreOverflow e = absurd (omega (arith, e))
number-nonzero InvalidBuffSize e = absurd (omega (arith, e))
number-nonzero PoolOverlap e = absurd (omega (arith, e))
number-nonzero PoolInUse e = absurd (omega (arith, e))
number-nonzero NoMoreMemory e = absurd (omega (arith, e))
number-nonzero InvalidBuff e = absurd (omega (arith, e))
number-nonzero InvalidPriority e = absurd (omega (arith, e))
number-nonzero TaskAlreadyStarted e = absurd (omega (arith, e))
number-nonzero TaskNotStarted e = absurd (omega (arith, e))
number-nonzero TaskAlreadySuspended e = absurd (omega (arith, e))
number-nonzero TaskNotSuspended e = absurd (omega (arith, e))
number-nonzero NoCaller e = absurd (omega (arith, e))
number-nonzero BadCall e = absurd (omega (arith, e))
number-nonzero BadState e = absurd (omega (arith, e))
number-nonzero InvalidLength e = absurd (omega (arith, e))
number-nonzero QueueFull e = absurd (omega (arith, e))
number-nonzero QueueEmpty e = absurd (omega (arith, e))
