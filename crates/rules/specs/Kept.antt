-- The rules of the pools, as one test.
-- Assumes nothing.
use Rattle.std.specs.Prelude.{Bool, ◌&&◌}
use Rattle.scope.specs.declared.Pools.{Pools}
use Rattle.scope.specs.Rules.{pools_right, orders_right, pools_apart}

abbrev pub pools_kept : Pools → Bool
pools_kept p = pools_right p && (orders_right p && pools_apart p)
