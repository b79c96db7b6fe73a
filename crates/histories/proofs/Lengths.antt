-- A table whose columns are as long as those of another is sized as that one is: said once for all its columns, so that a call which sets
-- some of them shows only that setting leaves a length. Printed by tools/generate/run.
-- Assumes nothing.
use Prim.Native.Nat.{ℕ}
use mathlib.Core.Path.{◌≡◌, ap, ◌∙◌}
use mathlib.Core.List.{List, [], ◌∷◌}
use lib.ListN.{length, get_or}
use Rattle.scope.specs.declared.Tasks.{Tasks}
use Rattle.scope.specs.declared.Semaphores.{Semaphores}
use Rattle.scope.specs.declared.Pools.{Pools}
use Rattle.scope.specs.declared.Queues.{Queues}
use Rattle.histories.specs.Sound.{TasksSized, SemsSized, PoolsSized, QueuesSized}

abbrev pub tasks_lengths : Tasks → List ℕ
tasks_lengths k =
    length k.name
    ∷ length k.serial
    ∷ length k.live
    ∷ length k.started
    ∷ length k.suspended
    ∷ length k.priority
    ∷ []

pub tasks_as_long : (k w : Tasks) → tasks_lengths w ≡ tasks_lengths k → TasksSized k → TasksSized w
tasks_as_long k w same sized =
    record {
      names = ap (λ (all : List ℕ). get_or all 0 0) same ∙ sized.names;
      serials = ap (λ (all : List ℕ). get_or all 1 0) same ∙ sized.serials;
      lives = ap (λ (all : List ℕ). get_or all 2 0) same ∙ sized.lives;
      starteds = ap (λ (all : List ℕ). get_or all 3 0) same ∙ sized.starteds;
      suspendeds = ap (λ (all : List ℕ). get_or all 4 0) same ∙ sized.suspendeds;
      priorities = ap (λ (all : List ℕ). get_or all 5 0) same ∙ sized.priorities;
    }

abbrev pub sems_lengths : Semaphores → List ℕ
sems_lengths m =
    length m.name
    ∷ length m.serial
    ∷ length m.units
    ∷ length m.live
    ∷ length m.fifo
    ∷ []

pub sems_as_long : (m w : Semaphores) → sems_lengths w ≡ sems_lengths m → SemsSized m → SemsSized w
sems_as_long m w same sized =
    record {
      names = ap (λ (all : List ℕ). get_or all 0 0) same ∙ sized.names;
      serials = ap (λ (all : List ℕ). get_or all 1 0) same ∙ sized.serials;
      unitss = ap (λ (all : List ℕ). get_or all 2 0) same ∙ sized.unitss;
      lives = ap (λ (all : List ℕ). get_or all 3 0) same ∙ sized.lives;
      fifos = ap (λ (all : List ℕ). get_or all 4 0) same ∙ sized.fifos;
    }

abbrev pub pools_lengths : Pools → List ℕ
pools_lengths p =
    length p.out
    ∷ length p.name
    ∷ length p.address
    ∷ length p.length
    ∷ length p.size
    ∷ length p.serial
    ∷ length p.live
    ∷ length p.forced
    ∷ length p.place
    ∷ []

pub pools_as_long : (p w : Pools) → pools_lengths w ≡ pools_lengths p → PoolsSized p → PoolsSized w
pools_as_long p w same sized =
    record {
      outs = ap (λ (all : List ℕ). get_or all 0 0) same ∙ sized.outs;
      names = ap (λ (all : List ℕ). get_or all 1 0) same ∙ sized.names;
      addresses = ap (λ (all : List ℕ). get_or all 2 0) same ∙ sized.addresses;
      lengths = ap (λ (all : List ℕ). get_or all 3 0) same ∙ sized.lengths;
      sizes = ap (λ (all : List ℕ). get_or all 4 0) same ∙ sized.sizes;
      serials = ap (λ (all : List ℕ). get_or all 5 0) same ∙ sized.serials;
      lives = ap (λ (all : List ℕ). get_or all 6 0) same ∙ sized.lives;
      forceds = ap (λ (all : List ℕ). get_or all 7 0) same ∙ sized.forceds;
      places = ap (λ (all : List ℕ). get_or all 8 0) same ∙ sized.places;
    }

abbrev pub queues_lengths : Queues → List ℕ
queues_lengths u =
    length u.name
    ∷ length u.serial
    ∷ length u.live
    ∷ length u.fifo
    ∷ length u.limits
    ∷ length u.held
    ∷ length u.cells
    ∷ []

pub queues_as_long : (u w : Queues) → queues_lengths w ≡ queues_lengths u → QueuesSized u → QueuesSized w
queues_as_long u w same sized =
    record {
      names = ap (λ (all : List ℕ). get_or all 0 0) same ∙ sized.names;
      serials = ap (λ (all : List ℕ). get_or all 1 0) same ∙ sized.serials;
      lives = ap (λ (all : List ℕ). get_or all 2 0) same ∙ sized.lives;
      fifos = ap (λ (all : List ℕ). get_or all 3 0) same ∙ sized.fifos;
      limitss = ap (λ (all : List ℕ). get_or all 4 0) same ∙ sized.limitss;
      helds = ap (λ (all : List ℕ). get_or all 5 0) same ∙ sized.helds;
      cellss = ap (λ (all : List ℕ). get_or all 6 0) same ∙ sized.cellss;
    }
