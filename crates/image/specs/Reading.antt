-- An image is written and read. "One state has one image and reading returns the state."
-- Assumes nothing.
use Rattle.std.specs.Prelude.{ℕ, ◌+◌, Bool, true, false, ◌&&◌, List, [], ◌∷◌, ◌++◌, map, length, take, drop, ltb, leb, eqb}
use Rattle.scope.specs.declared.State.{State}
use Rattle.scope.specs.declared.Line.{Line}
use Rattle.scope.specs.declared.Tasks.{Tasks}
use Rattle.scope.specs.declared.Semaphores.{Semaphores}
use Rattle.scope.specs.declared.Pools.{Pools}
use Rattle.scope.specs.declared.Queues.{Queues}
use Rattle.scope.specs.Choice.{pick}
use Rattle.scope.specs.Statuses.{OK}
use Rattle.scope.specs.Seats.{ring_mask, mask_of, runner_of}
use Rattle.scope.specs.Rules.{sound}
use Rattle.fields.specs.Numbers.{is_on}
use Rattle.fields.specs.Columns.{take_column}
use Rattle.image.specs.Image.{image_of, image_size}

abbrev pub NO_ROOM : ℕ
NO_ROOM = 31

-- ( Printed by tools/generate/run: taken
-- What stands in the bytes: a column of each table, the first slot's at the place that docs/IMAGE.md gives.
abbrev pub of_task : ℕ → List ℕ → ℕ → List ℕ
of_task w b at = take_column w 1 17 32 b (40 + at)

abbrev pub of_sem : ℕ → List ℕ → ℕ → List ℕ
of_sem w b at = take_column w 1 10 16 b (584 + at)

abbrev pub of_pool : ℕ → ℕ → List ℕ → ℕ → List ℕ
of_pool w many b at = take_column w many 92 8 b (744 + at)

abbrev pub of_queue : ℕ → ℕ → List ℕ → ℕ → List ℕ
of_queue w many b at = take_column w many 1051 8 b (1480 + at)

-- the mask of the rings is that of the seats
abbrev pub line_from : List ℕ → Line
line_from b =
    record {
      left = of_task 4 b 10;
      seat = of_task 2 b 14;
      joined = of_task 1 b 16;
      rings = ring_mask (of_task 2 b 14) ∷ [];
    }

abbrev pub tasks_from : List ℕ → Tasks
tasks_from b =
    record {
      name = of_task 4 b 0;
      serial = of_task 2 b 4;
      live = map is_on (of_task 1 b 6);
      started = map is_on (of_task 1 b 7);
      suspended = map is_on (of_task 1 b 8);
      priority = of_task 1 b 9;
    }

abbrev pub sems_from : List ℕ → Semaphores
sems_from b =
    record {
      name = of_sem 4 b 0;
      serial = of_sem 2 b 4;
      units = of_sem 2 b 6;
      live = map is_on (of_sem 1 b 8);
      fifo = map is_on (of_sem 1 b 9);
    }

abbrev pub pools_from : List ℕ → Pools
pools_from b =
    record {
      out = of_pool 8 1 b 0;
      name = of_pool 4 1 b 8;
      address = of_pool 4 1 b 12;
      length = of_pool 4 1 b 16;
      size = of_pool 4 1 b 20;
      serial = of_pool 2 1 b 24;
      live = map is_on (of_pool 1 1 b 26);
      forced = map is_on (of_pool 1 1 b 27);
      place = of_pool 1 64 b 28;
    }

abbrev pub queues_from : List ℕ → Queues
queues_from b =
    record {
      name = of_queue 4 1 b 0;
      serial = of_queue 2 1 b 4;
      live = map is_on (of_queue 1 1 b 6);
      fifo = map is_on (of_queue 1 1 b 7);
      limits = of_queue 1 2 b 8;
      held = of_queue 1 1 b 10;
      cells = of_queue 1 1040 b 11;
    }

-- )

-- the running task follows from the seats
abbrev pub state_with : Line → Tasks → Semaphores → Pools → Queues → State
state_with l k m p u =
    record { line = l; tasks = k; semaphores = m; pools = p; queues = u; running = runner_of l.seat (mask_of l.rings) }

unfoldable pub state_from : List ℕ → State
state_from b = state_with (line_from b) (tasks_from b) (sems_from b) (pools_from b) (queues_from b)

unfoldable pub same_bytes : List ℕ → List ℕ → Bool
same_bytes [] [] = true
same_bytes [] (y ∷ ys) = false
same_bytes (x ∷ xs) [] = false
same_bytes (x ∷ xs) (y ∷ ys) = eqb x y && same_bytes xs ys

-- "32 BAD_IMAGE for any bytes no state writes in the edition they name, .. a cut image too"; "bytes past it are ignored". The bytes
-- are an image where the state that stands in them breaks no rule and writes them.
unfoldable pub is_image : List ℕ → Bool
is_image b =
    leb image_size (length b) && (sound (state_from b) && same_bytes (take image_size b) (image_of (state_from b)))

pub record Wrote : Type 0 where
  pub bytes : List ℕ
  pub status : ℕ

-- "31 NO_ROOM exactly if a slice lent for an image or listing is shorter than needed, nothing written"; "bytes past it are ignored and
-- kept"
unfoldable pub puts : State → List ℕ → Wrote
puts s out =
    pick (ltb (length out) image_size) (record { bytes = out; status = NO_ROOM })
    (record { bytes = image_of s ++ drop image_size out; status = OK })
