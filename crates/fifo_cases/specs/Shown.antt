-- Histories that show what M-111 claims, and where it does not hold, each from the fresh state of priority 5. Semaphore 64 has count 0 at
-- first, and an interrupt releases it.
-- Assumes nothing.
use Rattle.std.specs.Prelude.{ℕ, ◌≡◌, Bool, true, false, List, [], ◌∷◌, ◌++◌}
use Rattle.scope.specs.Lists.{has}
use Rattle.scope.specs.Waiting.{FOREVER}
use Rattle.histories.specs.History.{Event}
use Rattle.books.specs.Past.{Turn, past_of}
use Rattle.books.specs.Waiting.{is_fifo, waiting}
use Rattle.fifo.specs.Places.{found_ahead, releases_since, departed, granted}

-- the running task calls, with three arguments
abbrev calls : ℕ → ℕ → ℕ → ℕ → Event
calls call a b c = record { call = call; mark = 0; a = a; b = b; c = c; d = 0; e = 0; message = [] }

-- it makes the semaphore, by priority (0) or FIFO (1); makes a task of this priority; starts one; claims with a time_out
abbrev makes : ℕ → Event
makes option = calls 8 7 0 option

abbrev creates : ℕ → Event
creates priority = calls 1 9 priority 0

abbrev starts : ℕ → Event
starts task = calls 4 task 0 0

abbrev claims : ℕ → Event
claims ticks = calls 11 64 0 ticks

-- an interrupt ticks, or releases the semaphore
abbrev tick : Event
tick = record { call = 0; mark = 1; a = 0; b = 0; c = 0; d = 0; e = 0; message = [] }

abbrev release : Event
release = record { call = 12; mark = 1; a = 64; b = 0; c = 0; d = 0; e = 0; message = [] }

-- Task 65, the more urgent, waits, and then task 64: it finds one ahead. Task 65 is granted, claims again and waits again.
abbrev one_round : ℕ → List Event
one_round option = makes option ∷ creates 8 ∷ starts 65 ∷ claims FOREVER ∷ claims FOREVER ∷ release ∷ claims FOREVER ∷ []

-- By priority: task 65 comes first again and again, and task 64 waits on after three releases, more than p + 1.
abbrev pub by_priority : List Event
by_priority = one_round 0 ++ (release ∷ claims FOREVER ∷ release ∷ [])

-- FIFO: after p releases task 64 still waits, and the next grants it.
abbrev pub after_one : List Event
after_one = one_round 1

abbrev pub after_two : List Event
after_two = one_round 1 ++ (release ∷ [])

-- Five wait in a FIFO queue, tasks 65 to 69, in this order. After the first release task 67 is suspended, task 68 gets the highest
-- priority, and tasks 66 and 69 time out at the second tick: task 68, which found three ahead, is granted by the third release. Task 69
-- was behind it, and does not count.
abbrev five_wait : List Event
five_wait =
    makes 1 ∷ creates 10 ∷ creates 9 ∷ creates 8 ∷ creates 7 ∷ creates 6
    ∷ starts 65 ∷ claims FOREVER ∷ starts 66 ∷ claims 2 ∷ starts 67 ∷ claims FOREVER ∷ starts 68 ∷ claims FOREVER ∷ starts 69 ∷ claims 2 ∷ []

abbrev pub before_third : List Event
before_third = five_wait ++ (release ∷ calls 5 67 0 0 ∷ calls 7 68 15 0 ∷ tick ∷ tick ∷ release ∷ [])

abbrev pub after_third : List Event
after_third = before_third ++ (release ∷ [])

-- M-100: a delivery is no grant. Task 65 claims, times out, receives from the queue, whose identifier is 64 too, and is woken with 0 by a
-- send; and then it neither waits for the semaphore nor was granted.
abbrev pub after_delivery : List Event
after_delivery =
    makes 1 ∷ record { call = 20; mark = 0; a = 8; b = 1; c = 4; d = 0; e = 0; message = [] } ∷ creates 8 ∷ starts 65 ∷ claims 1 ∷ tick
    ∷ calls 25 64 0 FOREVER ∷ record { call = 23; mark = 1; a = 64; b = 2; c = 0; d = 0; e = 0; message = 1 ∷ 2 ∷ [] } ∷ []

-- what is told of task t at semaphore id: FIFO or not, how many it found ahead, releases since, departures since, whether it waits,
-- whether it was granted
pub record Place : Type 0 where
  pub fifo : Bool
  pub found : ℕ
  pub since : ℕ
  pub left : ℕ
  pub waits : Bool
  pub has_it : Bool

abbrev pub place : List Turn → ℕ → ℕ → Place
place past id t =
    record {
      fifo = is_fifo past id;
      found = found_ahead past t;
      since = releases_since past id t;
      left = departed past id t;
      waits = has (waiting past id) t;
      has_it = granted past t;
    }

abbrev is : Bool → ℕ → ℕ → ℕ → Bool → Bool → Place
is fifo found since left waits has_it = record { fifo = fifo; found = found; since = since; left = left; waits = waits; has_it = has_it }

pub record Shown : Type 0 where
  pub shows_by_priority : place (past_of 5 by_priority) 64 64 ≡ is false 1 3 0 true false
  pub one_release : place (past_of 5 after_one) 64 64 ≡ is true 1 1 0 true false
  pub two_releases : place (past_of 5 after_two) 64 64 ≡ is true 1 2 0 false true
  pub shows_before_third : place (past_of 5 before_third) 64 68 ≡ is true 3 2 1 true false
  pub shows_after_third : place (past_of 5 after_third) 64 68 ≡ is true 3 3 1 false true
  pub shows_after_delivery : place (past_of 5 after_delivery) 64 65 ≡ is true 0 0 0 false false
