-- What tasks wait for: an object, a number below 31. Waiting asks three things of it: whether it lives, whether its queue is FIFO,
-- and its stock, from which a task is served that need not wait. 0 to 15 are the semaphores, 16 to 23 the message queues; no other
-- number is live. So an identifier may be a semaphore's and a queue's, and an object is one of them.
-- Assumes nothing.
use Rattle.std.specs.Prelude.{ℕ, ◌+◌, ◌-◌, Bool, false, List, get_or, ltb}
use Rattle.scope.specs.declared.State.{State}
use Rattle.scope.specs.declared.Semaphores.{Semaphores}
use Rattle.scope.specs.declared.Queues.{Queues}
use Rattle.scope.specs.Choice.{pick}

-- the seats of every object's queue lie below the ready tasks'
abbrev pub objects_end : ℕ
objects_end = 31

-- object 16 is the first queue
abbrev pub first_queue : ℕ
first_queue = 16

-- the object that queue i is
abbrev pub queue_object : ℕ → ℕ
queue_object i = first_queue + i

-- what a row of the semaphores and one of the queues hold for object i
unfoldable pub of_object : {A : Type 0} → List A → List A → A → ℕ → A
of_object sems queues none i = pick (ltb i first_queue) (get_or sems i none) (get_or queues (i - first_queue) none)

pub record Objects : Type 0 where
  pub live : ℕ → Bool
  pub fifo : ℕ → Bool
  pub stock : ℕ → ℕ

-- a semaphore's stock is its free units, a queue's the messages it holds
unfoldable pub objects : Semaphores → Queues → Objects
objects m u =
    record {
      live = of_object m.live u.live false;
      fifo = of_object m.fifo u.fifo false;
      stock = of_object m.units u.held 0;
    }

-- all that a state has
abbrev pub objects_of : State → Objects
objects_of s = objects s.semaphores s.queues
