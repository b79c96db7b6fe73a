-- The task calls: chapter 4, as document 01 fixes it. Each is given the task's slot, its identifier being found.
-- Assumes nothing.
use Rattle.std.specs.Prelude.{ℕ, ◌+◌, Bool, true, false, not, length, get_or, set, ltb, leb, eqb}
use Rattle.scope.specs.declared.State.{State}
use Rattle.scope.specs.declared.Line.{Line}
use Rattle.scope.specs.declared.Tasks.{Tasks}
use Rattle.scope.specs.declared.Answer.{Answer}
use Rattle.scope.specs.declared.Found.{Found}
use Rattle.scope.specs.declared.Found.TheVariants.{At, Invalid}
use Rattle.scope.specs.Choice.{pick}
use Rattle.scope.specs.Identifiers.{identifier, found, lowest_usable, by_name}
use Rattle.scope.specs.Statuses.{OK, TOO_MANY_OBJECTS, NAME_NOT_FOUND, INVALID_PRIORITY, TASK_ALREADY_STARTED, TASK_NOT_STARTED, TASK_ALREADY_SUSPENDED, TASK_NOT_SUSPENDED}
use Rattle.scope.specs.Seats.{leaves, becomes_ready, rings_left, rings_ready, waits_on}
use Rattle.scope.specs.Views.{with_line, with_tasks, with_seats, with_wait, is_ready}
use Rattle.scope.specs.Answers.{plain, gives, on_found}

-- "16 priorities (0 to 15, 15 most urgent)"
abbrev pub last_priority : ℕ
last_priority = 15

-- "Task identifier 0 is SELF, the caller." (No task call comes this far with nothing running: 24 or 2 is before it.)
unfoldable pub task_found : State → ℕ → Found
task_found s id =
    pick (eqb id 0) (pick (ltb s.running 32) (At s.running) Invalid) (found s.tasks.serial s.tasks.live id)

-- slot t holds its next object
abbrev pub task_born : Tasks → ℕ → ℕ → ℕ → Tasks
task_born k t name priority =
    record {
      name = set k.name t name;
      serial = set k.serial t (get_or k.serial t 0 + 1);
      live = set k.live t true;
      started = set k.started t false;
      suspended = set k.suspended t false;
      priority = set k.priority t priority;
    }

-- "A slot without a live object holds its last serial (0 if none) and otherwise zeros"
abbrev pub task_gone : Tasks → ℕ → Tasks
task_gone k t =
    record {
      name = set k.name t 0;
      serial = k.serial;
      live = set k.live t false;
      started = set k.started t false;
      suspended = set k.suspended t false;
      priority = set k.priority t 0;
    }

abbrev pub with_started : Tasks → ℕ → Tasks
with_started k t =
    record {
      name = k.name;
      serial = k.serial;
      live = k.live;
      started = set k.started t true;
      suspended = k.suspended;
      priority = k.priority;
    }

abbrev pub with_suspended : Tasks → ℕ → Bool → Tasks
with_suspended k t b =
    record {
      name = k.name;
      serial = k.serial;
      live = k.live;
      started = k.started;
      suspended = set k.suspended t b;
      priority = k.priority;
    }

abbrev pub with_priority : Tasks → ℕ → ℕ → Tasks
with_priority k t p =
    record {
      name = k.name;
      serial = k.serial;
      live = k.live;
      started = k.started;
      suspended = k.suspended;
      priority = set k.priority t p;
    }

-- task t becomes ready
abbrev pub readied : Line → Tasks → ℕ → Line
readied l k t =
    with_seats l (becomes_ready l.seat l.joined t (get_or k.priority t 0)) (rings_ready l.rings (get_or k.priority t 0))

-- task_create: 19, 7
unfoldable pub task_create_at : State → ℕ → ℕ → ℕ → Answer
task_create_at s name priority t =
    pick (leb (length s.tasks.serial) t) (plain s TOO_MANY_OBJECTS)
    (gives (with_tasks s (task_born s.tasks t name priority)) (identifier (get_or s.tasks.serial t 0 + 1) t))

unfoldable pub task_create : State → ℕ → ℕ → Answer
task_create s name priority =
    pick (ltb last_priority priority) (plain s INVALID_PRIORITY)
    (task_create_at s name priority (lowest_usable s.tasks.serial s.tasks.live))

-- task_delete. A waiter leaves its queue, which gives its one back: the count is the units less those who stand there.
unfoldable pub task_delete_at : State → ℕ → Answer
task_delete_at s t =
    plain
    (with_line (with_tasks s (task_gone s.tasks t))
    (with_wait s.line t 0 0 (leaves s.line.seat t) (rings_left s.line.rings s.line.seat t)))
    OK

-- task_ident: 8
unfoldable pub task_ident_at : State → ℕ → Answer
task_ident_at s t =
    pick (leb (length s.tasks.live) t) (plain s NAME_NOT_FOUND)
    (gives s (identifier (get_or s.tasks.serial t 0) t))

unfoldable pub task_ident : State → ℕ → Answer
task_ident s name = task_ident_at s (by_name s.tasks.live s.tasks.name name)

-- task_start: 20
unfoldable pub task_start_at : State → ℕ → Answer
task_start_at s t =
    pick (get_or s.tasks.started t false) (plain s TASK_ALREADY_STARTED)
    (plain (with_line (with_tasks s (with_started s.tasks t)) (readied s.line s.tasks t)) OK)

-- task_suspend: 21, 22. "A suspended waiter keeps its place"; a ready task leaves the ready order.
unfoldable pub task_suspend_at : State → ℕ → Answer
task_suspend_at s t =
    pick (not (get_or s.tasks.started t false)) (plain s TASK_NOT_STARTED)
    (pick (get_or s.tasks.suspended t false) (plain s TASK_ALREADY_SUSPENDED)
    (pick (waits_on (get_or s.line.seat t 0)) (plain (with_tasks s (with_suspended s.tasks t true)) OK)
    (plain
    (with_line (with_tasks s (with_suspended s.tasks t true))
    (with_seats s.line (leaves s.line.seat t) (rings_left s.line.rings s.line.seat t)))
    OK)))

-- task_resume: 21, 23. "it becomes ready when it neither waits nor is suspended"
unfoldable pub task_resume_at : State → ℕ → Answer
task_resume_at s t =
    pick (not (get_or s.tasks.started t false)) (plain s TASK_NOT_STARTED)
    (pick (not (get_or s.tasks.suspended t false)) (plain s TASK_NOT_SUSPENDED)
    (pick (waits_on (get_or s.line.seat t 0)) (plain (with_tasks s (with_suspended s.tasks t false)) OK)
    (plain (with_line (with_tasks s (with_suspended s.tasks t false)) (readied s.line s.tasks t)) OK)))

-- task_set_priority: 19. "set_priority on a ready task takes it out and puts it in again, even for the same priority."
-- "the earlier priority for set_priority"
unfoldable pub task_set_priority_at : State → ℕ → ℕ → Answer
task_set_priority_at s priority t =
    pick (ltb last_priority priority) (plain s INVALID_PRIORITY)
    (pick (is_ready s.line s.tasks t)
    (gives
    (with_line (with_tasks s (with_priority s.tasks t priority))
    (with_seats s.line (becomes_ready (leaves s.line.seat t) s.line.joined t priority)
    (rings_ready (rings_left s.line.rings s.line.seat t) priority)))
    (get_or s.tasks.priority t 0))
    (gives (with_tasks s (with_priority s.tasks t priority)) (get_or s.tasks.priority t 0)))

-- the calls with a task's identifier
abbrev pub task_delete : State → ℕ → Answer
task_delete s id = on_found (task_found s id) s (task_delete_at s)

abbrev pub task_start : State → ℕ → Answer
task_start s id = on_found (task_found s id) s (task_start_at s)

abbrev pub task_suspend : State → ℕ → Answer
task_suspend s id = on_found (task_found s id) s (task_suspend_at s)

abbrev pub task_resume : State → ℕ → Answer
task_resume s id = on_found (task_found s id) s (task_resume_at s)

abbrev pub task_set_priority : State → ℕ → ℕ → Answer
task_set_priority s id priority = on_found (task_found s id) s (task_set_priority_at s priority)
