-- A state is sound by its parts: what a call leaves alone stays sound, and who runs follows from where tasks stand.
-- Assumes nothing.
use mathlib.Core.Path.{refl}
use Rattle.scope.specs.declared.State.{State}
use Rattle.scope.specs.declared.Line.{Line}
use Rattle.scope.specs.declared.Tasks.{Tasks}
use Rattle.scope.specs.declared.Semaphores.{Semaphores}
use Rattle.scope.specs.declared.Queues.{Queues}
use Rattle.scope.specs.Objects.{objects, objects_of}
use Rattle.scope.specs.Views.{with_line, with_tasks, with_semaphores, with_queues}
use Rattle.histories.specs.Sound.{LineSound, TasksSound, SemsSound, QueuesSound, Sound}

module _ (s : State) (ok : Sound s) where
  -- tasks stand elsewhere, and the tables of tasks and semaphores may change with it; who runs is told anew
  pub all_sound : (l : Line) (k : Tasks) (m : Semaphores) → LineSound l k (objects m s.queues) → TasksSound k → SemsSound m
      → Sound (with_line (with_tasks (with_semaphores s m) k) l)
  all_sound l k m line tasks sems = record { line = line; tasks = tasks; semaphores = sems; pools = ok.pools; queues = ok.queues; running = refl }

  -- tasks stand elsewhere
  pub line_sound : (l : Line) → LineSound l s.tasks (objects_of s) → Sound (with_line s l)
  line_sound l line = record { line = line; tasks = ok.tasks; semaphores = ok.semaphores; pools = ok.pools; queues = ok.queues; running = refl }

  -- tasks stand where they stood, and a table changes
  pub tasks_sound : (k : Tasks) → LineSound s.line k (objects_of s) → TasksSound k → Sound (with_tasks s k)
  tasks_sound k line tasks = record { line = line; tasks = tasks; semaphores = ok.semaphores; pools = ok.pools; queues = ok.queues; running = ok.running }

  pub semaphores_sound : (m : Semaphores) → LineSound s.line s.tasks (objects m s.queues) → SemsSound m → Sound (with_semaphores s m)
  semaphores_sound m line sems = record { line = line; tasks = ok.tasks; semaphores = sems; pools = ok.pools; queues = ok.queues; running = ok.running }

  pub queues_sound : (u : Queues) → LineSound s.line s.tasks (objects s.semaphores u) → QueuesSound u → Sound (with_queues s u)
  queues_sound u line queues = record { line = line; tasks = ok.tasks; semaphores = ok.semaphores; pools = ok.pools; queues = queues; running = ok.running }

  -- tasks stand elsewhere, and the table of queues changes
  pub both_sound : (l : Line) (u : Queues) → LineSound l s.tasks (objects s.semaphores u) → QueuesSound u → Sound (with_line (with_queues s u) l)
  both_sound l u line queues = record { line = line; tasks = ok.tasks; semaphores = ok.semaphores; pools = ok.pools; queues = queues; running = refl }
