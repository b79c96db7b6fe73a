-- A wake more stands behind those before it.
use mathlib.Core.Path.{refl, sym}
use mathlib.Core.List.{append-nil}
use borrow.Author.Rules.{rules}
use Rattle.scope.specs.Listing.{wake_fields}
use Rattle.text.proofs.Laws.{wrote_wake}
use Rattle.text.proofs.Writer.wakes.Goals as goal

pub loop-task-init : goal.loop-task-init
unfolding wake_fields
loop-task-init c = search (rules, append-nil)

pub loop-task-preserved : goal.loop-task-preserved
loop-task-preserved c = (
  wrote_wake c.args.self.now c.loop-task.self c.wake.new.self c.loop-task.task-index c.args.tasks.now c.args.why c.loop-task.invariant.0 c.wake.ensures.text,
  search rules,
)
