-- `ticks::tick`: nobody had one left, so nobody was due; or those who were are woken.
use Rattle.std.proofs.Common.{sym, ◌∙◌}
use Rattle.answers.proofs.Outcomes.{woke_moved}
use Rattle.scope.specs.Ticks.{tick}
use Rattle.ticks.proofs.Laws.{none_counted, none_due}
use Rattle.ticks.proofs.tick.Goals as goal

pub returns-then-last-eq0-clause-answer : goal.returns-then-last-eq0-clause-answer
unfolding tick
returns-then-last-eq0-clause-answer c = woke_moved _ _ _ _ _ _ _ _ _ _ _ _ c.woke.ensures c.runner.ensures (rw (← c.take_one-last.ensures.0) (none_due _ _ _ 32 0 (λ j b. none_counted _ (sym c.take_one-last.ensures.1 ∙ c.if-last-eq0.true) j)))

pub returns-clause-answer : goal.returns-clause-answer
unfolding tick
returns-clause-answer c = woke_moved _ _ _ _ _ _ _ _ _ _ _ _ c.woke-2.ensures c.runner-runs.ensures (rw (← c.take_one-last.ensures.0) c.wake_due-woken.ensures)
