-- `ticks::wake_due`: each turn looks at one task more, and wakes it where it was due.
use Rattle.std.proofs.Common.{◌≡◌, ◌∙◌, sym, arith, rules}
use Rattle.scope.specs.Ticks.{is_due, wake_due}
use Rattle.ticks.proofs.Laws.{due_more, due_passed}
use Rattle.ticks.proofs.wake_due.Goals as goal
use Rattle.ticks.proofs.wake_due.Goals.{then-is_due, else-is_due}

pub loop-t-preserved : goal.loop-t-preserved
unfolding is_due
loop-t-preserved c =
    elim c.if-is_due.branch [
      | then-is_due w ↦ rw (w.line-is, w.wakes-is, w.woken-is)
          ((omega arith, due_more _ _ c.loop-t.t _ (search rules) _ (sym c.is_due.ensures ∙ w.if-is_due.true) w.wake_next.ensures ∙ c.loop-t.invariant.1))
      | else-is_due w ↦ rw (w.line-is, w.wakes-is, w.woken-is)
          ((omega arith, due_passed _ _ c.loop-t.t _ (search rules) (sym c.is_due.ensures ∙ w.if-is_due.false) ∙ c.loop-t.invariant.1))
    ]

pub returns : goal.returns
unfolding wake_due
returns c = let e : c.loop-t.t ≡ 32 = omega arith in rw e at c.loop-t.invariant.1
