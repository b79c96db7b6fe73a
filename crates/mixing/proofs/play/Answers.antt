-- One record more is played.
use Rattle.std.proofs.Common.{ℕ, refl, ap, arith, rules, ◌-◌, ◌∙◌}
use Rattle.scope.specs.Views.{running_task}
use Rattle.mixing.specs.Mixes.{summed_with}
use Rattle.mixing.specs.Playing.{Steps}
use Rattle.mixing.proofs.Laws.{plays_more}
use Rattle.mixing.proofs.play.Goals as goal

pub loop-i-preserved : goal.loop-i-preserved
unfolding running_task
loop-i-preserved g c =
    let next = c.step-o.new.arg2 in (
      omega (arith, c.loop-i-test.true, c.loop-i.auto.i),
      plays_more (Steps g.F.Fn c.args.step.now) _ _ (c.loop-i.i - c.args.from) _ _ _ _ _ _ next _ _ (omega (arith, c.loop-i.auto.i)) c.loop-i.invariant.1 (search rules)
          (record { before = _; shows = refl; after = _; met = c.step-o.ensures; leaves = refl })
          (c.summed-sum.ensures ∙ ap (λ (n : ℕ). summed_with c.loop-i.sum c.step-o.result n next.notices.wakes) c.running_of-running.ensures),
    )
