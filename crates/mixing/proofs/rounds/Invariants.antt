-- The rounds so far are played.
use Rattle.mixing.specs.Playing.{Steps, Repeats}
use Rattle.mixing.proofs.rounds.Given as goal

abbrev pub invariant-loop-round : goal.invariant-loop-round
invariant-loop-round g l = Repeats (Steps g.F.Fn l.step) l.file l.head l._round l.again l.initial.sum l.sum
