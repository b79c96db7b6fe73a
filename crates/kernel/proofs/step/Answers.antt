-- `kernel::step`: what `perform` leaves of a sound state, and what is left of one that breaks a rule.
use Rattle.std.proofs.Common.{refl, sym, ◌∙◌}
use Rattle.answers.proofs.Steps.{steps_sound, steps_broken}
use Rattle.kernel.proofs.step.Goals as goal

pub returns-then-is_sound : goal.returns-then-is_sound
returns-then-is_sound c =
    let s = c.args.s.now in
    let r = c.args.request.now in
    steps_sound s r.call r.mark r.a r.b r.c r.d r.e c.args.message.now c.perform.new.s _ _ _
    (sym c.is_sound.ensures ∙ c.if-is_sound.true) c.perform.ensures.0 c.perform.ensures.1

pub returns : goal.returns
returns c =
    let s = c.args.s.now in
    let r = c.args.request.now in
    steps_broken s r.call r.mark r.a r.b r.c r.d r.e c.args.message.now _ _ _
    (sym c.is_sound.ensures ∙ c.if-is_sound.false) (rw c.new.ensures refl) (rw c.new.ensures refl) (rw (← c.number.ensures) c.plain.ensures)
