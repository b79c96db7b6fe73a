-- Ten pieces, one behind the other; the wakes told are those of the first tasks of the list.
use mathlib.Core.Path.{subst}
use mathlib.Core.List.{List}
use borrow.Author.Rules.{rules}
use Rattle.scope.specs.Listing.{line_of, wake_fields}
use Rattle.scope.specs.Replies.{Wake}
use Rattle.text.specs.declared.Writer.{Writer}
use Rattle.text.specs.Writers.{Wrote}
use Rattle.text.proofs.Laws.{all_wakes, wrote_then}
use Rattle.text.proofs.Writer.line.Goals as goal

pub returns : goal.returns
unfolding line_of
returns c = λ shown.
    let o = c.args.o.now in
    let end : Writer = c.byte.new.self in
    wrote_then c.args.self.now c.decimal.new.self end _ _ c.decimal.ensures.text
    (wrote_then c.decimal.new.self c.field.new.self end _ _ c.field.ensures.text
    (wrote_then c.field.new.self c.field-2.new.self end _ _ c.field-2.ensures.text
    (wrote_then c.field-2.new.self c.signed_field.new.self end _ _ c.signed_field.ensures.text
    (wrote_then c.signed_field.new.self c.field-3.new.self end _ _ c.field-3.ensures.text
    (wrote_then c.field-3.new.self c.field-4.new.self end _ _ c.field-4.ensures.text
    (wrote_then c.field-4.new.self c.field-5.new.self end _ _ c.field-5.ensures.text
    (wrote_then c.field-5.new.self c.wakes.new.self end _ _
    (subst (λ (ws : List Wake). Wrote c.field-5.new.self c.wakes.new.self (wake_fields ws)) (all_wakes o.woken c.args.wakes.now o.why (search rules)) c.wakes.ensures.text)
    (wrote_then c.wakes.new.self c.delivery.new.self end _ _ c.delivery.ensures.text c.byte.ensures))))))))
