-- `messages::all_in_form`: where no queue holds a message all bytes are looked at; else the test of all queues passed.
use mathlib.Core.Path.{◌≡◌, sym, ap, ◌∙◌}
use Prim.Native.Nat.{ℕ}
use lib.ListN.{length}
use borrow.Author.Rules.{rules}
use Rattle.laws.proofs.Testing.{testing_start, testing_more, testing_done}
use Rattle.scope.specs.Messages.{cells_of, row_right, store_right}
use Rattle.scope.specs.Queues.{longest_of}
use Rattle.scope.specs.Rules.{messages_right}
use Rattle.laws.proofs.Messages.Forms.{none_held}
use Rattle.messages.proofs.all_in_form.Goals as goal

pub returns-then-zeros : goal.returns-then-zeros
unfolding messages_right
returns-then-zeros c =
    let u = c.args.queues.now in
    let size : length u.cells ≡ 8320 = search rules in
    none_held u.cells u.held u.limits _ size (sym c.zeros.ensures ∙ c.if-zeros.true) c.zeros-then-zeros.ensures

pub loop-i-init : goal.loop-i-init
loop-i-init c = testing_start _ _

pub loop-i-preserved : goal.loop-i-preserved
loop-i-preserved c =
    let u = c.args.queues.now in
    let i = c.loop-i.i in
    testing_more c.loop-i.invariant (search rules) (c.in_form-ok.ensures ∙ ap (λ (h : ℕ). row_right (cells_of u.cells i) h (longest_of u i)) c.from-held.ensures)

pub returns : goal.returns
unfolding messages_right store_right
returns c = testing_done c.loop-i.invariant (search rules)
