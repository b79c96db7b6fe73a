-- Bytes that are no script, and too few cells, leave all as it was; else the script is watched.
use Rattle.std.proofs.Common.{List, ℕ, sym, subst, ap, ◌∙◌}
use borrow.Author.Tests.{lt-leb}
use Rattle.scope.specs.Script.{is_script}
use Rattle.laws.proofs.Branches.{first_fails, second_fails}
use Rattle.watching.specs.Watched.{grid_of, Shows}
use Rattle.watching.proofs.Laws.{none_shown, all_shown}
use Rattle.watching.proofs.grid_of.Goals as goal

pub returns-in_default : goal.returns-in_default
returns-in_default c = none_shown c.args.script.now c.args.cells.now (first_fails _ _ c.in_default.ensures.refused)

pub returns-then-cells-lt512 : goal.returns-then-cells-lt512
returns-then-cells-lt512 c =
    none_shown c.args.script.now c.args.cells.now (second_fails (is_script c.args.script.now) _ (lt-leb _ _ c.if-cells-lt512.true))

pub returns : goal.returns
returns c =
    let same = c.in-Some.ensures.bytes in
    let shown = subst (λ (s : List ℕ). Shows (grid_of s) c.args.cells.now c.watch.new.cells) same c.watch.ensures.1 in
    all_shown c.args.script.now c.args.cells.now _ (ap is_script (sym same) ∙ c.in-Some.script.tested) c.if-cells-lt512.false shown
