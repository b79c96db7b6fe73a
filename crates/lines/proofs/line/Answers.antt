-- `lines::line`: the line is put into bytes of our own, and copied where it fits.
use Rattle.std.proofs.Common.{ℕ, List, ◌++◌, drop, ap, ◌∙◌}
use Rattle.lines.proofs.Laws.{tells_no, tells_yes}
use Rattle.lines.proofs.line.Goals as goal

pub returns-then-out-n : goal.returns-then-out-n
returns-then-out-n c = tells_no _ _ c.put_line-n.ensures.0 c.if-out-n.true

pub returns : goal.returns
returns c =
    tells_yes _ _ c.put_line-n.ensures.0 c.if-out-n.false
    (ap (λ (text : List ℕ). text ++ drop c.put_line-n.result c.args.out.now) (c.copy_from_slice.ensures.after ∙ c.put_line-n.ensures.1))
