-- `columns::copy`: bytes of a slice over bytes of another.
use borrow.Author.Rules.{rules}
use Rattle.fields.proofs.Loops.{copied}
use Rattle.columns.proofs.copy.Goals as goal

pub returns : goal.returns
returns c =
    let a = c.args in
    copied a.xs.now a.s.now _ a.start a.at _ a.n (search rules) (search rules) (search rules) (search rules)
