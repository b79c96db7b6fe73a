-- `rules::is_within`: a shift by n leaves nothing of a number below 2 ^ n.
use mathlib.Core.Path.{sym}
use borrow.Author.Rules.{rules}
use Rattle.rules.proofs.Laws.{shifted_out, word_below}
use Rattle.rules.proofs.is_within.Goals as goal

pub returns-then-n-lt64 : goal.returns-then-n-lt64
returns-then-n-lt64 c = shifted_out c.args.out c.args.n

pub returns : goal.returns
returns c = sym (word_below c.args.out 64 c.args.n (search rules) (search rules))
