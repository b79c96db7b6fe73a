-- `places::bits_upto`: one bit more than the places, or all.
use borrow.Author.Tests.{lt-ltb, le-ltb}
use Rattle.scope.specs.Choice.{pick}
use Rattle.places.proofs.bits_upto.Goals as goal

pub returns-then-most-lt64 : goal.returns-then-most-lt64
unfolding pick
returns-then-most-lt64 c = rw (lt-ltb _ _ c.if-most-lt64.true) c.lowest.ensures

pub returns : goal.returns
unfolding pick
returns c = rw (le-ltb _ _ c.if-most-lt64.false) c.lowest-2.ensures
