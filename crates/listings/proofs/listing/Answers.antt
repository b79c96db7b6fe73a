-- A listing has at most the longest line for each record.
use native.Mathlib.Omega.{arith}
use borrow.Author.Rules.{rules}
use Rattle.listings.proofs.Parts.{begun_short}
use Rattle.listings.proofs.listing.Goals as goal

pub put-requires : goal.put-requires
put-requires c = (search rules, omega (arith, begun_short _ _ c.begin.ensures, c.if-most-out.true))
