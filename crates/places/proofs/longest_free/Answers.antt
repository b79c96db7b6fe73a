-- `places::longest_free`: what is found is the least of the buffers passed that is on the first place.
use native.Mathlib.Omega.{arith}
use mathlib.Core.Path.{◌≡◌, sym, ◌∙◌}
use borrow.Author.Rules.{rules}
use Rattle.scope.specs.Seats.{is_on}
use Rattle.scope.specs.Places.{on_place}
use Rattle.places.proofs.Rows.{finding_start, finding_more, finding_done}
use Rattle.places.proofs.longest_free.Goals as goal

pub loop-k-init : goal.loop-k-init
loop-k-init c = finding_start 64 (is_on c.args.row 1)

pub loop-k-preserved : goal.loop-k-preserved
loop-k-preserved c = finding_more c.loop-k.invariant (search rules) c.if_first.ensures c.min-found.ensures

pub returns-then-found-lt64 : goal.returns-then-found-lt64
unfolding on_place
returns-then-found-lt64 c = (search rules, c.from.ensures ∙ finding_done c.loop-k.invariant (search rules))

pub returns : goal.returns
unfolding on_place
returns c = let e : c.loop-k.found ≡ 64 = omega (arith, c.loop-k.invariant.bound, c.if-found-lt64.false) in sym e ∙ finding_done c.loop-k.invariant (search rules)
