-- `rules::order_right`: the pool's buffers are at most as many as a row has places.
use borrow.Author.Rules.{rules}
use native.Mathlib.Omega.{arith}
use mathlib.Core.Path.{◌≡◌, ap, ◌∙◌}
use lib.ListN.{length, get_or}
use Rattle.scope.proofs.Buffers.{buffers_few}
use Rattle.scope.specs.Places.{row_of}
use Rattle.scope.specs.Rules.{order_right}
use Rattle.rules.proofs.order_right.Goals as goal

pub order_right-requires : goal.order_right-requires
order_right-requires c =
    let n : length c.args.pools.now.place ≡ 512 = search rules in
    (omega arith, rw c.buffers_of-n.ensures (buffers_few _ _))

pub returns : goal.returns
returns c = c.order_right.ensures ∙ ap (order_right (row_of c.args.pools.now.place c.args.i) (get_or c.args.pools.now.out c.args.i 0)) c.buffers_of-n.ensures
