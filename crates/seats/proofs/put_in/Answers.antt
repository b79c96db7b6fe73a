-- `seats::put_in`: the seats by `make_ready`, the one place of the rings by `mask_filled`.
use Rattle.scope.specs.Seats.{rings_ready}
use Rattle.seats.proofs.put_in.Goals as goal

pub returns : goal.returns
unfolding rings_ready
returns c = rw (c.make_ready.ensures c.args.line.now.joined, c.mask_filled.ensures)
