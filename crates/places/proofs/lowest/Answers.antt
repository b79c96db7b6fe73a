-- `places::lowest`: of 64 set bits, the highest are shifted out.
use Rattle.places.proofs.Words.{lowest_is}
use Rattle.places.proofs.lowest.Goals as goal

pub returns : goal.returns
returns c = lowest_is c.args.w c.requires.1
