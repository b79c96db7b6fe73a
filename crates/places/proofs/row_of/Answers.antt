-- `places::row_of`: the slice that is copied is the row.
use Rattle.std.proofs.Common.{◌∙◌}
use Rattle.places.proofs.Rows.{row_lent}
use Rattle.places.proofs.row_of.Goals as goal

pub returns : goal.returns
returns c = c.copy_from_slice.ensures.after ∙ row_lent c.args.places.now c.args.i
