-- `images::is_written`: each call tests a part of the bytes, and the tests together tell the whole.
use borrow.Author.Rules.{rules}
use Rattle.images.proofs.Tests.{tested}
use Rattle.images.proofs.is_written.Goals as goal

pub returns : goal.returns
returns c =
    tested c.args.image.now (search rules) (search rules) _ _ _ _ _ c.take_column.ensures c.ready_places-places.ensures c.header_right.ensures
    c.flags_right.ensures c.order_is.ensures
