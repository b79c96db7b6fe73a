-- `listings::told`: the whole listing where it fits, and else nothing of it.
use Rattle.listings.proofs.Rooms.{listing_no, listing_yes}
use Rattle.listings.proofs.told.Goals as goal

pub returns-then-room-n : goal.returns-then-room-n
returns-then-room-n c = listing_no _ _ c.listing-n.ensures c.if-room-n.true

pub returns : goal.returns
returns c = listing_yes _ _ c.listing-n.ensures c.if-room-n.false
