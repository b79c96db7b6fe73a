-- `messages::shown_of`: the bytes are copied into zeros.
use Rattle.std.proofs.Common.{refl}
use Rattle.messages.proofs.Cells.{shown_is}
use Rattle.messages.proofs.shown_of.Goals as goal

pub returns : goal.returns
returns c = shown_is c.args.message.now c.copy_from_slice.new.self c.args.n c.args.n c.requires.0 refl c.copy_from_slice.ensures.after
