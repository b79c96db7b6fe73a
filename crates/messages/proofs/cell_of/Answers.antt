-- `messages::cell_of`: the bytes are copied into zeros behind their number.
use Rattle.std.proofs.Common.{◌+◌, ◌-◌, arith}
use Rattle.messages.proofs.Cells.{cell_is}
use Rattle.messages.proofs.cell_of.Goals as goal

pub returns : goal.returns
returns c = cell_is c.args.message.now c.copy_from_slice.new.self c.args.n (1 + c.args.n - 1) c.requires.0 (omega arith) c.copy_from_slice.ensures.after
