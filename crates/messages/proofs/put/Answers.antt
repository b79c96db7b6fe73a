-- `messages::put`: the slice that is written is the cell.
use Rattle.std.proofs.Common.{◌≡◌, length, arith, rules}
use Rattle.std.proofs.lemmas.Slice.{put_mid-paste}
use Rattle.messages.proofs.put.Goals as goal

pub returns : goal.returns
returns c =
    let long : length c.args.cell ≡ 65 = search rules in
    put_mid-paste _ _ _ _ c.args.cell 65 c.copy_from_slice.ensures.after (omega arith) (omega arith)
