-- `places::put_row`: the slice that is written is the row.
use Rattle.std.proofs.Common.{◌≡◌, length, ◌∙◌, arith, rules}
use Rattle.std.proofs.lemmas.Slice.{put_mid-paste}
use Rattle.places.proofs.Rows.{pasted}
use Rattle.places.proofs.put_row.Goals as goal

pub returns : goal.returns
returns c =
    let a = c.args in
    let long : length a.row ≡ 64 = search rules in
    put_mid-paste _ _ _ _ a.row 64 c.copy_from_slice.ensures.after (omega arith) (omega arith) ∙ pasted a.places.now a.row a.i long
