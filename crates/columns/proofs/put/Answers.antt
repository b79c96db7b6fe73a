-- `columns::put`: the library's bytes of a number are its own.
use Rattle.std.proofs.Common.{◌≡◌, List, ℕ, length, take, arith, ◌∙◌, ap}
use Rattle.fields.specs.Numbers.{le}
use Rattle.fields.proofs.Bytes.{length-le}
use Rattle.fields.proofs.Loops.{stored, low_bytes}
use Rattle.columns.proofs.put.Goals as goal

pub returns : goal.returns
returns c =
    let a = c.args in
    let long : length (le a.w a.x) ≡ a.w = length-le a.w a.x in
    let low : take a.w c.to_le_bytes.result ≡ le a.w a.x =
    ap (λ (l : List ℕ). take a.w l) c.to_le_bytes.ensures ∙ low_bytes a.w a.x c.requires.1 in
    stored a.s.now (le a.w a.x) _ a.at _ (omega arith) (omega arith) (c.copy_from_slice.ensures.after ∙ low)
