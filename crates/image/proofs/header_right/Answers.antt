-- `image::header_right`: the code's test and the definition's tell the same.
use Rattle.fields.specs.Columns.{take_column}
use Rattle.fields.proofs.Testing.{tells_one}
use Rattle.image.specs.Image.{header_numbers}
use Rattle.image.specs.Tests.{header_right}
use Rattle.image.proofs.Tests.{same_tells}
use Rattle.image.proofs.header_right.Goals as goal

pub returns : goal.returns
unfolding header_right
returns c = tells_one _ _ c.is_column.ensures (same_tells (take_column 4 1 4 10 c.args.image.now 0) header_numbers)
