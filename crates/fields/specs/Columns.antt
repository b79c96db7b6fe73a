-- A column of a table in an image: a slot's numbers stand together, those of the next slot a stride further.
-- Assumes nothing.
use Rattle.std.specs.Prelude.{List, [], ◌∷◌, ◌++◌, ℕ, zero, suc, ◌+◌, ◌*◌, ◌≤◌, get_or}
use Rattle.std.proofs.lemmas.List.Edits.{sets}
use Rattle.fields.specs.Numbers.{les, numbers}

-- n numbers of a list from place k on (0 past its end)
unfoldable pub part : ℕ → ℕ → List ℕ → List ℕ
part zero k xs = []
part (suc n) k xs = get_or xs k 0 ∷ part n (suc k) xs

-- The first n slots of a column are written: `many` numbers a slot, each of w bytes, those of slot 0 at `at`.
unfoldable pub put_column : (w many stride n : ℕ) → List ℕ → ℕ → List ℕ → List ℕ
put_column w many stride zero xs at s = s
put_column w many stride (suc n) xs at s = sets (put_column w many stride n xs at s) (at + n * stride) (les w (part many (n * many) xs))

-- They are read.
unfoldable pub take_column : (w many stride n : ℕ) → List ℕ → ℕ → List ℕ
take_column w many stride zero s at = []
take_column w many stride (suc n) s at = take_column w many stride n s at ++ numbers w many s (at + n * stride)

-- n slots of w bytes each, a stride apart, lie within an image of that size
abbrev pub Room : (w stride n at size : ℕ) → Type 0
Room w stride n at size = at + n * stride + w ≤ size + stride
