-- An image as tables of fields: records by slot, the fields of a record in order, no gaps.
-- Assumes nothing.
use Rattle.std.specs.Prelude.{◌≡◌, List, [], ◌∷◌, ◌++◌, ℕ, zero, suc, ◌+◌, ◌*◌, ◌^◌, ◌<◌, length, get_or}
use Rattle.fields.specs.Numbers.{les}
use Rattle.fields.specs.Columns.{part, put_column, take_column}

-- A field has `many` numbers in a record, each of `width` bytes; its column has those of every slot.
pub record Field : Type 0 where
  pub width : ℕ
  pub many : ℕ
  pub col : List ℕ

pub record Table : Type 0 where
  pub count : ℕ
  pub fields : List Field

-- the bytes of a record
abbrev pub stride_of : List Field → ℕ
stride_of [] = 0
stride_of (f ∷ fs) = f.width * f.many + stride_of fs

abbrev pub size_of : List Table → ℕ
size_of [] = 0
size_of (t ∷ ts) = t.count * stride_of t.fields + size_of ts

-- the record of slot i: its fields one after the other
unfoldable pub record_of : ℕ → List Field → List ℕ
record_of i [] = []
record_of i (f ∷ fs) = les f.width (part f.many (i * f.many) f.col) ++ record_of i fs

-- the records of the first n slots
unfoldable pub records_of : ℕ → List Field → List ℕ
records_of zero fs = []
records_of (suc n) fs = records_of n fs ++ record_of n fs

-- table after table
unfoldable pub bytes_of : List Table → List ℕ
bytes_of [] = []
bytes_of (t ∷ ts) = records_of t.count t.fields ++ bytes_of ts

-- every column has the numbers of n slots, and each fits its width
abbrev pub Fine : ℕ → List Field → Type 0
Fine n [] = Unit {0}
Fine n (f ∷ fs) = (length f.col ≡ n * f.many) × ((k : ℕ) → get_or f.col k 0 < 256 ^ f.width) × Fine n fs

abbrev pub AllFine : List Table → Type 0
AllFine [] = Unit {0}
AllFine (t ∷ ts) = Fine t.count t.fields × AllFine ts

-- What the code does: it puts the columns one by one, each at the place of its first slot.
abbrev pub put_fields : (stride n : ℕ) → List Field → ℕ → List ℕ → List ℕ
put_fields stride n [] at s = s
put_fields stride n (f ∷ fs) at s = put_fields stride n fs (at + f.width * f.many) (put_column f.width f.many stride n f.col at s)

abbrev pub put_tables : List Table → ℕ → List ℕ → List ℕ
put_tables [] at s = s
put_tables (t ∷ ts) at s = put_tables ts (at + t.count * stride_of t.fields) (put_fields (stride_of t.fields) t.count t.fields at s)

-- and it takes them the same way: each is then the column of its field
abbrev pub FieldsRead : List ℕ → (stride n : ℕ) → List Field → ℕ → Type 0
FieldsRead b stride n [] at = Unit {0}
FieldsRead b stride n (f ∷ fs) at = (take_column f.width f.many stride n b at ≡ f.col) × FieldsRead b stride n fs (at + f.width * f.many)

abbrev pub TablesRead : List ℕ → List Table → ℕ → Type 0
TablesRead b [] at = Unit {0}
TablesRead b (t ∷ ts) at = FieldsRead b (stride_of t.fields) t.count t.fields at × TablesRead b ts (at + t.count * stride_of t.fields)
