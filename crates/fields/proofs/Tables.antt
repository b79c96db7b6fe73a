-- Columns put one by one, each a stride apart, make the records one after the other; and what was put is read back. For any tables.
-- Assumes nothing.
use mathlib.Core.Path.{◌≡◌, refl, sym, ap, ◌∙◌, subst}
use mathlib.Core.Logic.{⊎_elim}
use mathlib.Core.List.{List, [], ◌∷◌, ◌++◌}
use Prim.Native.Nat.{ℕ, zero, suc, ◌+◌, ◌-◌, ◌*◌, ◌^◌, ◌≤◌, ◌<◌}
use native.Mathlib.Nat.{suc-mul, eq-zero-or-pos}
use native.Mathlib.Omega.{arith}
use lib.ListN.{length, take, drop, get_or, length-append, take-append-drop}
use lib.Seq.{sets}
use Rattle.fields.specs.Numbers.{les, numbers}
use Rattle.fields.specs.Columns.{part, put_column, take_column}
use Rattle.fields.specs.Fields.{Field, Table, Fine, AllFine, stride_of, size_of, record_of, records_of, bytes_of, put_fields, put_tables, FieldsRead, TablesRead}
use Rattle.fields.proofs.Stores.{sets-sets, sets-append, front}
use Rattle.fields.proofs.Bytes.{Bytes, Holds, length_row, part-add, part_all, holds_left, holds_right_lem, holds_seam, numbers_back, bytes_none, bytes_append, bytes_les}

-- ---- how long records and images are

pub length_record : (i : ℕ) (fs : List Field) → length (record_of i fs) ≡ stride_of fs
unfolding record_of
length_record i [] = refl
length_record i (f ∷ fs) =
    length-append (les f.width (part f.many (i * f.many) f.col)) (record_of i fs)
    ∙ (omega (arith, length_row f.width f.many (i * f.many) f.col, length_record i fs))

pub length_records : (n : ℕ) (fs : List Field) → length (records_of n fs) ≡ n * stride_of fs
unfolding records_of
length_records zero fs = omega arith
length_records (suc n) fs =
    length-append (records_of n fs) (record_of n fs) ∙ (omega (arith, length_record n fs, length_records n fs, suc-mul n (stride_of fs)))

pub size_is : (ts : List Table) → length (bytes_of ts) ≡ size_of ts
unfolding bytes_of
size_is [] = refl
size_is (t ∷ ts) =
    length-append (records_of t.count t.fields) (bytes_of ts) ∙ (omega (arith, length_records t.count t.fields, size_is ts))

-- ---- writing

-- what is stored past the slots of a column may be stored before it
put_past : (w many S n : ℕ) (xs : List ℕ) (at : ℕ) (bs s : List ℕ) (q : ℕ) → at + n * S + w * many ≤ q + S
    → put_column w many S n xs at (sets s q bs) ≡ sets (put_column w many S n xs at s) q bs
unfolding put_column
put_past w many S zero xs at bs s q h = refl
put_past w many S (suc n) xs at bs s q h =
    let row = les w (part many (n * many) xs) in
    let before : at + n * S + w * many ≤ q + S = omega (arith, suc-mul n S) in
    let apart : at + n * S + length row ≤ q = omega (arith, suc-mul n S, length_row w many (n * many) xs) in
    ap (λ (r : List ℕ). sets r (at + n * S) row) (put_past w many S n xs at bs s q before)
    ∙ sym (sets-sets row bs (put_column w many S n xs at s) (at + n * S) q apart)

fields_past : (S n : ℕ) (fs : List Field) (at : ℕ) (bs s : List ℕ) (q : ℕ) → at + n * S + stride_of fs ≤ q + S
    → put_fields S n fs at (sets s q bs) ≡ sets (put_fields S n fs at s) q bs
fields_past S n [] at bs s q h = refl
fields_past S n (f ∷ fs) at bs s q h =
    let size = f.width * f.many in
    let first : at + n * S + f.width * f.many ≤ q + S = omega arith in
    let rest : at + size + n * S + stride_of fs ≤ q + S = omega arith in
    ap (λ (r : List ℕ). put_fields S n fs (at + size) r) (put_past f.width f.many S n f.col at bs s q first)
    ∙ fields_past S n fs (at + size) bs (put_column f.width f.many S n f.col at s) q rest

-- the columns of one slot more are its record, behind those before it
slot : (S n : ℕ) (fs : List Field) (at : ℕ) (s : List ℕ) → stride_of fs ≤ S
    → put_fields S (suc n) fs at s ≡ sets (put_fields S n fs at s) (at + n * S) (record_of n fs)
unfolding put_column record_of
slot S n [] at s l = refl
slot S n (f ∷ fs) at s l =
    let size = f.width * f.many in
    let row = les f.width (part f.many (n * f.many) f.col) in
    let here = put_column f.width f.many S n f.col at s in
    let all = put_fields S n fs (at + size) here in
    let l' : stride_of fs ≤ S = omega arith in
    let past : at + size + n * S + stride_of fs ≤ at + n * S + S = omega arith in
    let next : at + size + n * S ≡ at + n * S + length row = omega (arith, length_row f.width f.many (n * f.many) f.col) in
    slot S n fs (at + size) (sets here (at + n * S) row) l'
    ∙ ap (λ (r : List ℕ). sets r (at + size + n * S) (record_of n fs)) (fields_past S n fs (at + size) row here (at + n * S) past)
    ∙ ap (λ (k : ℕ). sets (sets all (at + n * S) row) k (record_of n fs)) next
    ∙ sym (sets-append row (record_of n fs) all (at + n * S))

none : (S : ℕ) (fs : List Field) (at : ℕ) (s : List ℕ) → put_fields S 0 fs at s ≡ s
unfolding put_column
none S [] at s = refl
none S (f ∷ fs) at s = none S fs (at + f.width * f.many) s

table : (n : ℕ) (fs : List Field) (at : ℕ) (s : List ℕ) → put_fields (stride_of fs) n fs at s ≡ sets s at (records_of n fs)
unfolding records_of
table zero fs at s = none (stride_of fs) fs at s
table (suc n) fs at s =
    let S = stride_of fs in
    let l : S ≤ S = omega arith in
    slot S n fs at s l
    ∙ ap (λ (r : List ℕ). sets r (at + n * S) (record_of n fs)) (table n fs at s)
    ∙ ap (λ (k : ℕ). sets (sets s at (records_of n fs)) (at + k) (record_of n fs)) (sym (length_records n fs))
    ∙ sym (sets-append (records_of n fs) (record_of n fs) s at)

-- the columns of all tables, put one by one, are the image
pub all_put : (ts : List Table) (at : ℕ) (s : List ℕ) → put_tables ts at s ≡ sets s at (bytes_of ts)
unfolding bytes_of
all_put [] at s = refl
all_put (t ∷ ts) at s =
    let n = t.count in
    let fs = t.fields in
    let S = stride_of fs in
    all_put ts (at + n * S) (put_fields S n fs at s)
    ∙ ap (λ (r : List ℕ). sets r (at + n * S) (bytes_of ts)) (table n fs at s)
    ∙ ap (λ (k : ℕ). sets (sets s at (records_of n fs)) (at + k) (bytes_of ts)) (sym (length_records n fs))
    ∙ sym (sets-append (records_of n fs) (bytes_of ts) s at)

-- written over a slice with room for it, the image stands at the front and the rest is kept
pub written : (ts : List Table) (s : List ℕ) → size_of ts ≤ length s → put_tables ts 0 s ≡ bytes_of ts ++ drop (size_of ts) s
written ts s h =
    let l : length (bytes_of ts) ≤ length s = omega (arith, size_is ts) in
    all_put ts 0 s ∙ front (bytes_of ts) s l ∙ ap (λ (k : ℕ). bytes_of ts ++ drop k s) (size_is ts)

-- every byte of an image is one
bytes_record : (i : ℕ) (fs : List Field) → Bytes (record_of i fs)
unfolding record_of
bytes_record i [] = bytes_none
bytes_record i (f ∷ fs) =
    let row = part f.many (i * f.many) f.col in
    bytes_append (les f.width row) (record_of i fs) (bytes_les f.width row) (bytes_record i fs)

bytes_records : (n : ℕ) (fs : List Field) → Bytes (records_of n fs)
unfolding records_of
bytes_records zero fs = bytes_none
bytes_records (suc n) fs = bytes_append (records_of n fs) (record_of n fs) (bytes_records n fs) (bytes_record n fs)

pub bytes_all : (ts : List Table) → Bytes (bytes_of ts)
unfolding bytes_of
bytes_all [] = bytes_none
bytes_all (t ∷ ts) = bytes_append (records_of t.count t.fields) (bytes_of ts) (bytes_records t.count t.fields) (bytes_all ts)

-- ---- reading

-- the field's numbers of n slots are read where its records stand
column_back : (w many S : ℕ) (col b : List ℕ) (at n : ℕ) → ((k : ℕ) → get_or col k 0 < 256 ^ w)
    → ((i : ℕ) → i < n → Holds b (at + i * S) (les w (part many (i * many) col))) → take_column w many S n b at ≡ part (n * many) 0 col
unfolding take_column part
column_back w many S col b at zero small there = let e : 0 ≡ 0 * many = omega arith in ap (λ (k : ℕ). part k 0 col) e
column_back w many S col b at (suc n) small there =
    let last : n < suc n = omega arith in
    let e : n * many + many ≡ suc n * many = sym (suc-mul n many) in
    let z : 0 + n * many ≡ n * many = omega arith in
    ap (λ (r : List ℕ). r ++ numbers w many b (at + n * S))
    (column_back w many S col b at n small (λ (i : ℕ) (h : i < n). there i (let l : i < suc n = omega arith in l)))
    ∙ ap (λ (r : List ℕ). part (n * many) 0 col ++ r) (numbers_back w many (n * many) col b (at + n * S) small (there n last))
    ∙ ap (λ (k : ℕ). part (n * many) 0 col ++ part many k col) (sym z)
    ∙ sym (part-add (n * many) many 0 col)
    ∙ ap (λ (k : ℕ). part k 0 col) e

-- the record of slot i stands in its place
record_there : (n : ℕ) (fs : List Field) (b : List ℕ) (at i : ℕ) → i < n → Holds b at (records_of n fs) → Holds b (at + i * stride_of fs) (record_of i fs)
unfolding records_of
record_there zero fs b at i l h = absurd (omega arith)
record_there (suc n) fs b at i l h =
    let S = stride_of fs in
    let last : Holds b (at + n * S) (record_of n fs) =
    subst (λ (k : ℕ). Holds b (at + k) (record_of n fs)) (length_records n fs) (holds_right_lem (records_of n fs) (record_of n fs) b at h) in
    ⊎_elim
    (λ z. subst (λ (k : ℕ). Holds b (at + k * S) (record_of k fs)) (let e : n ≡ i = omega arith in e) last)
    (λ z. record_there n fs b at i (omega arith) (holds_left (records_of n fs) (record_of n fs) b at h))
    (eq-zero-or-pos (n - i))

fields_back : (b : List ℕ) (S n : ℕ) (fs : List Field) (at : ℕ) → Fine n fs → ((i : ℕ) → i < n → Holds b (at + i * S) (record_of i fs)) → FieldsRead b S n fs at
unfolding record_of
fields_back b S n [] at q there = tt
fields_back b S n (f ∷ fs) at q there =
    let size = f.width * f.many in (
      column_back f.width f.many S f.col b at n q.1 (λ (i : ℕ) (h : i < n). holds_left (row i) (record_of i fs) b (at + i * S) (there i h))
          ∙ part_all (n * f.many) f.col q.0,
      fields_back b S n fs (at + size) q.2 (λ (i : ℕ) (h : i < n).
          subst (λ (k : ℕ). Holds b k (record_of i fs)) (place i) (holds_right_lem (row i) (record_of i fs) b (at + i * S) (there i h))),
    )
  where
    row : ℕ → List ℕ
    row i = les f.width (part f.many (i * f.many) f.col)

    place : (i : ℕ) → at + i * S + length (row i) ≡ at + f.width * f.many + i * S
    place i = omega (arith, length_row f.width f.many (i * f.many) f.col)

tables_back : (b : List ℕ) (ts : List Table) (at : ℕ) → AllFine ts → Holds b at (bytes_of ts) → TablesRead b ts at
unfolding bytes_of
tables_back b [] at q h = tt
tables_back b (t ∷ ts) at q h =
    let n = t.count in
    let fs = t.fields in
    let here : Holds b at (records_of n fs) = holds_left (records_of n fs) (bytes_of ts) b at h in (
      fields_back b (stride_of fs) n fs at q.0 (λ (i : ℕ) (l : i < n). record_there n fs b at i l here),
      tables_back b ts (at + n * stride_of fs) q.1
          (subst (λ (k : ℕ). Holds b (at + k) (bytes_of ts)) (length_records n fs) (holds_right_lem (records_of n fs) (bytes_of ts) b at h)),
    )

-- where the image of the tables stands at the front of b, every column is read as it was written
pub read_back : (b : List ℕ) (ts : List Table) → AllFine ts → take (size_of ts) b ≡ bytes_of ts → TablesRead b ts 0
read_back b ts q e =
    let rest = drop (size_of ts) b in
    let all : bytes_of ts ++ rest ≡ b = ap (λ (l : List ℕ). l ++ rest) (sym e) ∙ take-append-drop (size_of ts) b in
    tables_back b ts 0 q (subst (λ (l : List ℕ). Holds l 0 (bytes_of ts)) all (holds_seam [] (bytes_of ts) rest))
