-- What was taken from bytes, put again, changes nothing: bytes from which the columns of tables are read are the bytes of those tables.
-- Assumes nothing.
use mathlib.Core.Path.{◌≡◌, refl, sym, ap, ◌∙◌, subst}
use mathlib.Core.Logic.{⊎_elim}
use mathlib.Core.Bool.{Bool, true, false}
use mathlib.Core.List.{List, [], ◌∷◌, ◌++◌, map}
use Prim.Native.Nat.{ℕ, zero, suc, ◌+◌, ◌-◌, ◌*◌, ◌/◌, ◌%◌, ◌^◌, ◌≤◌, ◌<◌}
use native.Mathlib.Nat.{eq-zero-or-pos, pow-suc, one-le-pow, mod-eq_of_lt, div-eq_of_lt, add-mul-mod_self_left, add-mul-div_left}
use native.Mathlib.Omega.{arith}
use lib.Dec.{lit<}
use lib.ListN.{length, take, get_or, length-append, length-map, get_or-append}
use lib.Seq.{drop_at, take-length}
use Rattle.fields.specs.Numbers.{le, les, number, numbers, bit, is_on}
use Rattle.fields.specs.Columns.{part, take_column}
use Rattle.fields.specs.Fields.{Field, Table, stride_of, size_of, record_of, records_of, bytes_of, FieldsRead, TablesRead}
use Rattle.fields.proofs.Bytes.{Under, Bytes, Holds, under_append, length-le, length-numbers, length_row, part_is, part_all}
use Rattle.fields.proofs.Loops.{below, length_column}
use Rattle.fields.proofs.Tables.{length_records, size_is}

-- ---- bytes that stand in a list

holds_append : (xs ys b : List ℕ) (at : ℕ) → Holds b at xs → Holds b (at + length xs) ys → Holds b at (xs ++ ys)
holds_append [] ys b at p q = let e : at + 0 ≡ at = omega arith in subst (λ (k : ℕ). Holds b k ys) e q
holds_append (x ∷ xs) ys b at p q =
    let e : at + suc (length xs) ≡ suc at + length xs = omega arith in
    (p.0, holds_append xs ys b (suc at) p.1 (subst (λ (k : ℕ). Holds b k ys) e q))

held_part : (xs b : List ℕ) (at : ℕ) → Holds b at xs → xs ≡ part (length xs) at b
unfolding part
held_part [] b at h = refl
held_part (x ∷ xs) b at h =
    ap (λ (k : ℕ). k ∷ xs) (sym h.0) ∙ ap (λ (l : List ℕ). get_or b at 0 ∷ l) (held_part xs b (suc at) h.1)

-- ---- the numbers of slot i of a column

part_left : (n k : ℕ) (xs ys : List ℕ) → k + n ≤ length xs → part n k (xs ++ ys) ≡ part n k xs
unfolding part
part_left zero k xs ys h = refl
part_left (suc n) k xs ys h =
    let l : k < length xs = omega arith in
    let m : suc k + n ≤ length xs = omega arith in
    ap (λ (x : ℕ). x ∷ part n (suc k) (xs ++ ys)) (get_or-append xs ys 0 k l)
    ∙ ap (λ (r : List ℕ). get_or xs k 0 ∷ r) (part_left n (suc k) xs ys m)

part_right : (n k : ℕ) (xs ys : List ℕ) → length xs ≡ k → length ys ≡ n → part n k (xs ++ ys) ≡ ys
part_right n k xs ys p q =
    let l : k + n ≤ length (xs ++ ys) = omega (arith, length-append xs ys) in
    part_is n k (xs ++ ys) l
    ∙ ap (λ (r : List ℕ). take n r) (drop_at xs ys k p)
    ∙ ap (λ (j : ℕ). take j ys) (sym q)
    ∙ take-length ys

slot_taken : (w many S n : ℕ) (b : List ℕ) (at i : ℕ) → i < n → part many (i * many) (take_column w many S n b at) ≡ numbers w many b (at + i * S)
unfolding take_column
slot_taken w many S zero b at i h = absurd (omega arith)
slot_taken w many S (suc n) b at i h =
    let before = take_column w many S n b at in
    let last = numbers w many b (at + n * S) in
    ⊎_elim
    (λ z.
    let e : i ≡ n = omega arith in
    ap (λ (j : ℕ). part many (j * many) (before ++ last)) e
    ∙ part_right many (n * many) before last (length_column w many S n b at) (length-numbers w many b (at + n * S))
    ∙ ap (λ (j : ℕ). numbers w many b (at + j * S)) (sym e))
    (λ z.
    let l : i < n = omega arith in
    let room : i * many + many ≤ length before = omega (arith, below many l, length_column w many S n b at) in
    part_left many (i * many) before last room ∙ slot_taken w many S n b at i l)
    (eq-zero-or-pos (n - i))

bits_small : (ys : List Bool) → Under (256 ^ 1) (map bit ys)
bits_small [] k = lit< tt
bits_small (true ∷ ys) zero = lit< tt
bits_small (false ∷ ys) zero = lit< tt
bits_small (y ∷ ys) (suc k) = bits_small ys k

module _ (b : List ℕ) (q : Bytes b) where
  -- ---- a number taken stands where it was taken

  number_stands : (w at : ℕ) → Holds b at (le w (number w b at))
  unfolding le number
  number_stands zero at = tt
  number_stands (suc w) at =
      let x = get_or b at 0 in
      let n = number w b (suc at) in
      let low : (x + 256 * n) % 256 ≡ x = add-mul-mod_self_left x 256 n ∙ mod-eq_of_lt (q at) in
      let high : (x + 256 * n) / 256 ≡ n =
      add-mul-div_left x n {y = 256} (lit< tt) ∙ ap (λ (k : ℕ). k + n) (div-eq_of_lt (q at)) ∙ (omega arith) in
      (sym low, subst (λ (k : ℕ). Holds b (suc at) (le w k)) (sym high) (number_stands w (suc at)))

  numbers_stand : (w n at : ℕ) → Holds b at (les w (numbers w n b at))
  unfolding les numbers
  numbers_stand w zero at = tt
  numbers_stand w (suc n) at =
      let x = number w b at in
      let rest = les w (numbers w n b (at + w)) in
      holds_append (le w x) rest b at (number_stands w at)
      (subst (λ (k : ℕ). Holds b (at + k) rest) (sym (length-le w x)) (numbers_stand w n (at + w)))

  -- so does a record, and all of a table, and all tables

  record_stands : (S n : ℕ) (fs : List Field) (at : ℕ) → FieldsRead b S n fs at → (i : ℕ) → i < n → Holds b (at + i * S) (record_of i fs)
  unfolding record_of
  record_stands S n [] at r i h = tt
  record_stands S n (f ∷ fs) at r i h =
      let w = f.width in
      let many = f.many in
      let row = les w (part many (i * many) f.col) in
      let so : numbers w many b (at + i * S) ≡ part many (i * many) f.col =
      sym (slot_taken w many S n b at i h) ∙ ap (λ (l : List ℕ). part many (i * many) l) r.0 in
      let next : at + w * many + i * S ≡ at + i * S + length row = omega (arith, length_row w many (i * many) f.col) in
      holds_append row (record_of i fs) b (at + i * S)
      (subst (λ (l : List ℕ). Holds b (at + i * S) (les w l)) so (numbers_stand w many (at + i * S)))
      (subst (λ (k : ℕ). Holds b k (record_of i fs)) next (record_stands S n fs (at + w * many) r.1 i h))

  records_stand : (n : ℕ) (fs : List Field) (at : ℕ) → ((i : ℕ) → i < n → Holds b (at + i * stride_of fs) (record_of i fs)) → Holds b at (records_of n fs)
  unfolding records_of
  records_stand zero fs at there = tt
  records_stand (suc n) fs at there =
      let last : n < suc n = omega arith in
      holds_append (records_of n fs) (record_of n fs) b at
      (records_stand n fs at (λ (i : ℕ) (h : i < n). there i (let l : i < suc n = omega arith in l)))
      (subst (λ (k : ℕ). Holds b (at + k) (record_of n fs)) (sym (length_records n fs)) (there n last))

  tables_stand : (ts : List Table) (at : ℕ) → TablesRead b ts at → Holds b at (bytes_of ts)
  unfolding bytes_of
  tables_stand [] at r = tt
  tables_stand (t ∷ ts) at r =
      let n = t.count in
      let fs = t.fields in
      holds_append (records_of n fs) (bytes_of ts) b at (records_stand n fs at (record_stands (stride_of fs) n fs at r.0))
      (subst (λ (k : ℕ). Holds b (at + k) (bytes_of ts)) (sym (length_records n fs)) (tables_stand ts (at + n * stride_of fs) r.1))

  -- as many bytes as the tables have, from which every column is read, are the bytes of the tables
  pub read_written : (ts : List Table) → length b ≡ size_of ts → TablesRead b ts 0 → b ≡ bytes_of ts
  read_written ts h r =
      let n : length b ≡ length (bytes_of ts) = h ∙ sym (size_is ts) in
      sym (held_part (bytes_of ts) b 0 (tables_stand ts 0 r) ∙ part_all (length (bytes_of ts)) b n)

  -- ---- what is taken fits the field that it is taken from

  number_small : (w at : ℕ) → number w b at < 256 ^ w
  unfolding number
  number_small zero at = lit< tt
  number_small (suc w) at = omega (arith, number_small w (suc at), q at, pow-suc 256 w)

  numbers_small : (w n at : ℕ) → Under (256 ^ w) (numbers w n b at)
  unfolding numbers
  numbers_small w zero at k = one-le-pow w 256 (lit< tt)
  numbers_small w (suc n) at zero = number_small w at
  numbers_small w (suc n) at (suc k) = numbers_small w n (at + w) k

  column_small : (w many S n at : ℕ) → Under (256 ^ w) (take_column w many S n b at)
  unfolding take_column
  column_small w many S zero at k = one-le-pow w 256 (lit< tt)
  column_small w many S (suc n) at k =
      under_append (256 ^ w) (take_column w many S n b at) (numbers w many b (at + n * S)) (column_small w many S n at)
      (numbers_small w many (at + n * S)) k

  pub number_fits : (w many S n at : ℕ) → (length (take_column w many S n b at) ≡ n * many) × Under (256 ^ w) (take_column w many S n b at)
  number_fits w many S n at = (length_column w many S n b at, column_small w many S n at)

  pub flag_fits : (S n at : ℕ)
      → (length (map bit (map is_on (take_column 1 1 S n b at))) ≡ n * 1) × Under (256 ^ 1) (map bit (map is_on (take_column 1 1 S n b at)))
  flag_fits S n at =
      let xs = take_column 1 1 S n b at in
      (length-map (map is_on xs) bit ∙ length-map xs is_on ∙ length_column 1 1 S n b at, bits_small (map is_on xs))
