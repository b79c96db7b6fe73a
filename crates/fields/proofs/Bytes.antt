-- Numbers as bytes: how many bytes they are, and that they are read back; one law for every width.
-- Assumes nothing.
use mathlib.Core.Path.{◌≡◌, refl, sym, ap, ◌∙◌, subst}
use mathlib.Core.List.{List, [], ◌∷◌, ◌++◌, append-nil}
use Prim.Native.Nat.{ℕ, zero, suc, ◌+◌, ◌*◌, ◌/◌, ◌^◌, ◌≤◌, ◌<◌}
use native.Mathlib.Nat.{mod-lt, mod-eq_of_lt, pow-suc, div-lt_iff_lt-mul, mod-add-div, mul-suc, mul-one}
use native.Mathlib.Omega.{arith}
use lib.Dec.{lit<}
use lib.ListN.{length, take, drop, get_or, length-append}
use lib.Seq.{drop-cons, append_snoc, get_or-append_seam, take-length}
use Rattle.fields.specs.Numbers.{le, les, number, numbers}
use Rattle.fields.specs.Columns.{part}

pub length-le : (w x : ℕ) → length (le w x) ≡ w
unfolding le
length-le zero x = refl
length-le (suc w) x = ap suc (length-le w (x / 256))

pub length-les : (w : ℕ) (xs : List ℕ) → length (les w xs) ≡ w * length xs
unfolding les
length-les w [] = omega arith
length-les w (x ∷ xs) =
    length-append (le w x) (les w xs) ∙ (omega (arith, length-le w x, length-les w xs, mul-suc w (length xs)))

pub length_part : (n k : ℕ) (xs : List ℕ) → length (part n k xs) ≡ n
unfolding part
length_part zero k xs = refl
length_part (suc n) k xs = ap suc (length_part n (suc k) xs)

pub length-numbers : (w n : ℕ) (s : List ℕ) (at : ℕ) → length (numbers w n s at) ≡ n
unfolding numbers
length-numbers w zero s at = refl
length-numbers w (suc n) s at = ap suc (length-numbers w n s (at + w))

-- the bytes of a part of a column
pub length_row : (w many k : ℕ) (xs : List ℕ) → length (les w (part many k xs)) ≡ w * many
length_row w many k xs = length-les w (part many k xs) ∙ ap (λ (n : ℕ). w * n) (length_part many k xs)

-- ---- parts

pub part-add : (m n k : ℕ) (xs : List ℕ) → part (m + n) k xs ≡ part m k xs ++ part n (k + m) xs
unfolding part
part-add zero n k xs =
    let a : 0 + n ≡ n = omega arith in
    let b : k ≡ k + 0 = omega arith in
    ap (λ (j : ℕ). part j k xs) a ∙ ap (λ (j : ℕ). part n j xs) b
part-add (suc m) n k xs =
    let a : suc m + n ≡ suc (m + n) = omega arith in
    let b : suc k + m ≡ k + suc m = omega arith in
    ap (λ (j : ℕ). part j k xs) a
    ∙ ap (λ (ys : List ℕ). get_or xs k 0 ∷ ys) (part-add m n (suc k) xs ∙ ap (λ (j : ℕ). part m (suc k) xs ++ part n j xs) b)

pub part_is : (n k : ℕ) (xs : List ℕ) → k + n ≤ length xs → part n k xs ≡ take n (drop k xs)
unfolding part
part_is zero k xs h = refl
part_is (suc n) k xs h =
    let l : k < length xs = omega arith in
    let m : suc k + n ≤ length xs = omega arith in
    ap (λ (ys : List ℕ). get_or xs k 0 ∷ ys) (part_is n (suc k) xs m) ∙ ap (λ (ys : List ℕ). take (suc n) ys) (sym (drop-cons xs k 0 l))

-- all of a column
pub part_all : (n : ℕ) (xs : List ℕ) → length xs ≡ n → part n 0 xs ≡ xs
part_all n xs h =
    let l : 0 + n ≤ length xs = omega arith in
    part_is n 0 xs l ∙ ap (λ (k : ℕ). take k xs) (sym h) ∙ take-length xs

-- ---- bytes are their own numbers

-- every number of a list is below m; is a byte
abbrev pub Under : ℕ → List ℕ → Type 0
Under m xs = (k : ℕ) → get_or xs k 0 < m

abbrev pub Bytes : List ℕ → Type 0
Bytes xs = Under 256 xs

pub les_bytes : (n k : ℕ) (xs : List ℕ) → Bytes xs → les 1 (part n k xs) ≡ part n k xs
unfolding le les part
les_bytes zero k xs h = refl
les_bytes (suc n) k xs h =
    ap (λ (b : ℕ). b ∷ les 1 (part n (suc k) xs)) (mod-eq_of_lt (h k)) ∙ ap (λ (ys : List ℕ). get_or xs k 0 ∷ ys) (les_bytes n (suc k) xs h)

pub numbers_bytes : (n : ℕ) (s : List ℕ) (at : ℕ) → numbers 1 n s at ≡ part n at s
unfolding number numbers part
numbers_bytes zero s at = refl
numbers_bytes (suc n) s at =
    let z : get_or s at 0 + 256 * 0 ≡ get_or s at 0 = omega arith in
    let e : at + 1 ≡ suc at = omega arith in
    ap (λ (x : ℕ). x ∷ numbers 1 n s (at + 1)) z
    ∙ ap (λ (k : ℕ). get_or s at 0 ∷ numbers 1 n s k) e
    ∙ ap (λ (ys : List ℕ). get_or s at 0 ∷ ys) (numbers_bytes n s (suc at))

-- one number a slot
pub one_put : (w i : ℕ) (xs : List ℕ) → le w (get_or xs i 0) ≡ les w (part 1 (i * 1) xs)
unfolding les part
one_put w i xs =
    ap (λ (k : ℕ). le w (get_or xs k 0)) (sym (mul-one i)) ∙ sym (append-nil (le w (get_or xs (i * 1) 0)))

pub one_taken : (w : ℕ) (s : List ℕ) (at : ℕ) → numbers w 1 s at ≡ number w s at ∷ []
unfolding numbers
one_taken w s at = refl

-- ---- what was written is read back

-- these bytes stand in b from a place on
abbrev pub Holds : List ℕ → ℕ → List ℕ → Type 0
Holds b at [] = Unit {0}
Holds b at (x ∷ xs) = (get_or b at 0 ≡ x) × Holds b (suc at) xs

pub holds_left : (xs ys b : List ℕ) (at : ℕ) → Holds b at (xs ++ ys) → Holds b at xs
holds_left [] ys b at h = tt
holds_left (x ∷ xs) ys b at h = (h.0, holds_left xs ys b (suc at) h.1)

pub holds_right_lem : (xs ys b : List ℕ) (at : ℕ) → Holds b at (xs ++ ys) → Holds b (at + length xs) ys
holds_right_lem [] ys b at h = let e : at ≡ at + 0 = omega arith in subst (λ (k : ℕ). Holds b k ys) e h
holds_right_lem (x ∷ xs) ys b at h =
    let e : suc at + length xs ≡ at + suc (length xs) = omega arith in
    subst (λ (k : ℕ). Holds b k ys) e (holds_right_lem xs ys b (suc at) h.1)

pub holds_seam : (pre bs rest : List ℕ) → Holds (pre ++ (bs ++ rest)) (length pre) bs
holds_seam pre [] rest = tt
holds_seam pre (x ∷ bs) rest =
    let e : length (pre ++ (x ∷ [])) ≡ suc (length pre) = omega (arith, length-append pre (x ∷ [])) in (
      get_or-append_seam pre x (bs ++ rest) 0,
      subst (λ (l : List ℕ). Holds l (suc (length pre)) bs) (append_snoc pre x (bs ++ rest))
          (subst (λ (k : ℕ). Holds ((pre ++ (x ∷ [])) ++ (bs ++ rest)) k bs) e (holds_seam (pre ++ (x ∷ [])) bs rest)),
    )

pub number_back : (w x : ℕ) (b : List ℕ) (at : ℕ) → x < 256 ^ w → Holds b at (le w x) → number w b at ≡ x
unfolding le number
number_back zero x b at l h = omega (arith, (let z : x < 1 = l in z))
number_back (suc w) x b at l h =
    let l' : x / 256 < 256 ^ w = (div-lt_iff_lt-mul {k = 256} (lit< tt)).1 (subst (λ (k : ℕ). x < k) (pow-suc 256 w) l) in
    omega (arith, number_back w (x / 256) b (suc at) l' h.1, mod-add-div x 256, h.0)

pub numbers_back : (w n k : ℕ) (xs b : List ℕ) (at : ℕ) → ((j : ℕ) → get_or xs j 0 < 256 ^ w) → Holds b at (les w (part n k xs))
    → numbers w n b at ≡ part n k xs
unfolding les part numbers
numbers_back w zero k xs b at l h = refl
numbers_back w (suc n) k xs b at l h =
    let x = get_or xs k 0 in
    let rest = les w (part n (suc k) xs) in
    let first : number w b at ≡ x = number_back w x b at (l k) (holds_left (le w x) rest b at h) in
    let o : Holds b (at + w) rest = subst (λ (j : ℕ). Holds b (at + j) rest) (length-le w x) (holds_right_lem (le w x) rest b at h) in
    ap (λ (y : ℕ). y ∷ numbers w n b (at + w)) first ∙ ap (λ (ys : List ℕ). x ∷ ys) (numbers_back w n (suc k) xs b (at + w) l o)

-- ---- every byte written is one

pub bytes_none : Bytes []
bytes_none k = omega arith

pub under_append : (m : ℕ) (xs ys : List ℕ) → Under m xs → Under m ys → Under m (xs ++ ys)
under_append m [] ys p q k = q k
under_append m (x ∷ xs) ys p q zero = p 0
under_append m (x ∷ xs) ys p q (suc k) = under_append m xs ys (λ (j : ℕ). p (suc j)) q k

pub bytes_append : (xs ys : List ℕ) → Bytes xs → Bytes ys → Bytes (xs ++ ys)
bytes_append xs ys p q = under_append 256 xs ys p q

bytes_le : (w x : ℕ) → Bytes (le w x)
unfolding le
bytes_le zero x k = bytes_none k
bytes_le (suc w) x zero = omega (arith, mod-lt x {m = 256} (lit< tt))
bytes_le (suc w) x (suc k) = bytes_le w (x / 256) k

pub bytes_les : (w : ℕ) (xs : List ℕ) → Bytes (les w xs)
unfolding les
bytes_les w [] = bytes_none
bytes_les w (x ∷ xs) = bytes_append (le w x) (les w xs) (bytes_le w x) (bytes_les w xs)
