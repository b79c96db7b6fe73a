-- The loops of the leaves, a turn each: a number's bytes, a copy, and a column of any width.
-- Assumes nothing.
use mathlib.Core.Path.{◌≡◌, refl, sym, ap, ◌∙◌, subst}
use mathlib.Core.List.{List, [], ◌∷◌, ◌++◌, map, map-append}
use Prim.Native.Nat.{ℕ, zero, suc, ◌+◌, ◌-◌, ◌*◌, ◌/◌, ◌%◌, ◌^◌, ◌≤◌, ◌<◌}
use native.Mathlib.Nat.{mul-le-mul_right, suc-mul, mul-one, pow-suc, pow-le-pow_right, div-one, div-div-eq-div-mul}
use native.Mathlib.Omega.{arith}
use native.Mathlib.Numerals.{add-one}
use lib.Dec.{lit<}
use lib.ListN.{length, take, drop, get_or, set, length-map, length-append}
use lib.Seq.{sets, sets-eq, take-length}
use borrow.Rule.Slice.PartMut.{put_mid}
use Rattle.std.proofs.lemmas.Slice.{put_mid-paste}
use Rattle.std.specs.Int.{w64, byte_at, bytes_low_first, to_le_bytes}
use Rattle.fields.specs.Numbers.{le, les, number, numbers}
use Rattle.fields.specs.Columns.{part, put_column, take_column}
use Rattle.fields.proofs.Stores.{grown, whole}
use Rattle.fields.proofs.Bytes.{Bytes, length_part, length-numbers, part_is, les_bytes, numbers_bytes, one_put, one_taken}

-- ---- the library's bytes of a number are its own

byte_is : (i x : ℕ) → byte_at i x ≡ x / 256 ^ i % 256
byte_is zero x = ap (λ (n : ℕ). n % 256) (sym (div-one x))
byte_is (suc i) x = refl

low_from : (w k i x : ℕ) → w ≤ k → take w (bytes_low_first i k x) ≡ le w (x / 256 ^ i)
unfolding le
low_from zero k i x h = refl
low_from (suc w) zero i x h = absurd (omega arith)
low_from (suc w) (suc k) i x h =
    let rest : x / 256 ^ suc i ≡ x / 256 ^ i / 256 = ap (λ (n : ℕ). x / n) (pow-suc 256 i) ∙ sym (div-div-eq-div-mul x (256 ^ i) 256) in
    ap (λ (b : ℕ). b ∷ take w (bytes_low_first (suc i) k x)) (byte_is i x)
    ∙ ap (λ (l : List ℕ). x / 256 ^ i % 256 ∷ l) (low_from w k (suc i) x (let l : w ≤ k = omega arith in l) ∙ ap (λ (n : ℕ). le w n) rest)

pub low_bytes : (w x : ℕ) → w ≤ 8 → take w (to_le_bytes w64 x) ≡ le w x
low_bytes w x h = low_from w 8 0 x h ∙ ap (λ (n : ℕ). le w n) (div-one x)

-- ---- the number that bytes are: those from k on are read

abbrev pub Reading : ℕ → List ℕ → ℕ → ℕ → ℕ → Type 0
Reading w s at x k = (x ≡ number (w - k) s (at + k)) × (x < 256 ^ (w - k))

module _ (w : ℕ) (s : List ℕ) (at : ℕ) where
  pub reading_start : Reading w s at 0 w
  unfolding number
  reading_start =
      let a : 0 ≡ w - w = omega arith in
      (ap (λ (j : ℕ). number j s (at + w)) a, subst (λ (j : ℕ). 0 < 256 ^ j) a (lit< tt))

  pub reading_room : (x k : ℕ) → w ≤ 8 → 0 < k → Reading w s at x k → x < 256 ^ 7
  reading_room x k l h m =
      let a : w - k ≤ 7 = omega arith in
      omega (arith, m.1, pow-le-pow_right {n = 256} (lit< tt) {i = w - k} {j = 7} a)

  pub reading_more : (x k b : ℕ) → 0 < k → k ≤ w → b ≡ get_or s (at + (k - 1)) 0 → b < 256 → Reading w s at x k → Reading w s at (x * 256 + b) (k - 1)
  unfolding number
  reading_more x k b h i e l m =
      let a : suc (w - k) ≡ w - (k - 1) = omega arith in
      let p : at + k ≡ suc (at + (k - 1)) = omega arith in
      let y : x ≡ number (w - k) s (suc (at + (k - 1))) = m.0 ∙ ap (λ (q : ℕ). number (w - k) s q) p in
      let z : x * 256 + b ≡ get_or s (at + (k - 1)) 0 + 256 * number (w - k) s (suc (at + (k - 1))) = omega (arith, y, e) in
      let u : x * 256 + b < 256 ^ suc (w - k) = omega (arith, m.1, l, pow-suc 256 (w - k)) in
      (z ∙ ap (λ (j : ℕ). number j s (at + (k - 1))) a, subst (λ (j : ℕ). x * 256 + b < 256 ^ j) a u)

-- ---- a copy, as the library writes it: `new` stands where m bytes were

pub stored : (s new ys : List ℕ) (at m : ℕ) → at + length new ≤ length s → m ≡ length new → ys ≡ new → put_mid at m s ys ≡ sets s at new
stored s new ys at m h q e =
    put_mid-paste at m s ys new (length new) e (sym q) refl
    ∙ ap (λ (r : List ℕ). take at s ++ r ++ drop (at + length new) s) (take-length new)
    ∙ sym (sets-eq new s at h)

pub copied : (xs s ys : List ℕ) (start at m n : ℕ) → at + n ≤ length s → start + n ≤ length xs → m ≡ n → ys ≡ take n (drop start xs)
    → put_mid at m s ys ≡ sets s at (part n start xs)
copied xs s ys start at m n l h q e =
    let long : length (part n start xs) ≡ n = length_part n start xs in
    stored s (part n start xs) ys at m (let r : at + length (part n start xs) ≤ length s = omega arith in r) (q ∙ sym long) (e ∙ sym (part_is n start xs h))

-- ---- the place of slot i, within the image

pub below : {i n : ℕ} (S : ℕ) → i < n → i * S + S ≤ n * S
below {i} {n} S h =
    let l : suc i ≤ n = omega arith in
    omega (arith, mul-le-mul_right S l, suc-mul i S)

-- ---- a column put: slot i too

pub put_more : (w many S : ℕ) (xs : List ℕ) (at : ℕ) (s₀ s s' : List ℕ) (i : ℕ) → s ≡ put_column w many S i xs at s₀
    → s' ≡ sets s (at + i * S) (les w (part many (i * many) xs)) → s' ≡ put_column w many S (i + 1) xs at s₀
unfolding put_column
put_more w many S xs at s₀ s s' i m e =
    e
    ∙ ap (λ (r : List ℕ). sets r (at + i * S) (les w (part many (i * many) xs))) m
    ∙ ap (λ (j : ℕ). put_column w many S j xs at s₀) (sym (add-one i))

-- a value of any kind a slot, as its number
pub get_each : {A : Type 0} (f : A → ℕ) (xs : List A) (i : ℕ) (x : A) → i < length xs → x ≡ get_or xs i x → f x ≡ get_or (map f xs) i 0
get_each f [] i x h e = absurd (omega arith)
get_each f (y ∷ ys) zero x h e = ap f e
get_each f (y ∷ ys) (suc i) x h e = get_each f ys i x (let l : i < length ys = omega arith in l) e

pub value_put : {A : Type 0} (f : A → ℕ) (w S : ℕ) (xs : List A) (at : ℕ) (s₀ s s' : List ℕ) (i v : ℕ) (x : A) → i < length xs → x ≡ get_or xs i x
    → v ≡ f x → s ≡ put_column w 1 S i (map f xs) at s₀ → s' ≡ sets s (at + i * S) (le w v) → s' ≡ put_column w 1 S (i + 1) (map f xs) at s₀
value_put f w S xs at s₀ s s' i v x h e n m k =
    put_more w 1 S (map f xs) at s₀ s s' i m
    (k
    ∙ ap (λ (u : ℕ). sets s (at + i * S) (le w u)) (n ∙ get_each f xs i x h e)
    ∙ ap (λ (r : List ℕ). sets s (at + i * S) r) (one_put w i (map f xs)))

-- a row of bytes a slot
pub row_put : (many S : ℕ) (xs : List ℕ) (at : ℕ) (s₀ s s' : List ℕ) (i : ℕ) → Bytes xs → s ≡ put_column 1 many S i xs at s₀
    → s' ≡ sets s (at + i * S) (part many (i * many) xs) → s' ≡ put_column 1 many S (i + 1) xs at s₀
row_put many S xs at s₀ s s' i b m e =
    put_more 1 many S xs at s₀ s s' i m (e ∙ ap (λ (r : List ℕ). sets s (at + i * S) r) (sym (les_bytes many (i * many) xs b)))

-- ---- a column taken: what was read of i slots stands at the front of the list

pub length_column : (w many S n : ℕ) (s : List ℕ) (at : ℕ) → length (take_column w many S n s at) ≡ n * many
unfolding take_column
length_column w many S zero s at = omega arith
length_column w many S (suc n) s at =
    length-append (take_column w many S n s at) (numbers w many s (at + n * S))
    ∙ (omega (arith, length_column w many S n s at, length-numbers w many s (at + n * S), suc-mul n many))

-- one number a slot
pub length_ones : (w S n : ℕ) (s : List ℕ) (at : ℕ) → length (take_column w 1 S n s at) ≡ n
length_ones w S n s at = length_column w 1 S n s at ∙ mul-one n

pub one_more : (w S i : ℕ) (s : List ℕ) (at : ℕ) → take_column w 1 S (suc i) s at ≡ take_column w 1 S i s at ++ (number w s (at + i * S) ∷ [])
unfolding take_column
one_more w S i s at = ap (λ (r : List ℕ). take_column w 1 S i s at ++ r) (one_taken w s (at + i * S))

-- as a value of any kind
module _ {A : Type 0} (f : ℕ → A) (w S : ℕ) (s : List ℕ) (at : ℕ) (xs₀ : List A) where
  length_values : (n : ℕ) → length (map f (take_column w 1 S n s at)) ≡ n
  length_values n = length-map (take_column w 1 S n s at) f ∙ length_ones w S n s at

  pub value_taken : (xs : List A) (i : ℕ) (v : A) → v ≡ f (number w s (at + i * S)) → xs ≡ sets xs₀ 0 (map f (take_column w 1 S i s at))
      → set xs i v ≡ sets xs₀ 0 (map f (take_column w 1 S (i + 1) s at))
  value_taken xs i v e m =
      let done = map f (take_column w 1 S i s at) in
      let here : i ≡ 0 + length done = omega (arith, length_values i) in
      grown xs₀ xs (set xs i v) done (f (number w s (at + i * S)) ∷ []) 0 i m here (ap (λ (u : A). set xs i u) e)
      ∙ ap (λ (r : List A). sets xs₀ 0 r)
      (sym (ap (λ (r : List ℕ). map f r) (one_more w S i s at) ∙ map-append f (take_column w 1 S i s at) (number w s (at + i * S) ∷ [])))
      ∙ ap (λ (j : ℕ). sets xs₀ 0 (map f (take_column w 1 S j s at))) (sym (add-one i))

  pub values_taken : (xs : List A) (n : ℕ) → n ≡ length xs₀ → xs ≡ sets xs₀ 0 (map f (take_column w 1 S n s at)) → xs ≡ map f (take_column w 1 S n s at)
  values_taken xs n l m = m ∙ whole (map f (take_column w 1 S n s at)) xs₀ (length_values n ∙ l)

-- a row of bytes a slot
module _ (many S : ℕ) (s : List ℕ) (at : ℕ) (xs₀ : List ℕ) where
  pub row_taken : (xs xs' : List ℕ) (i : ℕ) → xs' ≡ sets xs (i * many) (part many (at + i * S) s) → xs ≡ sets xs₀ 0 (take_column 1 many S i s at)
      → xs' ≡ sets xs₀ 0 (take_column 1 many S (i + 1) s at)
  unfolding take_column
  row_taken xs xs' i e m =
      let done = take_column 1 many S i s at in
      let here : i * many ≡ 0 + length done = omega (arith, length_column 1 many S i s at) in
      grown xs₀ xs xs' done (part many (at + i * S) s) 0 (i * many) m here e
      ∙ ap (λ (r : List ℕ). sets xs₀ 0 (done ++ r)) (sym (numbers_bytes many s (at + i * S)))
      ∙ ap (λ (j : ℕ). sets xs₀ 0 (take_column 1 many S j s at)) (sym (add-one i))

  pub rows_taken : (xs : List ℕ) (n : ℕ) → length xs₀ ≡ n * many → xs ≡ sets xs₀ 0 (take_column 1 many S n s at) → xs ≡ take_column 1 many S n s at
  rows_taken xs n l m = m ∙ whole (take_column 1 many S n s at) xs₀ (length_column 1 many S n s at ∙ sym l)
