-- The loops that test a column, a turn each: what was looked at of i slots tells of i slots.
-- Assumes nothing.
use mathlib.Core.Path.{◌≡◌, refl, sym, ap, ◌∙◌}
use mathlib.Core.Bool.{Bool, true, false, ◌&&◌, and_assoc, and-true}
use mathlib.Core.List.{List, [], ◌∷◌, ◌++◌, map}
use Prim.Native.Nat.{ℕ, zero, suc, ◌+◌, ◌*◌, ◌≤◌, ◌<◌}
use native.Mathlib.Omega.{arith}
use native.Mathlib.Numerals.{add-one}
use lib.Dec.{eqb}
use lib.ListN.{length, take, get_or, length-map}
use lib.Seq.{take-suc, take-length, take_at, get_or_at, length-take-le}
use borrow.Author.Tests.{eq-eqb, eqb-true, leb-true}
use Rattle.fields.specs.Numbers.{number, numbers, bit, is_on}
use Rattle.fields.specs.Columns.{part, take_column}
use Rattle.fields.specs.Tests.{is_flag, only_flags, Tells}
use Rattle.fields.proofs.Bytes.{part-add, numbers_bytes}
use Rattle.fields.proofs.Loops.{get_each, one_more, length_ones}

-- ---- tests joined, and two tests of one thing

true_both : (a b : Bool) → (a && b) ≡ true → (a ≡ true) × (b ≡ true)
true_both true b e = (refl, e)
true_both false b e = (e, absurd (let z : ◌≡◌ {A = ℕ} 0 1 = cc in omega arith))

pub tells_both : {P Q : Type 0} (a b : Bool) → Tells a P → Tells b Q → Tells (a && b) (P × Q)
tells_both a b p q = (
  λ e. (p.0 (true_both a b e).0, q.0 (true_both a b e).1),
  λ e. ap (λ (x : Bool). x && b) (p.1 e.0) ∙ q.1 e.1,
)

pub tells_one : {P : Type 0} (a b : Bool) → Tells a P → Tells b P → a ≡ b
tells_one true b p q = sym (q.1 (p.0 refl))
tells_one false true p q = p.1 (q.0 refl)
tells_one false false p q = refl

-- ---- yes or no: i slots are looked at

only_append : (xs ys : List ℕ) → only_flags (xs ++ ys) ≡ (only_flags xs && only_flags ys)
unfolding only_flags
only_append [] ys = refl
only_append (x ∷ xs) ys = ap (λ (b : Bool). is_flag x && b) (only_append xs ys) ∙ sym (and_assoc (is_flag x) (only_flags xs) (only_flags ys))

only_one : (x : ℕ) → is_flag x ≡ only_flags (x ∷ [])
unfolding only_flags
only_one x = sym (and-true (is_flag x))

pub looking_more : (S : ℕ) (s : List ℕ) (at : ℕ) (ok r : Bool) (i : ℕ) → r ≡ is_flag (get_or s (at + i * S) 0) → ok ≡ only_flags (take_column 1 1 S i s at)
    → (ok && r) ≡ only_flags (take_column 1 1 S (i + 1) s at)
unfolding number
looking_more S s at ok r i e m =
    let x = number 1 s (at + i * S) in
    let z : get_or s (at + i * S) 0 ≡ x = omega arith in
    let so : r ≡ only_flags (x ∷ []) = e ∙ ap (λ (k : ℕ). is_flag k) z ∙ only_one x in
    ap (λ (b : Bool). b && r) m
    ∙ ap (λ (b : Bool). only_flags (take_column 1 1 S i s at) && b) so
    ∙ sym (only_append (take_column 1 1 S i s at) (x ∷ []))
    ∙ ap only_flags (sym (one_more 1 S i s at))
    ∙ ap (λ (j : ℕ). only_flags (take_column 1 1 S j s at)) (sym (add-one i))

-- they are what stands for a yes or no
only_bits : (xs : List ℕ) → only_flags xs ≡ true → xs ≡ map bit (map is_on xs)
unfolding only_flags
only_bits [] h = refl
only_bits (x ∷ xs) h =
    let both = true_both (is_flag x) (only_flags xs) h in
    ap (λ (k : ℕ). k ∷ xs) (one x (leb-true x 1 both.0)) ∙ ap (λ (l : List ℕ). bit (is_on x) ∷ l) (only_bits xs both.1)
  where
    one : (x : ℕ) → x ≤ 1 → x ≡ bit (is_on x)
    one zero l = refl
    one (suc zero) l = refl
    one (suc (suc x)) l = absurd (omega arith)

bits_only : (ys : List Bool) → only_flags (map bit ys) ≡ true
unfolding only_flags
bits_only [] = refl
bits_only (true ∷ ys) = bits_only ys
bits_only (false ∷ ys) = bits_only ys

pub flags_tell : (xs : List ℕ) → Tells (only_flags xs) (xs ≡ map bit (map is_on xs))
flags_tell xs = (only_bits xs, λ e. ap only_flags e ∙ bits_only (map is_on xs))

-- ---- a column and numbers: i slots are compared

tells_more : (ps qs : List ℕ) (n : ℕ) (v x : ℕ) (ok : Bool) → length ps ≡ n → length qs ≡ n → Tells ok (ps ≡ qs)
    → Tells (ok && eqb v x) (ps ++ (v ∷ []) ≡ qs ++ (x ∷ []))
tells_more ps qs n v x ok p q t = (
  λ e.
      let both = true_both ok (eqb v x) e in
      ap (λ (l : List ℕ). l ++ (v ∷ [])) (t.0 both.0) ∙ ap (λ (k : ℕ). qs ++ (k ∷ [])) (eqb-true v x both.1),
  λ e.
      let front : ps ≡ qs = sym (take_at ps (v ∷ []) n p) ∙ ap (λ (l : List ℕ). take n l) e ∙ take_at qs (x ∷ []) n q in
      let last : v ≡ x = sym (get_or_at ps v [] 0 n p) ∙ ap (λ (l : List ℕ). get_or l n 0) e ∙ get_or_at qs x [] 0 n q in
      ap (λ (b : Bool). b && eqb v x) (t.1 front) ∙ eq-eqb v x last,
)

tells_like : {ps qs ps' qs' : List ℕ} (ok : Bool) → ps ≡ ps' → qs ≡ qs' → Tells ok (ps' ≡ qs') → Tells ok (ps ≡ qs)
tells_like ok p q t = (λ e. p ∙ t.0 e ∙ sym q, λ e. t.1 (sym p ∙ e ∙ q))

module _ {A : Type 0} (f : A → ℕ) (w S : ℕ) (s : List ℕ) (at : ℕ) (xs : List A) where
  pub comparing_more : (ok : Bool) (i v n : ℕ) (x : A) → i < length xs → x ≡ get_or xs i x → n ≡ f x → v ≡ number w s (at + i * S)
      → Tells ok (take_column w 1 S i s at ≡ take i (map f xs)) → Tells (ok && eqb v n) (take_column w 1 S (i + 1) s at ≡ take (i + 1) (map f xs))
  comparing_more ok i v n x h e g k t =
      let same : n ≡ get_or (map f xs) i 0 = g ∙ get_each f xs i x h e in
      let l : i < length (map f xs) = omega (arith, length-map xs f) in
      let q : i ≤ length (map f xs) = omega arith in
      let column : take_column w 1 S (i + 1) s at ≡ take_column w 1 S i s at ++ (v ∷ []) =
      ap (λ (j : ℕ). take_column w 1 S j s at) (add-one i)
      ∙ one_more w S i s at
      ∙ ap (λ (u : ℕ). take_column w 1 S i s at ++ (u ∷ [])) (sym k) in
      let numbers : take (i + 1) (map f xs) ≡ take i (map f xs) ++ (n ∷ []) =
      ap (λ (j : ℕ). take j (map f xs)) (add-one i)
      ∙ take-suc (map f xs) i 0 l
      ∙ ap (λ (u : ℕ). take i (map f xs) ++ (u ∷ [])) (sym same) in
      tells_like (ok && eqb v n) column numbers
      (tells_more (take_column w 1 S i s at) (take i (map f xs)) i v n ok (length_ones w S i s at) (length-take-le i (map f xs) q) t)

  pub compared : (ok : Bool) (n : ℕ) → n ≡ length xs → Tells ok (take_column w 1 S n s at ≡ take n (map f xs)) → Tells ok (take_column w 1 S n s at ≡ map f xs)
  compared ok n e t =
      let l : n ≡ length (map f xs) = e ∙ sym (length-map xs f) in
      tells_like ok refl (sym (ap (λ (j : ℕ). take j (map f xs)) l ∙ take-length (map f xs))) t

-- ---- bytes side by side, as a column

pub side_by_side : (n : ℕ) (s : List ℕ) (at : ℕ) → take_column 1 1 1 n s at ≡ part n at s
unfolding take_column part
side_by_side zero s at = refl
side_by_side (suc n) s at =
    let place : at + n * 1 ≡ at + n = omega arith in
    let more : n + 1 ≡ suc n = add-one n in
    ap (λ (l : List ℕ). l ++ numbers 1 1 s (at + n * 1)) (side_by_side n s at)
    ∙ ap (λ (k : ℕ). part n at s ++ numbers 1 1 s k) place
    ∙ ap (λ (l : List ℕ). part n at s ++ l) (numbers_bytes 1 s (at + n))
    ∙ sym (part-add n 1 at s)
    ∙ ap (λ (k : ℕ). part k at s) more

pub one_row : (many S : ℕ) (s : List ℕ) (at : ℕ) → take_column 1 many S 1 s at ≡ part many at s
unfolding take_column
one_row many S s at = let e : at + 0 * S ≡ at = omega arith in ap (λ (k : ℕ). numbers 1 many s k) e ∙ numbers_bytes many s at
