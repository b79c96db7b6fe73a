-- "One state has one image and reading returns the state"; bytes are an image exactly if a state writes them.
-- Assumes nothing.
use mathlib.Core.Path.{◌≡◌, refl, sym, ap, ◌∙◌, subst}
use mathlib.Core.Bool.{true, false, ◌&&◌}
use mathlib.Core.List.{List, [], ◌∷◌, ◌++◌, append-nil}
use Prim.Native.Nat.{ℕ, ◌≤◌}
use native.Mathlib.Omega.{arith}
use lib.Dec.{leb, eqb}
use lib.ListN.{length, take, drop, length-append, take-append-drop, drop_of_length-le}
use lib.Seq.{take_at}
use borrow.Author.Tests.{le-leb, eq-eqb, eqb-true}
use Rattle.scope.specs.declared.State.{State}
use Rattle.scope.specs.Rules.{sound}
use Rattle.laws.proofs.Branches.{both, both_true, true-false}
use Rattle.fields.specs.Fields.{bytes_of, put_tables}
use Rattle.fields.proofs.Tables.{written}
use Rattle.image.specs.Image.{Fits, tables, image_of, image_size}
use Rattle.image.specs.Reading.{state_from, same_bytes, is_image}
use Rattle.image.proofs.Back.{image_length, state_back}

-- the columns of all tables, put one by one over as many bytes, are the image
pub put_whole : (s : State) (b : List ℕ) → length b ≡ image_size → put_tables (tables s) 0 b ≡ image_of s
unfolding image_of
put_whole s b h =
    let l : image_size ≤ length b = omega arith in
    let m : length b ≤ image_size = omega arith in
    written (tables s) b l ∙ ap (λ (r : List ℕ). bytes_of (tables s) ++ r) (drop_of_length-le b m) ∙ append-nil (bytes_of (tables s))

pub same_yes : (xs : List ℕ) → same_bytes xs xs ≡ true
unfolding same_bytes
same_yes [] = refl
same_yes (x ∷ xs) = both (eqb x x) (same_bytes xs xs) (eq-eqb x x refl) (same_yes xs)

pub same_is : (xs ys : List ℕ) → same_bytes xs ys ≡ true → xs ≡ ys
unfolding same_bytes
same_is [] [] h = refl
same_is [] (y ∷ ys) h = absurd (true-false refl (sym h))
same_is (x ∷ xs) [] h = absurd (true-false refl (sym h))
same_is (x ∷ xs) (y ∷ ys) h =
    let e = both_true (eqb x y) (same_bytes xs ys) h in
    ap (λ (k : ℕ). k ∷ xs) (eqb-true x y e.0) ∙ ap (λ (l : List ℕ). y ∷ l) (same_is xs ys e.1)

-- what a state writes is an image, whatever lies past it
pub accepted : (s : State) → Fits s → sound s ≡ true → (rest : List ℕ) → is_image (image_of s ++ rest) ≡ true
unfolding is_image
accepted s f h rest =
    let b = image_of s ++ rest in
    let long : image_size ≤ length b = omega (arith, length-append (image_of s) rest, image_length s) in
    let back : state_from b ≡ s = state_back s f h rest in
    let same : same_bytes (take image_size b) (image_of (state_from b)) ≡ true =
    ap (λ (l : List ℕ). same_bytes l (image_of (state_from b))) (take_at (image_of s) rest image_size (image_length s))
    ∙ ap (λ (r : State). same_bytes (image_of s) (image_of r)) back
    ∙ same_yes (image_of s) in
    both (leb image_size (length b)) (sound (state_from b) && same_bytes (take image_size b) (image_of (state_from b))) (le-leb image_size (length b) long)
    (both (sound (state_from b)) (same_bytes (take image_size b) (image_of (state_from b))) (ap sound back ∙ h) same)

-- bytes that are none are written by no state
pub refused : (b : List ℕ) → is_image b ≡ false → (s : State) → Fits s → sound s ≡ true → take image_size b ≡ image_of s → ⊥
refused b bad s f h e =
    let whole : image_of s ++ drop image_size b ≡ b = ap (λ (l : List ℕ). l ++ drop image_size b) (sym e) ∙ take-append-drop image_size b in
    true-false (subst (λ (l : List ℕ). is_image l ≡ true) whole (accepted s f h (drop image_size b))) bad

-- an image is written by the state that is read
pub from_image : (b : List ℕ) → is_image b ≡ true → (sound (state_from b) ≡ true) × (take image_size b ≡ image_of (state_from b))
unfolding is_image
from_image b h =
    let e = both_true (sound (state_from b)) _ (both_true (leb image_size (length b)) _ h).1 in
    (e.0, same_is (take image_size b) (image_of (state_from b)) e.1)

-- "One state has one image": and one image one state
pub one_image : (s r : State) → Fits s → Fits r → sound s ≡ true → sound r ≡ true → image_of s ≡ image_of r → s ≡ r
one_image s r f g h k e = sym (state_back s f h []) ∙ ap (λ (l : List ℕ). state_from (l ++ [])) e ∙ state_back r g k []
