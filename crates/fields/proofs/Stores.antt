-- Runs of stores: two that do not meet may change places, two that follow one another are one.
-- Assumes nothing.
use mathlib.Core.Path.{◌≡◌, refl, sym, ap, ◌∙◌}
use mathlib.Core.Logic.{◌≢◌}
use mathlib.Core.List.{List, [], ◌∷◌, ◌++◌, append-nil}
use Prim.Native.Nat.{ℕ, suc, ◌+◌, ◌≤◌, ◌<◌}
use native.Mathlib.Omega.{arith}
use lib.ListN.{length, drop, set, drop_of_length-le}
use lib.Seq.{sets, sets-eq, set_comm}

set-sets : {A : Type 0} (cs s : List A) (a : ℕ) (x : A) (q : ℕ) → a < q → sets (set s a x) q cs ≡ set (sets s q cs) a x
set-sets [] s a x q h = refl
set-sets {A} (c ∷ cs) s a x q h =
    let n : a ≢ q = λ e. omega arith in
    let l : a < suc q = omega arith in
    ap (λ (r : List A). sets r (suc q) cs) (set_comm s a q x c n) ∙ set-sets cs (set s q c) a x (suc q) l

pub sets-sets : {A : Type 0} (bs cs s : List A) (a q : ℕ) → a + length bs ≤ q → sets (sets s a bs) q cs ≡ sets (sets s q cs) a bs
sets-sets [] cs s a q h = refl
sets-sets {A} (b ∷ bs) cs s a q h =
    let l : a < q = omega arith in
    let m : suc a + length bs ≤ q = omega arith in
    sets-sets bs cs (set s a b) (suc a) q m ∙ ap (λ (r : List A). sets r (suc a) bs) (set-sets cs s a b q l)

pub sets-append : {A : Type 0} (bs cs s : List A) (a : ℕ) → sets s a (bs ++ cs) ≡ sets (sets s a bs) (a + length bs) cs
sets-append [] cs s a = let e : a ≡ a + 0 = omega arith in ap (λ (k : ℕ). sets s k cs) e
sets-append {A} (b ∷ bs) cs s a =
    let e : suc a + length bs ≡ a + suc (length bs) = omega arith in
    sets-append bs cs (set s a b) (suc a) ∙ ap (λ (k : ℕ). sets (sets (set s a b) (suc a) bs) k cs) e

-- a run of stores goes on where it stopped
pub grown : {A : Type 0} (s₀ s s' done row : List A) (at p : ℕ) → s ≡ sets s₀ at done → p ≡ at + length done → s' ≡ sets s p row
    → s' ≡ sets s₀ at (done ++ row)
grown {A} s₀ s s' done row at p so place now =
    now
    ∙ ap (λ (r : List A). sets r p row) so
    ∙ ap (λ (k : ℕ). sets (sets s₀ at done) k row) place
    ∙ sym (sets-append done row s₀ at)

-- stored at the front, with what lies past it kept
pub front : {A : Type 0} (bs s : List A) → length bs ≤ length s → sets s 0 bs ≡ bs ++ drop (length bs) s
front {A} bs s h =
    let l : 0 + length bs ≤ length s = omega arith in
    let e : 0 + length bs ≡ length bs = omega arith in
    sets-eq bs s 0 l ∙ ap (λ (k : ℕ). bs ++ drop k s) e

-- stored over the whole list
pub whole : {A : Type 0} (bs s : List A) → length bs ≡ length s → sets s 0 bs ≡ bs
whole {A} bs s h =
    let l : length bs ≤ length s = omega arith in
    let m : length s ≤ length bs = omega arith in
    front bs s l ∙ ap (λ (r : List A). bs ++ r) (drop_of_length-le s m) ∙ append-nil bs
