-- How many stand in a queue after one has left it, and perhaps become ready: one less. The one who left stands there no longer, and
-- every other one stands there exactly if it did before.
-- Assumes nothing.
use Prim.Native.Nat.{ℕ, zero, suc, ◌+◌, ◌-◌, ◌≤◌, ◌<◌}
use native.Mathlib.Omega.{arith}
use native.Mathlib.Nat.{eq-or-lt_of_le, not-suc-le-zero}
use mathlib.Core.Path.{◌≡◌, refl, sym, subst, ap, ◌∙◌}
use mathlib.Core.Logic.{⊎_elim}
use mathlib.Core.Bool.{Bool, true, false, ◌&&◌}
use mathlib.Core.List.{List, map}
use lib.ListN.{length, get_or, set, length-set, length-map, get_or-map}
use lib.Seq.{get_or-set_same, get_or-set_other}
use lib.Dec.{ltb, leb, eqb}
use borrow.Author.Tests.{ltb-true, leb-true, lt-ltb, le-ltb, lt-leb, eq-eqb, ne_eqb}
use Rattle.scope.specs.Choice.{pick, number}
use Rattle.scope.specs.Seats.{stands_in, standing, lower, raise, later_of, ahead_of}

-- two tests that differ at w only
module _ (p r : ℕ → Bool) (w : ℕ) (same : (t : ℕ) → (t ≡ w → ⊥) → p t ≡ r t) (was : p w ≡ true) (is : r w ≡ false) where
  number_below : (m : ℕ) → m ≤ w → number p m ≡ number r m
  unfolding number
  number_below zero h = refl
  number_below (suc m) h =
      omega (arith, number_below m (omega arith), ap (λ (b : Bool). pick {A = ℕ} b 1 0) (same m (λ d. omega arith)))

  pub number_more : (m : ℕ) → w < m → number p m ≡ number r m + 1
  unfolding number pick
  number_more zero h = absurd (not-suc-le-zero h)
  number_more (suc m) h =
      ⊎_elim
      (λ d. omega (
        arith,
        number_below m (omega arith),
        ap (λ (b : Bool). pick {A = ℕ} b 1 0) (subst (λ (v : ℕ). p v ≡ true) d was),
        ap (λ (b : Bool). pick {A = ℕ} b 1 0) (subst (λ (v : ℕ). r v ≡ false) d is),
      ))
      (λ l. omega (arith, number_more m l, ap (λ (b : Bool). pick {A = ℕ} b 1 0) (same m (λ d. omega arith))))
      (eq-or-lt_of_le {n = w} {m = m} (omega arith))

-- the seat behind all of a queue is one of its own, so a task that becomes ready stands above every object's queue
pub later_from : (m y e k p : ℕ) → m ≤ later_of m y e k p
unfolding later_of pick
later_from m y e k p = go (ltb m y) refl (ltb y e) (leb p k)
  where
    go : (a : Bool) → ltb m y ≡ a → (b d : Bool) → m ≤ pick a (pick b (pick d y m) m) m
    go true q true true = let h : m < y = ltb-true m y q in omega arith
    go true q true false = omega arith
    go true q false d = omega arith
    go false q b d = omega arith

pub ahead_from : (q key : List ℕ) (b e p n : ℕ) → b ≤ ahead_of q key b e p n
unfolding ahead_of
ahead_from q key b e p zero = omega arith
ahead_from q key b e p (suc n) =
    let h : b ≤ ahead_of q key b e p n = ahead_from q key b e p n in
    omega (arith, later_from (ahead_of q key b e p n) (get_or q n 0) e (get_or key n 0) p)

-- y is a seat of the queue above o
abbrev seat_in : ℕ → ℕ → Bool
seat_in o y = ltb o y && ltb y (o + 63)

inside : (o y : ℕ) → o < y → y < o + 63 → seat_in o y ≡ true
inside o y a b = rw (lt-ltb o y a, lt-ltb y (o + 63) b)

pub says_inside : (o y : ℕ) → seat_in o y ≡ true → (o < y) × (y < o + 63)
says_inside o y h = go (ltb o y) refl h
  where
    go : (b : Bool) → ltb o y ≡ b → (b && ltb y (o + 63)) ≡ true → (o < y) × (y < o + 63)
    go true e f = (ltb-true _ _ e, ltb-true _ _ f)
    go false e f = let z : ◌≡◌ {A = ℕ} 0 1 = cc in absurd (omega arith)

outside : (o y : ℕ) → o + 63 ≤ y → seat_in o y ≡ false
outside o y h = let l : o < y = omega arith in rw (lt-ltb o y l, le-ltb y (o + 63) h)

pub nowhere : (o : ℕ) → seat_in o 0 ≡ false
nowhere o = rw (le-ltb o 0 (omega arith))

pub mapped : (f : ℕ → ℕ) → f 0 ≡ 0 → (q : List ℕ) (u : ℕ) → get_or (map f q) u 0 ≡ f (get_or q u 0)
mapped f z q u = ap (λ (d : ℕ). get_or (map f q) u d) (sym z) ∙ get_or-map f q u 0

pub lower-zero : (x e : ℕ) → lower x e 0 ≡ 0
unfolding lower pick
lower-zero x e = rw (le-ltb x 0 (omega arith)) (go (eqb 0 x))
  where
    go : (a : Bool) → pick {A = ℕ} a 0 0 ≡ 0
    go true = refl
    go false = refl

pub lower_self : (x e : ℕ) → lower x e x ≡ 0
unfolding lower pick
lower_self x e = rw (eq-eqb x x refl)

-- when seat x of that queue is left, those ahead stay and those behind come forward, so each stands where it stood
pub lower_other : (o x y : ℕ) → o < x → (y ≡ x → ⊥) → seat_in o y ≡ seat_in o (lower x (o + 63) y)
unfolding lower pick
lower_other o x y h n = rw (ne_eqb y x n) (go (ltb x y) refl (ltb y (o + 63)) refl)
  where
    go : (b : Bool) → ltb x y ≡ b → (d : Bool) → ltb y (o + 63) ≡ d → seat_in o y ≡ seat_in o (pick b (pick d (y - 1) y) y)
    go true p true q =
        let l : x < y = ltb-true x y p in
        let m : y < o + 63 = ltb-true y (o + 63) q in inside o y (omega arith) m ∙ sym (inside o (y - 1) (omega arith) (omega arith))
    go true p false q = refl
    go false p d q = refl

raise_zero : (x e : ℕ) → 0 < x → raise x e 0 ≡ 0
unfolding raise pick
raise_zero x e h = rw (lt-leb x 0 h)

-- when one sits down above that queue, nobody comes into it or goes
raise_above : (o x e y : ℕ) → o + 63 ≤ x → seat_in o y ≡ seat_in o (raise x e y)
unfolding raise pick
raise_above o x e y h = go (leb x y) refl (ltb y e)
  where
    go : (b : Bool) → leb x y ≡ b → (d : Bool) → seat_in o y ≡ seat_in o (pick b (pick d (y + 1) y) y)
    go true p true = let l : x ≤ y = leb-true x y p in outside o y (omega arith) ∙ sym (outside o (y + 1) (omega arith))
    go true p false = refl
    go false p d = refl

-- of the queue above o, task t has left and no other
pub record Left (q r : List ℕ) (o t : ℕ) : Type 0 where
  pub size : length r ≡ 32
  pub out : stands_in r o t ≡ false
  pub rest : (u : ℕ) → (u ≡ t → ⊥) → stands_in q o u ≡ stands_in r o u

pub fewer : (q r : List ℕ) (o t : ℕ) → t < 32 → stands_in q o t ≡ true → Left q r o t → standing r o + 1 ≡ standing q o
unfolding standing
fewer q r o t h at l = sym (number_more (stands_in q o) (stands_in r o) t l.rest at l.out 32 h)

-- and has sat down on seat x, above the queue
pub seated : (q r : List ℕ) (o t x e : ℕ) → t < 32 → o + 63 ≤ x → Left q r o t → Left q (set (map (raise x e) r) t x) o t
unfolding stands_in
seated q r o t x e h a l =
    let long : length (map (raise x e) r) ≡ 32 = length-map r _ ∙ l.size in
    record {
      size = length-set (map (raise x e) r) t x ∙ long;
      out = rw (get_or-set_same (map (raise x e) r) t x 0 (omega arith)) (outside o x a);
      rest = λ u n.
          l.rest u n
          ∙ rw (get_or-set_other (map (raise x e) r) t u x 0 n, mapped (raise x e) (raise_zero x e (omega arith)) r u) (raise_above o x e _ a);
    }
