-- What holds for every identifier table, over columns of any length: what a lookup answers by its tests in order, what an
-- answer tells, and what stands at the slot that a search gives. A lookup is taken apart by its four tests.
-- Assumes nothing.
use Prim.Native.Nat.{ℕ, ◌/◌, ◌%◌, ◌≤◌, ◌<◌}
use native.Mathlib.Omega.{arith}
use native.Mathlib.Nat.{div-add-mod'}
use mathlib.Core.Path.{◌≡◌, refl, sym, ap, ◌∙◌}
use mathlib.Core.Bool.{Bool, true, false, not}
use mathlib.Core.List.{List}
use lib.ListN.{length, get_or}
use lib.Dec.{leb, eqb}
use borrow.Author.Tests.{le-leb, lt-leb, eq-eqb, ne_eqb, ltb-true, leb-false, eqb-true, eqb-false, not-true}
use Rattle.scope.specs.declared.Found.{Found}
use Rattle.scope.specs.declared.Found.TheVariants.{At, Deleted, Invalid}
use Rattle.scope.specs.Choice.{pick}
use Rattle.scope.specs.Identifiers.{identifier, last_serial, found, issued, is_live, usable, lowest_usable, named, by_name}
use Rattle.laws.proofs.Branches.{pick_yes, pick_no, both, first_fails, second_fails, both_true, not_of_true, not_of_false}
use Rattle.laws.proofs.Searches.{least-le, least-true, least_below}

module _ (serial : List ℕ) (live : List Bool) (id : ℕ) where
  -- the tests of a lookup, each where those before it were passed
  pub found_outside : length serial ≤ id % 64 → Invalid ≡ found serial live id
  unfolding found
  found_outside h = pick_yes _ _ _ (le-leb _ _ h) refl

  pub found-zero : id % 64 < length serial → id / 64 ≡ 0 → Invalid ≡ found serial live id
  unfolding found
  found-zero h e = pick_no _ _ _ (lt-leb _ _ h) (pick_yes _ _ _ (eq-eqb _ _ e) refl)

  module _ (inside : id % 64 < length serial) (numbered : id / 64 ≡ 0 → ⊥) (last : ℕ) (holds : last ≡ get_or serial (id % 64) 0) where
    pub found_later : last < id / 64 → Invalid ≡ found serial live id
    unfolding found
    found_later l = pick_no _ _ _ (lt-leb _ _ inside) (pick_no _ _ _ (ne_eqb _ _ numbered) (pick_yes _ _ _ (not_of_false _ (lt-leb (id / 64) (get_or serial (id % 64) 0) (omega arith))) refl))

    found_issued : {r : Found} → id / 64 ≤ last → r ≡ pick (is_live serial live id) (At (id % 64)) Deleted → r ≡ found serial live id
    unfolding found
    found_issued l e = pick_no _ _ _ (lt-leb _ _ inside) (pick_no _ _ _ (ne_eqb _ _ numbered) (pick_no _ _ _ (not_of_true _ (le-leb (id / 64) (get_or serial (id % 64) 0) (omega arith))) e))

    pub found_current : get_or live (id % 64) false ≡ true → last ≡ id / 64 → At (id % 64) ≡ found serial live id
    found_current a e = found_issued (omega arith) (pick_yes _ _ _ (both _ _ a (eq-eqb _ _ (sym holds ∙ e))) refl)

    pub found_earlier : id / 64 ≤ last → (last ≡ id / 64 → ⊥) → Deleted ≡ found serial live id
    found_earlier l n = found_issued l (pick_no _ _ _ (second_fails (get_or live (id % 64) false) _ (ne_eqb _ _ (λ e. n (holds ∙ e)))) refl)

    pub found_gone : id / 64 ≤ last → get_or live (id % 64) false ≡ false → Deleted ≡ found serial live id
    found_gone l a = found_issued l (pick_no _ _ _ (first_fails _ _ a) refl)

-- what an answer tells: the identifier's own slot lies in the table and holds a live object, whose serial it has
pub record Names (serial : List ℕ) (live : List Bool) (id i : ℕ) : Type 0 where
  pub slot : i ≡ id % 64
  pub below : i < length serial
  pub alive : get_or live i false ≡ true
  pub current : get_or serial i 0 ≡ id / 64
  pub first : 1 ≤ id / 64

module _ (serial : List ℕ) (live : List Bool) (id : ℕ) where
  pub found_names : {i : ℕ} → found serial live id ≡ At i → Names serial live id i
  unfolding found pick
  found_names {i} e =
      go
      (leb (length serial) (id % 64))
      (eqb (id / 64) 0)
      (not (issued serial id))
      (is_live serial live id)
      refl
      refl
      refl
      e
    where
      go : (a b c d : Bool) → leb (length serial) (id % 64) ≡ a → eqb (id / 64) 0 ≡ b → is_live serial live id ≡ d
          → pick a Invalid (pick b Invalid (pick c Invalid (pick d (At (id % 64)) Deleted))) ≡ At i → Names serial live id i
      go false false false true p q r f =
          let s : i ≡ id % 64 = cc in
          let n : id / 64 ≡ 0 → ⊥ = eqb-false (id / 64) 0 q in
          let m = both_true (get_or live (id % 64) false) (eqb (get_or serial (id % 64) 0) (id / 64)) r in
          record {
            slot = s;
            below = omega (arith, leb-false (length serial) (id % 64) p);
            alive = ap (λ (k : ℕ). get_or live k false) s ∙ m.0;
            current = ap (λ (k : ℕ). get_or serial k 0) s ∙ eqb-true _ _ m.1;
            first = omega (arith, n);
          }
      go true b c d p q r f = let z : ◌≡◌ {A = ℕ} 0 1 = cc in absurd (omega arith)
      go false true c d p q r f = let z : ◌≡◌ {A = ℕ} 0 1 = cc in absurd (omega arith)
      go false false true d p q r f = let z : ◌≡◌ {A = ℕ} 0 1 = cc in absurd (omega arith)
      go false false false false p q r f = let z : ◌≡◌ {A = ℕ} 0 1 = cc in absurd (omega arith)

  pub found_below : {i : ℕ} → found serial live id ≡ At i → i < length serial
  found_below e = (found_names e).below

  pub found_slot : {i : ℕ} → found serial live id ≡ At i → i ≡ id % 64
  found_slot e = (found_names e).slot

  pub found-live : {i : ℕ} → found serial live id ≡ At i → get_or live i false ≡ true
  found-live e = (found_names e).alive

  pub found-serial : {i : ℕ} → found serial live id ≡ At i → get_or serial i 0 ≡ id / 64
  found-serial e = (found_names e).current

  -- so an answer gives the identifier back
  pub found-identifier : {i : ℕ} → found serial live id ≡ At i → id ≡ identifier (get_or serial i 0) i
  found-identifier {i} e = omega (arith, found-serial e, found_slot e, div-add-mod' id 64)

-- and a live object's identifier names it
pub identifier-found : (serial : List ℕ) (live : List Bool) (i : ℕ) → i < length serial → i < 64 → get_or live i false ≡ true → 1 ≤ get_or serial i 0
    → found serial live (identifier (get_or serial i 0) i) ≡ At i
identifier-found serial live i h l a f =
    let id : ℕ = identifier (get_or serial i 0) i in
    let s : id % 64 ≡ i = omega arith in
    let n : id / 64 ≡ get_or serial i 0 = omega arith in
    sym
    (ap At (sym s)
    ∙ found_current serial live id (omega arith) (λ z. absurd (omega arith)) (get_or serial i 0) (ap (λ (k : ℕ). get_or serial k 0) (sym s)) (ap (λ (k : ℕ). get_or live k false) s ∙ a) (sym n))

-- the slot that creation takes, and whether there is one
module _ (serial : List ℕ) (live : List Bool) where
  pub lowest_le : lowest_usable serial live ≤ length serial
  unfolding lowest_usable
  lowest_le = least-le (usable serial live) (length serial)

  pub usable_at : lowest_usable serial live < length serial → usable serial live (lowest_usable serial live) ≡ true
  unfolding lowest_usable
  usable_at h = least-true (usable serial live) (length serial) h

  pub unusable_below : (k : ℕ) → k < lowest_usable serial live → usable serial live k ≡ false
  unfolding lowest_usable
  unusable_below k h = least_below (usable serial live) (length serial) k h

  pub usable_free : (k : ℕ) → usable serial live k ≡ true → get_or live k false ≡ false
  unfolding usable
  usable_free k e = not-true _ (both_true _ _ e).0

  pub usable-serial : (k : ℕ) → usable serial live k ≡ true → get_or serial k 0 < last_serial
  unfolding usable
  usable-serial k e = ltb-true _ _ (both_true (not (get_or live k false)) _ e).1

-- the object that a name is answered with
module _ (live : List Bool) (name : List ℕ) (x : ℕ) where
  pub by_name-le : by_name live name x ≤ length live
  unfolding by_name
  by_name-le = least-le (named live name x) (length live)

  pub named_at : by_name live name x < length live → named live name x (by_name live name x) ≡ true
  unfolding by_name
  named_at h = least-true (named live name x) (length live) h

  pub unnamed_below : (k : ℕ) → k < by_name live name x → named live name x k ≡ false
  unfolding by_name
  unnamed_below k h = least_below (named live name x) (length live) k h

  pub named_live : (k : ℕ) → named live name x k ≡ true → get_or live k false ≡ true
  unfolding named
  named_live k e = (both_true _ _ e).0

  pub named-name : (k : ℕ) → named live name x k ≡ true → get_or name k 0 ≡ x
  unfolding named
  named-name k e = eqb-true _ _ (both_true (get_or live k false) _ e).1

-- what a caller's code has in hand, in a table of n slots
module _ (n : ℕ) (serial : List ℕ) (live : List Bool) (size : length serial ≡ n) where
  -- the slot that creation takes has a serial left
  pub serial_left : {i : ℕ} → i ≡ lowest_usable serial live → i < n → get_or serial i 0 < 65535
  serial_left e h = rw e (usable-serial serial live _ (usable_at serial live (omega arith)))
