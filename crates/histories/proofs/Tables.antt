-- "objects told apart by identifier": a table only moves on. Serials grow, and a slot comes to life only with a later serial, so
-- an identifier that was issued and is live at the end was live all along, and one whose object is deleted never lives again.
-- Assumes nothing.
use Prim.Native.Nat.{ℕ, ◌+◌, ◌/◌, ◌%◌, ◌≤◌, ◌<◌}
use native.Mathlib.Omega.{arith}
use mathlib.Core.Path.{◌≡◌, refl, sym, subst, ap, ◌∙◌}
use mathlib.Core.Logic.{◌⊎◌, inl, inr, ⊎_elim}
use mathlib.Core.Bool.{Bool, true, false, not}
use mathlib.Core.List.{List}
use lib.ListN.{length, get_or, set, length-set}
use lib.Seq.{get_or-set_same, get_or-set_other}
use lib.Dec.{leb, eqb}
use borrow.Author.Tests.{leb-true, le-leb, eqb-true, eq-eqb, not-false}
use Rattle.scope.specs.declared.Found.TheVariants.{At, Deleted, Invalid}
use Rattle.scope.specs.Choice.{pick}
use Rattle.scope.specs.Identifiers.{identifier, found, issued, is_live}
use Rattle.laws.proofs.Branches.{true-false, true_or_false, eq_or_not, both, both_true}
use Rattle.laws.proofs.Tables.{Names, found_names, found_current, found-identifier, identifier-found}

-- the columns of a table, and what they are later
pub record Later (serial : List ℕ) (live : List Bool) (serial2 : List ℕ) (live2 : List Bool) : Type 0 where
  pub long : length serial2 ≡ length serial
  pub grows : (k : ℕ) → get_or serial k 0 ≤ get_or serial2 k 0
  pub lived : (k : ℕ) → get_or live2 k false ≡ true → get_or serial2 k 0 ≡ get_or serial k 0 → get_or live k false ≡ true

pub later_same : (serial : List ℕ) (live : List Bool) → Later serial live serial live
later_same serial live = record { long = refl; grows = λ k. omega arith; lived = λ k a e. a }

pub later_on : {serial serial2 serial3 : List ℕ} {live live2 live3 : List Bool} → Later serial live serial2 live2 → Later serial2 live2 serial3 live3
    → Later serial live serial3 live3
later_on p q =
    record {
      long = q.long ∙ p.long;
      grows = λ k. omega (arith, p.grows k, q.grows k);
      lived = λ k a e.
          p.lived k (q.lived k a (omega (arith, p.grows k, q.grows k))) (omega (arith, p.grows k, q.grows k));
    }

module _ (serial : List ℕ) (live : List Bool) (i : ℕ) where
  -- slot i holds its next object
  pub later_born : i < length serial → Later serial live (set serial i (get_or serial i 0 + 1)) (set live i true)
  later_born h =
      record {
        long = length-set serial i (get_or serial i 0 + 1);
        grows = λ k. ⊎_elim (λ e. omega (arith, here k e)) (λ ne. omega (arith, other k ne)) (eq_or_not k i);
        lived = λ k a e.
            ⊎_elim (λ d. absurd (omega (arith, here k d))) (λ ne. sym (get_or-set_other live i k true false ne) ∙ a) (eq_or_not k i);
      }
    where
      here : (k : ℕ) → k ≡ i → get_or (set serial i (get_or serial i 0 + 1)) k 0 ≡ get_or serial k 0 + 1
      here k e =
          subst (λ (j : ℕ). get_or (set serial i (get_or serial i 0 + 1)) j 0 ≡ get_or serial j 0 + 1) (sym e)
          (get_or-set_same serial i (get_or serial i 0 + 1) 0 h)

      other : (k : ℕ) → (k ≡ i → ⊥) → get_or (set serial i (get_or serial i 0 + 1)) k 0 ≡ get_or serial k 0
      other k ne = get_or-set_other serial i k (get_or serial i 0 + 1) 0 ne

  -- which its identifier names
  pub born_found : i < length serial → i < length live → i < 64
      → found (set serial i (get_or serial i 0 + 1)) (set live i true) (identifier (get_or serial i 0 + 1) i) ≡ At i
  born_found h l m =
      let serial2 : List ℕ = set serial i (get_or serial i 0 + 1) in
      let live2 : List Bool = set live i true in
      let n : get_or serial2 i 0 ≡ get_or serial i 0 + 1 = get_or-set_same serial i (get_or serial i 0 + 1) 0 h in
      subst (λ (x : ℕ). found serial2 live2 (identifier x i) ≡ At i) n
      (identifier-found serial2 live2 i (omega (arith, h, length-set serial i (get_or serial i 0 + 1))) m (get_or-set_same live i true false l) (omega arith))

  -- slot i's object is deleted
  pub later_gone : i < length live → Later serial live serial (set live i false)
  later_gone h =
      record {
        long = refl;
        grows = λ k. omega arith;
        lived = λ k a e.
            ⊎_elim
            (λ d. absurd (true-false a (ap (λ (j : ℕ). get_or (set live i false) j false) d ∙ get_or-set_same live i false false h)))
            (λ ne. sym (get_or-set_other live i k false false ne) ∙ a)
            (eq_or_not k i);
      }

-- "its serial has been issued" stays true
module _ {serial serial2 : List ℕ} {live live2 : List Bool} (later : Later serial live serial2 live2) (id : ℕ) where
  pub issued_still : id / 64 ≤ get_or serial (id % 64) 0 → id / 64 ≤ get_or serial2 (id % 64) 0
  issued_still h = omega (arith, later.grows (id % 64))

  -- issued before and live now: it was live before
  pub was_live : {i : ℕ} → id / 64 ≤ get_or serial (id % 64) 0 → found serial2 live2 id ≡ At i → found serial live id ≡ At i
  was_live {i} h e =
      let n : Names serial2 live2 id i = found_names serial2 live2 id e in
      let s : i ≡ id % 64 = n.slot in
      let c : get_or serial2 (id % 64) 0 ≡ id / 64 = ap (λ (k : ℕ). get_or serial2 k 0) (sym s) ∙ n.current in
      let d : get_or serial (id % 64) 0 ≡ id / 64 = omega (arith, later.grows (id % 64)) in
      let a : get_or live2 (id % 64) false ≡ true = ap (λ (k : ℕ). get_or live2 k false) (sym s) ∙ n.alive in
      sym
      (ap At s
      ∙ found_current serial live id (omega (arith, later.long, n.below)) (λ z. absurd (omega (arith, n.first)))
      (get_or serial (id % 64) 0) refl (later.lived (id % 64) a (c ∙ sym d)) d)

-- a live identifier is issued
pub live_issued : (serial : List ℕ) (live : List Bool) (id : ℕ) {i : ℕ} → found serial live id ≡ At i → id / 64 ≤ get_or serial (id % 64) 0
live_issued serial live id {i} e =
    let n : Names serial live id i = found_names serial live id e in
    omega (arith, n.current, ap (λ (k : ℕ). get_or serial k 0) n.slot)

-- and so is a deleted object's
pub deleted_issued : (serial : List ℕ) (live : List Bool) (id : ℕ) → found serial live id ≡ Deleted → id / 64 ≤ get_or serial (id % 64) 0
unfolding found pick
deleted_issued serial live id e =
    go (leb (length serial) (id % 64)) (eqb (id / 64) 0) (not (issued serial id)) (is_live serial live id) refl e
  where
    go : (a b c d : Bool) → not (issued serial id) ≡ c
        → pick a Invalid (pick b Invalid (pick c Invalid (pick d (At (id % 64)) Deleted))) ≡ Deleted → id / 64 ≤ get_or serial (id % 64) 0
    go true b c d p f = let z : ◌≡◌ {A = ℕ} 0 1 = cc in absurd (omega arith)
    go false true c d p f = let z : ◌≡◌ {A = ℕ} 0 1 = cc in absurd (omega arith)
    go false false true d p f = let z : ◌≡◌ {A = ℕ} 0 1 = cc in absurd (omega arith)
    go false false false d p f = leb-true (id / 64) (get_or serial (id % 64) 0) (not-false (issued serial id) p)

-- once deleted, never live again
pub stays_deleted : {serial serial2 : List ℕ} {live live2 : List Bool} → Later serial live serial2 live2 → (id i : ℕ)
    → found serial live id ≡ Deleted → found serial2 live2 id ≡ At i → ⊥
stays_deleted {serial} {serial2} {live} {live2} later id i d e =
    let a : found serial live id ≡ At i = was_live later id (deleted_issued serial live id d) e in
    let z : ◌≡◌ {A = ℕ} 0 1 = cc in
    omega arith

-- what the tests of a deleted object's identifier said
deleted_tests : (serial : List ℕ) (live : List Bool) (id : ℕ) → found serial live id ≡ Deleted
    → (leb (length serial) (id % 64) ≡ false) × (eqb (id / 64) 0 ≡ false) × (is_live serial live id ≡ false)
unfolding found pick
deleted_tests serial live id e =
    go (leb (length serial) (id % 64)) (eqb (id / 64) 0) (not (issued serial id)) (is_live serial live id) e
  where
    go : (a b c d : Bool) → pick a Invalid (pick b Invalid (pick c Invalid (pick d (At (id % 64)) Deleted))) ≡ Deleted
        → (a ≡ false) × (b ≡ false) × (d ≡ false)
    go true b c d f = let z : ◌≡◌ {A = ℕ} 0 1 = cc in absurd (omega arith)
    go false true c d f = let z : ◌≡◌ {A = ℕ} 0 1 = cc in absurd (omega arith)
    go false false true d f = let z : ◌≡◌ {A = ℕ} 0 1 = cc in absurd (omega arith)
    go false false false true f = let z : ◌≡◌ {A = ℕ} 0 1 = cc in absurd (omega arith)
    go false false false false f = (refl, refl, refl)

-- once deleted, deleted for good
pub still_deleted : {serial serial2 : List ℕ} {live live2 : List Bool} → Later serial live serial2 live2 → (id : ℕ)
    → found serial live id ≡ Deleted → found serial2 live2 id ≡ Deleted
unfolding found pick
still_deleted {serial} {serial2} {live} {live2} later id d =
    let t = deleted_tests serial live id d in
    let h : id / 64 ≤ get_or serial2 (id % 64) 0 = issued_still later id (deleted_issued serial live id d) in
    rw (later.long, t.0, t.1, le-leb (id / 64) (get_or serial2 (id % 64) 0) h, dead t.2 (deleted_issued serial live id d))
  where
    dead : is_live serial live id ≡ false → id / 64 ≤ get_or serial (id % 64) 0 → is_live serial2 live2 id ≡ false
    dead n h =
        ⊎_elim
        (λ e. let b = both_true (get_or live2 (id % 64) false) _ e in
        let c : get_or serial2 (id % 64) 0 ≡ id / 64 = eqb-true _ _ b.1 in
        let g : get_or serial (id % 64) 0 ≤ get_or serial2 (id % 64) 0 = later.grows (id % 64) in
        absurd (true-false (both _ _ (later.lived (id % 64) b.0 (omega arith)) (eq-eqb (get_or serial (id % 64) 0) (id / 64) (omega arith))) n))
        (λ e. e)
        (true_or_false (is_live serial2 live2 id))

-- what an object that lives came from: where no serial moves it lived before, and a birth brings one identifier
module _ (serial : List ℕ) (live : List Bool) where
  pub came_kept : {live2 : List Bool} → Later serial live serial live2 → (id i : ℕ) → found serial live2 id ≡ At i → found serial live id ≡ At i
  came_kept {live2} later id i e = was_live later id (live_issued serial live2 id e) e

  pub came_born : (i : ℕ) → i < length serial → (id j : ℕ) → found (set serial i (get_or serial i 0 + 1)) (set live i true) id ≡ At j
      → (found serial live id ≡ At j) ⊎ (identifier (get_or serial i 0 + 1) i ≡ id)
  came_born i h id j e = ⊎_elim (λ d. inr (new d)) (λ ne. inl (old ne)) (eq_or_not j i)
    where
      serial2 : List ℕ
      serial2 = set serial i (get_or serial i 0 + 1)

      n : Names serial2 (set live i true) id j
      n = found_names serial2 (set live i true) id e

      new : j ≡ i → identifier (get_or serial i 0 + 1) i ≡ id
      new d =
          sym
          (found-identifier serial2 (set live i true) id e
          ∙ ap (λ (k : ℕ). identifier (get_or serial2 k 0) k) d
          ∙ ap (λ (x : ℕ). identifier x i) (get_or-set_same serial i (get_or serial i 0 + 1) 0 h))

      old : (j ≡ i → ⊥) → found serial live id ≡ At j
      old ne =
          was_live (later_born serial live i h) id
          (omega (arith, n.current, get_or-set_other serial i j (get_or serial i 0 + 1) 0 ne, ap (λ (k : ℕ). get_or serial k 0) n.slot))
          e

-- The books of a step: a figure of each slot, before and after, and what the answer adds to an identifier's and takes from it;
-- nothing of one that is not live. What lives after it lived before, or is new.
pub record Booked (serial : List ℕ) (live : List Bool) (serial2 : List ℕ) (live2 : List Bool) (before after plus minus : ℕ → ℕ) (New : ℕ → Type 0) : Type 0 where
  pub later : Later serial live serial2 live2
  pub books : (id i : ℕ) → found serial live id ≡ At i → found serial2 live2 id ≡ At i → after i + minus id ≡ before i + plus id
  pub silent : (id : ℕ) → ((i : ℕ) → found serial live id ≡ At i → ⊥) → (plus id ≡ 0) × (minus id ≡ 0)
  pub came : (id i : ℕ) → found serial2 live2 id ≡ At i → (found serial live id ≡ At i) ⊎ New id

-- nothing is counted, and what lives on has its figure still
pub booked_none : {serial serial2 : List ℕ} {live live2 : List Bool} {before after plus minus : ℕ → ℕ} {New : ℕ → Type 0} → Later serial live serial2 live2
    → ((id : ℕ) → (plus id ≡ 0) × (minus id ≡ 0))
    → ((i : ℕ) → get_or live i false ≡ true → get_or live2 i false ≡ true → after i ≡ before i)
    → ((id i : ℕ) → found serial2 live2 id ≡ At i → (found serial live id ≡ At i) ⊎ New id)
    → Booked serial live serial2 live2 before after plus minus New
booked_none {serial} {serial2} {live} {live2} later none same came =
    record {
      later = later;
      books = λ id i d e.
          omega (arith, (none id).0, (none id).1, same i (found_names serial live id d).alive (found_names serial2 live2 id e).alive);
      silent = λ id d. none id;
      came = came;
    }

-- one object's figure moves, and nothing is counted of another's
pub booked_one : (serial : List ℕ) (live : List Bool) {before after plus minus : ℕ → ℕ} {New : ℕ → Type 0} (id i : ℕ) → found serial live id ≡ At i
    → after i + minus id ≡ before i + plus id
    → ((j : ℕ) → (j ≡ i → ⊥) → after j ≡ before j)
    → ((x : ℕ) → (x ≡ id → ⊥) → (plus x ≡ 0) × (minus x ≡ 0))
    → Booked serial live serial live before after plus minus New
booked_one serial live {before} {after} {plus} {minus} id i names moves same none =
    record {
      later = later_same serial live;
      books = λ x j d e. ⊎_elim (here x j d) (other x j d) (eq_or_not x id);
      silent = λ x d. none x (λ e. d i (subst (λ (y : ℕ). found serial live y ≡ At i) (sym e) names));
      came = λ x j e. inl e;
    }
  where
    here : (x j : ℕ) → found serial live x ≡ At j → x ≡ id → after j + minus x ≡ before j + plus x
    here x j d e =
        let n : found serial live id ≡ At j = subst (λ (y : ℕ). found serial live y ≡ At j) e d in
        let k : i ≡ j = cc in
        subst (λ (y : ℕ). after j + minus y ≡ before j + plus y) (sym e)
        (subst (λ (k : ℕ). after k + minus id ≡ before k + plus id) k moves)

    other : (x j : ℕ) → found serial live x ≡ At j → (x ≡ id → ⊥) → after j + minus x ≡ before j + plus x
    other x j d ne =
        let o : j ≡ i → ⊥ = λ k.
        ne
        (found-identifier serial live x d
        ∙ ap (λ (k : ℕ). identifier (get_or serial k 0) k) k
        ∙ sym (found-identifier serial live id names)) in
        omega (arith, (none x ne).0, (none x ne).1, same j o)
