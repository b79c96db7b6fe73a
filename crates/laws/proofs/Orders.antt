-- The rule of the free buffers' order, and that the calls keep it: it is told by the places alone (`Ordered`), so what leaving, joining and
-- a new pool do to each place decides. No count is needed beyond this: a get has one free buffer less, a return one more.
-- Assumes nothing.
use Prim.Native.Nat.{ℕ, zero, suc, ◌+◌, ◌-◌, ◌^◌, ◌≤◌, ◌<◌}
use native.Mathlib.Omega.{arith}
use native.Mathlib.Nat.{zero-div}
use mathlib.Core.Path.{◌≡◌, refl, sym, subst, ap, ◌∙◌}
use mathlib.Core.Logic.{◌⊎◌, inl, inr, ⊎_elim}
use mathlib.Core.Bool.{true, false, not, ◌&&◌}
use mathlib.Core.List.{List}
use lib.ListN.{length, get_or, get_or-eq_default, get_or-replicate}
use lib.Dec.{ltb, leb, eqb}
use borrow.Author.Tests.{ltb-true, lt-ltb, le-ltb, le-leb, leb-true, eqb-true, eq-eqb}
use Rattle.scope.specs.Choice.{every, number}
use Rattle.scope.specs.Seats.{is_on}
use Rattle.scope.specs.Areas.{is_out, is_free, free_of}
use Rattle.scope.specs.Places.{on_place, longest_free, first_leaves, joins_last, new_row, no_row}
use Rattle.scope.specs.Rules.{place_right, order_right}
use Rattle.scope.proofs.Gets.{on_place_lem}
use Rattle.scope.proofs.Places.{leaves_at, length_leaves, joins_at, joins_other, length_joins, length_new, new_at}
use Rattle.laws.proofs.Arrays.{inside}
use Rattle.laws.proofs.Branches.{both, both_true, picked_yes, picked_no, true-false, true_or_false, eq_or_not, lt_or_le, not_of_true}
use Rattle.laws.proofs.Searches.{every_yes, every_at, least_upto}
use Rattle.laws.proofs.Areas.Marks.{take_free, back_free, take_free_other, take_same, back_same, back_other}
use Rattle.laws.specs.Order.{Free, Ordered}

-- a buffer is free or not
pub free_or_not : (out n k : ℕ) → Free out n k ⊎ (Free out n k → ⊥)
free_or_not out n k =
    ⊎_elim
    (λ h. ⊎_elim (λ e. inl (h, e)) (λ e. inr (λ f. true-false f.1 e)) (true_or_false (is_free out k)))
    (λ h. inr (λ f. omega arith))
    (lt_or_le k n)

-- the marks' laws, of what is free
pub taken_out : (out k : ℕ) → is_free out k ≡ true → is_free (out + 2 ^ k) k ≡ false
unfolding is_free
taken_out out k e = not_of_true _ (take_same out k e)

out_not_free : (out k : ℕ) → is_out out k ≡ true → is_free out k ≡ false
unfolding is_free
out_not_free out k e = not_of_true _ e

pub back_free_other : (out k : ℕ) → is_out out k ≡ true → (j : ℕ) → (j ≡ k → ⊥) → is_free (out - 2 ^ k) j ≡ is_free out j
unfolding is_free
back_free_other out k e j d = ap not (back_other out k e j d)

-- the test of one place, where the buffer is free and where it is not
module _ (row : List ℕ) (out n k : ℕ) where
  free_right : Free out n k → place_right row out n k ≡ (leb 1 (get_or row k 0) && (leb (get_or row k 0) (free_of out n) && eqb (on_place row (get_or row k 0)) k))
  unfolding place_right
  free_right f = picked_yes _ _ _ (both _ _ (lt-ltb k n f.0) f.1)

  none_right : (Free out n k → ⊥) → place_right row out n k ≡ eqb (get_or row k 0) 0
  unfolding place_right
  none_right ne = picked_no _ _ _ (fails (true_or_false (ltb k n && is_free out k)))
    where
      fails : ((ltb k n && is_free out k) ≡ true) ⊎ ((ltb k n && is_free out k) ≡ false) → (ltb k n && is_free out k) ≡ false
      fails s = ⊎_elim (λ e. let b = both_true (ltb k n) (is_free out k) e in absurd (ne (ltb-true k n b.0, b.1))) (λ e. e) s

-- who is first on a place
on_upto : (row : List ℕ) (x k : ℕ) → get_or row k 0 ≡ x → on_place row x ≤ k
unfolding on_place
on_upto row x k e = least_upto (is_on row x) 64 k (eq-eqb _ _ e)

module _ (row : List ℕ) (out n : ℕ) (long : length row ≡ 64) (few : n ≤ 64) where
  -- a place past the row is 0
  past : (k : ℕ) → 64 ≤ k → get_or row k 0 ≡ 0
  past k h = get_or-eq_default row 0 (omega arith)

  -- what the rule's test says
  pub order_says : order_right row out n ≡ true → Ordered row out n
  unfolding order_right
  order_says e =
      record { long = long; few = few; none = none; some = λ k f. (own k f).0; small = small; once = once; full = full }
    where
      tests : (every (place_right row out n) 64 ≡ true) × (every (λ x. ltb (on_place row (x + 1)) 64) (free_of out n) ≡ true)
      tests = both_true _ _ e

      none : (k : ℕ) → (Free out n k → ⊥) → get_or row k 0 ≡ 0
      none k ne =
          ⊎_elim
          (λ h. eqb-true _ _ (sym (none_right row out n k ne) ∙ every_at (place_right row out n) 64 tests.0 k h))
          (λ h. past k h)
          (lt_or_le k 64)

      own : (k : ℕ) → Free out n k → (1 ≤ get_or row k 0) × (get_or row k 0 ≤ free_of out n) × (on_place row (get_or row k 0) ≡ k)
      own k f =
          let t = sym (free_right row out n k f) ∙ every_at (place_right row out n) 64 tests.0 k (omega (arith, f.0)) in
          let a = both_true (leb 1 (get_or row k 0)) _ t in
          let b = both_true (leb (get_or row k 0) (free_of out n)) _ a.1 in
          (leb-true _ _ a.0, leb-true _ _ b.0, eqb-true _ _ b.1)

      small : (k : ℕ) → get_or row k 0 ≤ free_of out n
      small k = ⊎_elim (λ f. (own k f).1) (λ ne. omega (arith, none k ne)) (free_or_not out n k)

      free : (k : ℕ) → 1 ≤ get_or row k 0 → Free out n k
      free k h = ⊎_elim (λ f. f) (λ ne. absurd (omega (arith, none k ne))) (free_or_not out n k)

      once : (j k : ℕ) → 1 ≤ get_or row j 0 → get_or row j 0 ≡ get_or row k 0 → j ≡ k
      once j k h d =
          sym (own j (free j h)).2 ∙ ap (on_place row) d ∙ (own k (free k (omega arith))).2

      full : (x : ℕ) → 1 ≤ x → x ≤ free_of out n → (k : ℕ) × (get_or row k 0 ≡ x)
      full x h l =
          let y : x - 1 + 1 ≡ x = omega arith in
          let t : ltb (on_place row (x - 1 + 1)) 64 ≡ true = every_at (λ z. ltb (on_place row (z + 1)) 64) (free_of out n) tests.1 (x - 1) (omega arith) in
          (on_place row x, on_place_lem row x (ltb-true _ _ (ap (λ (z : ℕ). ltb (on_place row z) 64) (sym y) ∙ t)))

-- of an order: who has a place is free, and the first is the one found
module _ {row : List ℕ} {out n : ℕ} (o : Ordered row out n) where
  pub placed_free : (k : ℕ) → 1 ≤ get_or row k 0 → Free out n k
  placed_free k h = ⊎_elim (λ f. f) (λ ne. absurd (omega (arith, o.none k ne))) (free_or_not out n k)

  inside_row : (k : ℕ) → 1 ≤ get_or row k 0 → k < 64
  inside_row k h = inside 64 row k o.long (λ z. omega arith)

  -- the buffer that is found on a place is the one that has it
  pub found_on : (k : ℕ) → 1 ≤ get_or row k 0 → on_place row (get_or row k 0) ≡ k
  found_on k h =
      let l : on_place row (get_or row k 0) ≤ k = on_upto row (get_or row k 0) k refl in
      let e : get_or row (on_place row (get_or row k 0)) 0 ≡ get_or row k 0 = on_place_lem row (get_or row k 0) (omega (arith, inside_row k h)) in
      o.once (on_place row (get_or row k 0)) k (omega arith) e

  -- where a buffer is free, the longest free one is found, and it is on the first place
  pub first_found : 1 ≤ free_of out n → (longest_free row < 64) × (get_or row (longest_free row) 0 ≡ 1)
  first_found h =
      let f : (k : ℕ) × (get_or row k 0 ≡ 1) = o.full 1 (omega arith) h in
      let i : f.0 < 64 = inside_row f.0 (omega (arith, f.1)) in
      let l : longest_free row < 64 = omega (arith, on_upto row 1 f.0 f.1) in
      (l, on_place_lem row 1 l)

  -- every other free buffer is behind it
  pub others_behind : (k j : ℕ) → get_or row k 0 ≡ 1 → Free out n j → (j ≡ k → ⊥) → 1 < get_or row j 0
  others_behind k j e f ne =
      ⊎_elim (λ h. h) (λ h. absurd (ne (o.once j k (o.some j f) (omega (arith, o.some j f))))) (lt_or_le 1 (get_or row j 0))

  -- the rule's test passes
  pub order_right_lem : order_right row out n ≡ true
  unfolding order_right
  order_right_lem =
      both _ _
      (every_yes (place_right row out n) 64 (λ k h. ⊎_elim (λ f. free k f) (λ ne. none_right row out n k ne ∙ eq-eqb _ _ (o.none k ne)) (free_or_not out n k)))
      (every_yes (λ x. ltb (on_place row (x + 1)) 64) (free_of out n) (λ x h. taken x h))
    where
      free : (k : ℕ) → Free out n k → place_right row out n k ≡ true
      free k f =
          free_right row out n k f
          ∙ both _ _ (le-leb _ _ (o.some k f)) (both _ _ (le-leb _ _ (o.small k)) (eq-eqb _ _ (found_on k (o.some k f))))

      taken : (x : ℕ) → x < free_of out n → ltb (on_place row (x + 1)) 64 ≡ true
      taken x h =
          let f : (k : ℕ) × (get_or row k 0 ≡ x + 1) = o.full (x + 1) (omega arith) (omega arith) in
          lt-ltb (on_place row (x + 1)) 64 (omega (arith, on_upto row (x + 1) f.0 f.1, inside_row f.0 (omega (arith, f.1))))

  -- a get: the first leaves
  pub leaves_ordered : (k : ℕ) → get_or row k 0 ≡ 1 → Ordered (first_leaves row) (out + 2 ^ k) n
  leaves_ordered k first =
      record {
        long = length_leaves row ∙ o.long;
        few = o.few;
        none = λ j ne. leaves_at row j ∙ ⊎_elim (λ d. one j d) (λ d. zero j d ne) (eq_or_not j k);
        some = λ j f. omega (arith, leaves_at row j, behind j f);
        small = λ j. omega (arith, leaves_at row j, o.small j, less);
        once = λ i j h e. o.once i j (omega (arith, leaves_at row i)) (omega (arith, leaves_at row i, leaves_at row j));
        full = λ x h l. let f : (j : ℕ) × (get_or row j 0 ≡ x + 1) = o.full (x + 1) (omega arith) (omega (arith, less)) in
            (f.0, leaves_at row f.0 ∙ omega (arith, f.1));
      }
    where
      was : Free out n k
      was = placed_free k (omega arith)

      less : free_of (out + 2 ^ k) n + 1 ≡ free_of out n
      less = take_free out k n was.1 was.0

      one : (j : ℕ) → j ≡ k → get_or row j 0 - 1 ≡ 0
      one j d = ap (λ (x : ℕ). get_or row x 0 - 1) d ∙ omega arith

      zero : (j : ℕ) → (j ≡ k → ⊥) → (Free (out + 2 ^ k) n j → ⊥) → get_or row j 0 - 1 ≡ 0
      zero j d ne = omega (arith, o.none j (λ f. ne (f.0, take_free_other out k was.1 j d ∙ f.1)))

      behind : (j : ℕ) → Free (out + 2 ^ k) n j → 1 < get_or row j 0
      behind j f =
          let d : j ≡ k → ⊥ = λ e. true-false (subst (λ (x : ℕ). is_free (out + 2 ^ k) x ≡ true) e f.1) (taken_out out k was.1) in
          others_behind k j first (f.0, sym (take_free_other out k was.1 j d) ∙ f.1) d

  -- a return: buffer k, which was out, joins at the end
  pub joins_ordered : (k : ℕ) → k < n → is_out out k ≡ true → Ordered (joins_last row (free_of out n) k) (out - 2 ^ k) n
  joins_ordered k h marked =
      record {
        long = length_joins row (free_of out n) k ∙ o.long;
        few = o.few;
        none = λ j ne. let d : j ≡ k → ⊥ = λ e. ne (subst (Free (out - 2 ^ k) n) (sym e) is) in
            joins_other row (free_of out n) k j d ∙ o.none j (λ f. ne (f.0, free_other j d ∙ f.1));
        some = λ j f. ⊎_elim (λ e. at_least j e) (λ d. omega (arith, joins_other row (free_of out n) k j d, o.some j (f.0, sym (free_other j d) ∙ f.1))) (eq_or_not j k);
        small = λ j. ⊎_elim (λ e. omega (arith, here j e, more)) (λ d. omega (arith, joins_other row (free_of out n) k j d, o.small j, more)) (eq_or_not j k);
        once = once;
        full = full;
      }
    where
      more : free_of (out - 2 ^ k) n ≡ free_of out n + 1
      more = back_free out k marked n h

      is : Free (out - 2 ^ k) n k
      is = (h, back_same out k marked)

      free_other : (j : ℕ) → (j ≡ k → ⊥) → is_free (out - 2 ^ k) j ≡ is_free out j
      free_other j d = back_free_other out k marked j d

      here : (j : ℕ) → j ≡ k → get_or (joins_last row (free_of out n) k) j 0 ≡ free_of out n + 1
      here j e = ap (λ (x : ℕ). get_or (joins_last row (free_of out n) k) x 0) e ∙ joins_at row (free_of out n) k (omega (arith, o.long, o.few))

      at_least : (j : ℕ) → j ≡ k → 1 ≤ get_or (joins_last row (free_of out n) k) j 0
      at_least j e = omega (arith, here j e)

      once : (i j : ℕ) → 1 ≤ get_or (joins_last row (free_of out n) k) i 0 → get_or (joins_last row (free_of out n) k) i 0 ≡ get_or (joins_last row (free_of out n) k) j 0 → i ≡ j
      once i j l e =
          ⊎_elim
          (λ a. ⊎_elim (λ b. a ∙ sym b) (λ b. absurd (omega (arith, here i a, joins_other row (free_of out n) k j b, o.small j))) (eq_or_not j k))
          (λ a. ⊎_elim (λ b. absurd (omega (arith, here j b, joins_other row (free_of out n) k i a, o.small i)))
          (λ b. o.once i j (omega (arith, joins_other row (free_of out n) k i a)) (sym (joins_other row (free_of out n) k i a) ∙ e ∙ joins_other row (free_of out n) k j b))
          (eq_or_not j k))
          (eq_or_not i k)

      full : (x : ℕ) → 1 ≤ x → x ≤ free_of (out - 2 ^ k) n → (j : ℕ) × (get_or (joins_last row (free_of out n) k) j 0 ≡ x)
      full x a b = ⊎_elim (λ l. old x a (omega arith)) (λ l. (k, here k refl ∙ omega (arith, more))) (lt_or_le x (free_of out n + 1))
        where
          old : (y : ℕ) → 1 ≤ y → y ≤ free_of out n → (j : ℕ) × (get_or (joins_last row (free_of out n) k) j 0 ≡ y)
          old y c d =
              let f : (j : ℕ) × (get_or row j 0 ≡ y) = o.full y c d in
              let w : get_or row k 0 ≡ 0 = o.none k (λ g. true-false g.1 (out_not_free out k marked)) in
              let ne : f.0 ≡ k → ⊥ = λ e. absurd (omega (arith, f.1, ap (λ (z : ℕ). get_or row z 0) e, w)) in
              (f.0, joins_other row (free_of out n) k f.0 ne ∙ f.1)

-- a new pool: nothing is out, and the places ascend with the buffers
all_free : (k : ℕ) → is_free 0 k ≡ true
unfolding is_free is_out
all_free k = rw (zero-div (2 ^ k))

all_number : (n : ℕ) → free_of 0 n ≡ n
unfolding free_of number
all_number zero = refl
all_number (suc n) = omega (arith, all_number n, picked_yes {A = ℕ} (is_free 0 n) 1 0 (all_free n))

pub new_ordered : (n : ℕ) → n ≤ 64 → Ordered (new_row n) 0 n
new_ordered n few =
    record {
      long = length_new n;
      few = few;
      none = λ k ne. ⊎_elim (λ h. absurd (ne (h, all_free k))) (λ h. past k h) (lt_or_le k n);
      some = λ k f. omega (arith, here k f.0);
      small = λ k. ⊎_elim (λ h. omega (arith, here k h, all_number n)) (λ h. omega (arith, past k h)) (lt_or_le k n);
      once = λ j k h e. once j k h e;
      full = λ x h l. (x - 1, here (x - 1) (omega (arith, all_number n)) ∙ omega arith);
    }
  where
    here : (k : ℕ) → k < n → get_or (new_row n) k 0 ≡ k + 1
    here k h = new_at n k (omega arith) ∙ picked_yes {A = ℕ} (ltb k n) (k + 1) 0 (lt-ltb k n h)

    past : (k : ℕ) → n ≤ k → get_or (new_row n) k 0 ≡ 0
    past k h =
        ⊎_elim
        (λ l. new_at n k l ∙ picked_no {A = ℕ} (ltb k n) (k + 1) 0 (le-ltb k n h))
        (λ l. get_or-eq_default (new_row n) 0 (omega (arith, length_new n)))
        (lt_or_le k 64)

    below : (k : ℕ) → 1 ≤ get_or (new_row n) k 0 → k < n
    below k h = ⊎_elim (λ l. l) (λ l. absurd (omega (arith, past k l))) (lt_or_le k n)

    once : (j k : ℕ) → 1 ≤ get_or (new_row n) j 0 → get_or (new_row n) j 0 ≡ get_or (new_row n) k 0 → j ≡ k
    once j k h e = omega (arith, here j (below j h), here k (below k (omega arith)), e)

-- "in a new pool, ascending addresses"
pub new_place : (n k : ℕ) → n ≤ 64 → k < n → get_or (new_row n) k 0 ≡ k + 1
new_place n k few h = new_at n k (omega arith) ∙ picked_yes {A = ℕ} (ltb k n) (k + 1) 0 (lt-ltb k n h)

-- a slot without a pool
pub none_ordered : (out : ℕ) → Ordered no_row out 0
unfolding free_of number
none_ordered out =
    record {
      long = refl;
      few = omega arith;
      none = λ k ne. zeros k;
      some = λ k f. absurd (omega (arith, f.0));
      small = λ k. omega (arith, zeros k);
      once = λ j k h e. absurd (omega (arith, zeros j));
      full = λ x h l. absurd (omega arith);
    }
  where
    zeros : (k : ℕ) → get_or no_row k 0 ≡ 0
    zeros k = ⊎_elim (λ h. get_or-replicate 64 k 0 0 h) (λ h. get_or-eq_default no_row 0 {n = k} (omega arith)) (lt_or_le k 64)
