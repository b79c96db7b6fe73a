-- The check of a row by two words. A loop from the last buffer down gathers which buffers have a place, and which places, of 64 as one
-- with 0, somebody is on. The order is right exactly if the first word is that of the free buffers, no place is above their number, and
-- the second word has all places up to it: m buffers on m places, none of them empty, so on each place one.
-- Assumes nothing.
use Prim.Native.Nat.{ℕ, zero, suc, ◌+◌, ◌-◌, ◌*◌, ◌%◌, ◌^◌, ◌≤◌, ◌<◌}
use native.Mathlib.Omega.{arith}
use native.Mathlib.Nat.{pow-suc, add-mul, mul_assoc, mul_comm, eq-or-lt_of_le, mod-eq_of_lt, mod-lt}
use mathlib.Core.Path.{◌≡◌, refl, sym, subst, ap, ◌∙◌}
use mathlib.Core.Logic.{◌⊎◌, inl, inr, ⊎_elim}
use mathlib.Core.Bool.{Bool, true, false, ◌&&◌, ◌||◌}
use mathlib.Core.List.{List}
use lib.ListN.{length, get_or, get_or-eq_default}
use lib.Dec.{ltb, leb, eqb}
use lib.Bits.{bit_or, or_lt}
use lib.Pow.{pow-lt, pow_mono, ones_lt}
use borrow.Author.Tests.{lt-ltb, le-ltb, ltb-true, ltb-false, le-leb, leb-true, eq-eqb, ne_eqb, eqb-true}
use Rattle.scope.specs.Choice.{pick, every, number, has_bit, bits}
use Rattle.scope.specs.Areas.{is_free, free_of}
use Rattle.scope.specs.Places.{row_of}
use Rattle.scope.specs.Rules.{order_right}
use Rattle.scope.proofs.Places.{row_at}
use Rattle.scope.proofs.Seats.{number_more}
use Rattle.laws.proofs.Branches.{both, both_true, picked_yes, picked_no, true-false, true_or_false, eq_or_not, lt_or_le}
use Rattle.laws.proofs.Searches.{every_yes, every_at, number-le}
use Rattle.laws.proofs.Bits.{bits-lt, bits_at, bits_past}
use Rattle.laws.specs.Order.{Free, Ordered}
use Rattle.places.proofs.Words.{same_bits, lowest_set, lowest_clear, or_bit, bit_here, bit_other}
use Rattle.laws.proofs.Orders.{free_or_not, order_says, order_right_lem}

-- buffer k has a place
abbrev pub placed : List ℕ → ℕ → Bool
placed row k = ltb 0 (get_or row k 0)

bits_no : (p : ℕ → Bool) → bits p 0 ≡ 0
unfolding bits
bits_no p = refl

bits_more : (p : ℕ → Bool) (j : ℕ) → bits p (suc j) ≡ bits p j + pick (p j) (2 ^ j) 0
unfolding bits
bits_more p j = refl

-- the buffers from k on are gathered
pub record Gathering (row : List ℕ) (taken seen k : ℕ) : Type 0 where
  pub upto : k ≤ 64
  pub room : taken < 2 ^ (64 - k)
  pub sofar : taken * 2 ^ k + bits (placed row) k ≡ bits (placed row) 64
  pub word : seen < 2 ^ 64
  pub all : (j : ℕ) → k ≤ j → j < 64 → has_bit seen (get_or row j 0 % 64) ≡ true
  pub only : (b : ℕ) → has_bit seen b ≡ true → (j : ℕ) × (j < 64) × (get_or row j 0 % 64 ≡ b)

pub gathering_start : (row : List ℕ) → Gathering row 0 0 64
gathering_start row =
    record {
      upto = omega arith;
      room = omega arith;
      sofar = omega arith;
      word = omega arith;
      all = λ j h l. absurd (omega arith);
      only = λ b e. absurd (true-false e (no_bit b));
    }
  where
    no_bit : (b : ℕ) → has_bit 0 b ≡ false
    no_bit b = lowest_clear 0 b (omega arith)

either : (a b : Bool) → (a || b) ≡ true → (a ≡ true) ⊎ (b ≡ true)
either true b e = inl refl
either false b e = inr e

pub one_most : (b : Bool) {one : ℕ} → one ≡ pick b 1 0 → one ≤ 1
unfolding pick
one_most true o = omega (arith, o)
one_most false o = omega (arith, o)

module _ {row : List ℕ} {taken seen k : ℕ} (g : Gathering row taken seen k) (j : ℕ) (next : k ≡ suc j) where
  -- a bit more fits the word
  pub room_for : taken * 2 + 1 < 2 ^ 64
  room_for =
      let m : 2 ^ (64 - k) ≤ 2 ^ 63 = pow_mono {j = 63} (omega (arith, next)) in
      omega (arith, g.room, m)

  pub gathering_more : (x one bit : ℕ) → x ≡ get_or row j 0 → one ≡ pick (ltb 0 x) 1 0 → bit ≡ 2 ^ (x % 64)
      → Gathering row (taken * 2 + one) (bit_or seen bit) j
  gathering_more x one bit e o b =
      record {
        upto = omega (arith, next, g.upto);
        room = omega (arith, g.room, ap (λ (n : ℕ). 2 ^ n) wide, pow-suc 2 (64 - k), one_most (ltb 0 x) o);
        sofar = grown;
        word = or_lt 64 seen bit g.word (subst (λ (v : ℕ). v < 2 ^ 64) (sym b) (pow-lt (small x)));
        all = λ i h l. or_bit seen bit (get_or row i 0 % 64) ∙ ⊎_elim (λ d. here i d) (λ d. there i (omega (arith, next, d)) l) (eq-or-lt_of_le {n = j} {m = i} h);
        only = λ v d. ⊎_elim (λ a. g.only v a) (λ a. mine v a) (either (has_bit seen v) (has_bit bit v) (sym (or_bit seen bit v) ∙ d));
      }
    where
      small : (y : ℕ) → y % 64 < 64
      small y = mod-lt y (omega arith)

      wide : 64 - j ≡ suc (64 - k)
      wide = omega (arith, next, g.upto)

      -- buffer j's own bit
      own : one * 2 ^ j ≡ pick (placed row j) (2 ^ j) 0
      own =
          ⊎_elim
          (λ q. ap (λ (v : ℕ). v * 2 ^ j) (o ∙ picked_yes {A = ℕ} (ltb 0 x) 1 0 q) ∙ omega (arith, picked_yes (placed row j) (2 ^ j) 0 (sym (ap (ltb 0) e) ∙ q)))
          (λ q. ap (λ (v : ℕ). v * 2 ^ j) (o ∙ picked_no {A = ℕ} (ltb 0 x) 1 0 q) ∙ omega (arith, picked_no (placed row j) (2 ^ j) 0 (sym (ap (ltb 0) e) ∙ q)))
          (true_or_false (ltb 0 x))

      grown : (taken * 2 + one) * 2 ^ j + bits (placed row) j ≡ bits (placed row) 64
      grown =
          let was : taken * 2 ^ k + bits (placed row) k ≡ taken * 2 * 2 ^ j + bits (placed row) (suc j) =
          ap (λ (n : ℕ). taken * 2 ^ n + bits (placed row) n) next
          ∙ ap (λ (n : ℕ). taken * n + bits (placed row) (suc j)) (pow-suc 2 j ∙ mul_comm (2 ^ j) 2)
          ∙ ap (λ (n : ℕ). n + bits (placed row) (suc j)) (sym (mul_assoc taken 2 (2 ^ j))) in
          omega (arith, add-mul (taken * 2) one (2 ^ j), own, was, g.sofar, bits_more (placed row) j)

      at_own : bit ≡ 2 ^ (get_or row j 0 % 64)
      at_own = b ∙ ap (λ (v : ℕ). 2 ^ (v % 64)) e

      here : (i : ℕ) → j ≡ i → (has_bit seen (get_or row i 0 % 64) || has_bit bit (get_or row i 0 % 64)) ≡ true
      here i d =
          or_second (has_bit seen (get_or row i 0 % 64))
          (subst (λ (v : ℕ). has_bit bit (get_or row v 0 % 64) ≡ true) d (ap (λ (v : ℕ). has_bit v (get_or row j 0 % 64)) at_own ∙ bit_here (get_or row j 0 % 64)))
        where
          or_second : (a : Bool) {c : Bool} → c ≡ true → (a || c) ≡ true
          or_second true d = refl
          or_second false d = d

      there : (i : ℕ) → k ≤ i → i < 64 → (has_bit seen (get_or row i 0 % 64) || has_bit bit (get_or row i 0 % 64)) ≡ true
      there i h l = rw (g.all i h l)

      mine : (v : ℕ) → has_bit bit v ≡ true → (i : ℕ) × (i < 64) × (get_or row i 0 % 64 ≡ v)
      mine v a =
          ⊎_elim
          (λ d. (j, omega (arith, next, g.upto), sym d))
          (λ d. absurd (true-false a (ap (λ (w : ℕ). has_bit w v) at_own ∙ bit_other (get_or row j 0 % 64) v d)))
          (eq_or_not v (get_or row j 0 % 64))

-- a test that passes on one number less
abbrev without : (ℕ → Bool) → ℕ → ℕ → Bool
without p k j = pick (eqb j k) false (p j)

gone : (p : ℕ → Bool) (k : ℕ) → without p k k ≡ false
gone p k = picked_yes (eqb k k) false (p k) (eq-eqb k k refl)

stays : (p : ℕ → Bool) (k j : ℕ) → (j ≡ k → ⊥) → without p k j ≡ p j
stays p k j d = picked_no (eqb j k) false (p j) (ne_eqb j k d)

-- as many numbers below n pass as there are values that they cover
covered : (f : ℕ → ℕ) (n m : ℕ) (p : ℕ → Bool) → ((x : ℕ) → 1 ≤ x → x ≤ m → (k : ℕ) × (k < n) × (p k ≡ true) × (f k ≡ x)) → m ≤ number p n
covered f n zero p hit = omega arith
covered f n (suc m) p hit =
    let t = hit (suc m) (omega arith) (omega arith) in
    let k : ℕ = t.0 in
    let less : m ≤ number (without p k) n =
    covered f n m (without p k)
    (λ x a b. let s = hit x a (omega arith) in
    (s.0, s.1, stays p k s.0 (λ e. omega (arith, t.3, s.3, ap f e)) ∙ s.2, s.3)) in
    omega (arith, less, number_more p (without p k) k (λ j d. sym (stays p k j d)) t.2 (gone p k) n t.1)

-- where not all pass, there is one that fails
one_fails : (p : ℕ → Bool) (n : ℕ) → number p n < n → (k : ℕ) × (k < n) × (p k ≡ false)
unfolding number
one_fails p zero h = absurd (omega arith)
one_fails p (suc n) h =
    ⊎_elim
    (λ e. let t = one_fails p n (omega (arith, picked_yes {A = ℕ} (p n) 1 0 e)) in (t.0, omega (arith, t.1), t.2))
    (λ e. (n, omega arith, e))
    (true_or_false (p n))

-- where all pass, none fails
none_fails : (p : ℕ → Bool) (n k : ℕ) → n ≤ number p n → k < n → p k ≡ false → ⊥
unfolding number
none_fails p zero k h l e = omega arith
none_fails p (suc n) k h l e =
    ⊎_elim
    (λ d. omega (arith, h, number-le p n, picked_no {A = ℕ} (p n) 1 0 (subst (λ (v : ℕ). p v ≡ false) d e)))
    (λ a. none_fails p n k (omega (arith, h, one)) a e)
    (eq-or-lt_of_le {n = k} {m = n} (omega arith))
  where
    one : pick {A = ℕ} (p n) 1 0 ≤ 1
    one = ⊎_elim (λ q. omega (arith, picked_yes {A = ℕ} (p n) 1 0 q)) (λ q. omega (arith, picked_no {A = ℕ} (p n) 1 0 q)) (true_or_false (p n))

-- a test that agrees with another below n and passes on none from n on
counted : (p q : ℕ → Bool) (n m : ℕ) → n ≤ m → ((k : ℕ) → k < n → p k ≡ q k) → ((k : ℕ) → n ≤ k → k < m → p k ≡ false) → number p m ≡ number q n
unfolding number
counted p q zero zero h same none = refl
counted p q (suc n) zero h same none = absurd (omega arith)
counted p q n (suc m) h same none =
    ⊎_elim
    (λ e. whole n (suc m) e same)
    (λ l. omega (arith, counted p q n m (omega arith) same (λ k a b. none k a (omega arith)), picked_no {A = ℕ} (p m) 1 0 (none m (omega arith) (omega arith))))
    (eq-or-lt_of_le {n = n} {m = suc m} h)
  where
    alike : (i : ℕ) → ((k : ℕ) → k < i → p k ≡ q k) → number p i ≡ number q i
    alike zero f = refl
    alike (suc i) f = omega (arith, alike i (λ k a. f k (omega arith)), ap (λ (b : Bool). pick {A = ℕ} b 1 0) (f i (omega arith)))

    whole : (i j : ℕ) → i ≡ j → ((k : ℕ) → k < i → p k ≡ q k) → number p j ≡ number q i
    whole i j e f = ap (number p) (sym e) ∙ alike i f

-- at the loop's end all are gathered
pub gathering_done : {row : List ℕ} {taken seen k : ℕ} → Gathering row taken seen k → k ≤ 0 → Gathering row taken seen 0
gathering_done {row} {taken} {seen} {k} g h = let z : k ≡ 0 = omega arith in subst (Gathering row taken seen) z g

-- two tests that pass together
alike : (x y : Bool) → (x ≡ true → y ≡ true) → (y ≡ true → x ≡ true) → x ≡ y
alike true y r s = sym (r refl)
alike false true r s = s refl
alike false false r s = refl

-- two tests that agree below n
every_same : (p q : ℕ → Bool) (n : ℕ) → ((j : ℕ) → j < n → p j ≡ q j) → every p n ≡ every q n
unfolding every
every_same p q zero same = refl
every_same p q (suc n) same =
    ap (λ (b : Bool). elim b as (λ x. Bool) [ true ↦ every p n | false ↦ false ]) (same n (omega arith))
    ∙ ap (λ (b : Bool). elim (q n) as (λ x. Bool) [ true ↦ b | false ↦ false ]) (every_same p q n (λ j h. same j (omega arith)))

-- a row is tested where it lies
pub row_tested : (places : List ℕ) (i most : ℕ) → i * 64 + 64 ≤ length places
    → every (λ k. leb (get_or places (i * 64 + k) 0) most) 64 ≡ every (λ k. leb (get_or (row_of places i) k 0) most) 64
row_tested places i most within = every_same _ _ 64 (λ k h. ap (λ (x : ℕ). leb x most) (sym (row_at places i within k h)))

-- no more are free than there are
pub free_few : (out n : ℕ) {most : ℕ} → most ≡ free_of out n → n ≤ 64 → most ≤ 64
unfolding free_of
free_few out n e h = omega (arith, e, number-le (is_free out) n)

free_none : (out : ℕ) → free_of out 0 ≤ 0
unfolding free_of number
free_none out = omega arith

-- a row of no buffers
pub clear_right : (row : List ℕ) (out : ℕ) → length row ≡ 64 → every (λ k. leb (get_or row k 0) 0) 64 ≡ order_right row out 0
clear_right row out long = alike _ _ (λ t. order_right_lem (cleared t)) (λ t. every_yes (λ k. leb (get_or row k 0) 0) 64 (λ k h. le-leb (get_or row k 0) 0 (zero k t)))
  where
    nobody : free_of out 0 ≤ 0
    nobody = free_none out

    zero : (k : ℕ) → order_right row out 0 ≡ true → get_or row k 0 ≤ 0
    zero k t = let o : Ordered row out 0 = order_says row out 0 long (omega arith) t in omega (arith, o.small k, nobody)

    cleared : every (λ k. leb (get_or row k 0) 0) 64 ≡ true → Ordered row out 0
    cleared t =
        record {
          long = long;
          few = omega arith;
          none = λ k ne. none k;
          some = λ k f. absurd (omega (arith, f.0));
          small = λ k. omega (arith, none k);
          once = λ j k h e. absurd (omega (arith, none j));
          full = λ x h l. absurd (omega (arith, nobody));
        }
      where
        none : (k : ℕ) → get_or row k 0 ≡ 0
        none k =
            ⊎_elim
            (λ h. omega (arith, leb-true (get_or row k 0) 0 (every_at (λ i. leb (get_or row i 0) 0) 64 t k h)))
            (λ h. get_or-eq_default row 0 (omega arith))
            (lt_or_le k 64)

-- the places up to m, as bits
abbrev pub width : ℕ → ℕ
width m = pick (ltb m 64) (m + 1) 64

width_less : (m : ℕ) → m < 64 → width m ≡ m + 1
width_less m h = picked_yes {A = ℕ} (ltb m 64) (m + 1) 64 (lt-ltb m 64 h)

width_full : (m : ℕ) → 64 ≤ m → width m ≡ 64
width_full m h = picked_no {A = ℕ} (ltb m 64) (m + 1) 64 (le-ltb m 64 h)

module _ (row : List ℕ) (out n taken seen : ℕ) (long : length row ≡ 64) (few : n ≤ 64) (g : Gathering row taken seen 0) where
  abbrev m : ℕ
  m = free_of out n

  most : m ≤ 64
  most = free_few out n refl few

  free_number : number (is_free out) n ≡ m
  unfolding free_of
  free_number = refl

  taken_is : taken ≡ bits (placed row) 64
  taken_is = omega (arith, g.sofar, bits_no (placed row))

  beyond : (k : ℕ) → 64 ≤ k → get_or row k 0 ≡ 0
  beyond k h = get_or-eq_default row 0 (omega arith)

  -- the bits of the free buffers
  free_bit : (k : ℕ) → Free out n k → has_bit (bits (is_free out) n) k ≡ true
  free_bit k f = bits_at (is_free out) n k f.0 ∙ f.1

  other_bit : (k : ℕ) → (Free out n k → ⊥) → has_bit (bits (is_free out) n) k ≡ false
  other_bit k ne =
      ⊎_elim
      (λ h. bits_at (is_free out) n k h ∙ ⊎_elim (λ e. absurd (ne (h, e))) (λ e. e) (true_or_false (is_free out k)))
      (λ h. bits_past (is_free out) n k h)
      (lt_or_le k n)

  -- a right order passes the tests
  module _ (o : Ordered row out n) where
    pub taken_right : taken ≡ bits (is_free out) n
    taken_right =
        taken_is
        ∙ same_bits (bits (placed row) 64) (bits (is_free out) n) 64 (bits-lt (placed row) 64) (short (bits-lt (is_free out) n))
        (λ j h. bits_at (placed row) 64 j h ∙ ⊎_elim (λ f. lt-ltb 0 (get_or row j 0) (o.some j f) ∙ sym (free_bit j f)) (λ ne. le-ltb 0 (get_or row j 0) (omega (arith, o.none j ne)) ∙ sym (other_bit j ne)) (free_or_not out n j))
      where
        short : bits (is_free out) n < 2 ^ n → bits (is_free out) n < 2 ^ 64
        short l = let p : 2 ^ n ≤ 2 ^ 64 = pow_mono {j = 64} few in omega (arith, l, p)

    pub seen_right : seen ≡ 2 ^ width m - 1
    seen_right =
        same_bits seen (2 ^ width m - 1) 64 g.word (word (width m) wide)
        (λ b h. ⊎_elim (λ l. on b l ∙ sym (lowest_set (width m) b l)) (λ l. off b h l ∙ sym (lowest_clear (width m) b l)) (lt_or_le b (width m)))
      where
        wide : width m ≤ 64
        wide = ⊎_elim (λ h. omega (arith, width_less m h)) (λ h. omega (arith, width_full m h)) (lt_or_le m 64)

        word : (w : ℕ) → w ≤ 64 → 2 ^ w - 1 < 2 ^ 64
        word w h = let p : 2 ^ w ≤ 2 ^ 64 = pow_mono {j = 64} h in omega (arith, ones_lt w, p)

        inside : (x : ℕ) → 1 ≤ x → (k : ℕ) → get_or row k 0 ≡ x → k < 64
        inside x a k e = ⊎_elim (λ h. h) (λ h. absurd (omega (arith, beyond k h))) (lt_or_le k 64)

        sets : (x : ℕ) → 1 ≤ x → x ≤ m → has_bit seen (x % 64) ≡ true
        sets x a b = let f : (k : ℕ) × (get_or row k 0 ≡ x) = o.full x a b in
            ap (λ (v : ℕ). has_bit seen (v % 64)) (sym f.1) ∙ g.all f.0 (omega arith) (inside x a f.0 f.1)

        count : number (placed row) 64 ≡ m
        count = counted (placed row) (is_free out) n 64 few
            (λ k h. ⊎_elim (λ e. lt-ltb 0 (get_or row k 0) (o.some k (h, e)) ∙ sym e) (λ e. le-ltb 0 (get_or row k 0) (omega (arith, o.none k (λ f. true-false f.1 e))) ∙ sym e) (true_or_false (is_free out k)))
            (λ k a b. le-ltb 0 (get_or row k 0) (omega (arith, o.none k (λ f. omega (arith, f.0, a)))))
            ∙ free_number

        zero_set : has_bit seen 0 ≡ true
        zero_set =
            ⊎_elim
            (λ h. let t = one_fails (placed row) 64 (omega (arith, count)) in
            let z : get_or row t.0 0 ≡ 0 = omega (arith, ltb-false 0 (get_or row t.0 0) t.2) in
            ap (λ (v : ℕ). has_bit seen (v % 64)) (sym z) ∙ g.all t.0 (omega arith) t.1)
            (λ h. sets 64 (omega arith) h)
            (lt_or_le m 64)

        on : (b : ℕ) → b < width m → has_bit seen b ≡ true
        on zero l = zero_set
        on (suc b) l =
            let h : suc b < 64 = omega (arith, wide) in
            ap (has_bit seen) (sym (mod-eq_of_lt h)) ∙ sets (suc b) (omega arith) (⊎_elim (λ a. omega (arith, width_less m a)) (λ a. omega arith) (lt_or_le m 64))

        off : (b : ℕ) → b < 64 → width m ≤ b → has_bit seen b ≡ false
        off b h l =
            ⊎_elim
            (λ e. let t = g.only b e in
            let d : m < 64 = ⊎_elim (λ a. a) (λ a. absurd (omega (arith, width_full m a))) (lt_or_le m 64) in
            absurd (omega (arith, t.2, mod-eq_of_lt {n = get_or row t.0 0} {m = 64} (omega (arith, o.small t.0)), o.small t.0, width_less m d)))
            (λ e. e)
            (true_or_false (has_bit seen b))

  -- and what passes them is in order
  module _ (marks : taken ≡ bits (is_free out) n) (places : seen ≡ 2 ^ width m - 1) (below : (k : ℕ) → k < 64 → get_or row k 0 ≤ m) where
    same : (k : ℕ) → k < 64 → placed row k ≡ has_bit (bits (is_free out) n) k
    same k h = sym (bits_at (placed row) 64 k h) ∙ ap (λ (v : ℕ). has_bit v k) (sym taken_is ∙ marks)

    some : (k : ℕ) → Free out n k → 1 ≤ get_or row k 0
    some k f = ltb-true 0 (get_or row k 0) (same k (omega (arith, f.0)) ∙ free_bit k f)

    none : (k : ℕ) → (Free out n k → ⊥) → get_or row k 0 ≡ 0
    none k ne =
        ⊎_elim
        (λ h. omega (arith, ltb-false 0 (get_or row k 0) (same k h ∙ other_bit k ne)))
        (λ h. beyond k h)
        (lt_or_le k 64)

    small : (k : ℕ) → get_or row k 0 ≤ m
    small k = ⊎_elim (λ h. below k h) (λ h. omega (arith, beyond k h)) (lt_or_le k 64)

    as_many : number (placed row) 64 ≡ m
    as_many =
        counted (placed row) (is_free out) n 64 few
        (λ k h. same k (omega arith) ∙ bits_at (is_free out) n k h)
        (λ k a b. same k b ∙ bits_past (is_free out) n k a)
        ∙ free_number

    -- who is on place x, by its bit
    found : (x : ℕ) → x % 64 < width m → (k : ℕ) × (k < 64) × (get_or row k 0 % 64 ≡ x % 64)
    found x h = g.only (x % 64) (ap (λ (v : ℕ). has_bit v (x % 64)) places ∙ lowest_set (width m) (x % 64) h)

    -- places 1 to 63 have bits of their own; the 64th has that of 0, and there all buffers have a place
    full : (x : ℕ) → 1 ≤ x → x ≤ m → (k : ℕ) × (k < 64) × (placed row k ≡ true) × (get_or row k 0 ≡ x)
    full x a b = ⊎_elim (λ h. lower h) (λ h. last (omega (arith, h, b, most)) (omega (arith, h, b, most))) (lt_or_le x 64)
      where
        on : (k y : ℕ) → get_or row k 0 ≡ y → 1 ≤ y → placed row k ≡ true
        on k y e h = lt-ltb 0 (get_or row k 0) (omega (arith, e, h))

        lower : x < 64 → (k : ℕ) × (k < 64) × (placed row k ≡ true) × (get_or row k 0 ≡ x)
        lower h =
            let d : x % 64 ≡ x = mod-eq_of_lt h in
            let w : x < width m = ⊎_elim (λ l. omega (arith, width_less m l)) (λ l. omega (arith, width_full m l)) (lt_or_le m 64) in
            let t = found x (omega (arith, d, w)) in
            let e : get_or row t.0 0 ≡ x = ⊎_elim
            (λ l. omega (arith, t.2, d, mod-eq_of_lt {n = get_or row t.0 0} {m = 64} l))
            (λ l. let q : get_or row t.0 0 ≡ 64 = omega (arith, l, small t.0, most) in absurd (omega (arith, t.2, d, ap (λ (v : ℕ). v % 64) q)))
            (lt_or_le (get_or row t.0 0) 64) in
            (t.0, t.1, on t.0 x e a, e)

        last : m ≡ 64 → x ≡ 64 → (k : ℕ) × (k < 64) × (placed row k ≡ true) × (get_or row k 0 ≡ x)
        last all top =
            let d : x % 64 ≡ 0 = ap (λ (v : ℕ). v % 64) top in
            let t = found x (omega (arith, d, width_full m (omega (arith, all)))) in
            let p : placed row t.0 ≡ true = ⊎_elim (λ e. e) (λ e. absurd (none_fails (placed row) 64 t.0 (omega (arith, as_many, all)) t.1 e)) (true_or_false (placed row t.0)) in
            let e : get_or row t.0 0 ≡ x = ⊎_elim
            (λ l. absurd (omega (arith, t.2, d, mod-eq_of_lt {n = get_or row t.0 0} {m = 64} l, ltb-true 0 (get_or row t.0 0) p)))
            (λ l. omega (arith, l, top, small t.0, all))
            (lt_or_le (get_or row t.0 0) 64) in
            (t.0, t.1, p, e)

    -- on one place there are not two: without the one, the others would still cover all places, and they are too few
    once : (i j : ℕ) → 1 ≤ get_or row i 0 → get_or row i 0 ≡ get_or row j 0 → i ≡ j
    once i j h e = ⊎_elim (λ d. d) (λ d. absurd (twice d)) (eq_or_not i j)
      where
        in_row : (k : ℕ) → 1 ≤ get_or row k 0 → k < 64
        in_row k l = ⊎_elim (λ a. a) (λ a. absurd (omega (arith, beyond k a))) (lt_or_le k 64)

        has : placed row i ≡ true
        has = lt-ltb 0 (get_or row i 0) h

        twice : (i ≡ j → ⊥) → ⊥
        twice d =
            let c : m ≤ number (without (placed row) i) 64 =
            covered (λ k. get_or row k 0) 64 m (without (placed row) i)
            (λ x a b. let t = full x a b in
            ⊎_elim
            (λ q. (j, in_row j (omega (arith, e)), stays (placed row) i j (λ z. d (sym z)) ∙ lt-ltb 0 (get_or row j 0) (omega (arith, e)), sym e ∙ ap (λ (k : ℕ). get_or row k 0) (sym q) ∙ t.3))
            (λ q. (t.0, t.1, stays (placed row) i t.0 q ∙ t.2, t.3))
            (eq_or_not t.0 i)) in
            omega (arith, c, as_many, number_more (placed row) (without (placed row) i) i (λ k z. sym (stays (placed row) i k z)) has (gone (placed row) i) 64 (in_row i h))

    pub in_order : Ordered row out n
    in_order =
        record { long = long; few = few; none = none; some = some; small = small; once = once; full = λ x a b. let t = full x a b in (t.0, t.3) }

  -- the check by words is the rule's test
  pub order_by : (f w : ℕ) (below : Bool) → f ≡ bits (is_free out) n → w ≡ 2 ^ width m - 1 → below ≡ every (λ k. leb (get_or row k 0) m) 64
      → (eqb taken f && (eqb seen w && below)) ≡ order_right row out n
  order_by f w below e d b = alike _ _ yes no
    where
      yes : (eqb taken f && (eqb seen w && below)) ≡ true → order_right row out n ≡ true
      yes t =
          let t1 = both_true (eqb taken f) (eqb seen w && below) t in
          let t2 = both_true (eqb seen w) below t1.1 in
          order_right_lem (in_order (eqb-true taken f t1.0 ∙ e) (eqb-true seen w t2.0 ∙ d)
          (λ k h. leb-true (get_or row k 0) m (every_at (λ i. leb (get_or row i 0) m) 64 (sym b ∙ t2.1) k h)))

      no : order_right row out n ≡ true → (eqb taken f && (eqb seen w && below)) ≡ true
      no t =
          let o : Ordered row out n = order_says row out n long few t in
          both (eqb taken f) (eqb seen w && below) (eq-eqb taken f (taken_right o ∙ sym e))
          (both (eqb seen w) below (eq-eqb seen w (seen_right o ∙ sym d))
          (b ∙ every_yes (λ k. leb (get_or row k 0) m) 64 (λ k h. le-leb (get_or row k 0) m (o.small k))))
