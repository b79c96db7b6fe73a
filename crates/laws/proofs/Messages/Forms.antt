-- The test of the one form: bytes that are zeros, a cell and a row, as parts of the list of all cells.
-- Assumes nothing.
use Prim.Native.Nat.{◌/◌, ◌%◌, ℕ, zero, suc, ◌+◌, ◌-◌, ◌*◌, ◌≤◌, ◌<◌}
use native.Mathlib.Omega.{arith}
use native.Mathlib.Nat.{mod-lt, div-add-mod'}
use mathlib.Core.Path.{◌≡◌, refl, sym, subst, ap, ◌∙◌}
use mathlib.Core.Bool.{Bool, true, false, ◌&&◌}
use mathlib.Core.List.{List, [], ◌∷◌}
use lib.ListN.{length, get_or, take, drop, length-drop}
use lib.Seq.{length-take-le, take-take, drop-drop, get_or-take, get_or-drop}
use lib.Dec.{leb, eqb}
use lib.Bits.{bit_or, bit_and, or_add_and, and_le_l, and_le_r}
use borrow.Author.Tests.{le-leb, lt-leb, eq-eqb, ne_eqb, eqb-true, eqb-false}
use Rattle.laws.proofs.Branches.{first_fails, second_decides}
use Rattle.laws.proofs.Searches.{every_at, every_yes}
use Rattle.laws.proofs.Testing.{Testing, testing_start, testing_more, testing_done}
use Rattle.scope.specs.Choice.{every}
use Rattle.scope.specs.Messages.{cells_of, is_zeros, cell_at, cell_right, row_right, store, store_right}
use Rattle.laws.proofs.Messages.Parts.{drop-take}

-- two numbers together have no bit exactly if neither has one
or_none : (a x : ℕ) → eqb (bit_or a x) 0 ≡ (eqb x 0 && eqb a 0)
or_none a x = go (eqb x 0) (eqb a 0) refl refl
  where
    sum : bit_or a x + bit_and a x ≡ a + x
    sum = or_add_and a x

    go : (p q : Bool) → eqb x 0 ≡ p → eqb a 0 ≡ q → eqb (bit_or a x) 0 ≡ (p && q)
    go true true d e = eq-eqb (bit_or a x) 0 (omega (arith, sum, eqb-true x 0 d, eqb-true a 0 e))
    go true false d e = ne_eqb (bit_or a x) 0 (λ z. eqb-false a 0 e (omega (arith, sum, and_le_r a x, eqb-true x 0 d)))
    go false q d e = ne_eqb (bit_or a x) 0 (λ z. eqb-false x 0 d (omega (arith, sum, and_le_l a x)))

-- a loop over the bytes from `from` up to `to` that puts their bits together
abbrev pub Zeroing : List ℕ → ℕ → ℕ → ℕ → ℕ → Type 0
Zeroing cells from to some j = (from ≤ j) × Testing (to - from) (λ k. eqb (get_or cells (from + k) 0) 0) (eqb some 0) (j - from)

module _ (cells : List ℕ) (from to : ℕ) where
  pub zeroing_start : Zeroing cells from to 0 from
  zeroing_start =
      let e : 0 ≡ from - from = omega arith in
      (omega arith, subst (λ (t : ℕ). Testing (to - from) (λ k. eqb (get_or cells (from + k) 0) 0) true t) e (testing_start _ _))

  pub zeroing_more : (some j : ℕ) → j < to → Zeroing cells from to some j → Zeroing cells from to (bit_or some (get_or cells j 0)) (j + 1)
  zeroing_more some j h m =
      let e : j - from + 1 ≡ j + 1 - from = omega (arith, m.0) in
      let d : j ≡ from + (j - from) = omega (arith, m.0) in (
        omega (arith, m.0),
        subst (λ (b : Bool). Testing (to - from) (λ k. eqb (get_or cells (from + k) 0) 0) b (j + 1 - from)) (sym (or_none some (get_or cells j 0)))
            (subst (λ (t : ℕ). Testing (to - from) (λ k. eqb (get_or cells (from + k) 0) 0) (eqb (get_or cells j 0) 0 && eqb some 0) t) e
            (testing_more m.1 (omega (arith, m.0)) (ap (λ (k : ℕ). eqb (get_or cells k 0) 0) d))),
      )

  pub zeroing_done : (some j : ℕ) → to ≤ j → Zeroing cells from to some j → eqb some 0 ≡ every (λ k. eqb (get_or cells (from + k) 0) 0) (to - from)
  zeroing_done some j h m = testing_done m.1 (omega (arith, m.0))

-- a test of all, by the same test
pub every_same : (p q : ℕ → Bool) (n : ℕ) → ((k : ℕ) → k < n → p k ≡ q k) → every p n ≡ every q n
unfolding every
every_same p q zero h = refl
every_same p q (suc n) h =
    ap (λ (b : Bool). elim b as (λ x. Bool) [ true ↦ every p n | false ↦ false ]) (h n (omega arith))
    ∙ ap (λ (b : Bool). elim (q n) as (λ x. Bool) [ true ↦ b | false ↦ false ]) (every_same p q n (λ k l. h k (omega arith)))

-- a test of all, by that of the first and that of those behind it
every_first : (p : ℕ → Bool) (n : ℕ) → every p (suc n) ≡ (p 0 && every (λ k. p (suc k)) n)
unfolding every
every_first p zero = go (p 0)
  where
    go : (b : Bool) → elim b as (λ x. Bool) [ true ↦ true | false ↦ false ] ≡ (b && true)
    go true = refl
    go false = refl
every_first p (suc n) =
    ap (λ (r : Bool). elim (p (suc n)) as (λ x. Bool) [ true ↦ r | false ↦ false ]) (every_first p n) ∙ go (p (suc n)) (p 0)
  where
    go : (b a : Bool)
        → elim b as (λ x. Bool) [ true ↦ a && every (λ k. p (suc k)) n | false ↦ false ]
        ≡ (a && elim b as (λ x. Bool) [ true ↦ every (λ k. p (suc k)) n | false ↦ false ])
    go true a = refl
    go false true = refl
    go false false = refl

-- zeros, by what stands at each place
pub zeros_are : (xs : List ℕ) → is_zeros xs ≡ every (λ k. eqb (get_or xs k 0) 0) (length xs)
unfolding is_zeros every
zeros_are [] = refl
zeros_are (x ∷ xs) =
    ap (λ (b : Bool). eqb x 0 && b) (zeros_are xs) ∙ sym (every_first (λ k. eqb (get_or (x ∷ xs) k 0) 0) (length xs))

-- the bytes of a part from its byte a on
pub zeros_part : (cells : List ℕ) (c b a from to : ℕ) → c + b ≤ length cells → from ≡ c + a → to ≡ c + b
    → every (λ k. eqb (get_or cells (from + k) 0) 0) (to - from) ≡ is_zeros (drop a (take b (drop c cells)))
zeros_part cells c b a from to room e d =
    ap (every (λ k. eqb (get_or cells (from + k) 0) 0)) count
    ∙ every_same _ _ (length (drop a part)) (λ k l. ap (λ (x : ℕ). eqb x 0) (byte k l))
    ∙ sym (zeros_are (drop a part))
  where
    part : List ℕ
    part = take b (drop c cells)

    long : length (take b (drop c cells)) ≡ b
    long = length-take-le b (drop c cells) (omega (arith, length-drop c cells))

    count : to - from ≡ length (drop a (take b (drop c cells)))
    count = omega (arith, long, length-drop a (take b (drop c cells)))

    byte : (k : ℕ) → k < length (drop a (take b (drop c cells))) → get_or cells (from + k) 0 ≡ get_or (drop a (take b (drop c cells))) k 0
    byte k l =
        let i : from + k ≡ c + (a + k) = omega arith in
        ap (λ (j : ℕ). get_or cells j 0) i
        ∙ sym (get_or-drop c cells (a + k) 0)
        ∙ sym (get_or-take b (drop c cells) (a + k) 0 (omega (arith, count)))
        ∙ sym (get_or-drop a (take b (drop c cells)) k 0)

module _ (cells : List ℕ) (i : ℕ) (size : length cells ≡ 8320) (hi : i < 8) where
  -- cell k of queue i, where it lies
  cell_where : (k : ℕ) → k < 16 → cell_at (cells_of cells i) k ≡ take 65 (drop (i * 1040 + k * 65) cells)
  unfolding cell_at cells_of
  cell_where k h =
      let e : 1040 ≡ k * 65 + (1040 - k * 65) = omega arith in
      ap (λ (n : ℕ). take 65 (drop (k * 65) (take n (drop (i * 1040) cells)))) e
      ∙ ap (take 65) (drop-take (k * 65) (1040 - k * 65) (drop (i * 1040) cells))
      ∙ take-take 65 (1040 - k * 65) (drop (k * 65) (drop (i * 1040) cells)) (omega arith)
      ∙ ap (take 65) (drop-drop (k * 65) (i * 1040) cells)

  -- a cell, by its length and what the loop over the bytes past it says
  pub cell_told : (k longest n : ℕ) (z : Bool) → k < 16 → n ≡ get_or cells (i * 1040 + k * 65) 0
      → z ≡ every (λ j. eqb (get_or cells (i * 1040 + k * 65 + n + 1 + j) 0) 0) (i * 1040 + k * 65 + 65 - (i * 1040 + k * 65 + n + 1))
      → (leb (get_or cells (i * 1040 + k * 65) 0) longest && z) ≡ cell_right longest (cell_at (cells_of cells i) k)
  unfolding cell_right
  cell_told k longest n z h e d = rw (cell_where k h, head, ← e, past)
    where
      head : get_or (take 65 (drop (i * 1040 + k * 65) cells)) 0 0 ≡ get_or cells (i * 1040 + k * 65) 0
      head =
          let o : i * 1040 + k * 65 + 0 ≡ i * 1040 + k * 65 = omega arith in
          get_or-take 65 (drop (i * 1040 + k * 65) cells) 0 0 (omega arith)
          ∙ get_or-drop (i * 1040 + k * 65) cells 0 0
          ∙ ap (λ (j : ℕ). get_or cells j 0) o

      past : z ≡ is_zeros (drop (n + 1) (take 65 (drop (i * 1040 + k * 65) cells)))
      past = d ∙ zeros_part cells (i * 1040 + k * 65) 65 (n + 1) (i * 1040 + k * 65 + n + 1) (i * 1040 + k * 65 + 65) (omega arith) (omega arith) refl

  -- a row, by what its cells and the bytes behind them say
  pub row_told : (h longest : ℕ) (ok z : Bool) → h ≤ 16 → ok ≡ every (λ k. cell_right longest (cell_at (cells_of cells i) k)) h
      → z ≡ every (λ j. eqb (get_or cells (i * 1040 + h * 65 + j) 0) 0) (i * 1040 + 1040 - (i * 1040 + h * 65))
      → (ok && z) ≡ row_right (cells_of cells i) h longest
  unfolding row_right cells_of
  row_told h longest ok z few e d = rw (e, past) (sym (second_decides _ _ (le-leb h 16 few)))
    where
      past : z ≡ is_zeros (drop (h * 65) (cells_of cells i))
      past = d ∙ zeros_part cells (i * 1040) 1040 (h * 65) (i * 1040 + h * 65) (i * 1040 + 1040) (omega arith) refl refl

pub row_many : (row : List ℕ) (h longest : ℕ) → 16 < h → false ≡ row_right row h longest
unfolding row_right
row_many row h longest l = sym (first_fails _ _ (lt-leb h 16 l))

-- the row of a queue that holds nothing
row_clear : (cells : List ℕ) (i longest : ℕ) → length cells ≡ 8320 → i < 8
    → every (λ j. eqb (get_or cells (i * 1040 + 0 * 65 + j) 0) 0) (i * 1040 + 1040 - (i * 1040 + 0 * 65)) ≡ row_right (cells_of cells i) 0 longest
unfolding every
row_clear cells i longest size hi = row_told cells i size hi 0 longest true _ (omega arith) refl refl

either_way : (a b : Bool) → (a ≡ true → b ≡ true) → (b ≡ true → a ≡ true) → a ≡ b
either_way true b f g = sym (f refl)
either_way false true f g = g refl
either_way false false f g = refl

-- where no queue holds a message the form is that all bytes are zeros
pub none_held : (cells held limits : List ℕ) (z : Bool) → length cells ≡ 8320 → every (λ k. eqb (get_or held (0 + k) 0) 0) (8 - 0) ≡ true
    → z ≡ every (λ k. eqb (get_or cells (0 + k) 0) 0) (8320 - 0) → z ≡ store_right (store cells held) limits
unfolding store_right
none_held cells held limits z size none e = either_way z _ all back
  where
    empty : (i : ℕ) → i < 8 → get_or held i 0 ≡ 0
    empty i h =
        let o : 0 + i ≡ i = omega arith in
        ap (λ (k : ℕ). get_or held k 0) (sym o) ∙ eqb-true (get_or held (0 + i) 0) 0 (every_at (λ k. eqb (get_or held (0 + k) 0) 0) 8 none i h)

    row : (i : ℕ) → i < 8
        → every (λ j. eqb (get_or cells (i * 1040 + 0 * 65 + j) 0) 0) (i * 1040 + 1040 - (i * 1040 + 0 * 65))
        ≡ row_right (cells_of cells i) (get_or held i 0) (get_or limits (2 * i + 1) 0)
    row i h = row_clear cells i (get_or limits (2 * i + 1) 0) size h ∙ ap (λ (k : ℕ). row_right (cells_of cells i) k (get_or limits (2 * i + 1) 0)) (sym (empty i h))

    all : z ≡ true → every (λ i. row_right (cells_of cells i) (get_or held i 0) (get_or limits (2 * i + 1) 0)) 8 ≡ true
    all t =
        every_yes (λ i. row_right (cells_of cells i) (get_or held i 0) (get_or limits (2 * i + 1) 0)) 8
        (λ i h. sym (row i h)
        ∙ every_yes (λ j. eqb (get_or cells (i * 1040 + 0 * 65 + j) 0) 0) (i * 1040 + 1040 - (i * 1040 + 0 * 65))
        (λ j l. let o : i * 1040 + 0 * 65 + j ≡ 0 + (i * 1040 + j) = omega arith in
        ap (λ (k : ℕ). eqb (get_or cells k 0) 0) o ∙ every_at (λ k. eqb (get_or cells (0 + k) 0) 0) 8320 (sym e ∙ t) (i * 1040 + j) (omega arith)))

    byte : every (λ i. row_right (cells_of cells i) (get_or held i 0) (get_or limits (2 * i + 1) 0)) 8 ≡ true → (i j : ℕ) → i < 8 → j < 1040
        → eqb (get_or cells (i * 1040 + 0 * 65 + j) 0) 0 ≡ true
    byte t i j h l =
        every_at (λ j. eqb (get_or cells (i * 1040 + 0 * 65 + j) 0) 0) (i * 1040 + 1040 - (i * 1040 + 0 * 65))
        (row i h ∙ every_at (λ i. row_right (cells_of cells i) (get_or held i 0) (get_or limits (2 * i + 1) 0)) 8 t i h) j (omega arith)

    at : every (λ i. row_right (cells_of cells i) (get_or held i 0) (get_or limits (2 * i + 1) 0)) 8 ≡ true → (k i j : ℕ) → i * 1040 + j ≡ k → j < 1040 → k < 8320
        → eqb (get_or cells (0 + k) 0) 0 ≡ true
    at t k i j d l h =
        let o : 0 + k ≡ i * 1040 + 0 * 65 + j = omega arith in
        ap (λ (m : ℕ). eqb (get_or cells m 0) 0) o ∙ byte t i j (omega arith) l

    back : every (λ i. row_right (cells_of cells i) (get_or held i 0) (get_or limits (2 * i + 1) 0)) 8 ≡ true → z ≡ true
    back t =
        e
        ∙ every_yes (λ k. eqb (get_or cells (0 + k) 0) 0) 8320 (λ k h. at t k (k / 1040) (k % 1040) (div-add-mod' k 1040) (mod-lt k (omega arith)) h)
