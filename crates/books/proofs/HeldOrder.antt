-- The order of a pool's free buffers and the past agree: of two free buffers the one with the lower place is the one that has been free
-- longer, as the answers tell it. A get takes the first away and a return puts its buffer behind all; neither changes two others.
-- Assumes nothing.
use Prim.Native.Nat.{ℕ, ◌+◌, ◌-◌, ◌^◌, ◌≤◌, ◌<◌}
use native.Mathlib.Omega.{arith}
use mathlib.Core.Path.{◌≡◌, sym, subst, ap, ◌∙◌}
use mathlib.Core.Logic.{⊎_elim}
use mathlib.Core.Bool.{Bool, true, false}
use mathlib.Core.List.{List, ◌∷◌}
use lib.ListN.{get_or}
use lib.Dec.{ltb, leb}
use borrow.Author.Tests.{lt-ltb, le-ltb, eq-eqb, ne_eqb, leb-true}
use Rattle.scope.specs.Statuses.{OK}
use Rattle.scope.specs.Choice.{pick}
use Rattle.scope.specs.Areas.{is_area, is_size, buffers_of, is_out, is_free, free_of, buffer_address}
use Rattle.scope.specs.Places.{first_leaves, joins_last, new_row}
use Rattle.scope.proofs.Buffers.{buffers_few, buffers_in_order}
use Rattle.scope.proofs.Places.{leaves_at, joins_at, joins_other}
use Rattle.laws.proofs.Branches.{true-false, eq_or_not, lt_or_le, picked_yes, picked_no, both, both_true, first_fails, second_fails}
use Rattle.laws.proofs.Areas.Marks.{take_free_other}
use Rattle.laws.specs.Order.{Free, Ordered}
use Rattle.laws.proofs.Orders.{taken_out, back_free_other, new_place}
use Rattle.books.specs.Past.{Turn, is_answer_of, creates}
use Rattle.books.specs.Held.{is_return, free_longer}
use Rattle.books.proofs.HeldMarks.{one_address}

-- which of two free buffers has been free longer is told by their places
abbrev pub Ranked : ℕ → ℕ → ℕ → ℕ → List ℕ → (ℕ → ℕ → Bool) → Type 0
Ranked address size n out row longer =
    (j k : ℕ) → Free out n j → Free out n k → (j ≡ k → ⊥)
    → longer (buffer_address address size j) (buffer_address address size k) ≡ ltb (get_or row j 0) (get_or row k 0)

pub ranked_at : (a b c d e f g h : ℕ) (l m : List ℕ) (longer : ℕ → ℕ → Bool) → a ≡ b → c ≡ d → e ≡ f → g ≡ h → l ≡ m → Ranked b d f h m longer → Ranked a c e g l longer
ranked_at a b c d e f g h l m longer p q r s t x = rw (p, q, r, s, t) x

-- a turn that neither makes the pool nor returns to it
pub longer_same : (id : ℕ) (t : Turn) (past : List Turn) → creates 14 id t ≡ false → is_answer_of 18 id OK t ≡ false
    → (x y : ℕ) → free_longer (t ∷ past) id x y ≡ free_longer past id x y
unfolding is_return
longer_same id t past made back x y =
    picked_no _ _ _ made ∙ picked_no _ _ _ (first_fails _ _ back) ∙ picked_no _ _ _ (first_fails _ _ back)

pub ranked_same : (address size n out : ℕ) (row : List ℕ) (id : ℕ) (t : Turn) (past : List Turn) → creates 14 id t ≡ false → is_answer_of 18 id OK t ≡ false
    → Ranked address size n out row (free_longer past id) → Ranked address size n out row (free_longer (t ∷ past) id)
ranked_same address size n out row id t past made back r j k f g ne = longer_same id t past made back _ _ ∙ r j k f g ne

-- a test of two numbers, moved
ltb_moved : (a b c d : ℕ) → (a < b → c < d) → (c < d → a < b) → ltb a b ≡ ltb c d
ltb_moved a b c d f g =
    ⊎_elim (λ h. lt-ltb a b h ∙ sym (lt-ltb c d (f h)))
    (λ h. le-ltb a b h ∙ sym (⊎_elim (λ l. absurd (omega (arith, g l))) (λ l. le-ltb c d l) (lt_or_le c d)))
    (lt_or_le a b)

module _ (address long size : ℕ) (area : is_area address long ≡ true) (sized : is_size long size ≡ true) where
  abbrev n : ℕ
  n = buffers_of long size

  abbrev at : ℕ → ℕ
  at = buffer_address address size

  -- "in a new pool, ascending addresses"
  pub ranked_new : (id : ℕ) (t : Turn) (past : List Turn) → creates 14 id t ≡ true → Ranked address size n 0 (new_row n) (free_longer (t ∷ past) id)
  unfolding is_size
  ranked_new id t past made j k f g ne =
      picked_yes _ _ _ made
      ∙ ltb_moved (at j) (at k) j k (λ h. down h) (λ h. up j k h g.0)
      ∙ ltb_moved j k (j + 1) (k + 1) (λ h. omega arith) (λ h. omega arith)
      ∙ ap (λ (v : ℕ). ltb v (k + 1)) (sym (new_place n j (buffers_few long size) f.0))
      ∙ ap (λ (v : ℕ). ltb (get_or (new_row n) j 0) v) (sym (new_place n k (buffers_few long size) g.0))
    where
      some : 1 ≤ size
      some = leb-true 1 size (both_true (leb 1 size) _ sized).0

      up : (a b : ℕ) → a < b → b < n → at a < at b
      up a b h l = omega (arith, buffers_in_order address long size area a b h l, some)

      down : at j < at k → j < k
      down h =
          ⊎_elim (λ l. l)
          (λ l. ⊎_elim (λ e. absurd (ne (sym e))) (λ d. absurd (omega (arith, up k j (omega arith) f.0))) (eq_or_not k j))
          (lt_or_le j k)

  module _ (out : ℕ) (row : List ℕ) (ordered : Ordered row out n) (id : ℕ) (t : Turn) (past : List Turn) (ranked : Ranked address size n out row (free_longer past id))
      (made : creates 14 id t ≡ false) where
    -- a get: buffer m, the first, is out now
    pub ranked_get : (m : ℕ) → get_or row m 0 ≡ 1 → is_free out m ≡ true → is_answer_of 18 id OK t ≡ false
        → Ranked address size n (out + 2 ^ m) (first_leaves row) (free_longer (t ∷ past) id)
    ranked_get m first free back j k f g ne =
        longer_same id t past made back (at j) (at k)
        ∙ ranked j k (was j f) (was k g) ne
        ∙ ltb_moved (get_or row j 0) (get_or row k 0) (get_or row j 0 - 1) (get_or row k 0 - 1)
        (λ h. omega (arith, ordered.some j (was j f)))
        (λ h. omega (arith, ordered.some k (was k g)))
        ∙ ap (λ (v : ℕ). ltb v (get_or row k 0 - 1)) (sym (leaves_at row j))
        ∙ ap (λ (v : ℕ). ltb (get_or (first_leaves row) j 0) v) (sym (leaves_at row k))
      where
        other : (i : ℕ) → Free (out + 2 ^ m) n i → i ≡ m → ⊥
        other i h e = true-false (subst (λ (v : ℕ). is_free (out + 2 ^ m) v ≡ true) e h.1) (taken_out out m free)

        was : (i : ℕ) → Free (out + 2 ^ m) n i → Free out n i
        was i h = (h.0, sym (take_free_other out m free i (other i h)) ∙ h.1)

    -- a return: buffer m, which was out, is behind all
    pub ranked_ret : (m : ℕ) → m < n → is_out out m ≡ true → is_answer_of 18 id OK t ≡ true → at m ≡ t.event.b
        → Ranked address size n (out - 2 ^ m) (joins_last row (free_of out n) m) (free_longer (t ∷ past) id)
    unfolding is_return
    ranked_ret m below marked back names j k f g ne =
        picked_no _ _ _ made ∙ ⊎_elim (λ e. latest e) (λ d. ⊎_elim (λ e. earlier d e) (λ c. neither d c) (eq_or_not j m)) (eq_or_not k m)
      where
        -- the turn returns buffer m and no other
        here : (i : ℕ) → i ≡ m → is_return id (at i) t ≡ true
        here i e = both _ _ back (eq-eqb _ _ (sym names ∙ ap at (sym e)))

        there : (i : ℕ) → i < n → (i ≡ m → ⊥) → is_return id (at i) t ≡ false
        there i h d = second_fails (is_answer_of 18 id OK t) _ (ne_eqb _ _ (λ e. d (one_address address long size area sized i m h below (sym e ∙ sym names))))

        was : (i : ℕ) → Free (out - 2 ^ m) n i → (i ≡ m → ⊥) → Free out n i
        was i h d = (h.0, sym (back_free_other out m marked i d) ∙ h.1)

        last : (i : ℕ) → i ≡ m → get_or (joins_last row (free_of out n) m) i 0 ≡ free_of out n + 1
        last i e =
            ap (λ (v : ℕ). get_or (joins_last row (free_of out n) m) v 0) e
            ∙ joins_at row (free_of out n) m (omega (arith, ordered.long, ordered.few))

        before : (i : ℕ) → (i ≡ m → ⊥) → get_or (joins_last row (free_of out n) m) i 0 < free_of out n + 1
        before i d = omega (arith, joins_other row (free_of out n) m i d, ordered.small i)

        latest : k ≡ m → pick (is_return id (at k) t) true (pick (is_return id (at j) t) false (free_longer past id (at j) (at k))) ≡ ltb (get_or (joins_last row (free_of out n) m) j 0) (get_or (joins_last row (free_of out n) m) k 0)
        latest e =
            let d : j ≡ m → ⊥ = λ c. ne (c ∙ sym e) in
            picked_yes _ _ _ (here k e) ∙ sym (lt-ltb (get_or (joins_last row (free_of out n) m) j 0) (get_or (joins_last row (free_of out n) m) k 0) (omega (arith, last k e, before j d)))

        earlier : (k ≡ m → ⊥) → j ≡ m
            → pick (is_return id (at k) t) true (pick (is_return id (at j) t) false (free_longer past id (at j) (at k))) ≡ ltb (get_or (joins_last row (free_of out n) m) j 0) (get_or (joins_last row (free_of out n) m) k 0)
        earlier d e =
            picked_no _ _ _ (there k g.0 d)
            ∙ picked_yes _ _ _ (here j e)
            ∙ sym (le-ltb (get_or (joins_last row (free_of out n) m) j 0) (get_or (joins_last row (free_of out n) m) k 0) (omega (arith, last j e, before k d)))

        neither : (k ≡ m → ⊥) → (j ≡ m → ⊥)
            → pick (is_return id (at k) t) true (pick (is_return id (at j) t) false (free_longer past id (at j) (at k))) ≡ ltb (get_or (joins_last row (free_of out n) m) j 0) (get_or (joins_last row (free_of out n) m) k 0)
        neither d c =
            picked_no _ _ _ (there k g.0 d)
            ∙ picked_no _ _ _ (there j f.0 c)
            ∙ ranked j k (was j f c) (was k g d) ne
            ∙ ap (λ (v : ℕ). ltb v (get_or row k 0)) (sym (joins_other row (free_of out n) m j c))
            ∙ ap (λ (v : ℕ). ltb (get_or (joins_last row (free_of out n) m) j 0) v) (sym (joins_other row (free_of out n) m k d))
