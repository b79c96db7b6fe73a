-- A task that stands nowhere joins a queue: it sits behind all whose key is as great, the places are 1 to n + 1, each once,
-- keys never rise if they never rose, and no other queue is touched. By cases of what becomes of each seat.
-- Assumes nothing.
use Prim.Native.Nat.{ℕ, zero, suc, ◌+◌, ◌-◌, ◌%◌, ◌≤◌, ◌<◌}
use native.Mathlib.Omega.{arith}
use native.Mathlib.Nat.{eq-or-lt_of_le, not-suc-le-zero}
use mathlib.Core.Path.{◌≡◌, refl, sym, subst, ap, ◌∙◌}
use mathlib.Core.Logic.{◌⊎◌, inl, inr, ⊎_elim}
use mathlib.Core.Bool.{Bool, true, false}
use mathlib.Core.List.{List, map}
use lib.ListN.{length, get_or, set, length-map, length-set, get_or-map}
use lib.Seq.{get_or-set_same, get_or-set_other, ext_get_or}
use lib.Dec.{ltb, leb}
use borrow.Author.Tests.{ltb-true, ltb-false, leb-true, leb-false}
use Rattle.laws.proofs.Branches.{lt_or_le, eq_or_not}
use Rattle.laws.proofs.Arrays.{inside}
use Rattle.scope.specs.Choice.{pick}
use Rattle.scope.specs.Seats.{raise, joins, later_of, ahead_of, seat_behind}
use Rattle.laws.specs.Seating.{In, Seated, Sorted}
use Rattle.scope.proofs.Seats.{later_from, ahead_from, mapped}
use Rattle.laws.proofs.Seats.Counting.{seated_le}
use Rattle.laws.proofs.Seats.Apart.{Untouched, Apart, apart, untouched_seated, untouched_sorted, sorted_without}

-- what becomes of seat y when seat x, of a queue that ends before e, is taken
abbrev pub Raised : ℕ → ℕ → ℕ → ℕ → Type 0
Raised x e y z = ((x ≤ y) × (y < e) × (z ≡ y + 1)) ⊎ (((y < x) ⊎ (e ≤ y)) × (z ≡ y))

raise_is : (x e y : ℕ) → Raised x e y (raise x e y)
unfolding raise pick
raise_is x e y = go (leb x y) refl (ltb y e) refl
  where
    go : (a : Bool) → leb x y ≡ a → (b : Bool) → ltb y e ≡ b → Raised x e y (pick a (pick b (y + 1) y) y)
    go true p true q = inl (leb-true x y p, ltb-true y e q, refl)
    go true p false q = inr (inr (ltb-false y e q), refl)
    go false p b q = inr (inl (leb-false x y p), refl)

-- the last seat whose key is as great: nobody with such a key sits behind it
later_covers : (m y e k p : ℕ) → y < e → p ≤ k → y ≤ later_of m y e k p
unfolding later_of pick
later_covers m y e k p h l = go (ltb m y) refl (ltb y e) refl (leb p k) refl
  where
    go : (a : Bool) → ltb m y ≡ a → (b : Bool) → ltb y e ≡ b → (d : Bool) → leb p k ≡ d → y ≤ pick a (pick b (pick d y m) m) m
    go true q true r true s = omega arith
    go true q true r false s = absurd (omega (arith, leb-false p k s))
    go true q false r d s = absurd (omega (arith, ltb-false y e r))
    go false q b r d s = ltb-false m y q

later_comes : (m y e k p : ℕ) → (later_of m y e k p ≡ m) ⊎ ((later_of m y e k p ≡ y) × (m < y) × (y < e) × (p ≤ k))
unfolding later_of pick
later_comes m y e k p = go (ltb m y) refl (ltb y e) refl (leb p k) refl
  where
    go : (a : Bool) → ltb m y ≡ a → (b : Bool) → ltb y e ≡ b → (d : Bool) → leb p k ≡ d
        → (pick a (pick b (pick d y m) m) m ≡ m) ⊎ ((pick a (pick b (pick d y m) m) m ≡ y) × (m < y) × (y < e) × (p ≤ k))
    go true q true r true s = inr (refl, ltb-true m y q, ltb-true y e r, leb-true p k s)
    go true q true r false s = inl refl
    go true q false r d s = inl refl
    go false q b r d s = inl refl

module _ (q key : List ℕ) (b e p : ℕ) where
  ahead_top : (n t : ℕ) → t < n → get_or q t 0 < e → p ≤ get_or key t 0 → get_or q t 0 ≤ ahead_of q key b e p n
  unfolding ahead_of
  ahead_top zero t h l k = absurd (not-suc-le-zero h)
  ahead_top (suc n) t h l k =
      ⊎_elim
      (λ d. subst (λ (v : ℕ). get_or q v 0 ≤ later_of (ahead_of q key b e p n) (get_or q n 0) e (get_or key n 0) p) (sym d)
      (later_covers (ahead_of q key b e p n) (get_or q n 0) e (get_or key n 0) p
      (subst (λ (v : ℕ). get_or q v 0 < e) d l) (subst (λ (v : ℕ). p ≤ get_or key v 0) d k)))
      (λ d. let g : get_or q t 0 ≤ ahead_of q key b e p n = ahead_top n t d l k in
      omega (arith, later_from (ahead_of q key b e p n) (get_or q n 0) e (get_or key n 0) p))
      (eq-or-lt_of_le {n = t} {m = n} (omega arith))

  -- and it is the first seat's forerunner, or one with such a key sits on it
  ahead_hit : (n : ℕ) → (ahead_of q key b e p n ≡ b)
      ⊎ ((t : ℕ) × (get_or q t 0 ≡ ahead_of q key b e p n) × (b < get_or q t 0) × (get_or q t 0 < e) × (p ≤ get_or key t 0))
  unfolding ahead_of
  ahead_hit zero = inl refl
  ahead_hit (suc n) =
      let f : b ≤ ahead_of q key b e p n = ahead_from q key b e p n in
      ⊎_elim
      (λ d. ⊎_elim (λ g. inl (d ∙ g)) (λ g. inr (g.0, g.1 ∙ sym d, g.2, g.3, g.4)) (ahead_hit n))
      (λ d. inr (n, sym d.0, omega arith, d.2, d.3))
      (later_comes (ahead_of q key b e p n) (get_or q n 0) e (get_or key n 0) p)

-- behind all nobody stands, so nobody goes back when one joins there
module _ (q key : List ℕ) (t b : ℕ) (long : length q ≡ 32) where
  abbrev hindmost : ℕ
  hindmost = ahead_of q key b (b + 63) 0 32

  none_behind : (u : ℕ) → raise (hindmost + 1) (b + 63) (get_or q u 0) ≡ get_or q u 0
  none_behind u =
      ⊎_elim
      (λ r. absurd (omega (
        arith,
        r.0,
        ahead_top q key b (b + 63) 0 32 u (inside 32 q u long (λ z. omega (arith, r.0, z))) r.1 (omega arith),
      )))
      (λ r. r.1)
      (raise_is (hindmost + 1) (b + 63) (get_or q u 0))

  raise_nowhere : raise (hindmost + 1) (b + 63) 0 ≡ 0
  raise_nowhere = ⊎_elim (λ r. absurd (omega (arith, r.0))) (λ r. r.1) (raise_is (hindmost + 1) (b + 63) 0)

  pub joins_end : set q t (hindmost + 1) ≡ joins q key t b 0
  unfolding joins
  joins_end =
      ap (λ (r : List ℕ). set r t (hindmost + 1))
      (sym (ext_get_or 0 (map (raise (hindmost + 1) (b + 63)) q) q (length-map q (raise (hindmost + 1) (b + 63)))
      (λ u h. mapped (raise (hindmost + 1) (b + 63)) raise_nowhere q u ∙ none_behind u)))

-- seats q became seats r when task i, which stood nowhere, took seat x of the queue above o
module _ (q r : List ℕ) (o x i : ℕ) (lo : o < x) (hi : x < o + 63) (out : get_or q i 0 ≡ 0) (here : get_or r i 0 ≡ x)
    (come : (u : ℕ) → (u ≡ i → ⊥) → Raised x (o + 63) (get_or q u 0) (get_or r u 0)) where
  at_i : (u : ℕ) → u ≡ i → get_or r u 0 ≡ x
  at_i u e = ap (λ (v : ℕ). get_or r v 0) e ∙ here

  was_i : (u : ℕ) → u ≡ i → get_or q u 0 ≡ 0
  was_i u e = ap (λ (v : ℕ). get_or q v 0) e ∙ out

  new_differs : (u : ℕ) → (u ≡ i → ⊥) → x ≡ get_or r u 0 → ⊥
  new_differs u ne e = ⊎_elim (λ s. omega arith) (λ s. ⊎_elim (λ w. omega arith) (λ w. omega arith) s.0) (come u ne)

  module _ (n : ℕ) (fits : n < 62) (has : x ≤ o + (n + 1)) (rule : Seated q o n) where
    more_small : (t : ℕ) → In r o t → get_or r t 0 ≤ o + (n + 1)
    more_small t (a, b) =
        ⊎_elim
        (λ e. omega (arith, at_i t e))
        (λ ne. ⊎_elim
        (λ s. let h : get_or q t 0 ≤ o + n = rule.small t (omega arith, omega arith) in omega arith)
        (λ s. let h : get_or q t 0 ≤ o + n = rule.small t (omega arith, omega arith) in omega arith)
        (come t ne))
        (eq_or_not t i)

    more_once : (t u : ℕ) → In r o t → get_or r t 0 ≡ get_or r u 0 → t ≡ u
    more_once t u (a, b) e =
        ⊎_elim
        (λ p. ⊎_elim (λ p2. p ∙ sym p2) (λ ne2. absurd (new_differs u ne2 (sym (at_i t p) ∙ e))) (eq_or_not u i))
        (λ ne. ⊎_elim
        (λ p2. absurd (new_differs t ne (sym (at_i u p2) ∙ sym e)))
        (λ ne2. ⊎_elim
        (λ s. ⊎_elim
        (λ s2. rule.once t u (omega arith, omega arith) (omega arith))
        (λ s2. ⊎_elim (λ w. absurd (omega arith)) (λ w. absurd (omega arith)) s2.0)
        (come u ne2))
        (λ s. ⊎_elim
        (λ s2. ⊎_elim (λ w. absurd (omega arith)) (λ w. absurd (omega arith)) s.0)
        (λ s2. rule.once t u (omega arith, omega arith) (omega arith))
        (come u ne2))
        (come t ne))
        (eq_or_not u i))
        (eq_or_not t i)

    more_full : (j : ℕ) → 0 < j → j ≤ n + 1 → (t : ℕ) × (get_or r t 0 ≡ o + j)
    more_full j a b =
        ⊎_elim
        (λ l. let f : (t : ℕ) × (get_or q t 0 ≡ o + j) = rule.full j a (omega arith) in
        let e : get_or q f.0 0 ≡ o + j = f.1 in
        (f.0, ⊎_elim (λ s. absurd (omega arith)) (λ s. omega arith) (come f.0 (λ p. omega (arith, was_i f.0 p)))))
        (λ l. ⊎_elim
        (λ m. let f : (t : ℕ) × (get_or q t 0 ≡ o + (j - 1)) = rule.full (j - 1) (omega arith) (omega arith) in
        let e : get_or q f.0 0 ≡ o + (j - 1) = f.1 in (
          f.0,
          ⊎_elim (λ s. omega arith) (λ s. ⊎_elim (λ w. absurd (omega arith)) (λ w. absurd (omega arith)) s.0)
              (come f.0 (λ p. omega (arith, was_i f.0 p))),
        ))
        (λ m. (i, omega (arith, here)))
        (lt_or_le x (o + j)))
        (lt_or_le (o + j) x)

    more_seated : Seated r o (n + 1)
    more_seated = record { small = more_small; once = more_once; full = more_full }

  more_apart : (m : ℕ) → Apart o m → Untouched q r m
  more_apart m away t h =
      ⊎_elim
      (λ e. let z : get_or q t 0 ≡ 0 = was_i t e in
      let y : get_or r t 0 ≡ x = at_i t e in
      ⊎_elim (λ b. absurd (omega arith)) (λ b. ⊎_elim (λ w. absurd (omega arith)) (λ w. absurd (omega arith)) away) h)
      (λ ne. ⊎_elim
      (λ s. ⊎_elim
      (λ b. ⊎_elim (λ w. absurd (omega arith)) (λ w. absurd (omega arith)) away)
      (λ b. ⊎_elim (λ w. absurd (omega arith)) (λ w. absurd (omega arith)) away)
      h)
      (λ s. s.1)
      (come t ne))
      (eq_or_not t i)

  -- keys never rise, where all ahead of the newcomer have a key of p or more, and all behind one of p or less
  module _ (key : List ℕ) (p : ℕ) (room : i < length key) (order : Sorted q key o)
      (before : (t : ℕ) → o < get_or q t 0 → get_or q t 0 < x → p ≤ get_or key t 0)
      (behind : (t : ℕ) → x ≤ get_or q t 0 → get_or q t 0 < o + 63 → get_or key t 0 ≤ p) where
    key-i : (t : ℕ) → t ≡ i → get_or (set key i p) t 0 ≡ p
    key-i t e = ap (λ (v : ℕ). get_or (set key i p) v 0) e ∙ get_or-set_same key i p 0 room

    key_other : (t : ℕ) → (t ≡ i → ⊥) → get_or (set key i p) t 0 ≡ get_or key t 0
    key_other t ne = get_or-set_other key i t p 0 ne

    falls_old : (t u : ℕ) → (t ≡ i → ⊥) → (u ≡ i → ⊥) → In r o t → In r o u → get_or r t 0 < get_or r u 0 → get_or key u 0 ≤ get_or key t 0
    falls_old t u ne nf a b l =
        ⊎_elim
        (λ s. ⊎_elim
        (λ s2. order.falls t u (omega arith, omega arith) (omega arith, omega arith) (omega arith))
        (λ s2. ⊎_elim (λ z. absurd (omega arith)) (λ z. absurd (omega arith)) s2.0)
        (come u nf))
        (λ s. ⊎_elim
        (λ s2. order.falls t u (omega arith, omega arith) (omega arith, omega arith) (⊎_elim (λ z. omega arith) (λ z. absurd (omega arith)) s.0))
        (λ s2. order.falls t u (omega arith, omega arith) (omega arith, omega arith) (omega arith))
        (come u nf))
        (come t ne)

    more_sorted : Sorted r (set key i p) o
    more_sorted = record {
      falls = λ t u a b l.
          ⊎_elim
          (λ e. ⊎_elim
          (λ f. absurd (omega (arith, at_i t e, at_i u f)))
          (λ nf. let w : get_or key u 0 ≤ p = ⊎_elim
          (λ s. behind u s.0 s.1)
          (λ s. absurd (⊎_elim (λ z. omega (arith, at_i t e)) (λ z. omega arith) s.0))
          (come u nf) in
          omega (arith, key-i t e, key_other u nf))
          (eq_or_not u i))
          (λ ne. ⊎_elim
          (λ f. let w : p ≤ get_or key t 0 = ⊎_elim
          (λ s. absurd (omega (arith, at_i u f)))
          (λ s. before t (omega arith) (omega (arith, at_i u f)))
          (come t ne) in
          omega (arith, key-i u f, key_other t ne))
          (λ nf. omega (arith, falls_old t u ne nf a b l, key_other t ne, key_other u nf))
          (eq_or_not u i))
          (eq_or_not t i);
    }

pub length-joins : (q key : List ℕ) (i o p : ℕ) → length (joins q key i o p) ≡ length q
unfolding joins
length-joins q key i o p =
    length-set (map (raise (seat_behind q key o p) (o + 63)) q) i (seat_behind q key o p) ∙ length-map q (raise (seat_behind q key o p) (o + 63))

-- who joins sits behind all whose key is as great
pub joins_at : (q key : List ℕ) (i o p : ℕ) → i < length q → get_or (joins q key i o p) i 0 ≡ seat_behind q key o p
unfolding joins
joins_at q key i o p h =
    get_or-set_same (map (raise (seat_behind q key o p) (o + 63)) q) i (seat_behind q key o p) 0
    (omega (arith, length-map q (raise (seat_behind q key o p) (o + 63))))

-- what becomes of each other seat
pub joins_is : (q key : List ℕ) (i o p : ℕ) (u : ℕ) → (u ≡ i → ⊥) → Raised (seat_behind q key o p) (o + 63) (get_or q u 0) (get_or (joins q key i o p) u 0)
unfolding joins
joins_is q key i o p u ne =
    subst (λ (z : ℕ). Raised x (o + 63) (get_or q u 0) z)
    (sym (get_or-set_other (map (raise x (o + 63)) q) i u x 0 ne
    ∙ ap (λ (d : ℕ). get_or (map (raise x (o + 63)) q) u d) (sym zero_stays)
    ∙ get_or-map (raise x (o + 63)) q u 0))
    (raise_is x (o + 63) (get_or q u 0))
  where
    x : ℕ
    x = seat_behind q key o p

    zero_stays : raise x (o + 63) 0 ≡ 0
    zero_stays = ⊎_elim (λ s. absurd (omega arith)) (λ s. s.1) (raise_is x (o + 63) 0)

-- task i joins the queue above o, in which n stand
module _ (q key : List ℕ) (i o p n : ℕ) (long : length q ≡ 32) (room : i < 32) (out : get_or q i 0 ≡ 0) (rule : Seated q o n) where
  abbrev last : ℕ
  last = ahead_of q key o (o + 63) p 32

  least : o ≤ last
  least = ahead_from q key o (o + 63) p 32

  most : last ≤ o + n
  most =
      ⊎_elim (λ d. omega arith)
      (λ d. omega (arith, rule.small d.0 (d.2, d.3), d.1))
      (ahead_hit q key o (o + 63) p 32)

  short : n ≤ 32
  short = seated_le q o n long rule

  here : get_or (joins q key i o p) i 0 ≡ last + 1
  here = joins_at q key i o p (omega arith)

  come : (u : ℕ) → (u ≡ i → ⊥) → Raised (last + 1) (o + 63) (get_or q u 0) (get_or (joins q key i o p) u 0)
  come = joins_is q key i o p

  pub joins_seated : Seated (joins q key i o p) o (n + 1)
  joins_seated =
      more_seated q (joins q key i o p) o (last + 1) i (omega (arith, least)) (omega (arith, most, short)) out here come
      n (omega (arith, short)) (omega (arith, most)) rule

  -- it stands in the queue
  pub joins_in : In (joins q key i o p) o i
  joins_in = (omega (arith, here, least), omega (arith, here, most, short))

  -- with p = 0 it stands last
  pub joins_last_lem : p ≡ 0 → get_or (joins q key i o p) i 0 ≡ o + (n + 1)
  joins_last_lem z =
      ⊎_elim
      (λ l. let f : (t : ℕ) × (get_or q t 0 ≡ o + n) = rule.full n l (omega arith) in
      let e : get_or q f.0 0 ≡ o + n = f.1 in
      let g : get_or q f.0 0 ≤ last =
      ahead_top q key o (o + 63) p 32 f.0 (inside 32 q f.0 long (λ w. omega arith)) (omega (arith, e, short)) (omega arith) in
      omega (arith, here, most, g, e))
      (λ l. omega (arith, here, most, least))
      (lt_or_le 0 n)

  -- all whose key is as great stay where they are, ahead of it
  pub joins_behind : (u : ℕ) → In q o u → p ≤ get_or key u 0
      → (get_or (joins q key i o p) u 0 ≡ get_or q u 0) × (get_or (joins q key i o p) u 0 < get_or (joins q key i o p) i 0)
  joins_behind u a k =
      let g : get_or q u 0 ≤ last = ahead_top q key o (o + 63) p 32 u (inside 32 q u long (λ w. omega arith)) a.1 k in
      let e : get_or (joins q key i o p) u 0 ≡ get_or q u 0 =
      ⊎_elim (λ s. absurd (omega (arith, g))) (λ s. s.1) (come u (λ d. omega (arith, ap (λ (v : ℕ). get_or q v 0) d, out, a.0))) in
      (e, omega (arith, e, g, here))

  -- every other queue is as it was
  module _ (round : o % 64 ≡ 0) (m : ℕ) (level : m % 64 ≡ 0) (ne : m ≡ o → ⊥) where
    pub joins_untouched : Untouched q (joins q key i o p) m
    joins_untouched =
        more_apart q (joins q key i o p) o (last + 1) i (omega (arith, least)) (omega (arith, most, short)) out here come m (apart o m round level ne)

    pub joins_others : (l : ℕ) → Seated q m l → Seated (joins q key i o p) m l
    joins_others l other = untouched_seated q (joins q key i o p) m l long joins_untouched other

    pub joins_others_sorted : (v : ℕ) → Sorted q key m → Sorted (joins q key i o p) (set key i v) m
    joins_others_sorted v order =
        sorted_without (joins q key i o p) key m i v
        (λ a. let e : get_or (joins q key i o p) i 0 ≡ get_or q i 0 = joins_untouched i (inr a) in omega (arith, e, out, a.0))
        (untouched_sorted q (joins q key i o p) key m joins_untouched order)

  -- where keys never rose
  module _ (keys : length key ≡ 32) (order : Sorted q key o) where
    behind : (t : ℕ) → last + 1 ≤ get_or q t 0 → get_or q t 0 < o + 63 → get_or key t 0 ≤ p
    behind t a b =
        ⊎_elim (λ l. omega arith)
        (λ l. absurd (omega (arith, a, ahead_top q key o (o + 63) p 32 t (inside 32 q t long (λ w. omega arith)) b l)))
        (lt_or_le (get_or key t 0) p)

    before : (t : ℕ) → o < get_or q t 0 → get_or q t 0 < last + 1 → p ≤ get_or key t 0
    before t a b =
        ⊎_elim (λ d. absurd (omega arith))
        (λ d. let e : get_or q d.0 0 ≡ last = d.1 in
        let g : p ≤ get_or key d.0 0 = d.4 in
        let lo : o < get_or q d.0 0 = d.2 in
        let hi : get_or q d.0 0 < o + 63 = d.3 in
        ⊎_elim
        (λ w. subst (λ (v : ℕ). p ≤ get_or key v 0) (sym (rule.once t d.0 (a, omega arith) (omega arith))) g)
        (λ w. let f : get_or key d.0 0 ≤ get_or key t 0 = order.falls t d.0 (a, omega arith) (lo, hi) (omega arith) in omega arith)
        (eq-or-lt_of_le {n = get_or q t 0} {m = last} (omega arith)))
        (ahead_hit q key o (o + 63) p 32)

    -- they never rise
    pub joins_sorted : Sorted (joins q key i o p) (set key i p) o
    joins_sorted =
        more_sorted q (joins q key i o p) o (last + 1) i (omega (arith, least)) (omega (arith, most, short)) out here come
        key p (omega arith) order before behind

    -- and all whose key is less stand behind it, one place further back
    pub joins_before : (u : ℕ) → In q o u → get_or key u 0 < p
        → (get_or (joins q key i o p) u 0 ≡ get_or q u 0 + 1) × (get_or (joins q key i o p) i 0 < get_or (joins q key i o p) u 0)
    joins_before u a k =
        let g : last < get_or q u 0 = ⊎_elim (λ l. l) (λ l. absurd (omega (arith, before u a.0 (omega arith)))) (lt_or_le last (get_or q u 0)) in
        let e : get_or (joins q key i o p) u 0 ≡ get_or q u 0 + 1 =
        ⊎_elim (λ s. s.2) (λ s. absurd (⊎_elim (λ w. omega (arith, g)) (λ w. omega (arith, a.1)) s.0))
        (come u (λ d. omega (arith, ap (λ (v : ℕ). get_or q v 0) d, out, a.0))) in
        (e, omega (arith, e, g, here))
