-- What the loops of the seats lean on: the last seat ahead is the one of the least way to the queue's end; a join's seat lies in its
-- queue, and its two steps make `joins`; one task more counted.
-- Assumes nothing.
use Rattle.std.proofs.Common.{◌≡◌, ℕ, zero, suc, ◌+◌, ◌-◌, ◌*◌, ◌/◌, ◌<◌, ◌≤◌, Bool, true, false, ◌&&◌, ◌||◌, eqb, ltb, leb, ◌⊎◌, List, map, length, get_or, set, sym, refl, ap, ◌∙◌, inl, inr, Option, None, Some, cond, min, add-one, arith, below_none, ltb-false, ltb-true, le-ltb, lt-ltb, eq-eqb, ne_eqb, le-leb, leb-false}
use lib.ListN.{length-map}
use lib.Seq.{set-get_or}
use borrow.Author.Tests.{lt-leb}
use Rattle.scope.specs.Choice.{pick, number}
use Rattle.scope.specs.Seats.{lower, leaves, is_on, on_seat, seats_end, later_of, ahead_of, raise, joins, becomes_ready, stands_in, standing}
use Rattle.scope.specs.Seats.{first_ring, ring_seats, ring_of, holds_task, mask_emptied, mask_left}
use Rattle.laws.proofs.Arrays.{Changing, get_or-map_lt}
use Rattle.laws.proofs.Branches.{true-false, picked_yes, picked_no}
use Rattle.laws.proofs.Searches.{number-le, none_more, some_more, noted, least-le, least-true, least_below}
use Rattle.std.specs.Prelude.{MatchOption, position}
use Rattle.std.specs.List.{position_or_len}
use Rattle.std.specs.Option.{unwrap_or}
use Rattle.std.proofs.lemmas.List.Sums.{position_or_len_is}

-- the way from x to y, or one that wraps: then both x and the way itself are more than y
abbrev pub Way : ℕ → ℕ → ℕ → Type 0
Way x y d = (x + d ≡ y) ⊎ ((x + d ≡ y + 65536) × (y < x) × (y < d))

-- one comparison of ways: a seat lies from x on and before e exactly if the way to it is shorter than the way to e
pub nearer : (x y d n e : ℕ) → Way x y d → x + n ≡ e → e < 65536 → d < n → (x ≤ y) × (y < e)
nearer x y d n e (inl w) g h l = (omega (arith, w), omega (arith, w, g))
nearer x y d n e (inr w) g h l = absurd (omega (arith, w.0, g, h, l))

pub farther : (x y d n e : ℕ) → Way x y d → x + n ≡ e → n ≤ d → (y < x) ⊎ (e ≤ y)
farther x y d n e (inl w) g l = inr (omega (arith, w, g, l))
farther x y d n e (inr w) g l = inl w.1

-- the end of a queue's seats is a seat's number too
pub end_fits : (x : ℕ) → x < 65536 → seats_end x < 65536
end_fits x h = omega (arith, h)

-- what the two tests make of a seat, told by where it lies
pub lower_between : (x e y : ℕ) → (y ≡ x → ⊥) → (x ≤ y) × (y < e) → y - 1 ≡ lower x e y
unfolding lower
lower_between x e y ne (a, b) = sym (picked_no (eqb y x) _ _ (ne_eqb y x ne) ∙ picked_yes (ltb x y) _ _ (lt-ltb x y (omega (arith, a, ne))) ∙ picked_yes (ltb y e) _ _ (lt-ltb y e b))

pub lower_apart : (x e y : ℕ) → (y ≡ x → ⊥) → (y < x) ⊎ (e ≤ y) → y ≡ lower x e y
unfolding lower pick
lower_apart x e y ne (inl a) = sym (picked_no (eqb y x) _ _ (ne_eqb y x ne) ∙ picked_no (ltb x y) _ _ (le-ltb x y (omega (arith, a))))
lower_apart x e y ne (inr b) = sym (picked_no (eqb y x) _ _ (ne_eqb y x ne) ∙ go (ltb x y))
  where
    go : (d : Bool) → pick d (pick (ltb y e) (y - 1) y) y ≡ y
    go true = picked_no (ltb y e) _ _ (le-ltb y e b)
    go false = refl

pub raise_between : (x e y : ℕ) → (x ≤ y) × (y < e) → y + 1 ≡ raise x e y
unfolding raise
raise_between x e y (a, b) = sym (picked_yes (leb x y) _ _ (le-leb x y a) ∙ picked_yes (ltb y e) _ _ (lt-ltb y e b))

pub raise_apart : (x e y : ℕ) → (y < x) ⊎ (e ≤ y) → y ≡ raise x e y
unfolding raise pick
raise_apart x e y (inl a) = sym (picked_no (leb x y) _ _ (lt-leb x y a))
raise_apart x e y (inr b) = sym (go (leb x y))
  where
    go : (d : Bool) → pick d (pick (ltb y e) (y + 1) y) y ≡ y
    go true = picked_no (ltb y e) _ _ (le-ltb y e b)
    go false = refl

-- the lesser way ends at the later seat, and the way from a seat past the queue is never the lesser
way_more : (b y d w v k : ℕ) → w ≤ 62 → v ≡ min w d → Way y (b + 62) d → b + 62 - v ≡ later_of (b + 62 - w) y (b + 63) k 0
unfolding later_of pick
way_more b y d w v k h m (inl e) = go (ltb (b + 62 - w) y) refl (ltb y (b + 63)) refl (leb 0 k) refl
  where
    go : (p : Bool) → ltb (b + 62 - w) y ≡ p → (f : Bool) → ltb y (b + 63) ≡ f → (g : Bool) → leb 0 k ≡ g
        → b + 62 - v ≡ pick p (pick f (pick g y (b + 62 - w)) (b + 62 - w)) (b + 62 - w)
    go true u true f true g = omega (arith, ltb-true (b + 62 - w) y u)
    go true u true f false g = absurd (omega (arith, leb-false 0 k g))
    go true u false f g q = absurd (omega (arith, ltb-false y (b + 63) f))
    go false u f q g r = omega (arith, ltb-false (b + 62 - w) y u)
way_more b y d w v k h m (inr e) = go (ltb (b + 62 - w) y) (ltb y (b + 63)) refl (leb 0 k)
  where
    go : (p f : Bool) → ltb y (b + 63) ≡ f → (g : Bool) → b + 62 - v ≡ pick p (pick f (pick g y (b + 62 - w)) (b + 62 - w)) (b + 62 - w)
    go true true f g = absurd (omega (arith, e.1, ltb-true y (b + 63) f))
    go true false f g = omega (arith, e.2)
    go false q f g = omega (arith, e.2)

-- the loop of `hindmost`: the least way so far ends at the last seat of the first n tasks, whatever their keys
abbrev pub Nearest : List ℕ → ℕ → ℕ → ℕ → Type 0
Nearest q b w n = (w ≤ 62) × ((key : List ℕ) → b + 62 - w ≡ ahead_of q key b (b + 63) 0 n)

pub nearest_start : (q : List ℕ) (b : ℕ) → Nearest q b 62 0
unfolding ahead_of
nearest_start q b = (omega arith, λ key. omega arith)

pub nearest_more : (q : List ℕ) (b w n d v : ℕ) → Way (get_or q n 0) (b + 62) d → v ≡ min w d → Nearest q b w n → Nearest q b v (n + 1)
unfolding ahead_of
nearest_more q b w n d v e g (small, all) = (
  omega arith,
  λ key. rw (add-one n, ahead_of, ← all key) (way_more b (get_or q n 0) d w v (get_or key n 0) small g e),
)

-- where s has the seats of those whose key is p or more, and 0 for the others, keys need not be looked at again
later_masked : (m y e k j p : ℕ) → later_of m (pick (leb p k) y 0) e j 0 ≡ later_of m y e k p
unfolding later_of pick
later_masked m y e k j p = go (leb p k) (leb 0 j) refl
  where
    never : (a b : Bool) → pick a (pick b m m) m ≡ m
    never true true = refl
    never true false = refl
    never false b = refl

    go : (d g : Bool) → leb 0 j ≡ g
        → pick (ltb m (pick d y 0)) (pick (ltb (pick d y 0) e) (pick g (pick d y 0) m) m) m ≡ pick (ltb m y) (pick (ltb y e) (pick d y m) m) m
    go d false h = absurd (omega (arith, leb-false 0 j h))
    go true true h = refl
    go false true h = rw (le-ltb m 0 (omega arith)) (sym (never (ltb m y) (ltb y e)))

ahead_masked : (q key s : List ℕ) (b e p n : ℕ) → ((j : ℕ) → j < n → get_or s j 0 ≡ pick (leb p (get_or key j 0)) (get_or q j 0) 0)
    → ahead_of s key b e 0 n ≡ ahead_of q key b e p n
unfolding ahead_of
ahead_masked q key s b e p zero all = refl
ahead_masked q key s b e p (suc n) all =
    rw (ahead_masked q key s b e p n (λ j h. all j (omega arith)), all n (omega arith))
    (later_masked (ahead_of q key b e p n) (get_or q n 0) e (get_or key n 0) (get_or key n 0) p)

-- the loop that makes s is done
pub ahead_found : (q key s : List ℕ) (b e p k r : ℕ) → 32 ≤ k → r ≡ ahead_of s key b e 0 32
    → Changing 32 (λ j y. pick (leb p (get_or key j 0)) y 0) q s k → r ≡ ahead_of q key b e p 32
ahead_found q key s b e p k r h g c = g ∙ ahead_masked q key s b e p 32 (λ j l. c.3 j (omega arith))

-- the last seat ahead lies between the queue's beginning and its end
later_below : (m y e k p : ℕ) → m < e → later_of m y e k p < e
unfolding later_of pick
later_below m y e k p h = go (ltb m y) (ltb y e) refl (leb p k)
  where
    go : (a b : Bool) → ltb y e ≡ b → (d : Bool) → pick a (pick b (pick d y m) m) m < e
    go true true q true = ltb-true y e q
    go true true q false = h
    go true false q d = h
    go false b q d = h

pub ahead_below : (q key : List ℕ) (b e p n : ℕ) → b < e → ahead_of q key b e p n < e
unfolding ahead_of
ahead_below q key b e p zero h = h
ahead_below q key b e p (suc n) h = later_below (ahead_of q key b e p n) (get_or q n 0) e (get_or key n 0) p (ahead_below q key b e p n h)

-- the last seat ahead, as the code has it, leaves room for one more
pub small : (q key : List ℕ) (b e p a : ℕ) → e ≡ b + 63 → a ≡ ahead_of q key b e p 32 → a + 1 ≤ e
small q key b e p a d f = omega (arith, ahead_below q key b e p 32 (omega arith))

-- the loop of `close_up`: whether one of the first n is on seat x
abbrev pub Noted : List ℕ → ℕ → Bool → ℕ → Type 0
Noted q x held n = (held ≡ false → (j : ℕ) → j < n → is_on q x j ≡ false) × (held ≡ true → (j : ℕ) × (j < n) × (is_on q x j ≡ true))

pub noted_start : (q : List ℕ) (x : ℕ) → Noted q x false 0
noted_start q x = ((λ e. below_none _), λ e. absurd (true-false e refl))

pub noted_more : (q : List ℕ) (x y n : ℕ) (held : Bool) → y ≡ get_or q n 0 → Noted q x held n → Noted q x (held || eqb y x) (n + 1)
noted_more q x y n held e (none, some) = rw e (none_more (is_on q x) n held none, some_more (is_on q x) n held some)

-- at its end it says whether anybody is
pub noted_done : (q : List ℕ) (x n : ℕ) (held : Bool) → n ≡ 32 → Noted q x held n → held ≡ ltb (on_seat q x) 32
unfolding on_seat
noted_done q x n held e (none, some) =
    noted (is_on q x) 32 held (λ f j h. none f j (omega (arith, e, h))) (λ f. let s = some f in (s.0, omega (arith, s.1, e), s.2))

-- a ring's first seat, by the seat that was left, tells of the mask what `mask_left` does
pub ring_left : (m : ℕ) (q : List ℕ) (x : ℕ) (held : Bool) → held ≡ ltb (on_seat q (x / 64 * 64 + 1)) 32
    → pick (ltb x first_ring) m (pick held m (mask_emptied m (ring_of x))) ≡ mask_left m q x
unfolding mask_left holds_task pick
ring_left m q x held e = go (ltb x first_ring) refl
  where
    go : (b : Bool) → ltb x first_ring ≡ b
        → pick b m (pick held m (mask_emptied m (ring_of x))) ≡ pick b m (pick (ltb (on_seat q (ring_seats (ring_of x) + 1)) 32) m (mask_emptied m (ring_of x)))
    go true f = refl
    go false f =
        let first : ring_seats (ring_of x) + 1 ≡ x / 64 * 64 + 1 = omega (arith, ltb-false x first_ring f) in
        rw (e, first)

-- all seats moved back and the newcomer seated
pub joined : (q key r : List ℕ) (t b e p a n : ℕ) → e ≡ b + 63 → a ≡ ahead_of q key b e p 32 → a + 1 + n ≡ e → r ≡ map (raise (a + 1) (a + 1 + n)) q
    → set r t (a + 1) ≡ joins q key t b p
unfolding joins
joined q key r t b e p a n d f h g = rw (g, h, f, d)

-- who left stands nowhere
nowhere : (q : List ℕ) (t e : ℕ) → t < length q → get_or (map (lower (get_or q t 0) e) q) t 0 ≡ 0
unfolding lower
nowhere q t e h = get_or-map_lt (lower (get_or q t 0) e) q t h ∙ picked_yes (eqb (get_or q t 0) (get_or q t 0)) _ _ (eq-eqb (get_or q t 0) (get_or q t 0) refl)

-- a woken task left its queue, and took the seat behind its ring unless it is suspended
pub woken : (q r key : List ℕ) (t p b y behind : ℕ) (suspended : Bool) → t < 32 → length r ≡ 32 → b ≡ p
    → r ≡ leaves q t → ((k : List ℕ) (u : ℕ) → set r u behind ≡ joins r k u (b * 64 + 2048) 0) → y ≡ pick suspended 0 behind
    → set r t y ≡ pick suspended (leaves q t) (becomes_ready (leaves q t) key t p)
unfolding leaves pick
woken q r key t p b y behind true h long d e all g =
    let same : length r ≡ length q = ap length e ∙ length-map q (lower (get_or q t 0) (seats_end (get_or q t 0))) in
    let out : get_or (leaves q t) t 0 ≡ 0 = nowhere q t (seats_end (get_or q t 0)) (omega (arith, h, long, same)) in
    rw (g, e) (ap (set (leaves q t) t) (sym out) ∙ set-get_or (leaves q t) t 0)
woken q r key t p b y behind false h long d e all g = rw (g, ← e, ← d) (all key t)

-- one task more looked at
pub counted : (q : List ℕ) (i base end n one t : ℕ) → base ≡ i → end ≡ base + 63 → n ≡ number (stands_in q i) t → one ≡ pick {A = ℕ} (ltb base (get_or q t 0) && ltb (get_or q t 0) end) 1 0 → n + one ≡ number (stands_in q i) (t + 1)
unfolding number stands_in
counted q i base end n one t b e h f = rw (add-one t, number, h, f, e, b)

-- the task on seat x as an answer that may be nobody
abbrev pub Told : List ℕ → ℕ → Option ℕ → Type 0
Told q x r = MatchOption r (32 ≤ on_seat q x) (λ t. (t < 32) × (t ≡ on_seat q x))

-- the library's first place at which x stands is that task
pub seat_told : (q : List ℕ) (x : ℕ) {r : Option ℕ} → length q ≡ 32 → r ≡ position (λ (y : ℕ). eqb y x) q → Told q x r
unfolding on_seat
seat_told q x {r} long e = told (ltb (on_seat q x) 32) refl (e ∙ rw (first, long))
  where
    first : position_or_len (λ (y : ℕ). eqb y x) q ≡ on_seat q x
    first =
        position_or_len_is (λ (y : ℕ). eqb y x) q (on_seat q x) 0 (omega (arith, least-le (is_on q x) 32))
        (λ k h. least_below (is_on q x) 32 k h)
        (λ h. least-true (is_on q x) 32 (omega arith))

    told : (b : Bool) → ltb (on_seat q x) 32 ≡ b → r ≡ cond b (Some (on_seat q x)) None → Told q x r
    told true h g = rw g (ltb-true (on_seat q x) 32 h, refl)
    told false h g = rw g (ltb-false (on_seat q x) 32 h)

-- the same at a seat that is given another name
pub told_at : (q : List ℕ) (x y : ℕ) (r : Option ℕ) → x ≡ y → Told q x r → Told q y r
told_at q x y r e h = rw (← e) h

-- nobody as the number 32
pub told_or : (q : List ℕ) (x : ℕ) (r : Option ℕ) {n : ℕ} → Told q x r → n ≡ unwrap_or r 32 → n ≡ on_seat q x
unfolding on_seat
told_or q x (Some t) h e = e ∙ h.1
told_or q x None h e = omega (arith, e, h, least-le (is_on q x) 32)

-- no more tasks wait than there are
pub few : (q : List ℕ) (base : ℕ) → standing q base ≤ 32
unfolding standing
few q base = number-le (stands_in q base) 32
