-- The rule of a state's seats, a test of each task, says just that the seats say queues: below a taken seat all are taken, down
-- to the first. Leaving and joining keep it.
-- Assumes nothing.
use Prim.Native.Nat.{ℕ, zero, suc, ◌+◌, ◌-◌, ◌*◌, ◌/◌, ◌%◌, ◌≤◌, ◌<◌}
use native.Mathlib.Omega.{arith}
use mathlib.Core.Path.{◌≡◌, refl, sym, subst, ap, ◌∙◌}
use mathlib.Core.Logic.{◌⊎◌, inl, inr, ⊎_elim}
use mathlib.Core.Bool.{Bool, true, ◌&&◌}
use mathlib.Core.List.{List}
use lib.ListN.{length, get_or}
use lib.Dec.{ltb, leb, eqb}
use borrow.Author.Tests.{ltb-true, leb-true, leb-false, eqb-true, eq-eqb, ne_eqb, lt-ltb}
use Rattle.laws.proofs.Branches.{picked_yes, picked_no, both, both_true, lt_or_le, eq_or_not}
use Rattle.laws.proofs.Searches.{least-true, least_below, every_yes, every_at}
use Rattle.laws.proofs.Arrays.{inside}
use Rattle.scope.specs.Choice.{pick, least, number}
use Rattle.scope.specs.Seats.{is_on, on_seat, standing, leaves, joins, ahead_of}
use Rattle.scope.specs.Rules.{seat_right, seats_right}
use Rattle.laws.specs.Seating.{In, Seated, AllSeated}
use Rattle.laws.proofs.Seats.Counting.{number-one, number_only, standing_is, standing-le}
use Rattle.scope.proofs.Seats.{ahead_from}
use Rattle.laws.proofs.Seats.First.{on_seat_lem, on_seat_hit}
use Rattle.laws.proofs.Seats.Leaving.{length-leaves, leaves_is, leaves_nowhere, leaves_seated, leaves_others}
use Rattle.laws.proofs.Seats.Joining.{length-joins, joins_is, joins_in, joins_seated, joins_others}

-- what the test of one seat says
abbrev SeatRight : List ℕ → ℕ → Type 0
SeatRight q x = (x ≡ 0) ⊎ ((number (is_on q x) 32 ≡ 1) × ((x % 64 ≡ 1) ⊎ ((1 < x % 64) × (on_seat q (x - 1) < 32))))

behind_says : (q : List ℕ) (x : ℕ) → pick (eqb (x % 64) 1) true (ltb 1 (x % 64) && ltb (on_seat q (x - 1)) 32) ≡ true
    → (x % 64 ≡ 1) ⊎ ((1 < x % 64) × (on_seat q (x - 1) < 32))
behind_says q x e =
    ⊎_elim inl
    (λ ne. let h : (ltb 1 (x % 64) ≡ true) × (ltb (on_seat q (x - 1)) 32 ≡ true) =
    both_true _ _ (sym (picked_no _ _ _ (ne_eqb (x % 64) 1 ne)) ∙ e) in
    inr (ltb-true _ _ h.0, ltb-true _ _ h.1))
    (eq_or_not (x % 64) 1)

seat_says : (q : List ℕ) (x : ℕ) → seat_right q x ≡ true → SeatRight q x
unfolding seat_right
seat_says q x e =
    ⊎_elim inl
    (λ ne. let h : (eqb (number (is_on q x) 32) 1 ≡ true) × (pick (eqb (x % 64) 1) true (ltb 1 (x % 64) && ltb (on_seat q (x - 1)) 32) ≡ true) =
    both_true _ _ (sym (picked_no _ _ _ (ne_eqb x 0 ne)) ∙ e) in
    inr (eqb-true _ _ h.0, behind_says q x h.1))
    (eq_or_not x 0)

behind_right : (q : List ℕ) (x : ℕ) → (x % 64 ≡ 1) ⊎ ((1 < x % 64) × (on_seat q (x - 1) < 32))
    → pick (eqb (x % 64) 1) true (ltb 1 (x % 64) && ltb (on_seat q (x - 1)) 32) ≡ true
behind_right q x h =
    ⊎_elim (λ e. picked_yes _ _ _ (eq-eqb _ _ e))
    (λ l. picked_no _ _ _ (ne_eqb (x % 64) 1 (λ e. omega arith)) ∙ both _ _ (lt-ltb _ _ l.0) (lt-ltb _ _ l.1))
    h

seat_right_lem : (q : List ℕ) (x : ℕ) → SeatRight q x → seat_right q x ≡ true
unfolding seat_right
seat_right_lem q x h =
    ⊎_elim (λ z. picked_yes _ _ _ (eq-eqb _ _ z))
    (λ ne. ⊎_elim (λ z. absurd (ne z))
    (λ r. picked_no _ _ _ (ne_eqb x 0 ne) ∙ both _ _ (eq-eqb _ _ r.0) (behind_right q x r.1))
    h)
    (eq_or_not x 0)

-- from the rule: all seats say queues
module _ (q : List ℕ) (long : length q ≡ 32) (right : seats_right q ≡ true) where
  says : (t : ℕ) → SeatRight q (get_or q t 0)
  unfolding seats_right
  says t =
      ⊎_elim
      (λ h. seat_says q (get_or q t 0) (every_at (λ u. seat_right q (get_or q u 0)) 32 right t h))
      (λ h. ⊎_elim inl (λ ne. absurd (omega (arith, inside 32 q t long ne))) (eq_or_not (get_or q t 0) 0))
      (lt_or_le t 32)

  right_places : (t : ℕ) → (get_or q t 0 ≡ 0) ⊎ (0 < get_or q t 0 % 64)
  right_places t = ⊎_elim inl (λ r. inr (⊎_elim (λ e. omega arith) (λ e. omega arith) r.1)) (says t)

  module _ (o : ℕ) (round : o % 64 ≡ 0) where
    -- below a taken seat all are taken
    down : (j k t : ℕ) → 0 < k → k + j < 64 → get_or q t 0 ≡ o + (k + j) → (u : ℕ) × (get_or q u 0 ≡ o + k)
    down zero k t pos lt e = (t, omega (arith, e))
    down (suc j) k t pos lt e =
        ⊎_elim (λ z. absurd (omega arith))
        (λ r. ⊎_elim (λ w. absurd (omega arith))
        (λ w. down j k (on_seat q (get_or q t 0 - 1)) pos (omega arith) (on_seat_lem q (get_or q t 0 - 1) w.1 ∙ omega arith))
        r.1)
        (says t)

    abbrev free : ℕ → Bool
    free k = leb 32 (on_seat q (o + (k + 1)))

    first_free : ℕ
    first_free = least free 62

    free_small : (t : ℕ) → In q o t → get_or q t 0 ≤ o + first_free
    unfolding first_free
    free_small t at =
        ⊎_elim
        (λ l. let short : first_free < 62 = omega arith in
        let h : 32 ≤ on_seat q (o + (first_free + 1)) = leb-true _ _ (least-true free 62 short) in
        let j : ℕ = get_or q t 0 - (o + (first_free + 1)) in
        let f : (u : ℕ) × (get_or q u 0 ≡ o + (first_free + 1)) = down j (first_free + 1) t (omega arith) (omega arith) (omega arith) in
        absurd (omega (arith, h, on_seat_hit q (o + (first_free + 1)) f.0 long (omega arith) f.1)))
        (λ l. l)
        (lt_or_le (o + first_free) (get_or q t 0))

    free_once : (t u : ℕ) → In q o t → get_or q t 0 ≡ get_or q u 0 → t ≡ u
    free_once t u at e =
        ⊎_elim (λ z. absurd (omega arith))
        (λ r. number_only (is_on q (get_or q t 0)) 32 t u r.0 (inside 32 q t long (λ z. omega arith)) (inside 32 q u long (λ z. omega arith))
        (eq-eqb (get_or q t 0) (get_or q t 0) refl) (eq-eqb (get_or q u 0) (get_or q t 0) (sym e)))
        (says t)

    free_full : (k : ℕ) → 0 < k → k ≤ first_free → (t : ℕ) × (get_or q t 0 ≡ o + k)
    unfolding first_free
    free_full k pos le =
        let h : on_seat q (o + (k - 1 + 1)) < 32 = leb-false 32 (on_seat q (o + (k - 1 + 1))) (least_below free 62 (k - 1) (omega arith)) in
        (on_seat q (o + (k - 1 + 1)), on_seat_lem q (o + (k - 1 + 1)) h ∙ omega arith)

    pub seated_from_rule : Seated q o (standing q o)
    seated_from_rule =
        let s : Seated q o first_free = record { small = free_small; once = free_once; full = free_full } in
        subst (λ (n : ℕ). Seated q o n) (sym (standing_is q o first_free long s)) s

  pub queues_from_rule : AllSeated q
  queues_from_rule =
      record {
        tasks = long;
        places = λ t.
            ⊎_elim inl
            (λ h. inr (
              h,
              ⊎_elim (λ l. l)
                  (λ l. let o : ℕ = get_or q t 0 / 64 * 64 in
                  let r : o % 64 ≡ 0 = omega arith in
                  let f : (u : ℕ) × (get_or q u 0 ≡ o + 33) = down o r 30 33 t (omega arith) (omega arith) (omega arith) in
                  absurd (omega (arith, standing-le q o, (seated_from_rule o r).small f.0 (omega (arith, f.1), omega (arith, f.1)), f.1)))
                  (lt_or_le (get_or q t 0 % 64) 63),
            ))
            (right_places t);
        seated = seated_from_rule;
      }

-- and back
module _ (q : List ℕ) (rule : AllSeated q) where
  task_right_lem : (t : ℕ) → SeatRight q (get_or q t 0)
  task_right_lem t =
      ⊎_elim inl
      (λ h. let o : ℕ = get_or q t 0 / 64 * 64 in
      let at : In q o t = (omega arith, omega arith) in
      let s : Seated q o (standing q o) = rule.seated o (omega arith) in
      let alone : number (is_on q (get_or q t 0)) 32 ≡ 1 =
      number-one (is_on q (get_or q t 0)) 32 t (inside 32 q t rule.tasks (λ z. omega arith)) (eq-eqb (get_or q t 0) (get_or q t 0) refl)
      (λ u ne. ne_eqb (get_or q u 0) (get_or q t 0) (λ e. ne (sym (s.once t u at (sym e))))) in
      inr (
        alone,
        ⊎_elim
            (λ l. let f : (u : ℕ) × (get_or q u 0 ≡ o + (get_or q t 0 % 64 - 1)) =
            s.full (get_or q t 0 % 64 - 1) (omega arith) (omega (arith, s.small t at)) in
            inr (l, on_seat_hit q (get_or q t 0 - 1) f.0 rule.tasks (omega arith) (f.1 ∙ omega arith)))
            (λ l. inl (omega arith))
            (lt_or_le 1 (get_or q t 0 % 64)),
      ))
      (rule.places t)

  pub rule_from_queues : seats_right q ≡ true
  unfolding seats_right
  rule_from_queues = every_yes (λ t. seat_right q (get_or q t 0)) 32 (λ t h. seat_right_lem q (get_or q t 0) (task_right_lem t))

-- leaving and joining keep it
settled : (q : List ℕ) (o n : ℕ) → length q ≡ 32 → Seated q o n → Seated q o (standing q o)
settled q o n long s = subst (λ (m : ℕ). Seated q o m) (sym (standing_is q o n long s)) s

-- who stands stands in the queue of its seat
pub stands_in_lem : (q : List ℕ) → AllSeated q → (t : ℕ) → 0 < get_or q t 0 → In q (get_or q t 0 / 64 * 64) t
stands_in_lem q rule t h = ⊎_elim (λ z. absurd (omega arith)) (λ w. (omega arith, omega arith)) (rule.places t)

module _ (q : List ℕ) (rule : AllSeated q) (t : ℕ) (stands : 0 < get_or q t 0) where
  abbrev left : ℕ
  left = get_or q t 0 / 64 * 64

  round : left % 64 ≡ 0
  round = omega arith

  at : In q left t
  at = stands_in_lem q rule t stands

  pub leaves_queues : AllSeated (leaves q t)
  leaves_queues =
      record {
        tasks = length-leaves q t ∙ rule.tasks;
        places = λ u.
            ⊎_elim (λ p. inl p.1)
            (λ p. ⊎_elim
            (λ s. inr (omega (arith, s, at), omega (arith, s, at)))
            (λ s. subst (λ (z : ℕ). (z ≡ 0) ⊎ ((0 < z % 64) × (z % 64 < 63))) (sym s.1) (rule.places u))
            p)
            (leaves_is q left t round at u);
        seated = λ m level.
            ⊎_elim
            (λ e. let s : Seated (leaves q t) left (standing q left - 1) =
            leaves_seated q left t round at (standing q left) rule.tasks (rule.seated left round) in
            subst (λ (v : ℕ). Seated (leaves q t) v (standing (leaves q t) v)) (sym e)
            (settled (leaves q t) left _ (length-leaves q t ∙ rule.tasks) s))
            (λ ne. settled (leaves q t) m (standing q m) (length-leaves q t ∙ rule.tasks)
            (leaves_others q left t round at m level ne (standing q m) rule.tasks (rule.seated m level)))
            (eq_or_not m left);
      }

-- whoever leaves, as long as no queue has its seats below 63
pub leaves_keeps : (q : List ℕ) → AllSeated q → ((u : ℕ) → In q 0 u → ⊥) → (t : ℕ) → AllSeated (leaves q t)
leaves_keeps q rule none t =
    ⊎_elim (λ h. leaves_queues q rule t h)
    (λ h. subst (λ (r : List ℕ). AllSeated r) (sym (leaves_nowhere q t (omega arith) none)) rule)
    (lt_or_le 0 (get_or q t 0))

module _ (q key : List ℕ) (i o p : ℕ) (rule : AllSeated q) (room : i < 32) (out : get_or q i 0 ≡ 0) (level : o % 64 ≡ 0) where
  abbrev after : List ℕ
  after = joins q key i o p

  here : Seated q o (standing q o)
  here = rule.seated o level

  pub joins_queues : AllSeated (joins q key i o p)
  joins_queues =
      record {
        tasks = length-joins q key i o p ∙ rule.tasks;
        places = λ u.
            ⊎_elim
            (λ e. let a : In after o i = joins_in q key i o p (standing q o) rule.tasks room out here in
            let d : get_or after u 0 ≡ get_or after i 0 = ap (λ (v : ℕ). get_or after v 0) e in
            inr (omega (arith, d, a), omega (arith, d, a)))
            (λ ne. ⊎_elim
            (λ s. let b : o ≤ ahead_of q key o (o + 63) p 32 = ahead_from q key o (o + 63) p 32 in
            let c : get_or q u 0 ≤ o + standing q o = here.small u (omega (arith, s, b), omega (arith, s)) in
            inr (omega (arith, s, b, c, standing-le q o), omega (arith, s, b, c, standing-le q o)))
            (λ s. subst (λ (z : ℕ). (z ≡ 0) ⊎ ((0 < z % 64) × (z % 64 < 63))) (sym s.1) (rule.places u))
            (joins_is q key i o p u ne))
            (eq_or_not u i);
        seated = λ m flat.
            ⊎_elim
            (λ e. subst (λ (v : ℕ). Seated after v (standing after v)) (sym e)
            (settled after o (standing q o + 1) (length-joins q key i o p ∙ rule.tasks)
            (joins_seated q key i o p (standing q o) rule.tasks room out here)))
            (λ ne. settled after m (standing q m) (length-joins q key i o p ∙ rule.tasks)
            (joins_others q key i o p (standing q o) rule.tasks room out here level m flat ne (standing q m) (rule.seated m flat)))
            (eq_or_not m o);
      }
