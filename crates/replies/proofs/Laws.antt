-- What the code does with an image, piece by piece, is the definitions' step: the front of the bytes is an image where all of them are, the
-- answer's columns make its bytes, and a refused step has the given state back, so that its image need not be written.
-- Assumes nothing.
use Prim.Native.Nat.{ℕ, ◌≤◌, ◌<◌}
use native.Mathlib.Omega.{arith}
use mathlib.Core.Path.{◌≡◌, refl, sym, ap, ◌∙◌, subst}
use mathlib.Core.Bool.{Bool, true, false, ◌&&◌}
use mathlib.Core.List.{List, ◌++◌, append-nil}
use lib.Dec.{ltb, leb}
use lib.ListN.{length, take, drop, length-take, take-append-drop, drop_of_length-le}
use lib.Seq.{sets, take_all}
use borrow.Author.Tests.{le-leb, lt-leb, lt-ltb, le-ltb}
use Rattle.scope.specs.declared.State.{State}
use Rattle.scope.specs.declared.Answer.{Answer}
use Rattle.scope.specs.Statuses.{OK, BAD_STATE}
use Rattle.scope.specs.Rules.{sound}
use Rattle.scope.specs.Step.{answered}
use Rattle.scope.specs.Fresh.{fresh}
use Rattle.laws.proofs.Branches.{first_fails, second_decides, pick_yes, pick_no, picked_yes, picked_no, true-false}
use Rattle.answers.specs.declared.Outcome.{Outcome}
use Rattle.histories.specs.Refusals.{Refusal}
use Rattle.histories.proofs.Refusals.{stepped-sound, refusal}
use Rattle.histories.proofs.Wakes.{woken_few}
use Rattle.fields.specs.Columns.{part, put_column}
use Rattle.fields.specs.Fields.{bytes_of}
use Rattle.fields.proofs.Bytes.{part_is}
use Rattle.fields.proofs.Stores.{whole}
use Rattle.fields.proofs.Tables.{written}
use Rattle.image.specs.Image.{image_of, image_size}
use Rattle.image.specs.Reading.{NO_ROOM, Wrote, puts, state_from, same_bytes, is_image}
use Rattle.image.proofs.Image.{from_image}
use Rattle.image.proofs.Front.{state_front}
use Rattle.images.proofs.Laws.{copied}
use Rattle.replies.specs.Told.{ToldBy}
use Rattle.replies.specs.Answers.{numbers_by, answer_tables, answer_bytes, bytes_of_answer}
use Rattle.replies.specs.Steps.{StepsTo, Stepped, bad_answer, bad_image, answers_on, steps_on, freshes, writes}

-- ---- the answer's bytes

-- the columns put one by one
pub answer_put : (numbers wakes shown a0 a1 a2 a3 : List ℕ) → length a0 ≡ 236 → a1 ≡ put_column 4 1 4 11 numbers 0 a0 → a2 ≡ put_column 4 1 4 32 wakes 44 a1
    → a3 ≡ put_column 1 64 64 1 shown 172 a2 → a3 ≡ answer_bytes numbers wakes shown
unfolding answer_bytes
answer_put numbers wakes shown a0 a1 a2 a3 h e1 e2 e3 =
    let l : 236 ≤ length a0 = omega arith in
    let m : length a0 ≤ 236 = omega arith in
    let ts = answer_tables numbers wakes shown in
    e3
    ∙ ap (λ (l : List ℕ). put_column 1 64 64 1 shown 172 l) (e2 ∙ ap (λ (l : List ℕ). put_column 4 1 4 32 wakes 44 l) e1)
    ∙ written ts a0 l
    ∙ ap (λ (r : List ℕ). bytes_of ts ++ r) (drop_of_length-le a0 m)
    ∙ append-nil (bytes_of ts)

-- ---- what `perform` leaves

-- ---- the front of the bytes

pub fronted : (b z own : List ℕ) → image_size ≤ length b → length z ≡ image_size → own ≡ sets z 0 (part image_size 0 b) → own ≡ take image_size b
fronted b z own h n e =
    let p : part image_size 0 b ≡ take image_size b = part_is image_size 0 b h in
    let l : length (take image_size b) ≡ length z = length-take image_size b ∙ (omega arith) in
    e ∙ ap (λ (r : List ℕ). sets z 0 r) p ∙ whole (take image_size b) z l

-- bytes that are too few are no image; as many as an image has are one by two tests
pub too_short : (b : List ℕ) → length b < image_size → is_image b ≡ false
unfolding is_image
too_short b h = first_fails (leb image_size (length b)) _ (lt-leb image_size (length b) h)

pub two_tests : (w : List ℕ) → length w ≡ image_size → (sound (state_from w) && same_bytes w (image_of (state_from w))) ≡ is_image w
unfolding is_image
two_tests w h =
    let l : image_size ≤ length w = omega arith in
    let m : length w ≤ image_size = omega arith in
    ap (λ (k : List ℕ). sound (state_from w) && same_bytes k (image_of (state_from w))) (sym (take_all image_size w m))
    ∙ sym (second_decides (leb image_size (length w)) _ (le-leb image_size (length w) l))

-- what the code's test said
pub tested : (w : List ℕ) {s t b : Bool} → length w ≡ image_size → s ≡ sound (state_from w) → t ≡ same_bytes w (image_of (state_from w)) → (s && t) ≡ b → is_image w ≡ b
tested w {s} h e f g = sym (two_tests w h) ∙ ap (λ (k : Bool). k && same_bytes w (image_of (state_from w))) (sym e) ∙ ap (λ (k : Bool). s && k) (sym f) ∙ g

module _ (b own : List ℕ) (h : image_size ≤ length b) (is : own ≡ take image_size b) where
  pub own-length : length own ≡ image_size
  own-length = ap length is ∙ length-take image_size b ∙ (omega arith)

  same_state_lem : state_from own ≡ state_from b
  same_state_lem = ap state_from is ∙ state_front b

  pub same_image : is_image own ≡ is_image b
  unfolding is_image
  same_image =
      sym (two_tests own own-length)
      ∙ ap (λ (s : State). sound s && same_bytes own (image_of s)) same_state_lem
      ∙ ap (λ (k : List ℕ). sound (state_from b) && same_bytes k (image_of (state_from b))) is
      ∙ sym (second_decides (leb image_size (length b)) _ (le-leb image_size (length b) h))

-- ---- the step

module _ (call mark x y z u v : ℕ) (m : List ℕ) where
  abbrev step_of : List ℕ → Stepped
  step_of b = steps_on b call mark x y z u v m

  abbrev answer_on : List ℕ → Answer
  answer_on b = answered (state_from b) call mark x y z u v m

  pub on_image : (b : List ℕ) → is_image b ≡ true → step_of b ≡ answers_on b (answer_on b)
  unfolding steps_on
  on_image b e = picked_yes (is_image b) (answers_on b (answer_on b)) (bad_image b) e

  on_none : (b : List ℕ) → is_image b ≡ false → step_of b ≡ bad_image b
  unfolding steps_on
  on_none b e = picked_no (is_image b) (answers_on b (answer_on b)) (bad_image b) e

  -- by whether the bytes are an image
  by_image : (b : List ℕ) (P : Stepped → Type 0) → (is_image b ≡ true → P (answers_on b (answer_on b))) → (is_image b ≡ false → P (bad_image b)) → P (step_of b)
  by_image b P f g = go (is_image b) refl
    where
      go : (t : Bool) → is_image b ≡ t → P (step_of b)
      go true e = subst P (sym (on_image b e)) (f e)
      go false e = subst P (sym (on_none b e)) (g e)

  -- an accepted step was one of an image
  pub accepted_image : (b : List ℕ) → (step_of b).status ≤ 1 → is_image b ≡ true
  unfolding bad_image
  accepted_image b = by_image b (λ s. s.status ≤ 1 → is_image b ≡ true) (λ e l. e) (λ e l. absurd (omega arith))

  -- "a refused step leaves it": every byte
  pub refused_leaves : (b : List ℕ) → 1 < (step_of b).status → (step_of b).image ≡ b
  unfolding bad_image answers_on
  refused_leaves b = by_image b (λ s. 1 < s.status → s.image ≡ b) (λ e far. sym (kept e far)) (λ e far. refl)
    where
      kept : is_image b ≡ true → 1 < (answer_on b).status → b ≡ image_of (answer_on b).state ++ drop image_size b
      kept good far =
          let i = from_image b good in
          let is = sym (stepped-sound (state_from b) call mark x y z u v m i.0) in
          let r : Refusal (state_from b) (answer_on b) =
          subst (λ (w : Answer). Refusal (state_from b) w) (sym is)
          (refusal (state_from b) call mark x y z u v m
          (λ e. let f : (answer_on b).status ≡ 0 = ap (λ (w : Answer). w.status) is ∙ e in omega arith)
          (λ e. let f : (answer_on b).status ≡ 1 = ap (λ (w : Answer). w.status) is ∙ e in omega arith)) in
          sym (take-append-drop image_size b) ∙ ap (λ (l : List ℕ). l ++ drop image_size b) (i.1 ∙ ap image_of (sym r.state))

  -- no image: the answer of 32
  pub step_refused : (w : List ℕ) {w' an : List ℕ} {r : ℕ} → is_image w ≡ false → an ≡ bad_answer → r ≡ 32 → StepsTo w (step_of w) w' an r
  unfolding bad_image
  step_refused w none e f = (
    e ∙ sym (ap (λ (s : Stepped). s.answer) (on_none w none)),
    (f ∙ sym (ap (λ (s : Stepped). s.status) (on_none w none)), λ q. absurd (true-false q none)),
  )

  -- a slice that is too short
  pub short_step : (b : List ℕ) {an : List ℕ} {r : ℕ} → length b < image_size → an ≡ bad_answer → r ≡ 32 → (record { image = b; answer = an; status = r }) ≡ step_of b
  unfolding bad_image
  short_step b h e f = (λ i. record { image = b; answer = e i; status = f i }) ∙ sym (on_none b (too_short b h))

  module _ (w wakes shown : List ℕ) (o : Outcome) (running : ℕ) (is : ToldBy (answer_on w) wakes shown o running) where
    pub few_woken : o.woken ≤ 32
    few_woken = subst (λ (n : ℕ). n ≤ 32) (sym (ap (λ (w : Answer). w.woken) is)) (woken_few (state_from w) call mark x y z u v m)

    answer_is : (numbers : List ℕ) {an : List ℕ} → numbers ≡ numbers_by o running → an ≡ answer_bytes numbers wakes shown → an ≡ bytes_of_answer (answer_on w)
    unfolding bytes_of_answer
    answer_is numbers e f = f ∙ ap (λ (l : List ℕ). answer_bytes l wakes shown) e ∙ ap bytes_of_answer is

    -- an image of our own: the answer, and the image after it
    pub step_done : (numbers : List ℕ) {an w' : List ℕ} → length w ≡ image_size → is_image w ≡ true → numbers ≡ numbers_by o running → an ≡ answer_bytes numbers wakes shown
        → w' ≡ image_of (answer_on w).state → StepsTo w (step_of w) w' an o.status
    unfolding answers_on
    step_done numbers {an} {w'} h good e f g =
        let l : length w ≤ image_size = omega arith in
        let s = on_image w good in (
          answer_is numbers e f ∙ sym (ap (λ (s : Stepped). s.answer) s),
          (
            ap (λ (w : Answer). w.status) is ∙ sym (ap (λ (s : Stepped). s.status) s),
            λ q. g
                ∙ sym (append-nil (image_of (answer_on w).state))
                ∙ ap (λ (k : List ℕ). image_of (answer_on w).state ++ k) (sym (drop_of_length-le w l))
                ∙ sym (ap (λ (s : Stepped). s.image) s),
          ),
        )

  -- what a step through the front of a slice leaves is what the step through the slice leaves, with the bytes past the front
  module _ (b own : List ℕ) (h : image_size ≤ length b) (is : own ≡ take image_size b) where
    same_answer : answer_on own ≡ answer_on b
    same_answer = ap (λ (s : State). answered s call mark x y z u v m) (same_state_lem b own h is)

    slice_step : ((step_of own).answer ≡ (step_of b).answer) × ((step_of own).status ≡ (step_of b).status)
    unfolding answers_on bad_image
    slice_step =
        by_image b (λ s. ((step_of own).answer ≡ s.answer) × ((step_of own).status ≡ s.status))
        (λ e. let s = on_image own (same_image b own h is ∙ e) in
        (ap (λ (s : Stepped). s.answer) s ∙ ap bytes_of_answer same_answer, ap (λ (s : Stepped). s.status) s ∙ ap (λ (w : Answer). w.status) same_answer))
        (λ e. let s = on_none own (same_image b own h is ∙ e) in (ap (λ (s : Stepped). s.answer) s, ap (λ (s : Stepped). s.status) s))

    module _ (own' an : List ℕ) (r : ℕ) (to : StepsTo own (step_of own) own' an r) where
      answer_told : an ≡ (step_of b).answer
      answer_told = to.0 ∙ slice_step.0

      status_told : r ≡ (step_of b).status
      status_told = to.1.0 ∙ slice_step.1

      -- refused: the slice is left
      pub kept_step : 1 < r → (record { image = b; answer = an; status = r }) ≡ step_of b
      kept_step far =
          let e = refused_leaves b (subst (λ (n : ℕ). 1 < n) status_told far) in
          λ i. record { image = sym e i; answer = answer_told i; status = status_told i }

      -- accepted: the image is copied back
      pub copied_step : (b' : List ℕ) → r ≤ 1 → b' ≡ sets b 0 (part image_size 0 own') → (record { image = b'; answer = an; status = r }) ≡ step_of b
      unfolding answers_on
      copied_step b' near k =
          let good : is_image b ≡ true = accepted_image b (subst (λ (n : ℕ). n ≤ 1) status_told near) in
          let mine = same_image b own h is ∙ good in
          let s = on_image own mine in
          let n : length own ≤ image_size = omega (arith, own-length b own h is) in
          let e : own' ≡ image_of (answer_on b).state =
          to.1.1 mine
          ∙ ap (λ (s : Stepped). s.image) s
          ∙ ap (λ (q : List ℕ). image_of (answer_on own).state ++ q) (drop_of_length-le own n)
          ∙ append-nil (image_of (answer_on own).state)
          ∙ ap (λ (w : Answer). image_of w.state) same_answer in
          let f = copied (answer_on b).state own' b b' e h k ∙ sym (ap (λ (s : Stepped). s.image) (on_image b good)) in
          λ i. record { image = f i; answer = answer_told i; status = status_told i }

-- ---- a fresh image

abbrev wrote : List ℕ → ℕ → Wrote
wrote b r = record { bytes = b; status = r }

module _ (priority : ℕ) (out : List ℕ) where
  pub fresh_full : length out < image_size → wrote out NO_ROOM ≡ freshes priority out
  unfolding freshes
  fresh_full h = pick_yes (ltb (length out) image_size) _ _ (lt-ltb (length out) image_size h) refl

  pub fresh_done : (own : List ℕ) {out' : List ℕ} {r : ℕ} → image_size ≤ length out → own ≡ image_of (fresh priority).state
      → out' ≡ sets out 0 (part image_size 0 own) → r ≡ (fresh priority).status → wrote out' r ≡ freshes priority out
  unfolding freshes
  fresh_done own {out'} h e f g =
      let k = copied (fresh priority).state own out out' e h f in
      pick_no (ltb (length out) image_size) _ _ (le-ltb (length out) image_size h) (λ i. wrote (k i) (g i))

-- ---- a state is written

module _ (s : State) (out : List ℕ) where
  pub bad_unwritten : {r : Bool} → r ≡ sound s → r ≡ false → wrote out BAD_STATE ≡ writes s out
  unfolding writes
  bad_unwritten e f = pick_no (sound s) (puts s out) _ (sym e ∙ f) refl

  pub no_room : {r : Bool} → r ≡ sound s → r ≡ true → length out < image_size → wrote out NO_ROOM ≡ writes s out
  unfolding writes puts
  no_room e f h = pick_yes (sound s) (puts s out) _ (sym e ∙ f) (pick_yes (ltb (length out) image_size) _ _ (lt-ltb (length out) image_size h) refl)

  pub state_written : {r : Bool} (own : List ℕ) {out' : List ℕ} → r ≡ sound s → r ≡ true → image_size ≤ length out → own ≡ image_of s → out' ≡ sets out 0 (part image_size 0 own)
      → wrote out' OK ≡ writes s out
  unfolding writes puts
  state_written own {out'} e f h g k =
      pick_yes (sound s) (puts s out) _ (sym e ∙ f)
      (pick_no (ltb (length out) image_size) _ _ (le-ltb (length out) image_size h) (λ i. wrote (copied s own out out' g h k i) OK))
