-- Playing a script record by record gives its listing: a sound state's step is its answer, which leaves a sound state, and a line
-- put behind others takes one from those to come.
-- Assumes nothing.
use Prim.Native.Nat.{ℕ, suc, ◌+◌, ◌*◌, ◌-◌, ◌≤◌, ◌<◌}
use native.Mathlib.Omega.{arith}
use native.Mathlib.Numerals.{add-one}
use mathlib.Core.Path.{◌≡◌, refl, sym, ap, subst, ◌∙◌}
use mathlib.Core.Logic.{⊎_elim}
use mathlib.Core.Bool.{true}
use mathlib.Core.List.{List, ◌++◌, append_assoc}
use lib.ListN.{length, take, length-append}
use lib.Seq.{length-take-le}
use lib.Dec.{ltb, leb}
use borrow.Author.Tests.{leb-true, le-ltb}
use Rattle.scope.specs.declared.State.{State}
use Rattle.scope.specs.declared.Answer.{Answer}
use Rattle.scope.specs.declared.Fresh.{Fresh}
use Rattle.scope.specs.Fresh.{fresh_state, fresh}
use Rattle.scope.specs.Views.{running_task}
use Rattle.scope.specs.Step.{answered}
use Rattle.scope.specs.Script.{number32, record_count, first_offset, first_priority, is_script, message_at, step_at}
use Rattle.scope.specs.Replies.{reply_of}
use Rattle.scope.specs.Listing.{line_of, lines_from, listing}
use Rattle.laws.proofs.Branches.{both_true, picked_no, lt_or_le}
use Rattle.answers.specs.declared.Outcome.{Outcome}
use Rattle.answers.specs.Outcomes.{now_runs, told, answer_shown}
use Rattle.histories.specs.Sound.{Sound}
use Rattle.histories.proofs.Meaning.{sound_right}
use Rattle.histories.proofs.Stays.{step_keeps}
use Rattle.histories.proofs.Fresh.{fresh_sound}
use Rattle.scope.specs.declared.Request.{Request}
use Rattle.text.specs.Records.{record_at}
use Rattle.text.specs.Lines.{longest_line, reply_by}
use Rattle.text.proofs.Laws.{line_length}
use Rattle.scripts.specs.declared.Place.{Place}
use Rattle.scripts.specs.Place.{Point, Reached, point_at, to_come, next, after, lines_to, Playing, Begun, LinePut, Played, PlayedPart}
use Rattle.histories.proofs.Refusals.{stepped-sound}
use Rattle.histories.proofs.Wakes.{woken_few}

-- what the test of a script says
pub record Header (script : List ℕ) : Type 0 where
  pub small : length script ≤ 65536
  pub long : 16 ≤ length script
  pub start : 16 ≤ first_offset script
  pub within : first_offset script + 28 * record_count script ≤ length script
  pub urgent : first_priority script ≤ 15

pub header : (script : List ℕ) → is_script script ≡ true → Header script
unfolding is_script
header script e =
    let a = both_true (leb (length script) 65536) _ e in
    let b = both_true (leb 16 (length script)) _ a.1 in
    let c = both_true (leb 16 (first_offset script)) _ b.1 in
    let d = both_true (leb (first_offset script + 28 * record_count script) (length script)) _ c.1 in
    let f = both_true (leb (first_priority script) 15) _ d.1 in
    record {
      small = leb-true _ _ a.0;
      long = leb-true _ _ b.0;
      start = leb-true _ _ c.0;
      within = leb-true _ _ d.0;
      urgent = leb-true _ _ f.0;
    }

pub fresh_is : (p : ℕ) → p ≤ 15 → (fresh p).state ≡ fresh_state p
unfolding fresh
fresh_is p h = ap (λ (f : Fresh). f.state) (picked_no (ltb 15 p) _ _ (le-ltb _ _ h))

listing_is : (script : List ℕ) → is_script script ≡ true
    → listing script ≡ lines_from script (record_count script) 1 (first_offset script) (fresh_state (first_priority script))
unfolding listing
listing_is script e = rw (listing, e)

-- the point before the first record
pub begun : (script : List ℕ) (p : Place) → is_script script ≡ true → p.left ≡ record_count script → p.number ≡ 1 → p.at ≡ first_offset script
    → Begun script (point_at (fresh_state (first_priority script)) p)
unfolding to_come
begun script p e left number at =
    let h = header script e in
    record {
      whole = rw (left, number, at) (sym (listing_is script e));
      state = refl;
      left = left;
      number = number;
      at = at;
      playing =
          record {
            small = h.small;
            start = omega (arith, at, h.start);
            within = omega (arith, left, at, h.within);
            numbered = omega (arith, left, number, h.within, h.small, h.start);
            state = fresh_sound _ h.urgent;
          };
    }

-- the step of a record on a sound state
module _ (script : List ℕ) (at : ℕ) (s : State) (ok : Sound s) where
  abbrev answer_at : Answer
  answer_at =
      answered s (number32 script at) (number32 script (at + 4)) (number32 script (at + 8)) (number32 script (at + 12))
      (number32 script (at + 16)) (number32 script (at + 20)) (number32 script (at + 24)) (message_at script at)

  step_is : {r : Answer} → r ≡ answer_at → r ≡ step_at script at s
  unfolding step_at
  step_is e = e ∙ sym (stepped-sound s _ _ _ _ _ _ _ _ (sound_right s ok))

  -- of the numbers and the message as they were read
  pub record_step : (q : Request) (m : List ℕ) {r : Answer} → q ≡ record_at script at → m ≡ message_at script at
      → r ≡ answered s q.call q.mark q.a q.b q.c q.d q.e m → r ≡ step_at script at s
  record_step q m {r} e f p =
      step_is
      (subst (λ (x : Request). r ≡ answered s x.call x.mark x.a x.b x.c x.d x.e (message_at script at)) e
      (subst (λ (x : List ℕ). r ≡ answered s q.call q.mark q.a q.b q.c q.d q.e x) f p))

  pub step_sound : Sound (step_at script at s).state
  unfolding step_at
  step_sound = step_keeps s ok _ _ _ _ _ _ _ _

  pub step_few : (step_at script at s).woken ≤ 32
  step_few = subst (λ (r : Answer). r.woken ≤ 32) (step_is refl) (woken_few s _ _ _ _ _ _ _ _)

line_some : (n : ℕ) (a : Answer) → 0 < length (line_of n (reply_of a))
unfolding line_of
line_some n a = simp length-append (omega arith)

-- one record: its line first, then those after it
lines_are : (script : List ℕ) (n m k at : ℕ) (s : State) → m + 1 ≡ n
    → lines_from script n k at s ≡ line_of k (reply_of (step_at script at s)) ++ lines_from script m (k + 1) (at + 28) (step_at script at s).state
unfolding lines_from
lines_are script n m k at s e = rw (← e, add-one m, add-one k)

pub played : (script : List ℕ) (p : Point) (before out : List ℕ) (k : ℕ) (r : Reached) (a : Answer) → Playing script p → 1 ≤ p.left
    → a ≡ step_at script p.at p.state → k + longest_line ≤ length before → length out ≡ length before
    → r.written ≡ k + length (line_of p.number (reply_of a))
    → take r.written out ≡ take k before ++ line_of p.number (reply_of a)
    → r.place.left + 1 ≡ p.left → r.place.number ≡ p.number + 1 → r.place.at ≡ p.at + 28 → r.place.state ≡ a.state
    → r.place ≡ record { state = a.state; left = p.left - 1; number = p.number + 1; at = p.at + 28 }
    → Played script p before k out r
unfolding to_come next
played script p before out k r a h some is room same written put left number at state place =
    let few : a.woken ≤ 32 = subst (λ (x : Answer). x.woken ≤ 32) (sym is) (step_few script p.at p.state h.state) in
    let s : r.place.state ≡ (step_at script p.at p.state).state = state ∙ ap (λ (x : Answer). x.state) is in
    record {
      fitted = room;
      line = put ∙ ap (λ (x : Answer). take k before ++ line_of p.number (reply_of x)) is;
      put =
          rw (put, lines_are script p.left r.place.left p.number p.at p.state left, number, at, s, ← is)
          (append_assoc (take k before) (line_of p.number (reply_of a)) _);
      grows = omega (arith, written, line_some p.number a);
      room = omega (arith, written, line_length p.number a few);
      short = omega (arith, written, line_length p.number a few);
      fewer = left;
      place =
          place ∙ ap (λ (x : Answer). record { state = x.state; left = p.left - 1; number = p.number + 1; at = p.at + 28 }) is;
      playing =
          record {
            small = h.small;
            start = omega (arith, at, h.start);
            within = omega (arith, left, at, h.within);
            numbered = omega (arith, left, number, h.numbered);
            state = subst Sound (sym s) (step_sound script p.at p.state h.state);
          };
    }

-- what a line was put for is the record's answer
pub line_told : (script : List ℕ) (at number k id : ℕ) (s n : State) (wakes shown : List ℕ) (o : Outcome) (before lines : List ℕ) (written : ℕ)
    → answer_shown n wakes shown o ≡ step_at script at s → id ≡ running_task (now_runs n o.runs)
    → (written ≡ k + length (line_of number (reply_by wakes shown o id)))
    × (take written lines ≡ take k before ++ line_of number (reply_by wakes shown o id))
    → LinePut script at number s before k (now_runs n o.runs) lines written
unfolding answer_shown
line_told script at number k id s n wakes shown o before lines written e f p =
    let t : told (now_runs n o.runs) wakes shown o id ≡ step_at script at s = rw f e in
    record {
      state = ap (λ (a : Answer). a.state) e;
      grown = p.0 ∙ ap (λ (a : Answer). k + length (line_of number (reply_of a))) t;
      put = p.1 ∙ ap (λ (a : Answer). take k before ++ line_of number (reply_of a)) t;
    }

-- and the place after it
pub line_played : (script : List ℕ) (p : Point) (n : State) (before lines : List ℕ) (k written : ℕ) → Playing script p → 1 ≤ p.left
    → k + longest_line ≤ length before → length lines ≡ length before
    → LinePut script p.at p.number p.state before k n lines written
    → Played script p before k lines
    (record { place = record { state = n; left = p.left - 1; number = p.number + 1; at = p.at + 28 }; written = written })
line_played script p n before lines k written h some room same d =
    played script p before lines k
    (record { place = record { state = n; left = p.left - 1; number = p.number + 1; at = p.at + 28 }; written = written })
    (step_at script p.at p.state) h some refl room same d.grown d.put (omega arith) refl refl d.state
    (ap (λ (s : State). record { state = s; left = p.left - 1; number = p.number + 1; at = p.at + 28 }) d.state)

-- while records are played: k bytes were written since place p, and none only if no record was played
pub record Going (script : List ℕ) (p : Point) (out₀ out : List ℕ) (q : Point) (k : ℕ) : Type 0 where
  pub lines : take k out ≡ lines_to script (p.left - q.left) p
  pub each : (n : ℕ) → n < p.left - q.left → length (lines_to script n p) + longest_line ≤ length out₀
  pub put : take k out ++ to_come script q ≡ to_come script p
  pub room : k ≤ length out
  pub same : length out ≡ length out₀
  pub fewer : q.left ≤ p.left
  pub place : q ≡ after script (p.left - q.left) p
  pub short : k + longest_line * q.left ≤ longest_line * p.left
  pub still : q.left ≡ p.left → k ≡ 0
  pub onward : q.left < p.left → 0 < k
  pub playing : Playing script q

module _ (script : List ℕ) (p : Point) (out₀ : List ℕ) where
  pub going_first : Playing script p → Going script p out₀ out₀ p 0
  unfolding after lines_to
  going_first h =
      let e : 0 ≡ p.left - p.left = omega arith in
      record {
        lines = ap (λ (n : ℕ). lines_to script n p) e;
        each = λ n l. omega arith;
        put = refl;
        room = omega arith;
        same = refl;
        fewer = omega arith;
        place = ap (λ (n : ℕ). after script n p) e;
        short = omega arith;
        still = λ e. refl;
        onward = λ l. omega arith;
        playing = h;
      }

  -- the line of the next record behind those of the records played
  more_lines : (out last : List ℕ) (q : Point) (k : ℕ) (r : Reached) → Going script p out₀ out q k → Played script q out k last r
      → take r.written last ≡ lines_to script (suc (p.left - q.left)) p
  unfolding lines_to
  more_lines out last q k r g d =
      d.line ∙ ap (λ (x : List ℕ). x ++ line_of q.number (reply_of (step_at script q.at q.state))) g.lines
      ∙ ap (λ (x : Point). lines_to script (p.left - q.left) p ++ line_of x.number (reply_of (step_at script x.at x.state))) g.place

  -- as many bytes as were written
  long : (out : List ℕ) (q : Point) (k : ℕ) → Going script p out₀ out q k → length (lines_to script (p.left - q.left) p) ≡ k
  long out q k g = sym (ap length g.lines) ∙ length-take-le k out g.room

  more_each : (out last : List ℕ) (q : Point) (k m : ℕ) (r : Reached) → Going script p out₀ out q k → Played script q out k last r
      → m ≡ suc (p.left - q.left) → (n : ℕ) → n < m → length (lines_to script n p) + longest_line ≤ length out₀
  more_each out last q k m r g d e n l =
      ⊎_elim (λ h. g.each n h)
      (λ h.
      let same : n ≡ p.left - q.left = omega (arith, e) in
      let at : length (lines_to script n p) ≡ k = ap (λ (x : ℕ). length (lines_to script x p)) same ∙ long out q k g in
      omega (arith, at, d.fitted, g.same))
      (lt_or_le n (p.left - q.left))

  pub going_more : (out last : List ℕ) (q : Point) (k : ℕ) (r : Reached) → Going script p out₀ out q k → Played script q out k last r
      → length last ≡ length out → Going script p out₀ last r.place r.written
  unfolding after
  going_more out last q k r g d e =
      let m : suc (p.left - q.left) ≡ p.left - r.place.left = omega (arith, d.fewer, g.fewer) in
      record {
        lines = more_lines out last q k r g d ∙ ap (λ (n : ℕ). lines_to script n p) m;
        each = more_each out last q k (p.left - r.place.left) r g d (sym m);
        put = d.put ∙ g.put;
        room = d.room;
        same = e ∙ g.same;
        fewer = omega (arith, d.fewer, g.fewer);
        place = d.place ∙ ap (next script) g.place ∙ ap (λ (n : ℕ). after script n p) m;
        short = omega (arith, d.fewer, d.short, g.short);
        still = λ i. absurd (omega (arith, d.fewer, g.fewer));
        onward = λ l. omega (arith, d.grows);
        playing = d.playing;
      }

  pub going_done : (out : List ℕ) (q : Point) (k : ℕ) (r : Reached) → Going script p out₀ out q k → (1 ≤ q.left → length out < k + longest_line)
      → r.place ≡ q → r.written ≡ k → PlayedPart script p out r
  going_done out q k r g stop place written =
      record {
        fewer = rw place g.fewer;
        lines = rw (place, written) g.lines;
        each = rw (place, g.same) g.each;
        put = rw (place, written) g.put;
        room = omega (arith, written, g.room);
        place = place ∙ g.place ∙ ap (λ (x : Point). after script (p.left - x.left) p) (sym place);
        stop = rw (place, written) stop;
        whole = λ wide. rw place (ended wide);
        onward = λ some wide. rw (place, written) (moved some wide, g.onward (moved some wide));
        playing = rw place g.playing;
      }
    where
      ended : longest_line * p.left ≤ length out → q.left ≡ 0
      ended wide =
          ⊎_elim (λ l. omega arith) (λ l. absurd (omega (arith, stop l, g.short))) (lt_or_le q.left 1)

      moved : 1 ≤ p.left → longest_line ≤ length out → q.left < p.left
      moved some wide =
          ⊎_elim (λ l. l)
          (λ l.
          let e : q.left ≡ p.left = omega (arith, g.fewer) in
          absurd (omega (arith, g.still e, stop (omega arith))))
          (lt_or_le q.left p.left)
