-- After a step through an image the bytes are an image again, whose state is the answer's; so are those of a fresh image. A state that keeps
-- the rules goes on keeping them, and what it writes is read back.
-- Assumes nothing.
use Prim.Native.Nat.{ℕ, zero, suc, ◌+◌, ◌*◌, ◌≤◌}
use native.Mathlib.Nat.{suc-mul}
use native.Mathlib.Omega.{arith}
use mathlib.Core.Path.{◌≡◌, refl, sym, ap, ◌∙◌, subst}
use mathlib.Core.Bool.{true}
use mathlib.Core.List.{List, ◌++◌, map}
use lib.Dec.{ltb}
use lib.ListN.{length, drop, length-append, length-map}
use borrow.Author.Tests.{le-ltb}
use Rattle.scope.specs.declared.Answer.{Answer}
use Rattle.scope.specs.Rules.{sound}
use Rattle.scope.specs.Step.{answered}
use Rattle.scope.specs.Fresh.{fresh}
use Rattle.laws.proofs.Branches.{picked_no}
use Rattle.histories.specs.Sound.{Sized}
use Rattle.histories.proofs.Meaning.{sound_says, sound_right}
use Rattle.histories.proofs.Stays.{sound_stays}
use Rattle.histories.proofs.Fresh.{fresh_always}
use Rattle.fields.specs.Numbers.{is_on, numbers}
use Rattle.fields.specs.Columns.{take_column}
use Rattle.fields.proofs.Bytes.{length-numbers}
use Rattle.image.specs.Image.{Fits, image_of, image_size}
use Rattle.image.specs.Reading.{Wrote, state_from, is_image}
use Rattle.image.proofs.Image.{accepted, from_image}
use Rattle.image.proofs.Back.{state_back}
use Rattle.replies.specs.Steps.{Stepped, answers_on, steps_on, freshes}
use Rattle.replies.proofs.Laws.{on_image}
use Rattle.replies.proofs.Fitting.{fits_always}

-- ---- what is read has the sizes of a state

column_length : (w many S n : ℕ) (b : List ℕ) (at : ℕ) → length (take_column w many S n b at) ≡ n * many
unfolding take_column
column_length w many S zero b at = omega arith
column_length w many S (suc n) b at =
    length-append (take_column w many S n b at) (numbers w many b (at + n * S))
    ∙ (omega (arith, column_length w many S n b at, length-numbers w many b (at + n * S), suc-mul n many))

flags_length : (w S n : ℕ) (b : List ℕ) (at : ℕ) → length (map is_on (take_column w 1 S n b at)) ≡ n * 1
flags_length w S n b at = length-map (take_column w 1 S n b at) is_on ∙ column_length w 1 S n b at

-- ( Printed by tools/generate/run: sized_from
sized_from : (b : List ℕ) → Sized (state_from b)
unfolding state_from
sized_from b =
    record {
      line =
          record {
            lefts = column_length 4 1 17 32 b 50;
            seats = column_length 2 1 17 32 b 54;
            joineds = column_length 1 1 17 32 b 56;
            rings = refl;
          };
      tasks =
          record {
            names = column_length 4 1 17 32 b 40;
            serials = column_length 2 1 17 32 b 44;
            lives = flags_length 1 17 32 b 46;
            starteds = flags_length 1 17 32 b 47;
            suspendeds = flags_length 1 17 32 b 48;
            priorities = column_length 1 1 17 32 b 49;
          };
      semaphores =
          record {
            names = column_length 4 1 10 16 b 584;
            serials = column_length 2 1 10 16 b 588;
            unitss = column_length 2 1 10 16 b 590;
            lives = flags_length 1 10 16 b 592;
            fifos = flags_length 1 10 16 b 593;
          };
      pools =
          record {
            outs = column_length 8 1 92 8 b 744;
            names = column_length 4 1 92 8 b 752;
            addresses = column_length 4 1 92 8 b 756;
            lengths = column_length 4 1 92 8 b 760;
            sizes = column_length 4 1 92 8 b 764;
            serials = column_length 2 1 92 8 b 768;
            lives = flags_length 1 92 8 b 770;
            forceds = flags_length 1 92 8 b 771;
            places = column_length 1 64 92 8 b 772;
          };
      queues =
          record {
            names = column_length 4 1 1051 8 b 1480;
            serials = column_length 2 1 1051 8 b 1484;
            lives = flags_length 1 1051 8 b 1486;
            fifos = flags_length 1 1051 8 b 1487;
            limitss = column_length 1 2 1051 8 b 1488;
            helds = column_length 1 1 1051 8 b 1490;
            cellss = column_length 1 1040 1051 8 b 1491;
          };
    }

-- )

-- ---- after a step

module _ (call mark x y z u v : ℕ) (m b : List ℕ) (good : is_image b ≡ true) where
  abbrev a : Answer
  a = answered (state_from b) call mark x y z u v m

  image_is : (steps_on b call mark x y z u v m).image ≡ image_of a.state ++ drop image_size b
  unfolding answers_on
  image_is = ap (λ (s : Stepped). s.image) (on_image call mark x y z u v m b good)

  pub sound_after : sound a.state ≡ true
  sound_after =
      sound_right a.state
      (sound_stays (state_from b) (sound_says (state_from b) (sized_from b) (from_image b good).0) call mark x y z u v m)

  -- given that the numbers of the state fit their fields, as those that the code holds do
  pub image_after : Fits a.state → is_image (steps_on b call mark x y z u v m).image ≡ true
  image_after f = subst (λ (l : List ℕ). is_image l ≡ true) (sym image_is) (accepted a.state f sound_after (drop image_size b))

  pub state_after : Fits a.state → state_from (steps_on b call mark x y z u v m).image ≡ a.state
  state_after f = ap state_from image_is ∙ state_back a.state f sound_after (drop image_size b)

-- ---- a fresh image

module _ (priority : ℕ) (out : List ℕ) (room : image_size ≤ length out) where
  fresh-bytes : (freshes priority out).bytes ≡ image_of (fresh priority).state ++ drop image_size out
  unfolding freshes
  fresh-bytes = ap (λ (w : Wrote). w.bytes) (picked_no (ltb (length out) image_size) _ _ (le-ltb (length out) image_size room))

  pub fresh_is_image : is_image (freshes priority out).bytes ≡ true
  fresh_is_image =
      subst (λ (l : List ℕ). is_image l ≡ true) (sym fresh-bytes)
      (accepted (fresh priority).state (fits_always priority) (sound_right (fresh priority).state (fresh_always priority)) (drop image_size out))

  pub fresh_is_read : state_from (freshes priority out).bytes ≡ (fresh priority).state
  fresh_is_read =
      ap state_from fresh-bytes ∙ state_back (fresh priority).state (fits_always priority) (sound_right (fresh priority).state (fresh_always priority)) (drop image_size out)
