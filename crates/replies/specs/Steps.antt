-- "Export fresh, step and listing as C functions on numbers and byte slices; step changes the image in place, and a refused step
-- leaves it."
-- Assumes nothing.
use Rattle.std.specs.Prelude.{ℕ, true, false, ◌≡◌, List, ◌++◌, ltb, length, drop}
use Rattle.scope.specs.declared.State.{State}
use Rattle.scope.specs.declared.Answer.{Answer}
use Rattle.scope.specs.declared.Fresh.{Fresh}
use Rattle.scope.specs.Choice.{pick}
use Rattle.scope.specs.Statuses.{BAD_STATE}
use Rattle.scope.specs.Answers.{no_wakes, no_message}
use Rattle.scope.specs.Fresh.{fresh}
use Rattle.scope.specs.Rules.{sound}
use Rattle.scope.specs.Step.{answered}
use Rattle.image.specs.Image.{image_of, image_size}
use Rattle.image.specs.Reading.{NO_ROOM, Wrote, puts, state_from, is_image}
use Rattle.replies.specs.Answers.{numbers_of, answer_bytes, bytes_of_answer}

abbrev pub BAD_IMAGE : ℕ
BAD_IMAGE = 32

-- what a step leaves in the image's bytes and in the answer's, and its status
pub record Stepped : Type 0 where
  pub image : List ℕ
  pub answer : List ℕ
  pub status : ℕ

-- "32 BAD_IMAGE for any bytes no state writes": a refusal like the others, with nobody running
unfoldable pub bad_answer : List ℕ
bad_answer = answer_bytes (numbers_of BAD_IMAGE 0 0 0 0 false 0 0 0 false 0) no_wakes no_message

unfoldable pub bad_image : List ℕ → Stepped
bad_image b = record { image = b; answer = bad_answer; status = BAD_IMAGE }

-- an answer: the image is that of the state after it, and "bytes past it are ignored and kept"
unfoldable pub answers_on : List ℕ → Answer → Stepped
answers_on b a = record { image = image_of a.state ++ drop image_size b; answer = bytes_of_answer a; status = a.status }

-- The step of the state that stands in the bytes, m being the message lent. ("32 .. both before 25": an image of a state that breaks a
-- rule is none, so no step is answered by 26.)
unfoldable pub steps_on : List ℕ → ℕ → ℕ → ℕ → ℕ → ℕ → ℕ → ℕ → List ℕ → Stepped
steps_on image call mark a b c d e m = pick (is_image image) (answers_on image (answered (state_from image) call mark a b c d e m)) (bad_image image)

-- what a step through bytes of our own leaves: all of it, but for bytes that are no image, of which nothing is said
abbrev pub StepsTo : List ℕ → Stepped → List ℕ → List ℕ → ℕ → Type 0
StepsTo image s left answer status = (answer ≡ s.answer) × ((status ≡ s.status) × (is_image image ≡ true → left ≡ s.image))

-- "then 31 NO_ROOM exactly if a slice lent for an image or listing is shorter than needed, nothing written; .. 31 before 19"
unfoldable pub freshes : ℕ → List ℕ → Wrote
freshes priority out =
    let f : Fresh = fresh priority in
    pick (ltb (length out) image_size) (record { bytes = out; status = NO_ROOM })
    (record { bytes = image_of f.state ++ drop image_size out; status = f.status })

-- "A bad state is not written: 26, before 31."
unfoldable pub writes : State → List ℕ → Wrote
writes s out = pick (sound s) (puts s out) (record { bytes = out; status = BAD_STATE })
