-- What it is to play a mix by a step: record after record, the checksum going on with each answer. A step may leave open what it answers, so
-- these are relations: the checksum is one that the step's own answers give.
-- Assumes nothing.
use Rattle.std.specs.Prelude.{ℕ, zero, suc, ◌≡◌, ◌+◌, ◌-◌, List}
use Rattle.std.specs.Fn.{Shared}
use Rattle.std.specs.Borrow.{MutBor}
use Rattle.scope.specs.declared.State.{State}
use Rattle.scope.specs.declared.Fresh.{Fresh}
use Rattle.scope.specs.Fresh.{fresh}
use Rattle.scope.specs.Views.{running_task}
use Rattle.answers.specs.declared.Outcome.{Outcome}
use Rattle.answers.specs.Outcomes.{blank}
use Rattle.scope.specs.declared.Request.{Request}
use Rattle.mixing.specs.declared.Head.{Head}
use Rattle.mixing.specs.declared.Lent.{Lent}
use Rattle.mixing.specs.Mixes.{head_of, mix_record, summed_with}

-- a call of the step that is lent `t` may answer o and leave t'
pub record Steps {F : Type 0} (g : Shared F (MutBor Lent × (Request × Unit {0})) (Outcome × (MutBor Lent × Unit {0}))) (f : F) (t : Lent) (r : Request) (o : Outcome) (t' : Lent) : Type 0 where
  pub before : MutBor Lent
  pub shows : before.now ≡ t
  pub after : MutBor Lent
  pub met : g.post f (before, (r, tt)) (o, (after, tt))
  pub leaves : after.now ≡ t'

module _ (Step : Lent → Request → Outcome → Lent → Type 0) (file : List ℕ) where
  -- n records from number k on, from `t` and a checksum to t' and a checksum
  abbrev pub Plays : ℕ → ℕ → Lent → ℕ → Lent → ℕ → Type 0
  Plays k zero t sum t' sum' = (t' ≡ t) × (sum' ≡ sum)
  Plays k (suc n) t sum t' sum' =
      (u : Lent) × (m : ℕ) × (o : Outcome) × Plays k n t sum u m × Step u (mix_record file (k + n)) o t'
      × (sum' ≡ summed_with m o (running_task t'.state) t'.notices.wakes)

-- a state with no wakes and no message shown
abbrev pub ready : State → Lent
ready s = record { state = s; notices = blank }

module _ (Step : Lent → Request → Outcome → Lent → Type 0) (file : List ℕ) where
  -- the rest n times, each time from this state
  abbrev pub Repeats : Head → ℕ → State → ℕ → ℕ → Type 0
  Repeats head zero again sum sum' = sum' ≡ sum
  Repeats head (suc n) again sum sum' =
      (m : ℕ) × (t : Lent) × Repeats head n again sum m × Plays Step file head.first (head.count - head.first) (ready again) m t sum'

  -- the first part once from a fresh state, then the rest as often as the head says, each time from the state that the first part left
  pub record Played (sum : ℕ) : Type 0 where
    pub left : Lent
    pub so_far : ℕ
    pub part : Plays Step file 0 (head_of file).first (ready (fresh 5).state) 0 left so_far
    pub rest : Repeats (head_of file) (head_of file).rounds left.state so_far sum
