-- What the semaphore calls lean on: a release with a waiter.
-- Assumes nothing.
use Prim.Native.Nat.{ℕ, ◌<◌}
use mathlib.Core.Path.{◌≡◌}
use borrow.Author.Tests.{lt-ltb}
use Rattle.scope.specs.declared.State.{State}
use Rattle.scope.specs.declared.Answer.{Answer}
use Rattle.scope.specs.Answers.{wakes_with}
use Rattle.scope.specs.Seats.{first_standing, queue_seats}
use Rattle.scope.specs.Semaphores.{sem_release_at}
use Rattle.scope.specs.Statuses.{OK}
use Rattle.scope.specs.Waiting.{wake_next, none_woken}
use Rattle.laws.proofs.Branches.{pick_yes, pick_no, first_fails, not_of_true}

-- a release with a waiter wakes the first
pub release_wakes : (s : State) (i : ℕ) {t : ℕ} {a : Answer} → (t < 32) × (t ≡ first_standing s.line.seat (queue_seats i))
    → a ≡ wakes_with s (wake_next s.tasks (none_woken s.line) t) OK → a ≡ sem_release_at s i
unfolding sem_release_at
release_wakes s i {t = t} first p =
    let b = lt-ltb t 32 first.0 in
    rw (← first.1) (pick_no _ _ _ (first_fails _ _ (not_of_true _ b)) (pick_yes _ _ _ b p))
