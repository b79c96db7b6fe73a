-- What an outcome stands for: the answers of scope's specs/Answers.antt, by the state as the call left it.
-- Assumes nothing.
use Prim.Native.Nat.{ℕ}
use mathlib.Core.Path.{◌≡◌, sym, ap}
use mathlib.Core.Bool.{Bool, false}
use mathlib.Core.List.{List}
use Rattle.scope.specs.declared.State.{State}
use Rattle.scope.specs.declared.Line.{Line}
use Rattle.scope.specs.declared.Tasks.{Tasks}
use Rattle.scope.specs.declared.Semaphores.{Semaphores}
use Rattle.scope.specs.declared.Pools.{Pools}
use Rattle.scope.specs.declared.Queues.{Queues}
use Rattle.scope.specs.declared.Waking.{Waking}
use Rattle.scope.specs.declared.Answer.{Answer}
use Rattle.scope.specs.Statuses.{OK}
use Rattle.scope.specs.Seats.{mask_of, runner_of}
use Rattle.scope.specs.Answers.{no_wakes, no_message, answer, plain, gives, shows, wakes_with, delivers_to}
use Rattle.answers.specs.declared.Outcome.{Outcome}
use Rattle.answers.specs.Outcomes.{now_runs, answer_shown, answer_of, outcome, woke, delivered}
use Rattle.answers.specs.Columns.{state_of}

-- the outcome in an answer
abbrev outcome_in : Answer → Outcome
outcome_in a =
    record {
      status = a.status;
      values = a.values;
      negative = a.negative;
      woken = a.woken;
      why = a.why;
      runs = a.state.running;
      delivers = a.delivers;
      length = a.length;
    }

-- `n` runs then: whoever ran before, or whoever the seats say
module _ (s : State) (n : ℕ) (o : Outcome) where
  pub plain_of : (status : ℕ) → o ≡ outcome status 0 0 0 0 false n → answer_of s no_wakes o ≡ plain (now_runs s n) status
  unfolding answer_of outcome plain answer
  plain_of status e = rw e

  pub gives_of : (v : ℕ) → o ≡ outcome 0 v 0 0 0 false n → answer_of s no_wakes o ≡ gives (now_runs s n) v
  unfolding answer_of outcome gives answer
  gives_of v e = rw e

  pub tells_of : (v0 v1 v2 v3 : ℕ) (negative : Bool) → o ≡ outcome 0 v0 v1 v2 v3 negative n
      → answer_of s no_wakes o ≡ answer (now_runs s n) OK v0 v1 v2 v3 negative
  unfolding answer_of outcome answer
  tells_of v0 v1 v2 v3 negative e = rw e

  -- a message of v bytes is shown
  pub shows_of : (v : ℕ) {shown : List ℕ} (message : List ℕ) → o ≡ outcome 0 v 0 0 0 false n → shown ≡ message → answer_shown s no_wakes shown o ≡ shows (now_runs s n) v message
  unfolding answer_shown outcome shows
  shows_of v message e f = rw (e, f)

-- no message is shown
pub none_shown : (s : State) (o : Outcome) (wakes : List ℕ) {shown : List ℕ} {a : Answer} → shown ≡ no_message → answer_of s wakes o ≡ a → answer_shown s wakes shown o ≡ a
unfolding answer_of answer_shown
none_shown s o wakes e p = rw e p

-- nobody was woken
pub none_woken_lem : (s : State) (o : Outcome) {wakes : List ℕ} {a : Answer} → wakes ≡ no_wakes → answer_of s no_wakes o ≡ a → answer_of s wakes o ≡ a
none_woken_lem s o e p = rw e p

-- tasks stand elsewhere, and the seats say who runs
module _ (k : Tasks) (m : Semaphores) (p : Pools) (u : Queues) (running n : ℕ) (o : Outcome) where
  pub plain_moved : (l l' : Line) (status : ℕ) → o ≡ outcome status 0 0 0 0 false n → n ≡ runner_of l'.seat (mask_of l'.rings) → l' ≡ l
      → answer_of (state_of l' k m p u running) no_wakes o ≡ plain (state_of l k m p u (runner_of l.seat (mask_of l.rings))) status
  unfolding answer_of outcome plain answer
  plain_moved l l' status e f g = rw (e, f, g)

  pub gives_moved : (l l' : Line) (v : ℕ) → o ≡ outcome 0 v 0 0 0 false n → n ≡ runner_of l'.seat (mask_of l'.rings) → l' ≡ l
      → answer_of (state_of l' k m p u running) no_wakes o ≡ gives (state_of l k m p u (runner_of l.seat (mask_of l.rings))) v
  unfolding answer_of outcome gives answer
  gives_moved l l' v e f g = rw (e, f, g)

  -- and tasks were woken, `l` and `before` being where they stood and who ran before
  pub woke_moved : (l : Line) (before : ℕ) (w w' : Waking) (why : ℕ) → o ≡ woke w'.woken why n → n ≡ runner_of w'.line.seat (mask_of w'.line.rings) → w' ≡ w
      → answer_of (state_of w'.line k m p u running) w'.wakes o ≡ wakes_with (state_of l k m p u before) w why
  unfolding answer_of woke wakes_with
  woke_moved l before w w' why e f g = rw (e, f, g)

  -- and a message of v bytes was delivered to the one woken
  pub delivered_moved : (l : Line) (before : ℕ) (w w' : Waking) (v : ℕ) {shown : List ℕ} (message : List ℕ) → w'.woken ≡ 1 → o ≡ delivered v n
      → n ≡ runner_of w'.line.seat (mask_of w'.line.rings) → w' ≡ w → shown ≡ message
      → answer_shown (state_of w'.line k m p u running) w'.wakes shown o ≡ delivers_to (state_of l k m p u before) w v message
  unfolding answer_shown delivered delivers_to
  delivered_moved l before w w' v message one e f g h = rw (e, f, h, ← one, g)

-- the state with the running task that it has
pub runs_so : (n : State) (t : ℕ) → n.running ≡ t → now_runs n t ≡ n
runs_so n t e = λ i. record { line = n.line; tasks = n.tasks; semaphores = n.semaphores; pools = n.pools; queues = n.queues; running = sym e i }

-- One answer has one outcome: the columns, who runs, the wake list, the message shown and all that an outcome says are told by the answer
-- they stand for.
pub outcome_one : (s n : State) (wakes wakes' shown shown' : List ℕ) (o p : Outcome) → answer_shown s wakes shown o ≡ answer_shown n wakes' shown' p
    → (now_runs s o.runs ≡ now_runs n p.runs) × (wakes ≡ wakes') × (shown ≡ shown') × (o ≡ p)
unfolding answer_shown
outcome_one s n wakes wakes' shown shown' o p e = (
  ap (λ (a : Answer). a.state) e,
  ap (λ (a : Answer). a.wakes) e,
  ap (λ (a : Answer). a.shown) e,
  ap outcome_in e,
)
