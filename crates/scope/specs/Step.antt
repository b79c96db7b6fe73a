-- A step: a call by a caller, on any state; "A send or jump lends its message", m (M-100). "Order of tests: 26, 25, 24, 2, then identifier (4, 5), then the call's own".
-- Assumes nothing.
use Rattle.std.specs.Prelude.{ℕ, true, false, List, ltb, leb, eqb}
use Rattle.scope.specs.declared.State.{State}
use Rattle.scope.specs.declared.Answer.{Answer}
use Rattle.scope.specs.Choice.{pick}
use Rattle.scope.specs.Statuses.{OK, ILLEGAL_USE, NO_CALLER, BAD_CALL}
use Rattle.scope.specs.Answers.{plain, bad_state}
use Rattle.scope.specs.Rules.{sound}
use Rattle.scope.specs.Calls.{known_calls, call_at, may_call}

-- 25: "unknown call or caller mark, or a tick with mark 0" (no other row denies the running task);
-- 24: "task caller, nothing runs"; 2: interrupt caller, of a call that is not an interrupt's (M-100: "Interrupts may send and jump");
-- 0: none of these
unfoldable pub caller_refusal : ℕ → ℕ → ℕ → ℕ
caller_refusal call mark running =
    pick (leb known_calls call) BAD_CALL
    (pick (ltb 1 mark) BAD_CALL
    (pick (eqb mark 0)
    (pick (may_call call 0) (pick (ltb running 32) OK NO_CALLER) BAD_CALL)
    (pick (may_call call 1) OK ILLEGAL_USE)))

-- the answer of a call on a state that keeps the rules
unfoldable pub answered : State → ℕ → ℕ → ℕ → ℕ → ℕ → ℕ → ℕ → List ℕ → Answer
answered s call mark a b c d e m =
    elim (eqb (caller_refusal call mark s.running) OK) [
      | true ↦ (call_at call).does s a b c d e m
      | false ↦ plain s (caller_refusal call mark s.running)
    ]

-- 26: "state breaks a rule below"
unfoldable pub stepped : State → ℕ → ℕ → ℕ → ℕ → ℕ → ℕ → ℕ → List ℕ → Answer
stepped s call mark a b c d e m = elim (sound s) [ true ↦ answered s call mark a b c d e m | false ↦ bad_state s ]
