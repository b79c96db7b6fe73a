-- BAD_STATE, proved: every state made from the good one by one change that breaks a rule is refused with 26 and given back, and
-- one of them by every call; antt computes it from the definitions. (For any state and call: `stepped_broken` of crate histories.)
-- Assumes nothing.
use Prim.Native.Nat.{ℕ, zero, suc}
use mathlib.Core.Path.{◌≡◌, refl}
use mathlib.Core.Bool.{Bool, true, false, not, ◌&&◌}
use mathlib.Core.List.{List, [], ◌∷◌}
use lib.ListN.{get_or}
use lib.Dec.{T}
use borrow.Author.Tests.{eq-eqb, not-true}
use lib.Count.{count_leading_zeros}
use Rattle.scope.specs.Choice.{pick, least, every, number, bits}
use Rattle.scope.specs.Seats.{waits_on, on_seat, stands_in, standing, lower, leaves, raise, later_of, ahead_of, joins, holds_task, ring_mask, mask_filled, mask_emptied, mask_left, rings_left, rings_ready, runner_of}
use Rattle.scope.specs.Views.{ready_with, less, running_task}
use Rattle.scope.specs.Answers.{answer, plain, bad_state, wakes_with}
use Rattle.scope.specs.Areas.{is_area, is_size, buffers_of, share_byte, is_out, is_free, free_of}
use Rattle.scope.specs.Places.{row_of, on_place, new_row}
use Rattle.scope.specs.Messages.{cells_of, is_zeros, cell_at, cell_right, row_right, store_right}
use Rattle.scope.specs.Queues.{are_limits}
use Rattle.scope.specs.Waiting.{woken_seats, woken_rings, wake, wake_next, is_time_out}
use Rattle.scope.specs.Ticks.{time_left, times_left, is_due, wake_due, tick}
use Rattle.scope.specs.Objects.{of_object, objects}
use Rattle.scope.specs.Rules.{seat_right, seats_right, rings_right, ready_right, ready_order_right, wait_right, waits_right, joined_right, queues_sorted, count_right, counts_right, holds_right, held_right, start_right, starts_right, task_right, tasks_right, sem_right, sems_right, queue_right, queues_right, messages_right, admitted, pool_right, pools_right, place_right, order_right, orders_right, pair_shares, pools_apart, running_right, order_rules, table_rules, keeps, sound}
use Rattle.scope.specs.Calls.{known_calls, may_call}
use Rattle.scope.specs.Step.{caller_refusal, answered, stepped}
use Rattle.scope.specs.declared.State.{State}
use Rattle.laws.proofs.Branches.{both, both_true, first_fails, second_fails}
use Rattle.cases.specs.Cases.{same}
use Rattle.broken.specs.Broken.{Broken, good, broken, same_marks, same_state, is_refusal, all_refused, all_broken, all_calls, accepted, one_broken}

-- the good state is accepted
pub good-accepted : T (accepted good)
unfolding pick least every number bits count_leading_zeros waits_on on_seat stands_in standing lower leaves raise later_of ahead_of joins holds_task ring_mask mask_filled mask_emptied mask_left rings_left rings_ready runner_of ready_with less running_task answer plain bad_state wakes_with is_area is_size buffers_of share_byte is_out is_free free_of row_of on_place new_row woken_seats woken_rings wake wake_next is_time_out time_left times_left is_due wake_due tick cells_of is_zeros cell_at cell_right row_right store_right are_limits seat_right seats_right rings_right ready_right ready_order_right of_object objects wait_right waits_right joined_right queues_sorted count_right counts_right holds_right held_right start_right starts_right task_right tasks_right sem_right sems_right queue_right queues_right messages_right admitted pool_right pools_right place_right order_right orders_right pair_shares pools_apart running_right keeps sound may_call caller_refusal answered stepped
good-accepted = tt

passes : (b : Bool) → b ≡ true → T b
passes b e = rw e tt

-- what is given back is the state
same_self : (xs : List ℕ) → same xs xs ≡ true
same_self [] = refl
same_self (x ∷ xs) = both _ _ (eq-eqb x x refl) (same_self xs)

marks_self : (xs : List Bool) → same_marks xs xs ≡ true
marks_self [] = refl
marks_self (true ∷ xs) = marks_self xs
marks_self (false ∷ xs) = marks_self xs

-- ( Printed by tools/generate/run: same_self
state_self : (s : State) → same_state s s ≡ true
state_self s =
    both _ _ (same_self s.line.left)
    (both _ _ (same_self s.line.seat)
    (both _ _ (same_self s.line.joined)
    (both _ _ (same_self s.line.rings)
    (both _ _ (same_self s.tasks.name)
    (both _ _ (same_self s.tasks.serial)
    (both _ _ (marks_self s.tasks.live)
    (both _ _ (marks_self s.tasks.started)
    (both _ _ (marks_self s.tasks.suspended)
    (both _ _ (same_self s.tasks.priority)
    (both _ _ (same_self s.semaphores.name)
    (both _ _ (same_self s.semaphores.serial)
    (both _ _ (same_self s.semaphores.units)
    (both _ _ (marks_self s.semaphores.live)
    (both _ _ (marks_self s.semaphores.fifo)
    (both _ _ (same_self s.pools.out)
    (both _ _ (same_self s.pools.name)
    (both _ _ (same_self s.pools.address)
    (both _ _ (same_self s.pools.length)
    (both _ _ (same_self s.pools.size)
    (both _ _ (same_self s.pools.serial)
    (both _ _ (marks_self s.pools.live)
    (both _ _ (marks_self s.pools.forced)
    (both _ _ (same_self s.pools.place)
    (both _ _ (same_self s.queues.name)
    (both _ _ (same_self s.queues.serial)
    (both _ _ (marks_self s.queues.live)
    (both _ _ (marks_self s.queues.fifo)
    (both _ _ (same_self s.queues.limits)
    (both _ _ (same_self s.queues.held)
    (both _ _ (same_self s.queues.cells)
    (eq-eqb s.running s.running refl)))))))))))))))))))))))))))))))

-- )

-- a state that is not sound is refused, whatever is asked
refusal : (s : State) → sound s ≡ false → (call mark a b c d e : ℕ) (m : List ℕ) → is_refusal s (stepped s call mark a b c d e m) ≡ true
unfolding bad_state stepped
refusal s e call mark a b c d e' m = rw (stepped, e) (state_self s)

-- one rule that is broken will do: the k-th of those on where tasks stand, or of those of the tables
one_fails : (rules : List (State → Bool)) (k : ℕ) (s : State) → get_or rules k (λ _. true) s ≡ false → keeps rules s ≡ false
unfolding keeps
one_fails [] k s e = e
one_fails (r ∷ rules) zero s e = first_fails (r s) _ e
one_fails (r ∷ rules) (suc k) s e = second_fails (r s) _ (one_fails rules k s e)

order : (k : ℕ) (s : State) → get_or order_rules k (λ _. true) s ≡ false → sound s ≡ false
unfolding sound
order k s e = first_fails _ _ (one_fails order_rules k s e)

table : (k : ℕ) (s : State) → get_or table_rules k (λ _. true) s ≡ false → sound s ≡ false
unfolding sound
table k s e = second_fails (keeps order_rules s) _ (one_fails table_rules k s e)

-- the states all break the rule
abbrev all_break : (State → Bool) → List State → Bool
all_break rule [] = true
all_break rule (s ∷ ss) = not (rule s) && all_break rule ss

all_refused_lem : (rule : State → Bool) → ((s : State) → rule s ≡ false → sound s ≡ false) → (ss : List State) → all_break rule ss ≡ true → all_refused rule ss ≡ true
all_refused_lem rule f [] e = refl
all_refused_lem rule f (s ∷ ss) e =
    let z = both_true (not (rule s)) _ e in
    both _ _ z.0 (both _ _ (refusal s (f s (not-true _ z.0)) 0 1 0 0 0 0 0 []) (all_refused_lem rule f ss z.1))

abbrev every_break : List Broken → Bool
every_break [] = true
every_break (b ∷ bs) = all_break b.rule b.states && every_break bs

-- and a state that breaks it is not sound
abbrev Rules : List Broken → Type 0
Rules [] = Unit {0}
Rules (b ∷ bs) = ((s : State) → b.rule s ≡ false → sound s ≡ false) × Rules bs

every_refused : (bs : List Broken) → Rules bs → every_break bs ≡ true → all_broken bs ≡ true
every_refused [] f e = refl
every_refused (b ∷ bs) f e =
    let z = both_true (all_break b.rule b.states) _ e in
    both _ _ (all_refused_lem b.rule f.0 b.states z.0) (every_refused bs f.1 z.1)

-- each broken state is refused
pub every_broken : T (all_broken broken)
unfolding pick least every number bits count_leading_zeros waits_on on_seat stands_in standing holds_task ring_mask runner_of ready_with less is_area is_size buffers_of share_byte is_out is_free free_of row_of on_place new_row is_time_out cells_of is_zeros cell_at cell_right row_right store_right are_limits seat_right seats_right rings_right ready_right ready_order_right of_object objects wait_right waits_right joined_right queues_sorted count_right counts_right holds_right held_right start_right starts_right task_right tasks_right sem_right sems_right queue_right queues_right messages_right admitted pool_right pools_right place_right order_right orders_right pair_shares pools_apart running_right
every_broken =
    passes _ (every_refused broken
    (order 0, (order 1, (order 2, (order 3, (order 4, (order 5, (order 6, (order 7, (table 0, (table 1, (table 2, (table 3, (table 4, (table 5, (table 6, (order 8, tt)))))))))))))))) refl)

-- calls n - 1 to 0, by either caller
all_calls_lem : (s : State) → sound s ≡ false → (n : ℕ) → all_calls n s ≡ true
all_calls_lem s e zero = refl
all_calls_lem s e (suc n) = both _ _ (refusal s e n 0 64 0 1 1 0 []) (both _ _ (refusal s e n 1 64 0 1 1 0 []) (all_calls_lem s e n))

-- the calls and an unknown one, by either caller, on one broken state
pub every_call : T (all_calls (suc known_calls) one_broken)
unfolding pick least every number stands_in on_seat standing seat_right seats_right
every_call = passes _ (all_calls_lem one_broken (order 0 one_broken refl) (suc known_calls))
