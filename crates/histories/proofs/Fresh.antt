-- A fresh state is sound, whatever priority it is asked with: the tests pass for each of 0 to 15, by computing, and once for all where
-- no priority is looked at.
-- Assumes nothing.
use Prim.Native.Nat.{ℕ, ◌≤◌, ◌<◌}
use native.Mathlib.Omega.{arith}
use mathlib.Core.Path.{◌≡◌, refl}
use mathlib.Core.Bool.{true}
use lib.Dec.{ltb}
use borrow.Author.Tests.{ltb-false}
use Rattle.scope.specs.declared.Fresh.{Fresh}
use lib.Count.{count_leading_zeros}
use Rattle.scope.specs.Choice.{pick, least, every, number, bits}
use Rattle.scope.specs.Seats.{waits_on, on_seat, stands_in, standing, holds_task, ring_mask, runner_of}
use Rattle.scope.specs.Views.{ready_with, less}
use Rattle.scope.specs.Areas.{buffers_of, share_byte, is_out, is_free, free_of}
use Rattle.scope.specs.Places.{row_of, on_place}
use Rattle.scope.specs.Waiting.{is_time_out}
use Rattle.scope.specs.Messages.{store_right, row_right, is_zeros, cells_of}
use Rattle.scope.specs.Rules.{seat_right, seats_right, rings_right, ready_right, ready_order_right, wait_right, waits_right, joined_right, queues_sorted, count_right, counts_right, holds_right, held_right, start_right, starts_right, task_right, tasks_right, sem_right, sems_right, queue_right, queues_right, messages_right, pool_right, pools_right, place_right, order_right, orders_right, pair_shares, pools_apart, running_right, order_rules, table_rules, keeps}
use Rattle.scope.specs.Fresh.{fresh_tasks, fresh_state, fresh}
use Rattle.scope.proofs.Rows.{by_choice}
use Rattle.laws.proofs.Searches.{every_at}
use Rattle.histories.specs.Sound.{Sized, Sound}
use Rattle.histories.proofs.Ruled.{none, more, each_keeps, keeps-sound}
use Rattle.histories.proofs.Meaning.{sound_says}

-- where tasks stand, and their table, for each priority
orders_pass : every (λ p. keeps order_rules (fresh_state p)) 16 ≡ true
unfolding pick least every number bits count_leading_zeros waits_on on_seat stands_in standing holds_task ring_mask runner_of ready_with less is_time_out seat_right seats_right rings_right ready_right ready_order_right wait_right waits_right joined_right queues_sorted count_right counts_right holds_right held_right start_right starts_right running_right keeps fresh_state
orders_pass = refl

tasks_pass : every (λ p. tasks_right (fresh_tasks p)) 16 ≡ true
unfolding pick every task_right tasks_right
tasks_pass = refl

-- the other tables, which are the same for all
tables_pass : (p : ℕ) → p < 16 → keeps table_rules (fresh_state p) ≡ true
unfolding pick least every number buffers_of share_byte is_out is_free free_of row_of on_place store_right row_right is_zeros cells_of sem_right sems_right queue_right queues_right messages_right pool_right pools_right place_right order_right orders_right pair_shares pools_apart fresh_state
tables_pass p h =
    each_keeps table_rules (fresh_state p)
    (more (every_at (λ k. tasks_right (fresh_tasks k)) 16 tasks_pass p h) (more refl (more refl (more refl (more refl (more refl (more refl none)))))))

-- ( Printed by tools/generate/run: fresh_sized
fresh_sized : (p : ℕ) → Sized (fresh_state p)
unfolding fresh_state
fresh_sized p =
    record {
      line =
          record {
            lefts = refl;
            seats = refl;
            joineds = refl;
            rings = refl;
          };
      tasks =
          record {
            names = refl;
            serials = refl;
            lives = refl;
            starteds = refl;
            suspendeds = refl;
            priorities = refl;
          };
      semaphores =
          record {
            names = refl;
            serials = refl;
            unitss = refl;
            lives = refl;
            fifos = refl;
          };
      pools =
          record {
            outs = refl;
            names = refl;
            addresses = refl;
            lengths = refl;
            sizes = refl;
            serials = refl;
            lives = refl;
            forceds = refl;
            places = refl;
          };
      queues =
          record {
            names = refl;
            serials = refl;
            lives = refl;
            fifos = refl;
            limitss = refl;
            helds = refl;
            cellss = refl;
          };
    }

-- )

pub fresh_sound : (p : ℕ) → p ≤ 15 → Sound (fresh_state p)
fresh_sound p h =
    sound_says (fresh_state p) (fresh_sized p)
    (keeps-sound (fresh_state p) (every_at (λ k. keeps order_rules (fresh_state k)) 16 orders_pass p (omega arith)) (tables_pass p (omega arith)))

-- "Asked with a priority above 15, the answer is 19 and the fresh state of priority 0."
pub fresh_always : (p : ℕ) → Sound (fresh p).state
unfolding fresh
fresh_always p =
    by_choice (λ (f : Fresh). Sound f.state) (ltb 15 p) (λ e. fresh_sound 0 (omega arith)) (λ e. fresh_sound p (ltb-false 15 p e))
