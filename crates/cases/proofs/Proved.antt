-- The P cases, all under one statement, which antt computes from the definitions.
-- Assumes nothing.
use lib.Dec.{T}
use lib.Count.{count_leading_zeros}
use Rattle.scope.specs.Choice.{pick, least, number, bits}
use Rattle.scope.specs.Identifiers.{found, usable, lowest_usable, named, by_name}
use Rattle.scope.specs.Seats.{waits_on, on_seat, stands_in, standing, lower, leaves, raise, later_of, ahead_of, joins, holds_task, mask_filled, mask_emptied, mask_left, rings_left, rings_ready, runner_of}
use Rattle.scope.specs.Views.{less, running_task}
use Rattle.scope.specs.Answers.{bit_of, answer, plain, gives, wakes_with, shows, delivers_to, on_found}
use Rattle.scope.specs.Areas.{is_area, is_size, buffers_of, share_byte, is_out, is_free, free_of, buffer_address, buffer_at}
use Rattle.scope.specs.Places.{row_of, with_row, on_place, first_leaves, joins_last, new_row}
use Rattle.scope.specs.Tasks.{task_found, task_create_at, task_create, task_delete_at, task_ident_at, task_ident, task_start_at, task_suspend_at, task_resume_at, task_set_priority_at}
use Rattle.scope.specs.Waiting.{woken_seats, woken_rings, wake, wake_next, wake_all, is_time_out, queue_key, waits}
use Rattle.scope.specs.Semaphores.{sem_create_at, sem_create, sem_delete_at, sem_ident_at, sem_ident, sem_wait_at, sem_claim_at, sem_release_at, sem_info_at}
use Rattle.scope.specs.Pools.{overlaps, overlapped, pool_create_at, pool_create, pool_delete_at, pool_ident_at, pool_ident, pool_get_buffer, pool_get_buff_at, pool_ret_buffer, pool_ret_buff_at, pool_info_at}
use Rattle.scope.specs.Messages.{shown_of, cell_of, cells_of, with_cells, at_end, in_front, first_gone, first_shown, appended, pushed, taken, cleared}
use Rattle.scope.specs.Queues.{are_limits, queue_create_at, queue_create, queue_delete_at, queue_ident_at, queue_ident, fits_queue, queue_put_at, queue_wait_at, queue_receive_at, queue_info_at}
use Rattle.scope.specs.Ticks.{time_left, times_left, is_due, wake_due, tick}
use Rattle.scope.specs.Fresh.{fresh_state}
use Rattle.scope.specs.Calls.{may_call}
use Rattle.scope.specs.Step.{caller_refusal, answered}
use Rattle.scope.specs.Script.{number32, is_script, message_at}
use Rattle.scope.specs.Listing.{decimal, signed, wake_fields, delivery_field, line_of, refused_line}
use Rattle.cases.specs.Cases.{cases, all_pass}
use Rattle.cases.specs.Queues.{queue_cases, queues_pass}
use Rattle.cases.proofs.Quick.{quick_at, quick_lines, quick_listing, quick_pass, quick_pass_lem}

-- without the test of the state at each step
quick_case : T (quick_pass cases)
unfolding pick least number bits count_leading_zeros found usable lowest_usable named by_name waits_on on_seat stands_in standing lower leaves raise later_of ahead_of joins mask_filled mask_emptied mask_left rings_left rings_ready runner_of less running_task answer plain gives wakes_with shows delivers_to on_found is_area is_size buffers_of share_byte is_out is_free free_of buffer_address buffer_at row_of with_row on_place first_leaves joins_last new_row task_found task_create_at task_create task_delete_at task_ident_at task_ident task_start_at task_suspend_at task_resume_at task_set_priority_at bit_of sem_create_at sem_create woken_seats woken_rings wake wake_next wake_all sem_delete_at sem_ident_at sem_ident is_time_out queue_key waits sem_wait_at sem_claim_at sem_release_at sem_info_at overlaps overlapped pool_create_at pool_create pool_delete_at pool_ident_at pool_ident pool_get_buffer pool_get_buff_at pool_ret_buffer pool_ret_buff_at pool_info_at shown_of cell_of cells_of with_cells at_end in_front first_gone first_shown appended pushed taken cleared are_limits queue_create_at queue_create queue_delete_at queue_ident_at queue_ident fits_queue queue_put_at queue_wait_at queue_receive_at queue_info_at time_left times_left is_due wake_due tick fresh_state may_call caller_refusal answered number32 is_script message_at decimal signed wake_fields delivery_field line_of refused_line quick_at quick_lines quick_listing holds_task
quick_case = tt

pub every_case : T (all_pass cases)
every_case = rw (quick_pass_lem cases) quick_case

-- the cases of M-100
pub every_queue_case : T (queues_pass queue_cases)
unfolding pick least number bits count_leading_zeros found usable lowest_usable named by_name waits_on on_seat stands_in standing lower leaves raise later_of ahead_of joins holds_task mask_filled mask_emptied mask_left rings_left rings_ready runner_of less running_task answer plain gives wakes_with shows delivers_to on_found task_found task_create_at task_create task_delete_at task_start_at bit_of sem_create_at sem_create woken_seats woken_rings wake wake_next wake_all is_time_out queue_key waits sem_wait_at sem_claim_at sem_release_at sem_info_at shown_of cell_of cells_of with_cells at_end in_front first_gone first_shown appended pushed taken cleared are_limits queue_create_at queue_create queue_delete_at queue_ident_at queue_ident fits_queue queue_put_at queue_wait_at queue_receive_at queue_info_at time_left times_left is_due wake_due tick fresh_state may_call caller_refusal answered message_at decimal signed wake_fields delivery_field line_of
every_queue_case = tt
