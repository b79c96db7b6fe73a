-- The calls of the call table by name, chapter by chapter, and who makes one: their numbers.
-- Assumes nothing.
use Rattle.std.specs.Prelude.{ℕ}
use Rattle.rows.specs.declared.TaskCall.{TaskCall}
use Rattle.rows.specs.declared.TaskCall.TheVariants as task
use Rattle.rows.specs.declared.SemaphoreCall.{SemaphoreCall}
use Rattle.rows.specs.declared.SemaphoreCall.TheVariants as semaphore
use Rattle.rows.specs.declared.PoolCall.{PoolCall}
use Rattle.rows.specs.declared.PoolCall.TheVariants as pool
use Rattle.rows.specs.declared.QueueCall.{QueueCall}
use Rattle.rows.specs.declared.QueueCall.TheVariants as queue
use Rattle.rows.specs.declared.SendCall.{SendCall}
use Rattle.rows.specs.declared.SendCall.TheVariants as send
use Rattle.rows.specs.declared.ReceiveCall.{ReceiveCall}
use Rattle.rows.specs.declared.ReceiveCall.TheVariants as receive
use Rattle.rows.specs.declared.Call.{Call}
use Rattle.rows.specs.declared.Call.TheVariants as call
use Rattle.rows.specs.declared.Caller.{Caller}
use Rattle.rows.specs.declared.Caller.TheVariants as caller

abbrev pub task_number : TaskCall → ℕ
task_number task.Create = 1
task_number task.Delete = 2
task_number task.Ident = 3
task_number task.Start = 4
task_number task.Suspend = 5
task_number task.Resume = 6
task_number task.SetPriority = 7

abbrev pub semaphore_number : SemaphoreCall → ℕ
semaphore_number semaphore.Create = 8
semaphore_number semaphore.Delete = 9
semaphore_number semaphore.Ident = 10
semaphore_number semaphore.Claim = 11
semaphore_number semaphore.Release = 12
semaphore_number semaphore.Info = 13

abbrev pub pool_number : PoolCall → ℕ
pool_number pool.Create = 14
pool_number pool.Delete = 15
pool_number pool.Ident = 16
pool_number pool.GetBuff = 17
pool_number pool.RetBuff = 18
pool_number pool.Info = 19

abbrev pub queue_number : QueueCall → ℕ
queue_number queue.Create = 20
queue_number queue.Delete = 21
queue_number queue.Ident = 22

abbrev pub send_number : SendCall → ℕ
send_number send.Send = 23
send_number send.Jump = 24

abbrev pub receive_number : ReceiveCall → ℕ
receive_number receive.Receive = 25
receive_number receive.Info = 26

-- a call's number in the call table
abbrev pub number_of : Call → ℕ
number_of call.Tick = 0
number_of (call.Task c) = task_number c
number_of (call.Semaphore c) = semaphore_number c
number_of (call.Pool c) = pool_number c
number_of (call.Queue c) = queue_number c
number_of (call.Send c) = send_number c
number_of (call.Receive c) = receive_number c

-- "Caller marks: 0 the running task, 1 an interrupt."
abbrev pub mark_of : Caller → ℕ
mark_of caller.Task = 0
mark_of caller.Interrupt = 1
