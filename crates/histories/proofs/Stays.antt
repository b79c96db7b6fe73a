-- Sound stays sound: every call by every caller, with whatever arguments, keeps a state sound, and so does a step. By deeds: a
-- refusal gives the state back, and each change of a part keeps it sound.
-- Assumes nothing.
use Prim.Native.Nat.{ℕ}
use native.Mathlib.Omega.{arith}
use mathlib.Core.List.{List}
use lib.ListN.{get_or}
use borrow.Author.Tests.{ltb-true, ltb-false, leb-false}
use Rattle.scope.specs.declared.State.{State}
use Rattle.scope.specs.declared.Answer.{Answer}
use Rattle.scope.specs.Answers.{answer, plain, bad_state, shows, wakes_with, delivers_to}
use Rattle.scope.specs.Queues.{held_of}
use Rattle.scope.specs.Step.{answered, stepped}
use Rattle.histories.specs.Sound.{Sound}
use Rattle.histories.specs.History.{Event}
use Rattle.histories.proofs.Deeds.{Deed, refused, tells, tasks_change, task_moves, sems_change, pools_change, caller_waits, first_woken, sem_deleted, time_passes, deed, by_deed}
use Rattle.histories.proofs.Deeds.{queues_change, receiver_waits, delivered, queue_deleted}
use Rattle.histories.proofs.Ticks.{tick_sound}
use Rattle.histories.proofs.Tasks.{change_sound, move_sound}
use Rattle.histories.proofs.Semaphores.{named_slot, sem_delete_at_lem, caller_sound, first_sound, sem_sound}
use Rattle.histories.proofs.Pools.{pool_sound}
use Rattle.histories.proofs.Queues.{named_queue, queue_delete_at_lem, receiver_sound, delivered_sound, queue_sound}

deed_sound : (s : State) (ok : Sound s) (x : Event) {a : Answer} → Deed s x a → Sound a.state
unfolding plain answer shows wakes_with delivers_to
deed_sound s ok x (refused status e f listed) = ok
deed_sound s ok x (tells call at e v0 v1 v2 v3 negative) = ok
deed_sound s ok x (tasks_change c) = change_sound s ok x c
deed_sound s ok x (task_moves c) = move_sound s ok x c
deed_sound s ok x (sems_change c) = sem_sound s ok x c
deed_sound s ok x (pools_change c) = pool_sound s ok x c
deed_sound s ok x (caller_waits at i e f g time) =
    let n = named_slot s ok x.a i e in
    caller_sound s ok i n.0 n.1 x.c time (omega (arith, ltb-false 0 (get_or s.semaphores.units i 0) f)) (leb-false 32 s.running g)
deed_sound s ok x (first_woken at i e f) = let n = named_slot s ok x.a i e in first_sound s ok i (omega (arith, n.0)) (ltb-true _ 32 f)
deed_sound s ok x (sem_deleted at i e) = let n = named_slot s ok x.a i e in sem_delete_at_lem s ok i n.0 n.1
deed_sound s ok x (queues_change c) = queue_sound s ok x c
deed_sound s ok x (receiver_waits at i e f g time) =
    let n = named_queue s ok x.a i e in
    receiver_sound s ok i n.0 n.1 x.c time (omega (arith, ltb-false 0 (held_of s.queues i) f)) (leb-false 32 s.running g)
deed_sound s ok x (delivered c i e f g) = let n = named_queue s ok x.a i e in delivered_sound s ok i n.0 n.1 (ltb-true _ 32 g)
deed_sound s ok x (queue_deleted at i e) = let n = named_queue s ok x.a i e in queue_delete_at_lem s ok i n.0 n.1
deed_sound s ok x (time_passes at) = tick_sound s ok

module _ (s : State) (ok : Sound s) (call mark a b c d e : ℕ) (m : List ℕ) where
  abbrev asked : Event
  asked = record { call = call; mark = mark; a = a; b = b; c = c; d = d; e = e; message = m }

  pub sound_stays : Sound (answered s call mark a b c d e m).state
  sound_stays = deed_sound s ok asked (deed s asked)

  pub step_keeps : Sound (stepped s call mark a b c d e m).state
  unfolding bad_state
  step_keeps = by_deed s asked (λ y. Sound y.state) (λ y f. deed_sound s ok asked f) (λ h. ok)
