-- Every event's answer keeps what the queues hold and what is told of it in agreement, and the messages accepted equal to those delivered
-- and those held: by the deeds.
-- Assumes nothing.
use Prim.Native.Nat.{ℕ, ◌+◌, ◌-◌, ◌/◌, ◌%◌, ◌≤◌, ◌<◌}
use native.Mathlib.Omega.{arith}
use mathlib.Core.Path.{◌≡◌, refl, sym, subst, ap, ◌∙◌}
use mathlib.Core.Logic.{⊎_elim}
use mathlib.Core.Bool.{Bool, true, false, not}
use mathlib.Core.List.{List, [], ◌∷◌, ◌++◌}
use lib.ListN.{length, get_or, set}
use lib.Seq.{get_or-set_same, get_or-set_other}
use lib.Dec.{ltb, leb, eqb}
use borrow.Author.Tests.{eqb-true, ltb-true, leb-true, leb-false, ne_eqb, not-false}
use Rattle.scope.specs.declared.State.{State}
use Rattle.scope.specs.declared.Queues.{Queues}
use Rattle.scope.specs.declared.Answer.{Answer}
use Rattle.scope.specs.declared.Waking.{Waking}
use Rattle.scope.specs.declared.Found.TheVariants.{At}
use Rattle.scope.specs.Statuses.{OK}
use Rattle.scope.specs.Identifiers.{identifier}
use Rattle.scope.specs.Views.{with_queues}
use Rattle.scope.specs.Answers.{answer, plain, shows, wakes_with, delivers_to}
use Rattle.scope.specs.Messages.{Store, cell_of, cells_in, message_in, messages_in, held_in, row_in, messages_of, appended, pushed, taken, cleared}
use Rattle.scope.specs.Semaphores.{sem_delete_at}
use Rattle.scope.specs.Queues.{most_of, longest_of, held_of, store_of, with_store, fits_queue, queue_found, queue_born, queue_gone, queue_delete_at}
use Rattle.scope.specs.Rules.{queue_right}
use Rattle.scope.specs.Ticks.{tick}
use Rattle.laws.proofs.Branches.{both_true, true-false, eq_or_not, picked_no}
use Rattle.laws.proofs.Tables.{found-identifier, usable_at, usable_free}
use Rattle.laws.proofs.Messages.Stores.{Sized, append_messages, push_messages, take_messages, append_others, push_others, take_others, clear_others}
use Rattle.laws.proofs.Messages.Views.{as_lent, length_cell}
use Rattle.histories.specs.Sound.{Sound}
use Rattle.histories.specs.History.{Event, answer_to, after}
use Rattle.histories.proofs.Tables.{live_issued}
use Rattle.histories.proofs.Queues.{put_held, taken-held, limits_small, named_queue}
use Rattle.histories.proofs.Meaning.{sound_right}
use Rattle.histories.proofs.Ledger.{event_keeps}
use Rattle.histories.proofs.Deeds.{new_queue, asks, not_asked, change_call, move_call, sem_call, pool_call, Puts, sends, jumps, QueueChange, queue_created}
use Rattle.histories.proofs.Deeds.{message_put, message_received}
use Rattle.histories.proofs.Deeds.{Deed, refused, tells, tasks_change, task_moves, sems_change, pools_change, queues_change, caller_waits, first_woken, sem_deleted}
use Rattle.histories.proofs.Deeds.{receiver_waits, delivered as delivers, queue_deleted, time_passes, by_deed}
use Rattle.books.specs.Past.{Turn, creates, value, past_from}
use Rattle.books.proofs.Agreeing.{turn_of, is_answer_lem, not_call, not_creates, not_new, is_new, not_of}
use Rattle.books.proofs.Claiming.{apart_slots}
use Rattle.deliveries.specs.Messages.{lent, rest, messages, accepted, delivered}
use Rattle.deliveries.proofs.Turns.{Uncounted, Silent, uncounted_call, uncounted_other, silent_call, silent_other, silent_status, messages_silent}
use Rattle.deliveries.proofs.Turns.{accepted_silent, delivered_silent, messages_new}
use Rattle.deliveries.proofs.Turns.{sent_accepted, messages_sent, accepted_sent, jumped_accepted, messages_jumped, accepted_jumped, messages_handed}
use Rattle.deliveries.proofs.Turns.{delivered_held, delivered_handed, messages_received, accepted_received, delivered_received}

-- the identifier of the queue in slot i
abbrev pub id_in : Queues → ℕ → ℕ
id_in u i = identifier (get_or u.serial i 0) i

-- the table of queues holds what is told
pub record Holds (u : Queues) (past : List Turn) : Type 0 where
  pub told : (i : ℕ) → i < 8 → get_or u.live i false ≡ true → messages_of (store_of u) i ≡ messages past (id_in u i)
  pub counted : (i : ℕ) → i < 8 → get_or u.live i false ≡ true → accepted past (id_in u i) ≡ delivered past (id_in u i) + held_of u i
  -- nothing was accepted or delivered under an identifier that is not yet given out
  pub unissued : (id : ℕ) → get_or u.serial (id % 64) 0 < id / 64 → (accepted past id ≡ 0) × (delivered past id ≡ 0)

-- what is told of one identifier stays
module _ (past : List Turn) (y : Turn) where
  same_count : (id : ℕ) → Uncounted id y → (h : ℕ) → accepted past id ≡ delivered past id + h → accepted (y ∷ past) id ≡ delivered (y ∷ past) id + h
  same_count id none h e = omega (arith, accepted_silent past id y none, delivered_silent past id y none, e)

  still_none : (id : ℕ) → Uncounted id y → (accepted past id ≡ 0) × (delivered past id ≡ 0) → (accepted (y ∷ past) id ≡ 0) × (delivered (y ∷ past) id ≡ 0)
  still_none id none e = (accepted_silent past id y none ∙ e.0, delivered_silent past id y none ∙ e.1)

  -- a turn that is nothing to any queue
  quiet : (u : Queues) → ((id : ℕ) → Silent id y) → Holds u past → Holds u (y ∷ past)
  quiet u none h =
      record {
        told = λ i hi live. h.told i hi live ∙ sym (messages_silent past (id_in u i) y (none (id_in u i)));
        counted = λ i hi live. same_count (id_in u i) (none (id_in u i)).uncounted (held_of u i) (h.counted i hi live);
        unissued = λ id e. still_none id (none id).uncounted (h.unissued id e);
      }

-- a queue that holds nothing has no messages
nothing_held : (s : Store) (i : ℕ) → held_in s i ≡ 0 → messages_of s i ≡ []
unfolding messages_of messages_in cells_in
nothing_held s i e = ap (λ (h : ℕ). messages_in (row_in s i) h) e

-- and a slot without a queue holds nothing
dead_holds : (u : Queues) (i : ℕ) → get_or u.live i false ≡ false → queue_right u i ≡ true → held_of u i ≡ 0
unfolding queue_right
dead_holds u i dead right =
    let a = both_true (eqb (get_or u.name i 0) 0) _ (sym (picked_no (get_or u.live i false) _ _ dead) ∙ right) in
    let b = both_true (not (get_or u.fifo i false)) _ a.1 in
    let c = both_true (eqb (most_of u i) 0) _ b.1 in
    let d = both_true (eqb (longest_of u i) 0) _ c.1 in
    eqb-true (held_of u i) 0 d.1

-- not 27: of how many bytes the message is
fits_says : (longest n : ℕ) (message : List ℕ) → fits_queue longest n message ≡ true → (n ≤ 64) × (n ≤ length message)
unfolding fits_queue
fits_says longest n message e =
    let a = both_true (leb n longest) _ e in
    let b = both_true (leb n 64) _ a.1 in
    (leb-true n 64 b.0, leb-true n (length message) b.1)

not_20 : (call : ℕ) → call < 20 → (k : ℕ) → eqb call (20 + k) ≡ false
not_20 call h k = ne_eqb call (20 + k) (λ e. omega (arith, h, e))

-- a call of another chapter
silent_low : (id : ℕ) (y : Turn) → y.event.call < 20 → Silent id y
silent_low id y h =
    silent_call id y (not_20 y.event.call h 0) (not_20 y.event.call h 1)
    (uncounted_call id y (not_20 y.event.call h 3) (not_20 y.event.call h 4) (not_20 y.event.call h 5))

module _ (s : State) (ok : Sound s) (x : Event) (past : List Turn) (h : Holds s.queues past) where
  abbrev u : Queues
  u = s.queues

  abbrev Kept : Answer → Type 0
  Kept a = Holds a.state.queues (turn_of x a ∷ past)

  sized : Sized (store_of u)
  sized = record { cells = ok.queues.sized.cellss; held = ok.queues.sized.helds }

  -- a queue is created in slot i
  module _ (i : ℕ) (hi : i < 8) (free : get_or u.live i false ≡ false) (name most longest : ℕ) (fifo : Bool) (y : Turn)
      (calls : y.event.call ≡ 20) (done : y.reply.status ≡ OK) (new : value y ≡ identifier (get_or u.serial i 0 + 1) i) where
    abbrev v : Queues
    v = queue_born u i name most longest fifo

    none : (id : ℕ) → Uncounted id y
    none id =
        uncounted_call id y (ap (λ (c : ℕ). eqb c 23) calls) (ap (λ (c : ℕ). eqb c 24) calls) (ap (λ (c : ℕ). eqb c 25) calls)

    now : get_or v.serial i 0 ≡ get_or u.serial i 0 + 1
    now = get_or-set_same u.serial i (get_or u.serial i 0 + 1) 0 (omega (arith, hi, ok.queues.sized.serials))

    was : (j : ℕ) → (j ≡ i → ⊥) → get_or v.serial j 0 ≡ get_or u.serial j 0
    was j ne = get_or-set_other u.serial i j (get_or u.serial i 0 + 1) 0 ne

    empty : held_of u i ≡ 0
    empty = dead_holds u i free (ok.queues.each i hi)

    silent : (j : ℕ) → j < 8 → (j ≡ i → ⊥) → Silent (id_in u j) y
    silent j hj ne =
        record {
          unmade = not_new y 20 (id_in u j) (λ e. ne (apart_slots _ _ j i (omega arith) (omega arith) (sym e ∙ new)));
          undeleted = not_of y 21 (id_in u j) OK (not_call y 21 OK (ap (λ (c : ℕ). eqb c 21) calls));
          uncounted = none (id_in u j);
        }

    made : creates 20 (id_in v i) y ≡ true
    made = is_new y 20 (id_in v i) (is_answer_lem y 20 OK calls done) (new ∙ ap (λ (k : ℕ). identifier k i) (sym now))

    first_none : (accepted past (id_in v i) ≡ 0) × (delivered past (id_in v i) ≡ 0)
    first_none =
        h.unissued (id_in v i)
        (let part : id_in v i / 64 ≡ get_or u.serial i 0 + 1 = omega (arith, now, hi) in
        let slot : id_in v i % 64 ≡ i = omega (arith, hi) in
        omega (arith, part, ap (λ (k : ℕ). get_or u.serial k 0) slot))

    later : (id : ℕ) → get_or v.serial (id % 64) 0 < id / 64 → get_or u.serial (id % 64) 0 < id / 64
    later id e =
        ⊎_elim
        (λ d. omega (arith, e, now, ap (λ (k : ℕ). get_or v.serial k 0) d, ap (λ (k : ℕ). get_or u.serial k 0) d))
        (λ ne. omega (arith, e, was (id % 64) ne))
        (eq_or_not (id % 64) i)

    born_holds : Holds v (y ∷ past)
    born_holds =
        record {
          told = λ j hj live. ⊎_elim
              (λ e. subst (λ (k : ℕ). messages_of (store_of u) k ≡ messages (y ∷ past) (id_in v k)) (sym e)
              (nothing_held (store_of u) i empty ∙ sym (messages_new past (id_in v i) y made)))
              (λ ne. h.told j hj (sym (get_or-set_other u.live i j true false ne) ∙ live)
              ∙ sym (messages_silent past (id_in u j) y (silent j hj ne))
              ∙ ap (λ (k : ℕ). messages (y ∷ past) (identifier k j)) (sym (was j ne)))
              (eq_or_not j i);
          counted = λ j hj live. ⊎_elim
              (λ e. subst (λ (k : ℕ). accepted (y ∷ past) (id_in v k) ≡ delivered (y ∷ past) (id_in v k) + held_of u k) (sym e)
              (same_count past y (id_in v i) (none (id_in v i)) (held_of u i) (omega (arith, first_none.0, first_none.1, empty))))
              (λ ne. subst (λ (k : ℕ). accepted (y ∷ past) (identifier k j) ≡ delivered (y ∷ past) (identifier k j) + held_of u j) (sym (was j ne))
              (same_count past y (id_in u j) (none (id_in u j)) (held_of u j) (h.counted j hj (sym (get_or-set_other u.live i j true false ne) ∙ live))))
              (eq_or_not j i);
          unissued = λ id e. still_none past y id (none id) (h.unissued id (later id e));
        }

  -- a call names the queue in slot i
  module _ (i : ℕ) (names : queue_found s x.a ≡ At i) (y : Turn) (names_it : y.event.a ≡ x.a) where
    hi : i < 8
    hi = (named_queue s ok x.a i names).0

    alive : get_or u.live i false ≡ true
    alive = (named_queue s ok x.a i names).1

    mine : y.event.a ≡ id_in u i
    mine = names_it ∙ found-identifier u.serial u.live x.a names

    other_id : (j : ℕ) → j < 8 → (j ≡ i → ⊥) → y.event.a ≡ id_in u j → ⊥
    other_id j hj ne e = ne (apart_slots _ _ j i (omega (arith, hj)) (omega (arith, hi)) (sym e ∙ mine))

    issued_other : (id : ℕ) → get_or u.serial (id % 64) 0 < id / 64 → y.event.a ≡ id → ⊥
    issued_other id e d =
        let n : id / 64 ≤ get_or u.serial (id % 64) 0 =
        subst (λ (k : ℕ). k / 64 ≤ get_or u.serial (k % 64) 0) (sym names_it ∙ d) (live_issued u.serial u.live x.a names) in
        omega (arith, e, n)

    to_others : (c : ℕ) → y.event.call ≡ c → eqb c 20 ≡ false → (j : ℕ) → j < 8 → (j ≡ i → ⊥) → Silent (id_in u j) y
    to_others c at e20 j hj ne =
        silent_other (id_in u j) y (not_creates y 20 (id_in u j) (not_call y 20 OK (ap (λ (k : ℕ). eqb k 20) at ∙ e20))) (other_id j hj ne)

    -- what is told, the store being another in it alone
    changed : (c : ℕ) → y.event.call ≡ c → eqb c 20 ≡ false → (m : Store) (n : ℕ) → held_in m i ≡ n
        → ((j : ℕ) → (j ≡ i → ⊥) → held_in m j ≡ held_of u j)
        → ((j : ℕ) → (j ≡ i → ⊥) → messages_of m j ≡ messages_of (store_of u) j)
        → messages_of m i ≡ messages (y ∷ past) (id_in u i)
        → accepted (y ∷ past) (id_in u i) ≡ delivered (y ∷ past) (id_in u i) + n
        → Holds (with_store u m) (y ∷ past)
    changed c at e20 m n here there others same count =
        record {
          told = λ j hj live. ⊎_elim
              (λ e. subst (λ (k : ℕ). messages_of m k ≡ messages (y ∷ past) (id_in u k)) (sym e) same)
              (λ ne. others j ne ∙ h.told j hj live ∙ sym (messages_silent past (id_in u j) y (to_others c at e20 j hj ne)))
              (eq_or_not j i);
          counted = λ j hj live. ⊎_elim
              (λ e. subst (λ (k : ℕ). accepted (y ∷ past) (id_in u k) ≡ delivered (y ∷ past) (id_in u k) + held_in m k) (sym e) (omega (arith, count, here)))
              (λ ne. omega (arith, same_count past y (id_in u j) (to_others c at e20 j hj ne).uncounted (held_of u j) (h.counted j hj live), there j ne))
              (eq_or_not j i);
          unissued = λ id e. still_none past y id (uncounted_other id y (issued_other id e)) (h.unissued id e);
        }

    -- it is deleted
    gone_holds : y.event.call ≡ 21 → Holds (queue_gone u i) (y ∷ past)
    unfolding cleared
    gone_holds at =
        record {
          told = λ j hj live.
              let ne : j ≡ i → ⊥ = still j live in
              clear_others (store_of u) sized i hi j ne ∙ h.told j hj (was j live) ∙ sym (messages_silent past (id_in u j) y (to_others 21 at refl j hj ne));
          counted = λ j hj live.
              let ne : j ≡ i → ⊥ = still j live in
              omega (
                arith,
                same_count past y (id_in u j) (to_others 21 at refl j hj ne).uncounted (held_of u j) (h.counted j hj (was j live)),
                get_or-set_other u.held i j 0 0 ne,
              );
          unissued = λ id e. still_none past y id (uncounted_other id y (issued_other id e)) (h.unissued id e);
        }
      where
        still : (j : ℕ) → get_or (set u.live i false) j false ≡ true → j ≡ i → ⊥
        still j live e =
            true-false live (ap (λ (k : ℕ). get_or (set u.live i false) k false) e
            ∙ get_or-set_same u.live i false false (omega (arith, hi, ok.queues.sized.lives)))

        was : (j : ℕ) → get_or (set u.live i false) j false ≡ true → get_or u.live j false ≡ true
        was j live = sym (get_or-set_other u.live i j false false (still j live)) ∙ live

  -- a send or jump puts its message into the queue in slot i
  module _ (i : ℕ) (names : queue_found s x.a ≡ At i) (fits : not (fits_queue (longest_of u i) x.b x.message) ≡ false) (a : Answer)
      (done : a.status ≡ OK) where
    abbrev id : ℕ
    id = id_in u i

    abbrev y : Turn
    y = turn_of x a

    abbrev cell : List ℕ
    cell = cell_of x.message x.b

    size : (x.b ≤ 64) × (x.b ≤ length x.message)
    size = fits_says (longest_of u i) x.b x.message (not-false _ fits)

    whole : length cell ≡ 65
    whole = length_cell x.message x.b size.0 size.1

    here : i < 8
    here = hi i names y refl

    its : x.a ≡ id
    its = mine i names y refl

    count : accepted past id ≡ delivered past id + held_of u i
    count = h.counted i here (alive i names y refl)

    holding : messages_of (store_of u) i ≡ messages past id
    holding = h.told i here (alive i names y refl)

    bytes : message_in cell ≡ lent y
    bytes = as_lent x.message x.b size.1

    put_holds : {put : Store → ℕ → List ℕ → Store} → Puts x put → leb (most_of u i) (held_of u i) ≡ false → a.delivers ≡ false
        → Holds (with_store u (put (store_of u) i cell)) (y ∷ past)
    put_holds {put} c room keeps = by c
      where
        few : held_of u i < 16
        few = omega (arith, leb-false (most_of u i) (held_of u i) room, limits_small u ok.queues i here (alive i names y refl))

        held_here : (m : Store) → m.held ≡ set u.held i (held_of u i + 1) → held_in m i ≡ held_of u i + 1
        held_here m e = ap (λ (l : List ℕ). get_or l i 0) e ∙ get_or-set_same u.held i (held_of u i + 1) 0 (omega (arith, here, ok.queues.sized.helds))

        held_there : (m : Store) → m.held ≡ set u.held i (held_of u i + 1) → (j : ℕ) → (j ≡ i → ⊥) → held_in m j ≡ held_of u j
        held_there m e j ne = ap (λ (l : List ℕ). get_or l j 0) e ∙ get_or-set_other u.held i j (held_of u i + 1) 0 ne

        by : {put : Store → ℕ → List ℕ → Store} → Puts x put → Holds (with_store u (put (store_of u) i cell)) (y ∷ past)
        by (sends at) =
            changed i names y refl 23 at refl (appended (store_of u) i cell) (held_of u i + 1)
            (held_here (appended (store_of u) i cell) (put_held (store_of u) i {x = x} (sends at) cell few))
            (held_there (appended (store_of u) i cell) (put_held (store_of u) i {x = x} (sends at) cell few))
            (λ j ne. append_others (store_of u) sized i here j ne cell whole)
            (append_messages (store_of u) sized i here cell few whole ∙ ap (λ (l : List (List ℕ)). l ++ (message_in cell ∷ [])) holding
            ∙ ap (λ (m : List ℕ). messages past id ++ (m ∷ [])) bytes ∙ sym (messages_sent past id y at done its keeps))
            (omega (arith, accepted_sent past id y at done its, delivered_held past id y 23 at refl refl refl done its keeps, count))
        by (jumps at) =
            changed i names y refl 24 at refl (pushed (store_of u) i cell) (held_of u i + 1)
            (held_here (pushed (store_of u) i cell) (put_held (store_of u) i {x = x} (jumps at) cell few))
            (held_there (pushed (store_of u) i cell) (put_held (store_of u) i {x = x} (jumps at) cell few))
            (λ j ne. push_others (store_of u) sized i here j ne cell whole)
            (push_messages (store_of u) sized i here cell few whole ∙ ap (λ (l : List (List ℕ)). message_in cell ∷ l) holding
            ∙ ap (λ (m : List ℕ). m ∷ messages past id) bytes ∙ sym (messages_jumped past id y at done its keeps))
            (omega (arith, accepted_jumped past id y at done its, delivered_held past id y 24 at refl refl refl done its keeps, count))

    -- or gives it to who waits
    handed_holds : {put : Store → ℕ → List ℕ → Store} → Puts x put → a.delivers ≡ true → Holds u (y ∷ past)
    handed_holds (sends at) gives =
        changed i names y refl 23 at refl (store_of u) (held_of u i) refl (λ j ne. refl) (λ j ne. refl)
        (holding ∙ sym (messages_handed past id y 23 at refl refl refl done its gives))
        (omega (arith, accepted_sent past id y at done its, delivered_handed past id y 23 at refl refl refl done its (sent_accepted past id y at done its) gives, count))
    handed_holds (jumps at) gives =
        changed i names y refl 24 at refl (store_of u) (held_of u i) refl (λ j ne. refl) (λ j ne. refl)
        (holding ∙ sym (messages_handed past id y 24 at refl refl refl done its gives))
        (omega (arith, accepted_jumped past id y at done its, delivered_handed past id y 24 at refl refl refl done its (jumped_accepted past id y at done its) gives, count))

  -- a receive takes the first message of the queue in slot i
  taken_holds : (i : ℕ) → queue_found s x.a ≡ At i → x.call ≡ 25 → ltb 0 (held_of u i) ≡ true → (a : Answer) → a.status ≡ OK
      → Holds (with_store u (taken (store_of u) i)) (turn_of x a ∷ past)
  taken_holds i names at found a done =
      let y : Turn = turn_of x a in
      let here : i < 8 = hi i names y refl in
      let its : x.a ≡ id_in u i = mine i names y refl in
      let lives : get_or u.live i false ≡ true = alive i names y refl in
      let some : 0 < held_of u i = ltb-true 0 (held_of u i) found in
      let few : held_of u i ≤ 16 = omega (arith, ok.queues.held i here, limits_small u ok.queues i here lives) in
      let left : (taken (store_of u) i).held ≡ set u.held i (held_of u i - 1) = taken-held (store_of u) i some few in
      changed i names y refl 25 at refl (taken (store_of u) i) (held_of u i - 1)
      (ap (λ (l : List ℕ). get_or l i 0) left ∙ get_or-set_same u.held i (held_of u i - 1) 0 (omega (arith, here, ok.queues.sized.helds)))
      (λ j ne. ap (λ (l : List ℕ). get_or l j 0) left ∙ get_or-set_other u.held i j (held_of u i - 1) 0 ne)
      (λ j ne. take_others (store_of u) sized i here j ne)
      (sym (ap rest (take_messages (store_of u) sized i here some few)) ∙ ap rest (h.told i here lives) ∙ sym (messages_received past (id_in u i) y at done its))
      (omega (arith, accepted_received past (id_in u i) y at done its, delivered_received past (id_in u i) y at done its, h.counted i here lives, some))

  queue_kept : {v : Queues} {n : ℕ} {shown : List ℕ} → QueueChange s x v n shown → Kept (shows (with_queues s v) n shown)
  unfolding shows
  queue_kept (queue_created at e f g) =
      let l : new_queue s < length u.serial = leb-false (length u.serial) (new_queue s) g in
      born_holds (new_queue s) (omega (arith, l, ok.queues.sized.serials)) (usable_free u.serial u.live (new_queue s) (usable_at u.serial u.live l))
      x.a x.b x.c (eqb x.d 1) (turn_of x (shows _ _ _)) at refl refl
  queue_kept (message_put c i e f g room) = put_holds i e f (shows _ _ _) refl c room refl
  queue_kept (message_received at i e f) = taken_holds i e at f (shows _ _ _) refl

  delivery_kept : {put : Store → ℕ → List ℕ → Store} → Puts x put → (i : ℕ) → queue_found s x.a ≡ At i
      → not (fits_queue (longest_of u i) x.b x.message) ≡ false → (w : Waking) (n : ℕ) (message : List ℕ) → Kept (delivers_to s w n message)
  unfolding delivers_to
  delivery_kept c i e f w n message = handed_holds i e f (delivers_to s w n message) refl c refl

  deed_kept : {a : Answer} → Deed s x a → Kept a
  unfolding plain answer wakes_with sem_delete_at queue_delete_at tick
  deed_kept (refused status e f listed) = quiet past _ u (λ id. silent_status id _ e) h
  deed_kept (tells call at e v0 v1 v2 v3 negative) =
      quiet past _ u (λ id. silent_call id _ (other 20 refl) (other 21 refl) (uncounted_call id _ (other 23 refl) (other 24 refl) (other 25 refl))) h
    where
      other : (k : ℕ) → asks k ≡ false → eqb x.call k ≡ false
      other k f = ap (λ (v : ℕ). eqb v k) at ∙ ne_eqb call k (not_asked call k e f)
  deed_kept (tasks_change c) = quiet past _ u (λ id. silent_low id _ (omega (arith, change_call c))) h
  deed_kept (task_moves c) = quiet past _ u (λ id. silent_low id _ (omega (arith, move_call c))) h
  deed_kept (sems_change c) = quiet past _ u (λ id. silent_low id _ (omega (arith, (sem_call c).1))) h
  deed_kept (pools_change c) = quiet past _ u (λ id. silent_low id _ (omega (arith, (pool_call c).1))) h
  deed_kept (queues_change c) = queue_kept c
  deed_kept (caller_waits at i e f g time) = quiet past _ u (λ id. silent_status id _ refl) h
  deed_kept (first_woken at i e f) = quiet past _ u (λ id. silent_low id _ (omega (arith, at))) h
  deed_kept (sem_deleted at i e) = quiet past _ u (λ id. silent_low id _ (omega (arith, at))) h
  deed_kept (receiver_waits at i e f g time) = quiet past _ u (λ id. silent_status id _ refl) h
  deed_kept (delivers c i e f g) = delivery_kept c i e f _ _ _
  deed_kept (queue_deleted at i e) = gone_holds i e _ refl at
  deed_kept (time_passes at) = quiet past _ u (λ id. silent_low id _ (omega (arith, at))) h

  event_holds : Holds (answer_to s x).state.queues (turn_of x (answer_to s x) ∷ past)
  event_holds = by_deed s x Kept (λ a d. deed_kept d) (λ e. absurd (true-false (sound_right s ok) e))

-- so does every history
pub holds_after : (s : State) → Sound s → (xs : List Event) (past : List Turn) → Holds s.queues past → Holds (after s xs).queues (past_from past s xs)
holds_after s ok [] past h = h
holds_after s ok (x ∷ xs) past h =
    holds_after (answer_to s x).state (event_keeps s ok x) xs (turn_of x (answer_to s x) ∷ past) (event_holds s ok x past h)
