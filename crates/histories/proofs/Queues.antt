-- The queue calls keep a state sound: each changes one slot of the queues, where nobody stands in its queue, or moves one task, or
-- (a deletion) wakes all who wait and then drops what is held. What a queue holds stays in its one form by the laws of the messages.
-- Assumes nothing.
use Prim.Native.Nat.{ℕ, ◌+◌, ◌-◌, ◌*◌, ◌≤◌, ◌<◌}
use native.Mathlib.Omega.{arith}
use mathlib.Core.Path.{◌≡◌, refl, sym, subst, ap, ◌∙◌}
use mathlib.Core.Logic.{⊎_elim}
use mathlib.Core.Bool.{Bool, true, false, not, ◌&&◌}
use mathlib.Core.List.{List}
use lib.ListN.{length, get_or, set, length-set}
use lib.Seq.{get_or-set_same, get_or-set_other}
use lib.Dec.{ltb, leb, eqb}
use borrow.Author.Tests.{lt-ltb, le-leb, ltb-true, ltb-false, leb-true, leb-false, eqb-true, not-false}
use Rattle.scope.specs.declared.State.{State}
use Rattle.scope.specs.declared.Queues.{Queues}
use Rattle.scope.specs.declared.Waking.{Waking}
use Rattle.scope.specs.declared.Found.TheVariants.{At}
use Rattle.scope.specs.Choice.{pick}
use Rattle.scope.specs.Seats.{queue_seats, standing}
use Rattle.scope.specs.Objects.{queue_object, objects_of}
use Rattle.scope.specs.Views.{with_line, with_queues}
use Rattle.scope.specs.Answers.{wakes_with}
use Rattle.scope.specs.Waiting.{is_time_out, waits, wake_next, none_woken, wake_all}
use Rattle.scope.specs.Messages.{Store, held_in, row_in, cells_in, cell_of, appended, pushed, taken, cleared}
use Rattle.scope.specs.Queues.{most_of, longest_of, held_of, store_of, with_store, are_limits, fits_queue, queue_found, first_receiver, queue_born, queue_gone, queue_delete_at}
use Rattle.scope.specs.Rules.{queue_right, messages_right}
use Rattle.laws.proofs.Arrays.{cleared as zeroed}
use Rattle.laws.proofs.Branches.{lt_or_le, eq_or_not, both, both_true, picked_yes}
use Rattle.laws.proofs.Tables.{found_below, found-live, usable_at, usable_free}
use Rattle.laws.proofs.Seats.Counting.{standing-le}
use Rattle.laws.proofs.Messages.Stores.{Sized}
use Rattle.laws.proofs.Messages.Keeps.{InForm, lent_right}
use Rattle.laws.proofs.Messages.Kept.{Kept, store_told, store_tells, append_kept, push_kept, take_kept, clear_kept}
use Rattle.laws.proofs.Messages.Views.{length_cell}
use Rattle.histories.specs.Sound.{LineSound, QueuesSound, Sound}
use Rattle.histories.specs.History.{Event}
use Rattle.histories.proofs.Lengths.{queues_as_long}
use Rattle.histories.proofs.Tests.{chosen_no}
use Rattle.histories.proofs.Objects.{queue_live, queue_fifo, queue_stock, holds_nothing, born_apart, gone_apart, store_apart}
use Rattle.histories.proofs.Waking.{first_empty, dead_empty, empty_changes, all_woken}
use Rattle.histories.proofs.Parts.{queues_sound, both_sound}
use Rattle.histories.proofs.Semaphores.{waiter_sound, first_sound}
use Rattle.histories.proofs.Deeds.{new_queue, Puts, sends, jumps, QueueChange, queue_created, message_put, message_received}

-- The numbers held after a verb.
module _ (s : Store) (i : ℕ) where
  pub put_held : {x : Event} {put : Store → ℕ → List ℕ → Store} → Puts x put → (cell : List ℕ) → held_in s i < 16 → (put s i cell).held ≡ set s.held i (held_in s i + 1)
  unfolding appended pushed
  put_held (sends at) cell few = ap (λ (t : Store). t.held) (picked_yes (ltb (held_in s i) 16) _ s (lt-ltb (held_in s i) 16 few))
  put_held (jumps at) cell few = ap (λ (t : Store). t.held) (picked_yes (ltb (held_in s i) 16) _ s (lt-ltb (held_in s i) 16 few))

  pub taken-held : 0 < held_in s i → held_in s i ≤ 16 → (taken s i).held ≡ set s.held i (held_in s i - 1)
  unfolding taken
  taken-held some few =
      ap (λ (t : Store). t.held)
      (picked_yes (ltb 0 (held_in s i) && leb (held_in s i) 16) _ s (both _ _ (lt-ltb 0 (held_in s i) some) (le-leb (held_in s i) 16 few)))

  put_kept : {x : Event} {put : Store → ℕ → List ℕ → Store} → Puts x put → (longest : ℕ → ℕ) → Kept longest s → i < 8 → (message : List ℕ) (n : ℕ)
      → n ≤ longest i → n ≤ 64 → n ≤ length message → Kept longest (put s i (cell_of message n))
  put_kept (sends at) longest w hi message n a b c = append_kept longest s w i hi (cell_of message n) (length_cell message n b c) (lent_right message n (longest i) a c)
  put_kept (jumps at) longest w hi message n a b c = push_kept longest s w i hi (cell_of message n) (length_cell message n b c) (lent_right message n (longest i) a c)

-- other limits of queue i, which holds nothing
relimited : (long other : ℕ → ℕ) (s : Store) (i : ℕ) → held_in s i ≡ 0 → ((j : ℕ) → (j ≡ i → ⊥) → other j ≡ long j) → Kept long s → Kept other s
unfolding cells_in
relimited long other s i none same w =
    record {
      sized = w.sized;
      form = λ j h. ⊎_elim (λ e. here j h e) (λ ne. subst (InForm (row_in s j) (held_in s j)) (sym (same j ne)) (w.form j h)) (eq_or_not j i);
    }
  where
    empty : (row : List ℕ) (n l o : ℕ) → n ≡ 0 → InForm row n l → InForm row n o
    empty row n l o e f =
        subst (λ (v : ℕ). InForm row v o) (sym e)
        (record { few = omega arith; cells = tt; rest = (subst (λ (v : ℕ). InForm row v l) e f).rest })

    here : (j : ℕ) → j < 8 → j ≡ i → InForm (row_in s j) (held_in s j) (other j)
    here j h e = empty (row_in s j) (held_in s j) (long j) (other j) (ap (held_in s) e ∙ none) (w.form j h)

-- the limits of one queue
module _ (limits : List ℕ) (i most longest : ℕ) where
  abbrev limited : List ℕ
  limited = set (set limits (2 * i) most) (2 * i + 1) longest

  most_here : 2 * i < length limits → get_or limited (2 * i) 0 ≡ most
  most_here h = get_or-set_other (set limits (2 * i) most) (2 * i + 1) (2 * i) longest 0 (λ e. omega arith) ∙ get_or-set_same limits (2 * i) most 0 h

  longest_here : 2 * i + 1 < length limits → get_or limited (2 * i + 1) 0 ≡ longest
  longest_here h = get_or-set_same (set limits (2 * i) most) (2 * i + 1) longest 0 (omega (arith, length-set limits (2 * i) most))

  most_there : (j : ℕ) → (j ≡ i → ⊥) → get_or limited (2 * j) 0 ≡ get_or limits (2 * j) 0
  most_there j ne =
      get_or-set_other (set limits (2 * i) most) (2 * i + 1) (2 * j) longest 0 (λ e. omega arith)
      ∙ get_or-set_other limits (2 * i) (2 * j) most 0 (λ e. ne (omega arith))

  longest_there : (j : ℕ) → (j ≡ i → ⊥) → get_or limited (2 * j + 1) 0 ≡ get_or limits (2 * j + 1) 0
  longest_there j ne =
      get_or-set_other (set limits (2 * i) most) (2 * i + 1) (2 * j + 1) longest 0 (λ e. ne (omega arith))
      ∙ get_or-set_other limits (2 * i) (2 * j + 1) most 0 (λ e. omega arith)

-- a slot whose row is the same is as right
same_right : (u v : Queues) (j : ℕ) → get_or v.serial j 0 ≡ get_or u.serial j 0 → get_or v.name j 0 ≡ get_or u.name j 0
    → get_or v.live j false ≡ get_or u.live j false → get_or v.fifo j false ≡ get_or u.fifo j false
    → most_of v j ≡ most_of u j → longest_of v j ≡ longest_of u j → held_of v j ≡ held_of u j → queue_right v j ≡ queue_right u j
unfolding queue_right
same_right u v j a b c d e f g = rw (a, b, c, d, e, f, g)

module _ (u : Queues) (i : ℕ) where
  -- of a live queue the name, the option and the number held don't count
  live_right : get_or u.live i false ≡ true → queue_right u i ≡ (leb 1 (get_or u.serial i 0) && are_limits (most_of u i) (longest_of u i))
  unfolding queue_right
  live_right a = picked_yes (get_or u.live i false) _ _ a

  -- a queue that does not live holds nothing
  dead_holds : get_or u.live i false ≡ false → queue_right u i ≡ true → held_of u i ≡ 0
  unfolding queue_right
  dead_holds dead e =
      let a = both_true (eqb (get_or u.name i 0) 0) _ (chosen_no (get_or u.live i false) _ _ e dead) in
      let b = both_true (not (get_or u.fifo i false)) _ a.1 in
      let c = both_true (eqb (most_of u i) 0) _ b.1 in
      let d = both_true (eqb (longest_of u i) 0) _ c.1 in
      eqb-true (held_of u i) 0 d.1

module _ (u : Queues) (ok : QueuesSound u) where
  store_sized : Sized (store_of u)
  store_sized = record { cells = ok.sized.cellss; held = ok.sized.helds }

  pub in_form : Kept (longest_of u) (store_of u)
  unfolding messages_right
  in_form = store_told (store_of u) u.limits store_sized ok.messages

  module _ (i : ℕ) (hi : i < 8) where
    -- "most messages (1 to 16)": a live queue's limits
    pub limits_small : get_or u.live i false ≡ true → most_of u i ≤ 16
    unfolding are_limits
    limits_small alive =
        let a = both_true (leb 1 (get_or u.serial i 0)) _ (sym (live_right u i alive) ∙ ok.each i hi) in
        let b = both_true (leb 1 (most_of u i)) _ a.1 in
        leb-true (most_of u i) 16 (both_true (leb (most_of u i) 16) _ b.1).0

    -- a queue is born in a free slot
    born_queues : (name most longest : ℕ) (fifo : Bool) → get_or u.live i false ≡ false → are_limits most longest ≡ true
        → QueuesSound (queue_born u i name most longest fifo)
    unfolding messages_right
    born_queues name most longest fifo free right =
        let v : Queues = queue_born u i name most longest fifo in
        let none : held_of u i ≡ 0 = dead_holds u i free (ok.each i hi) in
        record {
          sized = queues_as_long u v (simp length-set) ok.sized;
          each = λ j h.
              ⊎_elim
              (λ e. ap (queue_right v) e ∙ live_right v i (get_or-set_same u.live i true false (omega (arith, ok.sized.lives)))
              ∙ both _ _ (le-leb 1 (get_or v.serial i 0) (omega (arith, get_or-set_same u.serial i (get_or u.serial i 0 + 1) 0 (omega (arith, ok.sized.serials)))))
              (rw (most_here u.limits i most longest (omega (arith, ok.sized.limitss)), longest_here u.limits i most longest (omega (arith, ok.sized.limitss))) right))
              (λ ne. same_right u v j (get_or-set_other u.serial i j (get_or u.serial i 0 + 1) 0 ne) (get_or-set_other u.name i j name 0 ne)
              (get_or-set_other u.live i j true false ne) (get_or-set_other u.fifo i j fifo false ne)
              (most_there u.limits i most longest j ne) (longest_there u.limits i most longest j ne) refl
              ∙ ok.each j h)
              (eq_or_not j i);
          held = λ j h.
              ⊎_elim
              (λ e. omega (arith, none, ap (held_of u) e))
              (λ ne. omega (arith, ok.held j h, most_there u.limits i most longest j ne))
              (eq_or_not j i);
          messages = store_tells (store_of v) v.limits
              (relimited (longest_of u) (longest_of v) (store_of u) i none (longest_there u.limits i most longest) in_form);
        }

    -- a queue goes, and what it holds
    gone_queues : QueuesSound (queue_gone u i)
    unfolding messages_right cleared queue_right pick
    gone_queues =
        let v : Queues = queue_gone u i in
        record {
          sized = queues_as_long u v (simp (length-set, form.sized.cells, ok.sized.cellss)) ok.sized;
          each = λ j h.
              ⊎_elim
              (λ e. ap (queue_right v) e
              ∙ rw (
                zeroed u.live i false,
                zeroed u.name i 0,
                zeroed u.fifo i false,
                most_here u.limits i 0 0 (omega (arith, ok.sized.limitss)),
                longest_here u.limits i 0 0 (omega (arith, ok.sized.limitss)),
                zeroed u.held i 0,
              ) refl)
              (λ ne. same_right u v j refl (get_or-set_other u.name i j 0 0 ne) (get_or-set_other u.live i j false false ne)
              (get_or-set_other u.fifo i j false false ne) (most_there u.limits i 0 0 j ne) (longest_there u.limits i 0 0 j ne)
              (get_or-set_other u.held i j 0 0 ne)
              ∙ ok.each j h)
              (eq_or_not j i);
          held = λ j h.
              ⊎_elim
              (λ e. omega (arith, zeroed u.held i 0, ap (held_of v) e))
              (λ ne. omega (arith, ok.held j h, get_or-set_other u.held i j 0 0 ne, most_there u.limits i 0 0 j ne))
              (eq_or_not j i);
          messages = store_tells (store_of v) v.limits
              (relimited (longest_of u) (longest_of v) (store_of v) i (zeroed u.held i 0) (longest_there u.limits i 0 0) form);
        }
      where
        form : Kept (longest_of u) (cleared (store_of u) i)
        form = clear_kept (longest_of u) (store_of u) in_form i hi

    -- a live queue holds n messages, in form
    store_queues : (s : Store) (n : ℕ) → get_or u.live i false ≡ true → s.held ≡ set u.held i n → n ≤ most_of u i → Kept (longest_of u) s
        → QueuesSound (with_store u s)
    unfolding messages_right
    store_queues s n alive e few form =
        let v : Queues = with_store u s in
        record {
          sized = queues_as_long u v (simp (form.sized.held, form.sized.cells, ok.sized.helds, ok.sized.cellss)) ok.sized;
          each = λ j h.
              ⊎_elim
              (λ d. ap (queue_right v) d ∙ live_right v i alive ∙ sym (live_right u i alive) ∙ ok.each i hi)
              (λ ne. same_right u v j refl refl refl refl refl refl (there j ne) ∙ ok.each j h)
              (eq_or_not j i);
          held = λ j h.
              ⊎_elim
              (λ d. subst (λ (k : ℕ). held_of v k ≤ most_of u k) (sym d) (omega (arith, few, here)))
              (λ ne. omega (arith, ok.held j h, there j ne))
              (eq_or_not j i);
          messages = store_tells s u.limits form;
        }
      where
        here : held_of (with_store u s) i ≡ n
        here = ap (λ (h : List ℕ). get_or h i 0) e ∙ get_or-set_same u.held i n 0 (omega (arith, ok.sized.helds))

        there : (j : ℕ) → (j ≡ i → ⊥) → held_of (with_store u s) j ≡ held_of u j
        there j ne = ap (λ (h : List ℕ). get_or h j 0) e ∙ get_or-set_other u.held i j n 0 ne

-- not 27: what is lent is a message that the queue takes
fits_says : (longest n : ℕ) (message : List ℕ) → fits_queue longest n message ≡ true → (n ≤ longest) × (n ≤ 64) × (n ≤ length message)
unfolding fits_queue
fits_says longest n message e =
    let a = both_true (leb n longest) _ e in
    let b = both_true (leb n 64) _ a.1 in
    (leb-true _ _ a.0, leb-true _ _ b.0, leb-true _ _ b.1)

module _ (s : State) (ok : Sound s) where
  -- what an identifier names is a live queue
  pub named_queue : (id i : ℕ) → queue_found s id ≡ At i → (i < 8) × (get_or s.queues.live i false ≡ true)
  named_queue id i e = (
    omega (arith, found_below s.queues.serial s.queues.live id e, ok.queues.sized.serials),
    found-live s.queues.serial s.queues.live id e,
  )

  module _ (i : ℕ) (hi : i < 8) (alive : get_or s.queues.live i false ≡ true) where
    pub queue_delete_at_lem : Sound (queue_delete_at s i).state
    unfolding queue_delete_at wakes_with
    queue_delete_at_lem =
        let w : Waking = wake_all s.tasks (queue_object i) 32 (none_woken s.line) in
        let d : LineSound w.line s.tasks (objects_of s) × (standing w.line.seat (queue_seats (queue_object i)) ≡ 0) =
        all_woken s.tasks (objects_of s) (queue_object i) (omega arith) 32 (none_woken s.line) ok.line (standing-le s.line.seat (queue_seats (queue_object i))) in
        both_sound s ok w.line (queue_gone s.queues i)
        (empty_changes w.line s.tasks (objects_of s) d.0 (queue_object i) _ (gone_apart s.semaphores s.queues i) d.1)
        (gone_queues s.queues ok.queues i hi)

    store_sound : (m : Store) (n : ℕ) → m.held ≡ set s.queues.held i n → n ≤ most_of s.queues i → Kept (longest_of s.queues) m
        → standing s.line.seat (queue_seats (queue_object i)) ≡ 0 → Sound (with_queues s (with_store s.queues m))
    store_sound m n e few form none =
        queues_sound s ok (with_store s.queues m)
        (empty_changes s.line s.tasks (objects_of s) ok.line (queue_object i) _ (store_apart s.semaphores s.queues i m n e) none)
        (store_queues s.queues ok.queues i hi m n alive e few form)

    -- the running task waits for it, which holds nothing
    pub receiver_sound : (ticks : ℕ) → is_time_out ticks ≡ true → held_of s.queues i ≡ 0 → s.running < 32
        → Sound (with_line s (waits s.line (queue_object i) (get_or s.queues.fifo i false) (get_or s.tasks.priority s.running 0) ticks s.running))
    receiver_sound ticks time none h =
        waiter_sound s ok (queue_object i) (omega arith) _ (queue_fifo s.semaphores s.queues i) (queue_live s.semaphores s.queues i ∙ alive)
        (queue_stock s.semaphores s.queues i ∙ none) ticks time h

    -- the first who waits for it is given a message
    pub delivered_sound : first_receiver s i < 32 → Sound (with_line s (wake_next s.tasks (none_woken s.line) (first_receiver s i)).line)
    delivered_sound h = first_sound s ok (queue_object i) (omega arith) h

  -- what the queue calls do to the table, by what their tests showed
  pub queue_sound : (x : Event) {u : Queues} {v : ℕ} {shown : List ℕ} → QueueChange s x u v shown → Sound (with_queues s u)
  queue_sound x (queue_created at e f g) =
      let i : ℕ = new_queue s in
      let serial : List ℕ = s.queues.serial in
      let live : List Bool = s.queues.live in
      let l : i < length serial = leb-false (length serial) i g in
      let h : i < 8 = omega (arith, l, ok.queues.sized.serials) in
      let free : get_or live i false ≡ false = usable_free serial live i (usable_at serial live l) in
      queues_sound s ok (queue_born s.queues i x.a x.b x.c (eqb x.d 1))
      (empty_changes s.line s.tasks (objects_of s) ok.line (queue_object i) _ (born_apart s.semaphores s.queues i x.a x.b x.c (eqb x.d 1))
      (dead_empty s.line s.tasks (objects_of s) ok.line (queue_object i) (omega arith) (queue_live s.semaphores s.queues i ∙ free)))
      (born_queues s.queues ok.queues i h x.a x.b x.c (eqb x.d 1) free (not-false (are_limits x.b x.c) e))
  queue_sound x (message_put c i e f g h) =
      let a = named_queue x.a i e in
      let n = fits_says (longest_of s.queues i) x.b x.message (not-false _ f) in
      let room : held_of s.queues i < most_of s.queues i = leb-false _ _ h in
      let few : held_of s.queues i < 16 = omega (arith, room, limits_small s.queues ok.queues i a.0 a.1) in
      store_sound i a.0 a.1 _ (held_of s.queues i + 1) (put_held (store_of s.queues) i c (cell_of x.message x.b) few) (omega arith)
      (put_kept (store_of s.queues) i c (longest_of s.queues) (in_form s.queues ok.queues) a.0 x.message x.b n.0 n.1 n.2)
      (first_empty s.line s.tasks (objects_of s) ok.line (queue_object i) (ltb-false _ 32 g))
  queue_sound x (message_received at i e f) =
      let a = named_queue x.a i e in
      let h : ℕ = held_of s.queues i in
      let some : 0 < h = ltb-true 0 h f in
      let most : h ≤ most_of s.queues i = ok.queues.held i a.0 in
      let few : h ≤ 16 = omega (arith, most, limits_small s.queues ok.queues i a.0 a.1) in
      store_sound i a.0 a.1 _ (h - 1) (taken-held (store_of s.queues) i some few) (omega arith)
      (take_kept (longest_of s.queues) (store_of s.queues) (in_form s.queues ok.queues) i a.0)
      (⊎_elim (λ c. absurd (omega (arith, some, holds_nothing s.line s.tasks s.semaphores s.queues ok.line i a.0 c))) (λ c. omega arith)
      (lt_or_le 0 (standing s.line.seat (queue_seats (queue_object i)))))
