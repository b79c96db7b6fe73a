-- The queue calls of M-100 on a sound state, over the lists of messages that the queues hold: a send puts its message at the end, a jump
-- in front, where nobody waits; a receive shows the first and leaves the others; delete drops all. No queue holds more, or longer ones,
-- than it takes. By the laws of the store.
-- Assumes nothing.
use Prim.Native.Nat.{ℕ, suc, ◌≤◌, ◌<◌}
use native.Mathlib.Omega.{arith}
use mathlib.Core.Path.{◌≡◌, refl, sym, subst, ap, ◌∙◌}
use mathlib.Core.Logic.{⊎_elim}
use mathlib.Core.Bool.{true, false, not, ◌&&◌}
use mathlib.Core.List.{List, [], ◌∷◌, ◌++◌, map}
use lib.ListN.{length, get_or, take, drop, length-take}
use lib.Dec.{ltb, leb, eqb}
use borrow.Author.Tests.{lt-ltb, le-ltb, lt-leb, leb-true, eq-eqb, ne_eqb, eqb-true}
use Rattle.scope.specs.declared.State.{State}
use Rattle.scope.specs.declared.Answer.{Answer}
use Rattle.scope.specs.Statuses.{OK}
use Rattle.scope.specs.Objects.{queue_object}
use Rattle.scope.specs.Views.{with_queues}
use Rattle.scope.specs.Answers.{answer, plain, shows, wakes_with, delivers_to}
use Rattle.scope.specs.Waiting.{is_time_out}
use Rattle.scope.specs.Messages.{Store, shown_of, cell_of, cell_right, message_in, cells_in, messages_in, row_in, appended, pushed, taken, cleared, messages_of, first_shown}
use Rattle.scope.specs.Queues.{most_of, longest_of, held_of, store_of, with_store, are_limits, fits_queue, first_receiver, queue_delete_at, queue_put_at, queue_send_at, queue_jump_at, queue_receive_at}
use Rattle.scope.specs.Rules.{queue_right}
use Rattle.laws.proofs.Branches.{both_true, eq_or_not, true_or_false, not_of_true, picked_yes, picked_no}
use Rattle.laws.proofs.Messages.Stores.{length_row, held_counts, append_messages, push_messages, take_messages, clear_messages, append_others, push_others, take_others, clear_others}
use Rattle.laws.proofs.Messages.Views.{as_lent, length_cell}
use Rattle.laws.proofs.Messages.Keeps.{AllRight, InForm, shows_length, shows_message}
use Rattle.laws.proofs.Messages.Kept.{Kept}
use Rattle.laws.proofs.Messages.OneForm.{one_cells, one_held}
use Rattle.histories.specs.Sound.{Sound}
use Rattle.histories.proofs.Queues.{in_form, limits_small}
use Rattle.lists.specs.Rules.{queue_in}
use Rattle.lists.specs.Messages.{messages_at, with_messages, Holds, NoneLonger, SendsLeft}
use Rattle.lists.proofs.Waiting.{none}
use Rattle.lists.proofs.Queues.{delivery_first}

-- the messages with others for queue i, at i and elsewhere
messages_at_lem : (was now : ℕ → List (List ℕ)) (i : ℕ) (ms : List (List ℕ)) → now i ≡ ms → ((j : ℕ) → (j ≡ i → ⊥) → now j ≡ was j)
    → (j : ℕ) → now j ≡ with_messages was i ms j
messages_at_lem was now i ms e f j =
    ⊎_elim
    (λ d. ap now d ∙ e ∙ sym (picked_yes (eqb j i) ms (was j) (eq-eqb j i d)))
    (λ ne. f j ne ∙ sym (picked_no (eqb j i) ms (was j) (ne_eqb j i ne)))
    (eq_or_not j i)

abbrev head_of : List (List ℕ) → List ℕ
head_of [] = []
head_of (m ∷ ms) = m

abbrev tail_of : List (List ℕ) → List (List ℕ)
tail_of [] = []
tail_of (m ∷ ms) = ms

module _ (s : State) (ok : Sound s) (i : ℕ) (hi : i < 8) where
  abbrev was : Store
  was = store_of s.queues

  form : Kept (longest_of s.queues) was
  form = in_form s.queues ok.queues

  -- a live queue's longest
  longest_small : get_or s.queues.live i false ≡ true → longest_of s.queues i ≤ 64
  unfolding queue_right are_limits
  longest_small alive =
      let r = sym (picked_yes (get_or s.queues.live i false) _ _ alive) ∙ ok.queues.each i hi in
      let a = both_true (leb 1 (get_or s.queues.serial i 0)) _ r in
      let b = both_true (leb 1 (most_of s.queues i)) _ a.1 in
      let c = both_true (leb (most_of s.queues i) 16) _ b.1 in
      let d = both_true (leb 1 (longest_of s.queues i)) _ c.1 in
      leb-true (longest_of s.queues i) 64 d.1

  -- "Delete drops what is held"
  pub delete_messages : Holds (queue_delete_at s i) (with_messages (messages_at s) i [])
  unfolding queue_delete_at wakes_with
  delete_messages j h =
      messages_at_lem (messages_at s) (messages_of (cleared was i)) i [] (clear_messages was form.sized i hi)
      (λ k ne. clear_others was form.sized i hi k ne) j

  module _ (alive : get_or s.queues.live i false ≡ true) where
    -- a message that fits
    module _ (n : ℕ) (message : List ℕ) (fits : fits_queue (longest_of s.queues i) n message ≡ true) where
      lent : (n ≤ 64) × (n ≤ length message)
      unfolding fits_queue
      lent =
          let a = both_true (leb n (longest_of s.queues i)) _ fits in
          let b = both_true (leb n 64) _ a.1 in
          (leb-true n 64 b.0, leb-true n (length message) b.1)

      long : length (cell_of message n) ≡ 65
      long = length_cell message n lent.0 lent.1

      -- nobody waits, and there is room
      module _ (empty : queue_in s (queue_object i) ≡ []) (room : held_of s.queues i < most_of s.queues i) where
        few : held_of s.queues i < 16
        few = omega (arith, room, limits_small s.queues ok.queues i hi alive)

        put_answer : (put : Store → ℕ → List ℕ → Store)
            → queue_put_at put s n message i ≡ plain (with_queues s (with_store s.queues (put was i (cell_of message n)))) OK
        unfolding queue_put_at
        put_answer put =
            picked_no _ _ _ (not_of_true _ fits)
            ∙ picked_no (ltb (first_receiver s i) 32) _ _ (le-ltb (first_receiver s i) 32 (omega (arith, none s ok (queue_object i) (omega arith) empty)))
            ∙ picked_no (leb (most_of s.queues i) (held_of s.queues i)) _ _ (lt-leb _ _ room)

        held : (put : Store → ℕ → List ℕ → Store) (ms : List (List ℕ)) → messages_of (put was i (cell_of message n)) i ≡ ms
            → ((j : ℕ) → (j ≡ i → ⊥) → messages_of (put was i (cell_of message n)) j ≡ messages_at s j)
            → Holds (plain (with_queues s (with_store s.queues (put was i (cell_of message n)))) OK) (with_messages (messages_at s) i ms)
        unfolding plain answer messages_of
        held put ms here there j h = messages_at_lem (messages_at s) (messages_of (put was i (cell_of message n))) i ms here there j

        -- "A message goes .. to the end"
        pub send_messages : Holds (queue_send_at s n message i) (with_messages (messages_at s) i (messages_at s i ++ (take n message ∷ [])))
        send_messages =
            subst (λ (a : Answer). Holds a (with_messages (messages_at s) i (messages_at s i ++ (take n message ∷ [])))) (sym (put_answer appended))
            (held appended _
            (append_messages was form.sized i hi (cell_of message n) few long
            ∙ ap (λ (m : List ℕ). messages_at s i ++ (m ∷ [])) (as_lent message n lent.1))
            (λ j ne. append_others was form.sized i hi j ne (cell_of message n) long))

        -- "jump puts it in front"
        pub jump_messages : Holds (queue_jump_at s n message i) (with_messages (messages_at s) i (take n message ∷ messages_at s i))
        jump_messages =
            subst (λ (a : Answer). Holds a (with_messages (messages_at s) i (take n message ∷ messages_at s i))) (sym (put_answer pushed))
            (held pushed _
            (push_messages was form.sized i hi (cell_of message n) few long
            ∙ ap (λ (m : List ℕ). m ∷ messages_at s i) (as_lent message n lent.1))
            (λ j ne. push_others was form.sized i hi j ne (cell_of message n) long))

      -- "A message goes to the first waiter": no queue's messages change
      pub delivery_messages : (put : Store → ℕ → List ℕ → Store) (t : ℕ) (ts : List ℕ) → queue_in s (queue_object i) ≡ t ∷ ts
          → Holds (queue_put_at put s n message i) (messages_at s)
      unfolding delivers_to
      delivery_messages put t ts e =
          subst (λ (a : Answer). Holds a (messages_at s)) (sym (delivery_first s ok i hi put n message fits t ts e)) (λ j h. refl)

    -- "an immediate receive [shows it] beside the answer, whose first figure is its length; bytes past it are 0": the first message, and
    -- the others are left
    module _ (m : List ℕ) (ms : List (List ℕ)) (e : messages_at s i ≡ m ∷ ms) (options ticks : ℕ) (known : ltb 1 options ≡ false)
        (timed : (eqb options 0 && not (is_time_out ticks)) ≡ false) where
      count : held_of s.queues i ≡ suc (length ms)
      count = sym (held_counts was i) ∙ ap length e

      within : held_of s.queues i ≤ 16
      within = omega (arith, ok.queues.held i hi, limits_small s.queues ok.queues i hi alive)

      parts : m ∷ ms ≡ message_in (take 65 (row_in was i)) ∷ messages_of (taken was i) i
      parts = sym e ∙ take_messages was form.sized i hi (omega (arith, count)) within

      right : InForm (row_in was i) (suc (length ms)) (longest_of s.queues i)
      right = subst (λ (h : ℕ). InForm (row_in was i) h (longest_of s.queues i)) count (form.form i hi)

      is_first : message_in (take 65 (row_in was i)) ≡ m
      is_first = sym (ap head_of parts)

      size : length (row_in was i) ≡ 1040
      size = length_row was form.sized i hi

      abbrev left : State
      left = with_queues s (with_store s.queues (taken was i))

      pub receive_shows : queue_receive_at s options ticks i ≡ shows left (length m) (shown_of m (length m))
      unfolding queue_receive_at
      receive_shows =
          picked_no (ltb 1 options) _ _ known
          ∙ picked_no (eqb options 0 && not (is_time_out ticks)) _ _ timed
          ∙ picked_yes (ltb 0 (held_of s.queues i)) _ _ (lt-ltb 0 (held_of s.queues i) (omega (arith, count)))
          ∙ ap (λ (k : ℕ). shows left k (first_shown (row_in was i)))
          (shows_length (row_in was i) (length ms) (longest_of s.queues i) (longest_small alive) size right ∙ ap length is_first)
          ∙ ap (λ (x : List ℕ). shows left (length m) x)
          (shows_message (row_in was i) (length ms) (longest_of s.queues i) (longest_small alive) size right
          ∙ ap (λ (x : List ℕ). shown_of x (length x)) is_first)

      left_messages : Holds (shows left (length m) (shown_of m (length m))) (with_messages (messages_at s) i ms)
      unfolding shows messages_of
      left_messages j h =
          messages_at_lem (messages_at s) (messages_of (taken was i)) i ms (sym (ap tail_of parts)) (λ k ne. take_others was form.sized i hi k ne) j

      pub receive_messages : Holds (queue_receive_at s options ticks i) (with_messages (messages_at s) i ms)
      receive_messages = subst (λ (a : Answer). Holds a (with_messages (messages_at s) i ms)) (sym receive_shows) left_messages

-- a right cell's message is no longer than the longest
cells_short : (n : ℕ) (cs : List (List ℕ)) → AllRight n cs → NoneLonger n (map message_in cs)
unfolding cell_right message_in
cells_short n [] a = tt
cells_short n (c ∷ cs) a =
    let size : length (take (get_or c 0 0) (drop 1 c)) ≤ get_or c 0 0 = omega (arith, length-take (get_or c 0 0) (drop 1 c)) in
    let fits : get_or c 0 0 ≤ n = leb-true (get_or c 0 0) n (both_true (leb (get_or c 0 0) n) _ a.0).0 in
    (omega (arith, size, fits), cells_short n cs a.1)

-- "any other only what sends can leave", on every sound state
pub sends_left : (s : State) → Sound s → (i : ℕ) → i < 8 → SendsLeft s i
unfolding messages_of messages_in
sends_left s ok i hi =
    record {
      few = omega (arith, held_counts (store_of s.queues) i, ok.queues.held i hi);
      short = cells_short (longest_of s.queues i) (cells_in (row_in (store_of s.queues) i) (held_of s.queues i)) ((form s ok i hi).form i hi).cells;
    }

-- What queues hold has one form: two sound states whose queues hold the same messages have the same cells.
longest_within : (s : State) → Sound s → (i : ℕ) → i < 8 → longest_of s.queues i ≤ 64
unfolding queue_right
longest_within s ok i hi =
    ⊎_elim (longest_small s ok i hi)
    (λ dead. let r = sym (picked_no (get_or s.queues.live i false) _ _ dead) ∙ ok.queues.each i hi in
    let a = both_true (eqb (get_or s.queues.name i 0) 0) _ r in
    let b = both_true (not (get_or s.queues.fifo i false)) _ a.1 in
    let c = both_true (eqb (most_of s.queues i) 0) _ b.1 in
    let d = both_true (eqb (longest_of s.queues i) 0) _ c.1 in
    omega (arith, eqb-true (longest_of s.queues i) 0 d.0))
    (true_or_false (get_or s.queues.live i false))

pub one_cells-held : (s r : State) → Sound s → Sound r → ((i : ℕ) → i < 8 → messages_at s i ≡ messages_at r i)
    → (s.queues.cells ≡ r.queues.cells) × (s.queues.held ≡ r.queues.held)
one_cells-held s r ok fine same =
    let a : Store = store_of s.queues in
    let b : Store = store_of r.queues in
    let f = in_form s.queues ok.queues in
    let g = in_form r.queues fine.queues in (
      one_cells a b (longest_of s.queues) (longest_of r.queues) f.sized g.sized (longest_within s ok) (longest_within r fine) f.form g.form same,
      one_held a b (longest_of s.queues) (longest_of r.queues) f.sized g.sized (longest_within s ok) (longest_within r fine) f.form g.form same,
    )
