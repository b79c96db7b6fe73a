-- Each answer keeps the pools' table and the past in agreement. A creation's pool has nothing held, a deletion's is gone, a get
-- puts its address on the list and a return takes it off; whatever else is answered is nothing to any pool.
-- Assumes nothing.
use Prim.Native.Nat.{ℕ, ◌+◌, ◌-◌, ◌*◌, ◌^◌, ◌≤◌, ◌<◌}
use native.Mathlib.Omega.{arith}
use mathlib.Core.Path.{◌≡◌, refl, sym, subst, ap, ◌∙◌}
use mathlib.Core.Logic.{⊎_elim}
use mathlib.Core.Bool.{true, false}
use mathlib.Core.List.{List, [], ◌∷◌}
use lib.ListN.{length, get_or, length-set}
use lib.Seq.{get_or-set_same, get_or-set_other}
use lib.Dec.{ltb, eqb}
use borrow.Author.Tests.{leb-false, ltb-true, not-false}
use Rattle.scope.specs.declared.State.{State}
use Rattle.scope.specs.declared.Answer.{Answer}
use Rattle.scope.specs.declared.Pools.{Pools}
use Rattle.scope.specs.Lists.{without}
use Rattle.scope.specs.Statuses.{OK}
use Rattle.scope.specs.Identifiers.{identifier, lowest_usable}
use Rattle.scope.specs.Areas.{is_area, is_size, buffers_of, is_out, is_free, buffer_address, buffer_at}
use Rattle.scope.specs.Places.{longest_free, first_leaves, joins_last, new_row, no_row}
use Rattle.scope.specs.Views.{with_pools}
use Rattle.scope.specs.Answers.{answer, plain, gives, bad_state, on_found}
use Rattle.scope.specs.Calls.{call_at}
use Rattle.scope.specs.Pools.{pool_found, pool_buffers, pool_row, pool_free, pool_born, pool_gone, with_out, pool_create_at, pool_create, pool_delete_at, pool_get_buffer, pool_get_buff_at, pool_ret_buffer, pool_ret_buff_at}
use Rattle.scope.proofs.Rows.{by_choice}
use Rattle.laws.proofs.Branches.{both_true, true-false, picked_yes, picked_no, eq_or_not}
use Rattle.scope.proofs.Places.{row_same, row_other, length_new}
use Rattle.scope.proofs.Gets.{on_place_lem}
use Rattle.laws.proofs.Tables.{found_names, found-live, found_slot, usable_at, usable_free}
use Rattle.laws.proofs.Areas.Buffers.{found_is}
use Rattle.laws.specs.Order.{Ordered}
use Rattle.laws.proofs.Orders.{leaves_ordered, joins_ordered}
use Rattle.histories.specs.Sound.{Sound}
use Rattle.histories.specs.History.{Event, answer_to}
use Rattle.histories.proofs.Pools.{row_says}
use Rattle.histories.proofs.Tables.{later_gone, came_kept, came_born, born_found}
use Rattle.histories.proofs.Answered.{by_name, by_number}
use Rattle.histories.proofs.Alone.{SamePools, pools_alone}
use Rattle.books.specs.Past.{Turn, is_answer_of, creates}
use Rattle.books.specs.Held.{held, free_longer}
use Rattle.books.proofs.HeldMarks.{Listed, listed_none, listed_get, listed_ret}
use Rattle.books.proofs.HeldOrder.{Ranked, ranked_at, ranked_new, ranked_get, ranked_ret}
use Rattle.books.proofs.HeldTurns.{turn_of, Quiet, is_answer_lem, not_call, is_of, not_answer, makes, not_makes, address_same, length_same, size_same, forced_same, lives_same, quiet_refused, quiet_call, quiet_other, quiet_create}
use Rattle.books.proofs.HeldAgrees.{NamedAt, Holds, Nothing, Agrees, SameRow, one_name, still_named, listed_at, holds_same, nothing_same}

module _ (s : State) (ok : Sound s) (past : List Turn) (agrees : Agrees s.pools past) (x : Event) where
  abbrev p : Pools
  p = s.pools

  abbrev Fair : Answer → Type 0
  Fair a = Agrees a.state.pools (turn_of x a ∷ past)

  -- nothing to any pool
  same : (a : Answer) → SamePools s a → ((id : ℕ) → Quiet id (turn_of x a)) → Fair a
  same a e quiet =
      subst (λ (q : Pools). Agrees q (turn_of x a ∷ past)) (sym e)
      (record {
        live = λ id i d. holds_same p p past (turn_of x a) id (quiet id) i row (agrees.live id i d);
        dead = λ id d. nothing_same p p past (turn_of x a) id (quiet id) (agrees.dead id d);
      })
    where
      row : {i : ℕ} → SameRow p p i
      row {i} = record { address = refl; long = refl; size = refl; forced = refl; out = refl; row = refl }

  plain_fair : (status : ℕ) → eqb status OK ≡ false → Fair (plain s status)
  unfolding plain answer
  plain_fair status not = same (plain s status) refl (λ id. quiet_refused id x (plain s status) not)

  bad_fair : Fair (bad_state s)
  unfolding bad_state
  bad_fair = same (bad_state s) refl (λ id. quiet_refused id x (bad_state s) refl)

  -- the slot that an identifier names
  slot : (id i : ℕ) → NamedAt p id i → i < 8
  slot id i e = omega (arith, (found_names p.serial p.live id e).below, ok.pools.sized.serials)

  -- slot i, where none lived, holds a new pool
  module _ (at : x.call ≡ 14) (area : is_area x.b x.c ≡ true) (sized : is_size x.c x.d ≡ true) (i : ℕ) (room : i < 8)
      (free : get_or p.live i false ≡ false) where
    abbrev born : Pools
    born = pool_born p i x.a x.b x.c x.d (eqb x.e 1)

    abbrev new : ℕ
    new = identifier (get_or p.serial i 0 + 1) i

    abbrev creation : Turn
    creation = turn_of x (gives (with_pools s born) new)

    new_named : NamedAt born new i
    new_named = born_found p.serial p.live i (omega (arith, ok.pools.sized.serials)) (omega (arith, ok.pools.sized.lives)) (omega arith)

    -- another slot's
    elsewhere : (id j : ℕ) → NamedAt p id j → j ≡ i → ⊥
    elsewhere id j e d = true-false (found-live p.serial p.live id e) (ap (λ (k : ℕ). get_or p.live k false) d ∙ free)

    not_new : (id j : ℕ) → NamedAt p id j → new ≡ id → ⊥
    not_new id j e d = elsewhere id j e (omega (arith, found_slot p.serial p.live id e))

    new_holds : (id : ℕ) → new ≡ id → Holds born (creation ∷ past) id i
    unfolding gives answer
    new_holds id e =
        let a : Answer = gives (with_pools s born) new in
        let m = makes 14 id creation (is_answer_lem 14 x a at refl) e in
        record {
          lives = picked_yes _ _ _ m;
          address = picked_yes _ _ _ m ∙ sym (get_or-set_same p.address i x.b 0 (omega (arith, ok.pools.sized.addresses)));
          long = picked_yes _ _ _ m ∙ sym (get_or-set_same p.length i x.c 0 (omega (arith, ok.pools.sized.lengths)));
          size = picked_yes _ _ _ m ∙ sym (get_or-set_same p.size i x.d 0 (omega (arith, ok.pools.sized.sizes)));
          forced = picked_yes _ _ _ m ∙ sym (get_or-set_same p.forced i (eqb x.e 1) false (omega (arith, ok.pools.sized.forceds)));
          listed =
              listed_at _ _ _ _ _ _ _ _ _ [] refl refl refl
              (get_or-set_same p.out i 0 0 (omega (arith, ok.pools.sized.outs)))
              (picked_no _ _ _ (not_answer 15 id creation (not_call 15 x a (λ d. omega arith)))
              ∙ picked_no _ _ _ (not_answer 17 id creation (not_call 17 x a (λ d. omega arith)))
              ∙ picked_no _ _ _ (not_answer 18 id creation (not_call 18 x a (λ d. omega arith)))
              ∙ (agrees.dead id (λ j d. not_new id j d e)).held)
              (listed_none _ _ _);
          order =
              ranked_at _ x.b _ x.d _ (buffers_of x.c x.d) _ 0 (pool_row born i) (new_row (buffers_of x.c x.d))
              (free_longer (creation ∷ past) id)
              (get_or-set_same p.address i x.b 0 (omega (arith, ok.pools.sized.addresses)))
              (get_or-set_same p.size i x.d 0 (omega (arith, ok.pools.sized.sizes)))
              (rw (get_or-set_same p.length i x.c 0 (omega (arith, ok.pools.sized.lengths)), get_or-set_same p.size i x.d 0 (omega (arith, ok.pools.sized.sizes))))
              (get_or-set_same p.out i 0 0 (omega (arith, ok.pools.sized.outs)))
              (row_same p.place i (omega (arith, ok.pools.sized.places)) (new_row (buffers_of x.c x.d)) (length_new _))
              (ranked_new x.b x.c x.d area sized id creation past m);
        }

    quiet_new : (id : ℕ) → (new ≡ id → ⊥) → Quiet id creation
    unfolding gives answer
    quiet_new id ne = quiet_create id x (gives (with_pools s born) new) at ne

    old_holds : (id j : ℕ) → NamedAt p id j → Holds born (creation ∷ past) id j
    old_holds id j e =
        let ne : j ≡ i → ⊥ = elsewhere id j e in
        holds_same p born past creation id (quiet_new id (not_new id j e)) j
        (record {
          address = get_or-set_other p.address i j x.b 0 ne;
          long = get_or-set_other p.length i j x.c 0 ne;
          size = get_or-set_other p.size i j x.d 0 ne;
          forced = get_or-set_other p.forced i j (eqb x.e 1) false ne;
          out = get_or-set_other p.out i j 0 0 ne;
          row =
              row_other p.place i (omega (arith, ok.pools.sized.places)) (new_row (buffers_of x.c x.d)) (length_new _) j
              (omega (arith, slot id j e, ok.pools.sized.places)) ne;
        })
        (agrees.live id j e)

    old_named : (id j : ℕ) → NamedAt p id j → NamedAt born id j
    old_named id j e =
        let ne : j ≡ i → ⊥ = elsewhere id j e in
        still_named p born id j e (length-set p.serial i (get_or p.serial i 0 + 1))
        (get_or-set_other p.serial i j (get_or p.serial i 0 + 1) 0 ne)
        (get_or-set_other p.live i j true false ne ∙ found-live p.serial p.live id e)

    born_agrees : Agrees born (creation ∷ past)
    born_agrees =
        record {
          live = λ id j e.
              ⊎_elim
              (λ d. old_holds id j d)
              (λ d. let k : i ≡ j = omega (arith, found_slot born.serial born.live id e) in
              subst (λ (n : ℕ). Holds born (creation ∷ past) id n) k (new_holds id d))
              (came_born p.serial p.live i (omega (arith, ok.pools.sized.serials)) id j e);
          dead = λ id d.
              nothing_same p born past creation id (quiet_new id (λ e. d i (subst (λ (y : ℕ). NamedAt born y i) e new_named)))
              (agrees.dead id (λ j e. d j (old_named id j e)));
        }

  -- the pool that the call names, in slot i
  module _ (i : ℕ) (names : NamedAt p x.a i) where
    -- another identifier is another slot's
    other_slot : (id j : ℕ) → NamedAt p id j → (x.a ≡ id → ⊥) → j ≡ i → ⊥
    other_slot id j e ne d = ne (one_name p x.a id i names (subst (λ (k : ℕ). NamedAt p id k) d e))

    own_slot : (id j : ℕ) → NamedAt p id j → x.a ≡ id → i ≡ j
    own_slot id j e d =
        omega (arith, found_slot p.serial p.live id e, found_slot p.serial p.live x.a names)

    -- it is deleted
    module _ (at : x.call ≡ 15) where
      abbrev gone : Pools
      gone = pool_gone p i

      abbrev deletion : Turn
      deletion = turn_of x (plain (with_pools s gone) OK)

      gone_held : Nothing (deletion ∷ past) x.a
      unfolding plain answer
      gone_held =
          let a : Answer = plain (with_pools s gone) OK in
          let d = is_of 15 x.a deletion (is_answer_lem 15 x a at refl) refl in
          record {
            lives = picked_no _ _ _ (not_makes 14 x.a deletion (not_call 14 x a (λ e. omega arith))) ∙ picked_yes _ _ _ d;
            held = picked_yes _ _ _ d;
          }

      was_named : (id j : ℕ) → NamedAt gone id j → NamedAt p id j
      was_named id j e =
          came_kept p.serial p.live (later_gone p.serial p.live i (omega (arith, slot x.a i names, ok.pools.sized.lives))) id j e

      not_own : (id j : ℕ) → NamedAt gone id j → x.a ≡ id → ⊥
      not_own id j e d =
          true-false
          (ap (λ (k : ℕ). get_or gone.live k false) (own_slot id j (was_named id j e) d) ∙ found-live gone.serial gone.live id e)
          (get_or-set_same p.live i false false (omega (arith, slot x.a i names, ok.pools.sized.lives)))

      gone_agrees : Agrees gone (deletion ∷ past)
      gone_agrees =
          record {
            live = λ id j e.
                let b : NamedAt p id j = was_named id j e in
                let ne : j ≡ i → ⊥ = other_slot id j b (not_own id j e) in
                holds_same p gone past deletion id (quiet id (not_own id j e)) j
                (record {
                  address = get_or-set_other p.address i j 0 0 ne;
                  long = get_or-set_other p.length i j 0 0 ne;
                  size = get_or-set_other p.size i j 0 0 ne;
                  forced = get_or-set_other p.forced i j false false ne;
                  out = get_or-set_other p.out i j 0 0 ne;
                  row =
                      row_other p.place i (omega (arith, slot x.a i names, ok.pools.sized.places)) no_row refl j
                      (omega (arith, slot id j b, ok.pools.sized.places)) ne;
                })
                (agrees.live id j b);
            dead = λ id d.
                ⊎_elim
                (λ e. subst (Nothing (deletion ∷ past)) e gone_held)
                (λ ne. nothing_same p gone past deletion id (quiet id ne) (agrees.dead id (λ j e. d j (still id j e ne))))
                (eq_or_not x.a id);
          }
        where
          quiet : (id : ℕ) → (x.a ≡ id → ⊥) → Quiet id deletion
          quiet id ne = quiet_other id x (plain (with_pools s gone) OK) (λ e. omega arith) ne

          still : (id j : ℕ) → NamedAt p id j → (x.a ≡ id → ⊥) → NamedAt gone id j
          still id j e ne =
              still_named p gone id j e refl refl
              (get_or-set_other p.live i j false false (other_slot id j e ne) ∙ found-live p.serial p.live id e)

    -- its marks change, and its list with them
    module _ (marks : ℕ) (places : List ℕ) (wide : length places ≡ 64) (t : Turn) (quiet : (id : ℕ) → (x.a ≡ id → ⊥) → Quiet id t) (made : creates 14 x.a t ≡ false)
        (gone : is_answer_of 15 x.a OK t ≡ false)
        (listed : Listed (get_or p.address i 0) (get_or p.size i 0) (pool_buffers p i) marks (held (t ∷ past) x.a))
        (ranked : Ranked (get_or p.address i 0) (get_or p.size i 0) (pool_buffers p i) marks places (free_longer (t ∷ past) x.a)) where
      abbrev changed : Pools
      changed = with_out p i marks places

      fits : i * 64 + 64 ≤ length p.place
      fits = omega (arith, slot x.a i names, ok.pools.sized.places)

      marks_hold : Holds changed (t ∷ past) x.a i
      marks_hold =
          let h : Holds p past x.a i = agrees.live x.a i names in
          record {
            lives = lives_same x.a t past made gone ∙ h.lives;
            address = address_same x.a t past made ∙ h.address;
            long = length_same x.a t past made ∙ h.long;
            size = size_same x.a t past made ∙ h.size;
            forced = forced_same x.a t past made ∙ h.forced;
            listed =
                listed_at _ _ _ _ _ _ _ _ _ _ refl refl refl
                (get_or-set_same p.out i marks 0 (omega (arith, slot x.a i names, ok.pools.sized.outs)))
                refl listed;
            order =
                ranked_at _ _ _ _ _ _ _ marks (pool_row changed i) places (free_longer (t ∷ past) x.a) refl refl refl
                (get_or-set_same p.out i marks 0 (omega (arith, slot x.a i names, ok.pools.sized.outs)))
                (row_same p.place i fits places wide) ranked;
          }

      marks_agree : Agrees changed (t ∷ past)
      marks_agree =
          record {
            live = λ id j e.
                ⊎_elim
                (λ d. subst (λ (y : ℕ). Holds changed (t ∷ past) y j) d
                (subst (λ (k : ℕ). Holds changed (t ∷ past) x.a k) (own_slot id j e d) marks_hold))
                (λ ne. holds_same p changed past t id (quiet id ne) j
                (record {
                  address = refl;
                  long = refl;
                  size = refl;
                  forced = refl;
                  out = get_or-set_other p.out i j marks 0 (other_slot id j e ne);
                  row = row_other p.place i fits places wide j (omega (arith, slot id j e, ok.pools.sized.places)) (other_slot id j e ne);
                })
                (agrees.live id j e))
                (eq_or_not x.a id);
            dead = λ id d.
                nothing_same p changed past t id (quiet id (λ e. d i (subst (λ (y : ℕ). NamedAt p y i) e names))) (agrees.dead id d);
          }

    abbrev out : ℕ
    out = get_or p.out i 0

    abbrev buffer_of : ℕ → ℕ
    buffer_of = buffer_address (get_or p.address i 0) (get_or p.size i 0)

    row : (is_area (get_or p.address i 0) (get_or p.length i 0) ≡ true) × (is_size (get_or p.length i 0) (get_or p.size i 0) ≡ true) × (out < 2 ^ pool_buffers p i)
    row = row_says p ok.pools i (slot x.a i names) (found-live p.serial p.live x.a names)

    abbrev places : List ℕ
    places = pool_row p i

    ordered : Ordered places out (pool_buffers p i)
    ordered = ok.pools.orders i (slot x.a i names)

    -- buffer k, which was free, is got
    module _ (at : x.call ≡ 17) (k : ℕ) (below : k < pool_buffers p i) (free : is_free out k ≡ true) (first : get_or places k 0 ≡ 1) where
      abbrev got : Answer
      got = gives (with_pools s (with_out p i (out + 2 ^ k) (first_leaves places))) (buffer_of k)

      got-held : held (turn_of x got ∷ past) x.a ≡ buffer_of k ∷ held past x.a
      unfolding gives answer
      got-held =
          picked_no _ _ _ (not_answer 15 x.a (turn_of x got) (not_call 15 x got (λ e. omega arith)))
          ∙ picked_yes _ _ _ (is_of 17 x.a (turn_of x got) (is_answer_lem 17 x got at refl) refl)

      got_agrees : Fair got
      unfolding gives answer
      got_agrees =
          marks_agree (out + 2 ^ k) (first_leaves places) (leaves_ordered ordered k first).long (turn_of x got) (λ id ne. quiet_other id x got (λ e. omega arith) ne)
          (not_makes 14 x.a (turn_of x got) (not_call 14 x got (λ e. omega arith)))
          (not_answer 15 x.a (turn_of x got) (not_call 15 x got (λ e. omega arith)))
          (listed_at _ _ _ _ _ _ _ _ _ _ refl refl refl refl got-held
          (listed_get _ (get_or p.length i 0) _ row.0 row.1 out (held past x.a) (agrees.live x.a i names).listed k below free))
          (ranked_get _ (get_or p.length i 0) _ row.0 row.1 out places ordered x.a (turn_of x got) past (agrees.live x.a i names).order
          (not_makes 14 x.a (turn_of x got) (not_call 14 x got (λ e. omega arith)))
          k first free
          (not_answer 18 x.a (turn_of x got) (not_call 18 x got (λ e. omega arith))))

    -- buffer k, which was out, is returned by its address
    module _ (at : x.call ≡ 18) (k : ℕ) (below : k < pool_buffers p i) (marked : is_out out k ≡ true) (named : buffer_of k ≡ x.b) where
      abbrev returned : Answer
      returned = plain (with_pools s (with_out p i (out - 2 ^ k) (joins_last places (pool_free p i) k))) OK

      returned-held : held (turn_of x returned ∷ past) x.a ≡ without (buffer_of k) (held past x.a)
      unfolding plain answer
      returned-held =
          picked_no _ _ _ (not_answer 15 x.a (turn_of x returned) (not_call 15 x returned (λ e. omega arith)))
          ∙ picked_no _ _ _ (not_answer 17 x.a (turn_of x returned) (not_call 17 x returned (λ e. omega arith)))
          ∙ picked_yes _ _ _ (is_of 18 x.a (turn_of x returned) (is_answer_lem 18 x returned at refl) refl)
          ∙ ap (λ (y : ℕ). without y (held past x.a)) (sym named)

      returned_agrees : Fair returned
      unfolding plain answer
      returned_agrees =
          marks_agree (out - 2 ^ k) (joins_last places (pool_free p i) k) (joins_ordered ordered k below marked).long (turn_of x returned) (λ id ne. quiet_other id x returned (λ e. omega arith) ne)
          (not_makes 14 x.a (turn_of x returned) (not_call 14 x returned (λ e. omega arith)))
          (not_answer 15 x.a (turn_of x returned) (not_call 15 x returned (λ e. omega arith)))
          (listed_at _ _ _ _ _ _ _ _ _ _ refl refl refl refl returned-held
          (listed_ret _ (get_or p.length i 0) _ row.0 row.1 out (held past x.a) (agrees.live x.a i names).listed k below marked))
          (ranked_ret _ (get_or p.length i 0) _ row.0 row.1 out places ordered x.a (turn_of x returned) past (agrees.live x.a i names).order
          (not_makes 14 x.a (turn_of x returned) (not_call 14 x returned (λ e. omega arith)))
          k below marked
          (is_of 18 x.a (turn_of x returned) (is_answer_lem 18 x returned at refl) refl)
          named)

    gone_fair : x.call ≡ 15 → Fair (plain (with_pools s (pool_gone p i)) OK)
    unfolding plain answer
    gone_fair at = gone_agrees at

    -- each call on a pool, by its choices
    delete_at : x.call ≡ 15 → Fair (pool_delete_at s i)
    unfolding pool_delete_at
    delete_at at = by_choice Fair _ (λ e. plain_fair _ refl) (λ e. gone_fair at)

    get_at : x.call ≡ 17 → Fair (pool_get_buff_at s i)
    unfolding pool_get_buff_at pool_get_buffer
    get_at at =
        by_choice Fair _ (λ e. plain_fair _ refl)
        (λ e. let k : ℕ = longest_free places in
        let b = both_true (ltb k (pool_buffers p i)) (is_free out k) (not-false _ e) in
        let l : k < pool_buffers p i = ltb-true k (pool_buffers p i) b.0 in
        got_agrees at k l b.1 (on_place_lem places 1 (omega (arith, l, ordered.few))))

    -- the buffer that an address names, where it is out
    abbrev at_address : ℕ
    at_address = buffer_at (get_or p.address i 0) (get_or p.size i 0) (pool_buffers p i) x.b

    address_is : at_address < 64 → (at_address < pool_buffers p i) × (buffer_of at_address ≡ x.b)
    address_is h = found_is _ (get_or p.length i 0) _ row.0 row.1 (pool_buffers p i) (omega arith) x.b h

    ret_at : x.call ≡ 18 → Fair (pool_ret_buff_at s x.b i)
    unfolding pool_ret_buff_at pool_ret_buffer
    ret_at at =
        by_choice Fair _ (λ e. plain_fair _ refl)
        (λ e. let b = both_true (ltb at_address 64) (is_out out at_address) (not-false _ e) in
        let f = address_is (ltb-true at_address 64 b.0) in
        returned_agrees at at_address f.0 b.1 f.1)

  lowest_free : lowest_usable p.serial p.live < 8 → get_or p.live (lowest_usable p.serial p.live) false ≡ false
  lowest_free h = usable_free p.serial p.live _ (usable_at p.serial p.live (omega (arith, h, ok.pools.sized.serials)))

  born_fair : (at : x.call ≡ 14) → is_area x.b x.c ≡ true → is_size x.c x.d ≡ true → (i : ℕ) (room : i < 8) → get_or p.live i false ≡ false
      → Fair (gives (with_pools s (pool_born p i x.a x.b x.c x.d (eqb x.e 1))) (identifier (get_or p.serial i 0 + 1) i))
  unfolding gives answer
  born_fair at area sized i room free = born_agrees at area sized i room free

  create_at : x.call ≡ 14 → is_area x.b x.c ≡ true → is_size x.c x.d ≡ true → (i : ℕ) → (i < 8 → get_or p.live i false ≡ false) → Fair (pool_create_at s x.a x.b x.c x.d x.e i)
  unfolding pool_create_at
  create_at at area sized i free =
      by_choice Fair _ (λ e. plain_fair _ refl)
      (λ e. by_choice Fair _ (λ f. plain_fair _ refl) (λ f. let h : i < 8 = leb-false 8 i e in born_fair at area sized i h (free h)))

  create_fair : x.call ≡ 14 → Fair (pool_create s x.a x.b x.c x.d x.e)
  unfolding pool_create
  create_fair at =
      by_choice Fair _ (λ e. plain_fair _ refl)
      (λ e. by_choice Fair _ (λ f. plain_fair _ refl)
      (λ f. by_choice Fair _ (λ g. plain_fair _ refl) (λ g. create_at at (not-false _ e) (not-false _ f) _ lowest_free)))

  -- every answer keeps the agreement
  pub turn_agrees : Agrees (answer_to s x).state.pools (turn_of x (answer_to s x) ∷ past)
  turn_agrees =
      ⊎_elim (λ e. own 14 e (create_fair e))
      (λ n14. ⊎_elim (λ e. own 15 e (named (pool_delete_at s) (λ i d. delete_at i d e)))
      (λ n15. ⊎_elim (λ e. own 17 e (named (pool_get_buff_at s) (λ i d. get_at i d e)))
      (λ n17. ⊎_elim (λ e. own 18 e (named (pool_ret_buff_at s x.b) (λ i d. ret_at i d e)))
      (λ n18. same (answer_to s x) (pools_alone s x (n14, n15, n17, n18)) (λ id. quiet_call id x (answer_to s x) n14 n15 n17 n18))
      (eq_or_not x.call 18))
      (eq_or_not x.call 17))
      (eq_or_not x.call 15))
      (eq_or_not x.call 14)
    where
      own : (k : ℕ) → x.call ≡ k → Fair ((call_at k).does s x.a x.b x.c x.d x.e x.message) → Fair (answer_to s x)
      own k e does = by_number Fair s plain_fair x k e bad_fair does

      named : (f : ℕ → Answer) → ((i : ℕ) → NamedAt p x.a i → Fair (f i)) → Fair (on_found (pool_found s x.a) s f)
      named f g = by_name Fair s plain_fair (pool_found s x.a) f g
