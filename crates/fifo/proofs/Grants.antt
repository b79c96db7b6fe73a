-- M-111, for every history from a fresh state: while a task waits for a FIFO semaphore there were fewer than p + 1 releases; with d
-- departures ahead it is granted by release p + 1 − d, by no other turn, and by then unless its claim was ended. By the equation of
-- places: a release grants it exactly if nobody is ahead.
-- Assumes nothing.
use Prim.Native.Nat.{ℕ, ◌+◌, ◌≤◌, ◌<◌}
use native.Mathlib.Omega.{arith}
use mathlib.Core.Path.{◌≡◌, refl, sym, subst, ap, ◌∙◌}
use mathlib.Core.Logic.{⊎_elim}
use mathlib.Core.Bool.{Bool, true, false}
use mathlib.Core.List.{List, [], ◌∷◌}
use lib.ListN.{length}
use borrow.Author.Tests.{lt-ltb, le-ltb, eq-eqb, ne_eqb}
use Rattle.scope.specs.declared.State.{State}
use Rattle.scope.specs.Statuses.{OK}
use Rattle.scope.specs.Lists.{has}
use Rattle.scope.specs.Replies.{Wake}
use Rattle.scope.specs.Fresh.{fresh_state}
use Rattle.laws.proofs.Branches.{true-false, true_or_false, eq_or_not, first_fails, second_decides}
use Rattle.histories.specs.History.{Event, after}
use Rattle.books.specs.Past.{Turn, past_of, is_answer_of}
use Rattle.books.specs.Waiting.{arrived_at, wakes, waiting, Ahead}
use Rattle.books.specs.Times.{wakes_as}
use Rattle.books.specs.Told.{GrantTold}
use Rattle.books.proofs.Members.{has_kept}
use Rattle.fifo.specs.Places.{found_ahead, ahead, releases_since, departed, its_release, is_its_release}
use Rattle.fifo.specs.Claims.{Fifo, FewerReleases, FewerByDepartures, GrantedExactly}
use Rattle.fifo.proofs.Grown.{turn_after}
use Rattle.fifo.proofs.Counting.{keep_none}
use Rattle.fifo.proofs.Leaving.{not_woken, one_woken, other_spared, grant_there, not_granted}
use Rattle.fifo.proofs.Places.{ahead_counted}

some_long : (xs : List ℕ) (u : ℕ) → has xs u ≡ true → 0 < length xs
some_long [] u b = absurd (true-false b refl)
some_long (x ∷ xs) u b = omega arith

-- the release that is its own, by how many are ahead
module _ (past : List Turn) (id t n : ℕ) (count : n + releases_since past id t + departed past id t ≡ found_ahead past t) where
  own : n ≡ 0 → is_its_release past id t ≡ true
  unfolding is_its_release
  own e = eq-eqb (releases_since past id t + 1) (its_release past id t) (omega (arith, count, e))

  not_own : 0 < n → is_its_release past id t ≡ false
  unfolding is_its_release
  not_own more = ne_eqb (releases_since past id t + 1) (its_release past id t) (λ e. omega (arith, count, more, e))

-- "For any history from a fresh state"
module _ (p : ℕ) (h : p ≤ 15) (xs : List Event) where
  abbrev now : State
  now = after (fresh_state p) xs

  abbrev past : List Turn
  past = past_of p xs

  -- "While it still waits, fewer than p + 1 releases there have been answered OK since."
  pub fewer_releases : FewerReleases past
  fewer_releases id t waits fifo = omega (arith, ahead_counted p h xs id t waits fifo)

  -- and fewer by those ahead that left ungranted
  pub fewer_by_departures : FewerByDepartures past
  fewer_by_departures id t waits fifo = omega (arith, ahead_counted p h xs id t waits fifo)

  module _ (x : Event) where
    abbrev y : Turn
    y = turn_after p xs x

    abbrev ws : List Wake
    ws = y.reply.wakes

    module _ (id t : ℕ) (waits : has (waiting past id) t ≡ true) (fifo : Fifo past id) where
      -- a release there grants one who joined before all others
      module _ (release : is_answer_of 12 id OK y ≡ true) where
        grant : GrantTold p past id ws
        grant = grant_there p h xs x id t waits release

        earlier : (u : ℕ) → has (waiting past id) u ≡ true → (u ≡ grant.task → ⊥) → arrived_at past grant.task < arrived_at past u
        earlier u b ne = subst (λ (f : Bool). Ahead f p past grant.task u) fifo (grant.first u b ne)

        mine : grant.task ≡ t → wakes_as OK (record { task = grant.task; status = OK } ∷ []) t ≡ is_its_release past id t
        mine e =
            let none : ahead past id t ≡ [] =
            keep_none _ (waiting past id)
            (λ u b. le-ltb (arrived_at past u) (arrived_at past t)
            (⊎_elim
            (λ d. omega (arith, ap (arrived_at past) d))
            (λ ne. omega (arith, earlier u b (λ d. ne (d ∙ e)), ap (arrived_at past) e))
            (eq_or_not u t))) in
            (one_woken grant.task t e).1
            ∙ sym (own past id t (length (ahead past id t)) (ahead_counted p h xs id t waits fifo) (ap (λ (l : List ℕ). length l) none))

        another's : (grant.task ≡ t → ⊥) → wakes_as OK (record { task = grant.task; status = OK } ∷ []) t ≡ is_its_release past id t
        another's ne =
            let some : has (ahead past id t) grant.task ≡ true =
            has_kept _ (waiting past id) grant.task grant.waited
            (lt-ltb (arrived_at past grant.task) (arrived_at past t) (earlier t waits (λ d. ne (sym d)))) in
            not_woken OK (record { task = grant.task; status = OK } ∷ []) t (other_spared grant.task t ne)
            ∙ sym (not_own past id t (length (ahead past id t)) (ahead_counted p h xs id t waits fifo) (some_long (ahead past id t) grant.task some))

        by_its_release : wakes_as OK ws t ≡ is_its_release past id t
        by_its_release = ap (λ (l : List Wake). wakes_as OK l t) grant.only ∙ ⊎_elim mine another's (eq_or_not grant.task t)

    -- "it is granted by release p + 1 − d counted from its joining", whatever turn comes next
    pub granted_exactly : GrantedExactly past y
    granted_exactly id t waits fifo =
        ⊎_elim
        (λ r. by_its_release id t waits fifo r ∙ sym (second_decides (is_answer_of 12 id OK y) (is_its_release past id t) r))
        (λ r. not_granted p h xs x id t waits r ∙ sym (first_fails (is_answer_of 12 id OK y) (is_its_release past id t) r))
        (true_or_false (is_answer_of 12 id OK y))
