-- The pools' books of every history from a fresh state, told by its answers: the table and the past agree from the start, and
-- each answer keeps that.
-- Assumes nothing.
use Prim.Native.Nat.{ℕ, ◌+◌, ◌≤◌, ◌<◌}
use native.Mathlib.Omega.{arith}
use mathlib.Core.Path.{◌≡◌, refl, sym, ◌∙◌}
use mathlib.Core.Logic.{⊎_elim}
use mathlib.Core.Bool.{true, false}
use mathlib.Core.List.{List, [], ◌∷◌}
use lib.ListN.{length, get_or, get_or-eq_default}
use lib.Dec.{leb}
use borrow.Author.Tests.{leb-true}
use Rattle.scope.specs.declared.State.{State}
use Rattle.scope.specs.declared.Pools.{Pools}
use Rattle.scope.specs.declared.Found.TheVariants.{At}
use Rattle.scope.specs.Statuses.{OK}
use Rattle.scope.specs.Lists.{has}
use Rattle.scope.specs.Replies.{Reply, reply_of}
use Rattle.scope.specs.Identifiers.{identifier, found}
use Rattle.scope.specs.Rules.{pool_right}
use Rattle.scope.specs.Fresh.{fresh_state}
use Rattle.laws.proofs.Branches.{both_true, true-false, picked_yes, lt_or_le}
use Rattle.laws.proofs.Tables.{identifier-found}
use Rattle.histories.specs.Sound.{PoolsSound, Sound}
use Rattle.histories.specs.History.{Event, answer_to, after, PoolAt}
use Rattle.histories.proofs.Fresh.{fresh_sound}
use Rattle.histories.proofs.Ledger.{event_keeps}
use Rattle.histories.proofs.Demand.{end_sound, no_pool, buffers_of_history}
use Rattle.histories.specs.Books.{buffers_out}
use Rattle.books.specs.Past.{Turn, past_from, past_of}
use Rattle.books.specs.Held.{size_in, is_forced, pool_lives, held, gets, returns}
use Rattle.books.proofs.HeldTurns.{turn_of}
use Rattle.books.proofs.HeldAgrees.{Holds, Nothing, Agrees, slot_or_none}
use Rattle.books.proofs.HeldSteps.{turn_agrees}
use Rattle.books.proofs.HeldTold.{held_apart, info_told, longest_told, not_held, names_held, none_held}
use Rattle.books.proofs.HeldCounts.{gets_told, returns_told}
use Rattle.books.specs.Told.{PoolInfoTold, GetTold}

-- a history keeps the agreement
history_agrees : (s : State) → Sound s → (past : List Turn) → Agrees s.pools past → (xs : List Event) → Agrees (after s xs).pools (past_from past s xs)
history_agrees s ok past agrees [] = agrees
history_agrees s ok past agrees (x ∷ xs) =
    history_agrees (answer_to s x).state (event_keeps s ok x) (turn_of x (answer_to s x) ∷ past) (turn_agrees s ok past agrees x) xs

-- the identifier of slot i's latest pool
abbrev pub pool_id : State → ℕ → ℕ
pool_id s i = identifier (get_or s.pools.serial i 0) i

-- which names it while it lives
slot_named : (q : Pools) → PoolsSound q → (i : ℕ) → get_or q.live i false ≡ true → found q.serial q.live (identifier (get_or q.serial i 0) i) ≡ At i
unfolding pool_right
slot_named q sound i alive =
    let room : i < 8 =
    ⊎_elim (λ l. l) (λ l. absurd (true-false alive (get_or-eq_default q.live false (omega (arith, sound.sized.lives))))) (lt_or_le i 8) in
    let r = sym (picked_yes (get_or q.live i false) _ _ alive) ∙ sound.each i room in
    identifier-found q.serial q.live i (omega (arith, sound.sized.serials)) (omega arith) alive
    (leb-true 1 (get_or q.serial i 0) (both_true (leb 1 (get_or q.serial i 0)) _ r).0)

-- What is told of the pools of a state: an identifier that lives by the past names a pool of it, whose columns and marks are told;
-- of any other nothing is held.
pub record MarksTold (s : State) (past : List Turn) : Type 0 where
  pub named : (i : ℕ) → get_or s.pools.live i false ≡ true → PoolAt s (pool_id s i) i
  pub lives : (id : ℕ) → pool_lives past id ≡ true → (i : ℕ) × PoolAt s id i
  pub live : (id i : ℕ) → PoolAt s id i → Holds s.pools past id i
  pub dead : (id : ℕ) → ((i : ℕ) → PoolAt s id i → ⊥) → Nothing past id

-- "For any history from a fresh state"
module _ (p : ℕ) (h : p ≤ 15) (xs : List Event) where
  abbrev now : State
  now = after (fresh_state p) xs

  abbrev past : List Turn
  past = past_of p xs

  end_agrees : Agrees now.pools past
  end_agrees =
      history_agrees (fresh_state p) (fresh_sound p h) []
      (record { live = λ id i e. absurd (no_pool p id i e); dead = λ id d. record { lives = refl; held = refl } })
      xs

  now_sound : Sound now
  now_sound = end_sound p h xs

  -- the state's marks say what the history tells
  pub marks_told : MarksTold now past
  marks_told =
      record {
        named = λ i alive. slot_named now.pools now_sound.pools i alive;
        lives = λ id e.
            ⊎_elim (λ n. n) (λ d. absurd (true-false e (end_agrees.dead id d).lives)) (slot_or_none now.pools id);
        live = end_agrees.live;
        dead = end_agrees.dead;
      }

  -- "In live pools, buffers out = gets - returns answered OK"
  pub held_number : (id : ℕ) → pool_lives past id ≡ true → length (held past id) + returns past id ≡ gets past id
  unfolding buffers_out
  held_number id e =
      let n : (i : ℕ) × PoolAt now id i = marks_told.lives id e in
      omega (
        arith,
        (end_agrees.live id n.0 n.1).listed.count,
        buffers_of_history p h xs id n.0 n.1,
        gets_told (fresh_state p) xs id,
        returns_told (fresh_state p) xs id,
      )

  -- "and no two buffers out share a byte (pools deleted by force aside)": of a pool that was deleted nothing is held
  pub no_two_owners_told : (id jd x y byte : ℕ) → has (held past id) x ≡ true → has (held past jd) y ≡ true → (id ≡ jd → x ≡ y → ⊥)
      → x ≤ byte → byte < x + size_in past id → y ≤ byte → byte < y + size_in past jd → ⊥
  no_two_owners_told = held_apart now now_sound past end_agrees

  -- the next call's reply
  module _ (x : Event) where
    abbrev reply : Reply
    reply = reply_of (answer_to now x)

    -- "pool_info gives buffers, free, size, options"
    pub pool_info_told : x.call ≡ 19 → reply.status ≡ OK → PoolInfoTold past x.a reply.values
    pool_info_told = info_told now now_sound past end_agrees x

    -- M-103: a get answers the address of the pool's own buffer that, of those not held, has been free longest, and of no pool is that
    -- address held
    pub get_told : x.call ≡ 17 → reply.status ≡ OK → GetTold past x.a (get_or reply.values 0 0)
    get_told at done =
        record {
          first = longest_told now now_sound past end_agrees x at done;
          unheld = not_held now now_sound past end_agrees x at done;
        }

    -- a return answered OK names a buffer that is held
    pub return_told : x.call ≡ 18 → reply.status ≡ OK → has (held past x.a) x.b ≡ true
    return_told = names_held now now_sound past end_agrees x

    -- "buffers out, not FORCED_DELETE" is refused
    pub delete_told : x.call ≡ 15 → reply.status ≡ OK → is_forced past x.a ≡ false → held past x.a ≡ []
    delete_told = none_held now now_sound past end_agrees x
