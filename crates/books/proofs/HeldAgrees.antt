-- The pools' table and the past agree: what is told of a pool that lives are its columns and its marks, and an identifier that
-- names no live pool has nothing held. Each answer keeps that: four calls change pools, each one pool, and the others neither side.
-- Assumes nothing.
use Prim.Native.Nat.{ℕ}
use native.Mathlib.Omega.{arith}
use mathlib.Core.Path.{◌≡◌, refl, sym, subst, ap, ◌∙◌}
use mathlib.Core.Logic.{◌⊎◌, inl, inr}
use mathlib.Core.Bool.{true, false}
use mathlib.Core.List.{List, [], ◌∷◌}
use lib.ListN.{length, get_or}
use Rattle.scope.specs.declared.Pools.{Pools}
use Rattle.scope.specs.declared.Found.{Found}
use Rattle.scope.specs.declared.Found.TheVariants.{At, Deleted, Invalid}
use Rattle.scope.specs.Identifiers.{identifier, found}
use Rattle.scope.specs.Pools.{pool_buffers, pool_row}
use Rattle.laws.proofs.Tables.{Names, found_names, found-identifier, identifier-found}
use Rattle.books.specs.Past.{Turn}
use Rattle.books.specs.Held.{address_in, length_in, size_in, is_forced, pool_lives, held, free_longer}
use Rattle.books.proofs.HeldMarks.{Listed}
use Rattle.books.proofs.HeldOrder.{Ranked, ranked_at, ranked_same}
use Rattle.books.proofs.HeldTurns.{Quiet, address_same, length_same, size_same, forced_same, lives_same, held_same}

-- the identifier names the live pool in slot i
abbrev pub NamedAt : Pools → ℕ → ℕ → Type 0
NamedAt p id i = found p.serial p.live id ≡ At i

-- what is told of pool id is what slot i holds
pub record Holds (p : Pools) (past : List Turn) (id i : ℕ) : Type 0 where
  pub lives : pool_lives past id ≡ true
  pub address : address_in past id ≡ get_or p.address i 0
  pub long : length_in past id ≡ get_or p.length i 0
  pub size : size_in past id ≡ get_or p.size i 0
  pub forced : is_forced past id ≡ get_or p.forced i false
  pub listed : Listed (get_or p.address i 0) (get_or p.size i 0) (pool_buffers p i) (get_or p.out i 0) (held past id)
  pub order : Ranked (get_or p.address i 0) (get_or p.size i 0) (pool_buffers p i) (get_or p.out i 0) (pool_row p i) (free_longer past id)

-- nothing is told of it
pub record Nothing (past : List Turn) (id : ℕ) : Type 0 where
  pub lives : pool_lives past id ≡ false
  pub held : Rattle.books.specs.Held.held past id ≡ []

pub record Agrees (p : Pools) (past : List Turn) : Type 0 where
  pub live : (id i : ℕ) → NamedAt p id i → Holds p past id i
  pub dead : (id : ℕ) → ((i : ℕ) → NamedAt p id i → ⊥) → Nothing past id

-- an identifier names a pool, or none
pub slot_or_none : (p : Pools) (id : ℕ) → ((i : ℕ) × NamedAt p id i) ⊎ ((i : ℕ) → NamedAt p id i → ⊥)
slot_or_none p id = go (found p.serial p.live id) refl
  where
    go : (o : Found) → found p.serial p.live id ≡ o → ((i : ℕ) × NamedAt p id i) ⊎ ((i : ℕ) → NamedAt p id i → ⊥)
    go (At i) e = inl (i, e)
    go Deleted e = inr (λ i d. let z : ◌≡◌ {A = ℕ} 0 1 = cc in omega arith)
    go Invalid e = inr (λ i d. let z : ◌≡◌ {A = ℕ} 0 1 = cc in omega arith)

-- a slot has one identifier
pub one_name : (p : Pools) (id jd i : ℕ) → NamedAt p id i → NamedAt p jd i → id ≡ jd
one_name p id jd i d e = found-identifier p.serial p.live id d ∙ sym (found-identifier p.serial p.live jd e)

-- a pool whose slot is still live with the same serial still has its name
pub still_named : (p q : Pools) (id j : ℕ) → NamedAt p id j → length q.serial ≡ length p.serial → get_or q.serial j 0 ≡ get_or p.serial j 0
    → get_or q.live j false ≡ true → NamedAt q id j
still_named p q id j e long same alive =
    let n : Names p.serial p.live id j = found_names p.serial p.live id e in
    subst (λ (y : ℕ). NamedAt q y j)
    (sym (found-identifier p.serial p.live id e ∙ ap (λ (y : ℕ). identifier y j) (sym same)))
    (identifier-found q.serial q.live j (omega (arith, n.below)) (omega (arith, n.slot)) alive (omega (arith, n.current, n.first)))

pub listed_at : (a b c d e f g h : ℕ) (l m : List ℕ) → a ≡ b → c ≡ d → e ≡ f → g ≡ h → l ≡ m → Listed b d f h m → Listed a c e g l
listed_at a b c d e f g h l m p q r s t x = rw (p, q, r, s, t) x

-- the same columns in two tables
pub record SameRow (p q : Pools) (i : ℕ) : Type 0 where
  pub address : get_or q.address i 0 ≡ get_or p.address i 0
  pub long : get_or q.length i 0 ≡ get_or p.length i 0
  pub size : get_or q.size i 0 ≡ get_or p.size i 0
  pub forced : get_or q.forced i false ≡ get_or p.forced i false
  pub out : get_or q.out i 0 ≡ get_or p.out i 0
  pub row : pool_row q i ≡ pool_row p i

-- a turn that is nothing to pool id
module _ (p q : Pools) (past : List Turn) (t : Turn) (id : ℕ) (quiet : Quiet id t) where
  pub holds_same : (i : ℕ) → SameRow p q i → Holds p past id i → Holds q (t ∷ past) id i
  holds_same i r h =
      record {
        lives = lives_same id t past quiet.made quiet.gone ∙ h.lives;
        address = address_same id t past quiet.made ∙ h.address ∙ sym r.address;
        long = length_same id t past quiet.made ∙ h.long ∙ sym r.long;
        size = size_same id t past quiet.made ∙ h.size ∙ sym r.size;
        forced = forced_same id t past quiet.made ∙ h.forced ∙ sym r.forced;
        listed =
            listed_at _ _ _ _ _ _ _ _ _ _ r.address r.size (rw (r.long, r.size)) r.out (held_same id t past quiet) h.listed;
        order =
            ranked_at _ _ _ _ _ _ _ _ (pool_row q i) (pool_row p i) (free_longer (t ∷ past) id) r.address r.size (rw (r.long, r.size)) r.out r.row
            (ranked_same (get_or p.address i 0) (get_or p.size i 0) (pool_buffers p i) (get_or p.out i 0) (pool_row p i) id t past quiet.made quiet.back h.order);
      }

  pub nothing_same : Nothing past id → Nothing (t ∷ past) id
  nothing_same n =
      record {
        lives = lives_same id t past quiet.made quiet.gone ∙ n.lives;
        held = held_same id t past quiet ∙ n.held;
      }
