-- Books that the answers keep, of any table: a figure of each live object, what an answer adds to it and takes from it, and the first
-- figure that a creation gives. An answer leaves the table alone, or makes an object, or ends one, or moves one figure by what is
-- counted: each enters the books.
-- Assumes nothing.
use Prim.Native.Nat.{ℕ, ◌+◌, ◌<◌}
use mathlib.Core.Path.{◌≡◌, sym, subst, ap, ◌∙◌}
use mathlib.Core.Logic.{inl, inr, ⊎_elim}
use mathlib.Core.Bool.{Bool, true, false}
use mathlib.Core.List.{List}
use lib.ListN.{length, get_or, set}
use lib.Seq.{get_or-set_same}
use lib.Dec.{eqb}
use borrow.Author.Tests.{eqb-false}
use Rattle.scope.specs.declared.State.{State}
use Rattle.scope.specs.declared.Answer.{Answer}
use Rattle.scope.specs.declared.Found.TheVariants.{At}
use Rattle.scope.specs.Statuses.{OK}
use Rattle.scope.specs.Identifiers.{identifier, found}
use Rattle.laws.proofs.Branches.{true-false}
use Rattle.histories.specs.History.{Event}
use Rattle.histories.proofs.Answered.{Creates}
use Rattle.histories.proofs.Tables.{later_same, later_born, later_gone, born_found, came_kept, came_born, Booked, booked_none, booked_one}

pub record Account : Type 0 where
  pub serial : State → List ℕ
  pub live : State → List Bool
  pub figure : State → ℕ → ℕ
  pub plus : ℕ → Event → Answer → ℕ
  pub minus : ℕ → Event → Answer → ℕ
  -- the call that creates, and the figure of a new object
  pub create : ℕ
  pub first : Event → ℕ

-- what an answer enters: the books of the step, and what a creation leaves
pub record Entered (k : Account) (s : State) (x : Event) (a : Answer) : Type 0 where
  pub booked : Booked (k.serial s) (k.live s) (k.serial a.state) (k.live a.state) (k.figure s) (k.figure a.state)
      (λ id. k.plus id x a) (λ id. k.minus id x a) (λ id. Creates k.create id x a)
  pub made : (id : ℕ) → Creates k.create id x a
      → (i : ℕ) × (found (k.serial a.state) (k.live a.state) id ≡ At i) × (k.figure a.state i ≡ k.first x)

module _ (k : Account) (s : State) (x : Event) (a : Answer) where
  -- nothing is created: by the call, or by the status
  abbrev Unmade : Type 0
  Unmade = (id : ℕ) → Creates k.create id x a → ⊥

  pub other_call : (x.call ≡ k.create → ⊥) → Unmade
  other_call ne id c = ne c.called

  pub not_done : eqb a.status OK ≡ false → Unmade
  not_done e id c = eqb-false a.status OK e c.done

  -- nothing is counted of this identifier
  abbrev Uncounted : ℕ → Type 0
  Uncounted id = (k.plus id x a ≡ 0) × (k.minus id x a ≡ 0)

  -- the columns of the state are these
  abbrev Books : List ℕ → List Bool → Type 0
  Books serial live =
      Booked (k.serial s) (k.live s) serial live (k.figure s) (k.figure a.state) (λ id. k.plus id x a) (λ id. k.minus id x a)
      (λ id. Creates k.create id x a)

  so : {serial : List ℕ} {live : List Bool} → k.serial a.state ≡ serial → k.live a.state ≡ live → Books serial live
      → Books (k.serial a.state) (k.live a.state)
  so {serial} d e b = subst (λ (v : List ℕ). Books v (k.live a.state)) (sym d) (subst (Books serial) (sym e) b)

  -- figures other than object i's are as they were
  abbrev Others : ℕ → Type 0
  Others i = (j : ℕ) → (j ≡ i → ⊥) → k.figure a.state j ≡ k.figure s j

  -- the table is as it was
  pub enters_none : k.serial a.state ≡ k.serial s → k.live a.state ≡ k.live s → ((i : ℕ) → k.figure a.state i ≡ k.figure s i)
      → ((id : ℕ) → Uncounted id) → Unmade → Entered k s x a
  enters_none d e same nothing unmade =
      record {
        booked = so d e (booked_none (later_same (k.serial s) (k.live s)) nothing (λ i f g. same i) (λ id i f. inl f));
        made = λ id c. absurd (unmade id c);
      }

  -- object i is born, and the answer's value is its identifier
  pub enters_born : (i : ℕ) → i < length (k.serial s) → i < length (k.live s) → i < 64 → get_or (k.live s) i false ≡ false
      → k.serial a.state ≡ set (k.serial s) i (get_or (k.serial s) i 0 + 1) → k.live a.state ≡ set (k.live s) i true
      → Others i → k.figure a.state i ≡ k.first x → ((id : ℕ) → Uncounted id)
      → x.call ≡ k.create → a.status ≡ OK → get_or a.values 0 0 ≡ identifier (get_or (k.serial s) i 0 + 1) i → Entered k s x a
  enters_born i h l m free d e others start nothing at done value =
      record {
        booked = so d e
            (booked_none (later_born (k.serial s) (k.live s) i h) nothing
            (λ j f g. others j (λ z. true-false f (ap (λ (v : ℕ). get_or (k.live s) v false) z ∙ free)))
            (λ id j f. ⊎_elim inl (λ z. inr (record { called = at; done = done; value = value ∙ z })) (came_born (k.serial s) (k.live s) i h id j f)));
        made = λ id c. (
          i,
          rw (d, e, sym c.value, value) (born_found (k.serial s) (k.live s) i h l m),
          start,
        );
      }

  -- object i ends
  pub enters_gone : (i : ℕ) → i < length (k.live s) → k.serial a.state ≡ k.serial s → k.live a.state ≡ set (k.live s) i false
      → Others i → ((id : ℕ) → Uncounted id) → Unmade → Entered k s x a
  enters_gone i h d e others nothing unmade =
      let later = later_gone (k.serial s) (k.live s) i h in
      record {
        booked = so d e
            (booked_none later nothing
            (λ j f g. others j (λ z. true-false g (ap (λ (v : ℕ). get_or (set (k.live s) i false) v false) z ∙ get_or-set_same (k.live s) i false false h)))
            (λ id j f. inl (came_kept (k.serial s) (k.live s) later id j f)));
        made = λ id c. absurd (unmade id c);
      }

  -- the figure of the object that is named moves by what is counted
  pub enters_one : (id i : ℕ) → found (k.serial s) (k.live s) id ≡ At i → k.serial a.state ≡ k.serial s → k.live a.state ≡ k.live s
      → k.figure a.state i + k.minus id x a ≡ k.figure s i + k.plus id x a → Others i
      → ((y : ℕ) → (y ≡ id → ⊥) → Uncounted y) → Unmade → Entered k s x a
  enters_one id i names d e moves others nothing unmade =
      record {
        booked = so d e (booked_one (k.serial s) (k.live s) id i names moves others nothing);
        made = λ y c. absurd (unmade y c);
      }
