-- The steps of a case without the test of the state at each: a fresh state is sound, and sound stays sound (crate histories), so the test
-- passes at every step of a script. It says the same.
-- Assumes nothing.
use Prim.Native.Nat.{ℕ, zero, suc, ◌+◌, ◌*◌}
use Prim.Native.String.{len}
use mathlib.Core.Path.{◌≡◌, refl, ap, ◌∙◌}
use mathlib.Core.Bool.{Bool, true, false, ◌&&◌}
use mathlib.Core.List.{List, [], ◌∷◌, ◌++◌}
use lib.ListN.{length}
use lib.Dec.{leb}
use borrow.Author.Tests.{leb-true}
use Rattle.scope.specs.declared.State.{State}
use Rattle.scope.specs.declared.Answer.{Answer}
use Rattle.scope.specs.Tasks.{last_priority}
use Rattle.scope.specs.Step.{answered, stepped}
use Rattle.scope.specs.Replies.{reply_of}
use Rattle.scope.specs.Fresh.{fresh_state}
use Rattle.scope.specs.Script.{number32, record_count, first_offset, first_priority, is_script, message_at, step_at}
use Rattle.scope.specs.Listing.{line_of, lines_from, refused_line, listing}
use Rattle.scope.proofs.Choice.{both_true}
use Rattle.histories.specs.Sound.{Sound}
use Rattle.histories.proofs.Meaning.{sound_right}
use Rattle.histories.proofs.Refusals.{stepped-sound}
use Rattle.histories.proofs.Stays.{sound_stays}
use Rattle.histories.proofs.Fresh.{fresh_sound}
use Rattle.cases.specs.Cases.{Case, script_of, text_bytes, same, all_pass}

pub quick_step : (s : State) → Sound s → (call mark a b c d e : ℕ) (m : List ℕ) → stepped s call mark a b c d e m ≡ answered s call mark a b c d e m
quick_step s ok call mark a b c d e m = stepped-sound s call mark a b c d e m (sound_right s ok)

-- the listing by such steps
unfoldable pub quick_at : List ℕ → ℕ → State → Answer
quick_at script at s =
    answered s (number32 script at) (number32 script (at + 4)) (number32 script (at + 8)) (number32 script (at + 12))
    (number32 script (at + 16)) (number32 script (at + 20)) (number32 script (at + 24)) (message_at script at)

unfoldable pub quick_lines : List ℕ → ℕ → ℕ → ℕ → State → List ℕ
quick_lines script zero k at s = []
quick_lines script (suc n) k at s =
    let a : Answer = quick_at script at s in
    line_of k (reply_of a) ++ quick_lines script n (suc k) (at + 28) a.state

unfoldable pub quick_listing : List ℕ → List ℕ
quick_listing script =
    elim (is_script script) [
      | true ↦ quick_lines script (record_count script) 1 (first_offset script) (fresh_state (first_priority script))
      | false ↦ refused_line
    ]

abbrev pub quick_pass : List Case → Bool
quick_pass [] = true
quick_pass (c ∷ cs) = same (quick_listing (script_of c)) (text_bytes c.lines (len c.lines) 0) && quick_pass cs

quick_lines_lem : (script : List ℕ) (n k at : ℕ) (s : State) → Sound s → lines_from script n k at s ≡ quick_lines script n k at s
unfolding lines_from quick_lines step_at quick_at
quick_lines_lem script zero k at s ok = refl
quick_lines_lem script (suc n) k at s ok =
    ap (λ (a : Answer). line_of k (reply_of a) ++ lines_from script n (suc k) (at + 28) a.state) (quick_step s ok _ _ _ _ _ _ _ (message_at script at))
    ∙ ap (λ (xs : List ℕ). line_of k (reply_of (quick_at script at s)) ++ xs)
    (quick_lines_lem script n (suc k) (at + 28) (quick_at script at s).state (sound_stays s ok _ _ _ _ _ _ _ (message_at script at)))

-- "Refused ..: .. priority above 15"
urgent : (script : List ℕ) → is_script script ≡ true → leb (first_priority script) last_priority ≡ true
unfolding is_script
urgent script e =
    let e₁ = (both_true (leb (length script) 65536) _ e).1 in
    let e₂ = (both_true (leb 16 (length script)) _ e₁).1 in
    let e₃ = (both_true (leb 16 (first_offset script)) _ e₂).1 in
    let e₄ = (both_true (leb (first_offset script + 28 * record_count script) (length script)) _ e₃).1 in
    (both_true (leb (first_priority script) last_priority) _ e₄).0

quick_listing_lem : (script : List ℕ) → listing script ≡ quick_listing script
unfolding listing quick_listing
quick_listing_lem script = go (is_script script) refl
  where
    start : State
    start = fresh_state (first_priority script)

    listed : Bool → List ℕ → List ℕ
    listed b xs = elim b as (λ y. List ℕ) [ true ↦ xs | false ↦ refused_line ]

    go : (b : Bool) → is_script script ≡ b
        → listed b (lines_from script (record_count script) 1 (first_offset script) start) ≡ listed b (quick_lines script (record_count script) 1 (first_offset script) start)
    go true e = quick_lines_lem script _ 1 _ start (fresh_sound _ (leb-true _ _ (urgent script e)))
    go false e = refl

pub quick_pass_lem : (cs : List Case) → all_pass cs ≡ quick_pass cs
quick_pass_lem [] = refl
quick_pass_lem (c ∷ cs) =
    ap (λ (xs : List ℕ). same xs (text_bytes c.lines (len c.lines) 0) && all_pass cs) (quick_listing_lem (script_of c))
    ∙ ap (λ (b : Bool). same (quick_listing (script_of c)) (text_bytes c.lines (len c.lines) 0) && b) (quick_pass_lem cs)
