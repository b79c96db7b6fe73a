-- One record more, one round more, and the whole.
-- Assumes nothing.
use Rattle.std.proofs.Common.{ℕ, suc, ◌≡◌, ◌+◌, ◌-◌, ◌∙◌, List, add-one, refl, sym, subst}
use Rattle.scope.specs.declared.State.{State}
use Rattle.scope.specs.declared.Fresh.{Fresh}
use Rattle.scope.specs.Fresh.{fresh}
use Rattle.scope.specs.Views.{running_task}
use Rattle.answers.specs.declared.Outcome.{Outcome}
use Rattle.scope.specs.declared.Request.{Request}
use Rattle.mixing.specs.declared.Head.{Head}
use Rattle.mixing.specs.declared.Lent.{Lent}
use Rattle.mixing.specs.Mixes.{head_of, mix_record, summed_with}
use Rattle.mixing.specs.Playing.{Plays, ready, Repeats, Played}

module _ (Step : Lent → Request → Outcome → Lent → Type 0) (file : List ℕ) where
  pub plays_none : (k n : ℕ) (t : Lent) (sum : ℕ) → n ≡ 0 → Plays Step file k n t sum t sum
  plays_none k n t sum e = rw e (refl, refl)

  pub plays_more : (k n n' : ℕ) (t : Lent) (sum : ℕ) (u : Lent) (m : ℕ) (o : Outcome) (t' : Lent) (sum' : ℕ) (r : Request) → n' ≡ n + 1
      → Plays Step file k n t sum u m → r ≡ mix_record file (k + n) → Step u r o t' → sum' ≡ summed_with m o (running_task t'.state) t'.notices.wakes
      → Plays Step file k n' t sum t' sum'
  plays_more k n n' t sum u m o t' sum' r e p is s h = rw (e ∙ add-one n) (u, m, o, p, subst (λ (x : Request). Step u x o t') is s, h)

  pub repeats_more : (head : Head) (n : ℕ) (again : State) (sum m sum' : ℕ) (t : Lent) → Repeats Step file head n again sum m
      → Plays Step file head.first (head.count - head.first) (ready again) m t sum' → Repeats Step file head (n + 1) again sum sum'
  repeats_more head n again sum m sum' t p q = rw (add-one n) (m, t, p, q)

  pub played : (head : Head) (n d : ℕ) (s : State) (left : Lent) (m sum : ℕ) → head ≡ head_of file → s ≡ (fresh 5).state → d ≡ head.first → n ≡ head.rounds
      → Plays Step file 0 d (ready s) 0 left m → Repeats Step file head n left.state m sum → Played Step file sum
  played head n d s left m sum e f g h p q =
      record {
        left = left;
        so_far = m;
        part = subst (λ (x : State). Plays Step file 0 (head_of file).first (ready x) 0 left m) f
            (subst (λ (x : Head). Plays Step file 0 x.first (ready s) 0 left m) e (subst (λ (x : ℕ). Plays Step file 0 x (ready s) 0 left m) g p));
        rest = subst (λ (x : Head). Repeats Step file x x.rounds left.state m sum) e (subst (λ (x : ℕ). Repeats Step file head x left.state m sum) h q);
      }
