-- A map in place: std has its step.
use Rattle.std.proofs.Common.{ℕ, List, [], set, arith, rules}
use Rattle.std.proofs.lemmas.List.{get_or_default}
use Rattle.std.proofs.lemmas.List.Edits.{map_over_more}
use Rattle.grid.proofs.clear_column.Goals as goal

pub loop-row-preserved : goal.loop-row-preserved
loop-row-preserved c =
    let rows = c.loop-row.invariant in (
      rows.0,
      search rules,
      map_over_more (λ (row : List ℕ). set row c.args.semaphore 0) _ _ _ _ (omega (arith, rows.0, c.loop-row-test.true)) rows.2
          (get_or_default c.loop-row.row-items c.loop-row.row-index [] _ (omega (arith, rows.1, c.loop-row-test.true))),
    )
