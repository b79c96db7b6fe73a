-- `rows::who_of` meets its contract: the column is the paper's, which antt computes for all rows at once.
use lib.ListN.{get_or-map}
use Rattle.scope.specs.Calls.{Call, calls, no_call}
use Rattle.rows.proofs.who_of.Goals as goal

pub returns : goal.returns
returns c = get_or-map (λ (x : Call). x.who) calls c.args.call no_call
