-- `rows::may_of` meets its contract: the column is the paper's with each list of statuses turned into its set of bits, which antt computes for all rows at once.
use lib.ListN.{get_or-map}
use Rattle.rows.specs.Rows.{set_of}
use Rattle.scope.specs.Calls.{Call, calls, no_call}
use Rattle.rows.proofs.may_of.Goals as goal

pub returns : goal.returns
returns c = get_or-map (λ (x : Call). set_of x.statuses) calls c.args.call no_call
