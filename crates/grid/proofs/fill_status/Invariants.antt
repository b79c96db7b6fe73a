-- The records that are left have the status of all.
use Rattle.std.proofs.Common.{◌≡◌, drop}
use Rattle.grid.specs.Filling.{fill_status}
use Rattle.grid.proofs.fill_status.Given as goal

abbrev pub invariant-loop-grant : goal.invariant-loop-grant
invariant-loop-grant l = fill_status (drop l.grant-index l.list) ≡ fill_status l.list
