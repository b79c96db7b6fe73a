-- `rules::orders_kept`: each rule of orders and queues is asked by its function.
use Rattle.scope.specs.Rules.{keeps}
use Rattle.rules.proofs.Laws.{nine_kept}
use Rattle.rules.proofs.orders_kept.Goals as goal

pub returns : goal.returns
unfolding keeps
returns c =
    nine_kept _ _ _ _ _ _ _ _ _ _ _ _ _ _ _ _ _ _
    c.seats_right.ensures
    c.rings_right.ensures
    c.ready_order_right.ensures
    c.waits_right.ensures
    c.queues_sorted.ensures
    c.counts_right.ensures
    c.held_right.ensures
    c.starts_right.ensures
    c.running_right.ensures
