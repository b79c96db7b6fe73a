-- `checking::is_sound`: each part is asked by its function.
use Rattle.checking.proofs.Laws.{sound_parts}
use Rattle.checking.proofs.is_sound.Goals as goal

pub returns : goal.returns
returns c =
    sound_parts c.args.s.now _ _ _ _ _ _
    c.orders_kept.ensures
    c.tasks_right.ensures
    c.sems_right.ensures
    c.queues_right.ensures
    c.all_in_form.ensures
    c.pools_kept.ensures
