-- `watching::play_records`: a turn plays the record at the place, and keeps its grants.
use Rattle.std.proofs.Common.{◌≡◌, ◌∙◌, ℕ, ◌+◌, ◌-◌, ◌*◌, get_or, ap, arith}
use Rattle.scope.specs.Views.{running_task}
use Rattle.scope.specs.Step.{answered}
use Rattle.scope.specs.Replies.{wakes_from}
use Rattle.answers.specs.Outcomes.{answer_shown}
use Rattle.grid.specs.Keeping.{kept}
use Rattle.watching.proofs.Laws.{goes}
use Rattle.watching.proofs.play_records.Goals as goal

pub loop-k-preserved : goal.loop-k-preserved
loop-k-preserved c =
    let l = c.loop-k in
    let first = c.begin-first.result in
    let r = c.read_record-request.result in
    let o = c.perform-outcome.result in
    let done : answer_shown c.perform-outcome.new.s c.perform-outcome.new.notices.wakes c.perform-outcome.new.notices.shown o ≡ answered l.s r.call r.mark r.a r.b r.c r.d r.e c.message_at-message.result = c.perform-outcome.ensures.0 in
    let is : c.keep-next.result ≡ kept l.g (running_task l.s) r.call r.a o.status (get_or o.values 0 0) (wakes_from o.woken 0 c.perform-outcome.new.notices.wakes o.why) =
    c.keep-next.ensures ∙ ap (λ (x : ℕ). kept l.g x r.call r.a o.status (get_or o.values 0 0) (wakes_from o.woken 0 c.perform-outcome.new.notices.wakes o.why)) c.running_of-caller.ensures in
    let one_less : first.left - (l.k + 1) ≡ first.left - l.k - 1 = omega arith in
    let further : first.at + 28 * (l.k + 1) ≡ first.at + 28 * l.k + 28 = omega arith in
    rw (one_less, further) (goes c.args.script.now.bytes.now l.s (first.left - l.k) (first.at + 28 * l.k) l.g l.invariant (omega (arith, c.loop-k-test.true)) r c.read_record-request.ensures c.message_at-message.result c.message_at-message.ensures
    c.perform-outcome.new.s c.perform-outcome.new.notices.wakes c.perform-outcome.new.notices.shown o done c.perform-outcome.ensures.1 c.keep-next.result is)
