-- Each command is noted behind those before it.
use Rattle.std.proofs.Common.{refl, sym, ap, ◌∙◌, subst}
use Rattle.raft_executor.specs.SendingTimes.{noted_time, sent_at, time_after}
use Rattle.raft_executor.proofs.sending_times.SendingTimes.note_sent.Goals as goal

pub loop-command-init : goal.loop-command-init
loop-command-init g c = λ n. rw c.iter_commands-left.ensures refl

pub loop-command-preserved : goal.loop-command-preserved
loop-command-preserved g c = λ n.
    let moment = c.args.moment in
    ap (λ before. time_after n moment c.next.new.self before) (c.in_ok-note_command.ensures n)
    ∙ ap (λ left. time_after n moment left (sent_at c.loop-command.self n)) (sym c.in-Some.ensures.steps)
    ∙ c.loop-command.invariant n

pub returns : goal.returns
returns g c = λ n.
    ap (λ left. time_after n c.args.moment left (sent_at c.loop-command.self n)) (sym c.in_default.ensures.steps.0) ∙ c.loop-command.invariant n
