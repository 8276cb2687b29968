-- The copy says what the request says.
use Rattle.std.proofs.Common.{refl, ap, ◌∙◌}
use Rattle.raft_group_step.specs.Message.{last_sent}
use Rattle.raft_member.proofs.messages.take_request.Goals as goal

pub returns-clause-heard : goal.returns-clause-heard
returns-clause-heard c = c.in_ok-_answer.ensures.heard

pub returns-clause-taken : goal.returns-clause-taken
returns-clause-taken c = λ x own at s moment may.
    (c.in_ok-_answer.ensures.taken x own at s _ moment
    (record { vote = refl; previous = refl; entries = c.in_ok-copies_of.ensures ∙ c.as_slice-2.ensures; committed = refl })
    (record { vote = refl; id = c.caller_id.ensures; previous = refl; last = c.last_sent.ensures ∙ ap (last_sent c.args.request.now.previous) c.as_slice.ensures })
    may).1
