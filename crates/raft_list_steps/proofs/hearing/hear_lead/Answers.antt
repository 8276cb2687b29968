use Rattle.raft_list_steps.proofs.LeadLemmas.{may_lead}
use Rattle.raft_list_steps.proofs.hearing.hear_lead.Goals as goal

pub returns-in-Some-clause-truth : goal.returns-in-Some-clause-truth
returns-in-Some-clause-truth c =
    may_lead c.args.list.now.notes c.hear_leader.new.list.notes c.args.node c.args.leading c.in-Some.leading c.args.written c.in-Some.is c.hear_leader.ensures.truth
