use Rattle.std.specs.Prelude.{suc}
use Rattle.raft_list_steps.proofs.EventLemmas.{hears, hears_ahead, hears_set_up}
use Rattle.raft_list_steps.proofs.hearing.hear.Goals as goal

pub returns-clause-hears : goal.returns-clause-hears
returns-clause-hears c =
    hears c.args.list.now.notes c.hear_set_up.new.list.notes c.hear_lead.new.list.notes c.hear_acceptance.new.list.notes c.args.report
    c.hear_set_up.ensures.truth c.hear_lead.ensures.truth c.hear_acceptance.ensures.truth

pub returns-clause-ahead : goal.returns-clause-ahead
returns-clause-ahead c =
    hears_ahead c.args.list.now.notes c.hear_set_up.new.list.notes c.hear_lead.new.list.notes c.hear_acceptance.new.list.notes c.args.report
    c.hear_set_up.ensures.truth c.hear_lead.ensures.truth c.hear_acceptance.ensures.truth

pub returns-clause-set_up : goal.returns-clause-set_up
returns-clause-set_up c =
    hears_set_up c.args.list.now.notes c.hear_set_up.new.list.notes c.hear_lead.new.list.notes c.hear_acceptance.new.list.notes c.args.report
    c.hear_set_up.ensures.truth c.hear_lead.ensures.truth c.hear_acceptance.ensures.truth

pub hear_lead-requires : goal.hear_lead-requires
hear_lead-requires c = c.hear_set_up.ensures.room 1 2 c.requires

pub hear_acceptance-requires : goal.hear_acceptance-requires
hear_acceptance-requires c = c.hear_lead.ensures.room 0 1 (c.hear_set_up.ensures.room 1 2 c.requires)

pub returns-clause-room : goal.returns-clause-room
returns-clause-room c =
    λ writes learns h.
    c.hear_acceptance.ensures.room writes learns (c.hear_lead.ensures.room writes (suc learns) (c.hear_set_up.ensures.room (suc writes) (suc (suc learns)) h))
