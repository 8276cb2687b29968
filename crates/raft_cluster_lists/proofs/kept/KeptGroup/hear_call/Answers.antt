use Rattle.std.specs.Prelude.{◌≡◌, ℕ, Option, Some, None, refl}
use Rattle.std.proofs.Common.{sym, ap, ◌∙◌, arith, subst}
use Rattle.raft_group_step.specs.Values.{EntryPayload}
use Rattle.raft_list_facts.specs.declared.leading.Leading.{Leading}
use Rattle.raft_list_steps.specs.declared.report.GroupReport.{GroupReport}
use Rattle.raft_cluster_events.specs.declared.outcome.EventOutcome.{EventOutcome}
use Rattle.raft_cluster_lists.specs.declared.kept.KeptGroup.{KeptGroup}
use Rattle.raft_cluster_lists.specs.Hearing.{HearsOf, IsCallHeard, unless_failed}
use Rattle.raft_cluster_lists.proofs.ReadyLemmas.{takes_one}
use Rattle.raft_cluster_lists.proofs.kept.KeptGroup.hear_call.Goals as goal

abbrev of_lead : ℕ → Option Leading → Option EntryPayload → GroupReport
of_lead node leading written = record { node = node; set_up = None; leading = leading; written = written; accepted = None }

pub returns-in-Refused-clause-heard : goal.returns-in-Refused-clause-heard
returns-in-Refused-clause-heard c =
    let old = c.args.self.now in
    let new : KeptGroup = record { group = old.group; list = c.hear-in-Refused.new.list; stopped = old.stopped } in
    let said : c.of_leader.result ≡ of_lead c.args.node (unless_failed c.in-Refused.why c.args.leading) None = c.of_leader.ensures ∙ ap (λ (l : Option Leading). of_lead c.args.node l None) c.unless_failed-leading.ensures in
    subst (λ (o : EventOutcome). IsCallHeard c.args.node c.args.leading o c.args.accepted c.args.brought old new) (sym c.in-Refused.is)
    (record {
      set_up = c.first_of-set_up.result;
      first = c.first_of-set_up.ensures;
      list =
          subst (λ (r : GroupReport). HearsOf (Some r) old.list.notes c.hear-in-Refused.new.list.notes) said
          (c.hear-in-Refused.ensures.hears, c.hear-in-Refused.ensures.ahead, c.hear-in-Refused.ensures.set_up);
      stopped = λ other. refl;
    })

pub returns-in-Done-clause-room : goal.returns-in-Done-clause-room
returns-in-Done-clause-room c =
    let old = c.args.self.now in
    let new : KeptGroup = record { group = old.group; list = c.hear.new.list; stopped = old.stopped } in
    takes_one old new c.hear.ensures.room (λ n space. omega (arith, space))

pub returns-in-Refused-clause-room : goal.returns-in-Refused-clause-room
returns-in-Refused-clause-room c =
    let old = c.args.self.now in
    let new : KeptGroup = record { group = old.group; list = c.hear-in-Refused.new.list; stopped = old.stopped } in
    takes_one old new c.hear-in-Refused.ensures.room (λ n space. omega (arith, space))
