use Rattle.std.specs.Prelude.{◌≡◌, ℕ, Option, Some, None}
use Rattle.std.proofs.Common.{sym, ap, ◌∙◌, arith, subst}
use Rattle.raft_group_step.specs.Values.{EntryPayload}
use Rattle.raft_list_facts.specs.declared.leading.Leading.{Leading}
use Rattle.raft_list_steps.specs.declared.report.GroupReport.{GroupReport}
use Rattle.raft_cluster_events.specs.declared.outcome.EventOutcome.{EventOutcome}
use Rattle.raft_cluster_lists.specs.declared.kept.KeptGroup.{KeptGroup}
use Rattle.raft_cluster_lists.specs.Hearing.{HearsOf, IsOpeningHeard}
use Rattle.raft_cluster_lists.specs.Lists.{stopped_at}
use Rattle.raft_cluster_lists.proofs.ReadyLemmas.{takes_one}
use Rattle.raft_cluster_lists.proofs.kept.KeptGroup.hear_opening.Goals as goal

abbrev of_lead : ℕ → Option Leading → Option EntryPayload → GroupReport
of_lead node leading written = record { node = node; set_up = None; leading = leading; written = written; accepted = None }

pub returns-in-Done-clause-heard : goal.returns-in-Done-clause-heard
returns-in-Done-clause-heard c =
    let old = c.args.self.now in
    let new : KeptGroup = record { group = old.group; list = c.hear.new.list; stopped = c.take_stopped-written.new.stopped } in
    let said : c.of_leader.result ≡ of_lead c.args.node c.args.leading (stopped_at old.stopped.items c.args.node) = c.of_leader.ensures ∙ ap (λ (x : Option EntryPayload). of_lead c.args.node c.args.leading x) c.take_stopped-written.ensures.taken in
    subst (λ (o : EventOutcome). IsOpeningHeard c.args.node c.args.leading o old new) (sym c.in-Done.is)
    (record {
      list =
          subst (λ (r : GroupReport). HearsOf (Some r) old.list.notes c.hear.new.list.notes) said
          (c.hear.ensures.hears, c.hear.ensures.ahead, c.hear.ensures.set_up);
      others = c.take_stopped-written.ensures.others;
      own = tt;
    })

pub returns-in-Done-clause-room : goal.returns-in-Done-clause-room
returns-in-Done-clause-room c =
    let old = c.args.self.now in
    let new : KeptGroup = record { group = old.group; list = c.hear.new.list; stopped = c.take_stopped-written.new.stopped } in
    takes_one old new c.hear.ensures.room (λ n space. c.take_stopped-written.ensures.room n (omega (arith, space)))
