-- The reasons of a command and of a change, whatever their tokens.
use Rattle.std.proofs.Common.{sym, subst}
use Rattle.raft_group_step.specs.GroupEvent.{Call, GroupCall}
use Rattle.raft_group_step.specs.declared.group_call.GroupCall.TheVariants.{ChangeMembership, Propose}
use Rattle.raft_conditions.specs.Facts.{IsRefusalOf}
use Rattle.raft_conditions.proofs.FactLemmas.{call_judged}
use Rattle.raft_conditions.proofs.facts.GroupFacts.call_refusal.Goals as goal

pub returns-in-Propose-clause-refusal : goal.returns-in-Propose-clause-refusal
returns-in-Propose-clause-refusal c =
    subst (λ (call : GroupCall). IsRefusalOf c.args.self.now (Call call c.args.now) c.propose_refusal.result)
    (sym c.in-Propose.is)
    (call_judged c.args.self.now c.args.now (Propose c.in-Propose.command c.in-Propose.token) c.propose_refusal.result
    c.if-not-self.false (c.propose_refusal.ensures.reason c.in-Propose.token))

pub returns-in-ChangeMembership-clause-refusal : goal.returns-in-ChangeMembership-clause-refusal
returns-in-ChangeMembership-clause-refusal c =
    subst (λ (call : GroupCall). IsRefusalOf c.args.self.now (Call call c.args.now) c.change_call_refusal.result)
    (sym c.in-ChangeMembership.is)
    (call_judged c.args.self.now c.args.now (ChangeMembership c.in-ChangeMembership.change c.in-ChangeMembership.token) c.change_call_refusal.result
    c.if-not-self.false (c.change_call_refusal.ensures.reason c.in-ChangeMembership.token))
