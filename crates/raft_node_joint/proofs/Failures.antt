-- A node that has failed, and one that fails, also in a cleaning.
use Rattle.std.specs.Prelude.{ℕ, [], ◌∷◌, refl}
use Rattle.std.proofs.Common.{sym, ap, ◌∙◌, subst}
use Rattle.raft_group_step.specs.GroupEvent.{GroupEvent}
use Rattle.raft_group_step.specs.StepResult.{tokens_of}
use Rattle.raft_group_step.specs.StoredGroup.{Snapshot}
use Rattle.raft_messages.specs.declared.memberships.SnapshotBytes.{SnapshotBytes}
use Rattle.raft_laws.specs.GroupWorld.{Down}
use Rattle.raft_headline.specs.ClusterEvent.{Clean, Halt, PassedOver, Stopped}
use Rattle.raft_machines.specs.Machine.{MachineRules}
use Rattle.raft_node_faults.specs.declared.fault.Fault.{Fault}
use Rattle.raft_node_faults.specs.declared.fault.Fault.TheVariants as fault
use Rattle.raft_node.specs.Standing.{NodeValue}
use Rattle.raft_node_joint.specs.Leading.{FailedNodesPass, FailuresLead, LeadsIn}
use Rattle.raft_node_joint.specs.Reopening.{StoppedCleaningsLead}
use Rattle.raft_headline.specs.Naming.{names_in}
use Rattle.raft_node_joint.proofs.Naming.{names_own}
use Rattle.raft_node_joint.proofs.Others.{halted_leads, shows_it, who_waits}
use Rattle.raft_node_joint.proofs.OwnGroup.{is_in_shown}
use Rattle.raft_node_joint.proofs.Whole.{failed_passes, is_in}

pub failed_nodes_pass : (F : Type 0) (rules : MachineRules) (stands : SnapshotBytes → Snapshot → Type 0) (old new : NodeValue) (group : ℕ) (ge : GroupEvent)
    → FailedNodesPass F rules stands old new group ge
failed_nodes_pass F rules stands old new group ge ids history happened olds comes before failed stays = record {
  outcome = PassedOver;
  says = refl;
  leads = failed_passes rules old new group ge history happened olds before.may_be comes failed stays;
}

pub failures_lead : {F : Type 0} (rules : MachineRules) (old new : NodeValue) (why : Fault F) → FailuresLead rules old new why
failures_lead rules old new (fault.Stopped why unknown) = λ history olds going may_be told h.
    let n = old.groups.own in
    let names = names_in unknown.items in
    let i = is_in rules old h (olds h) going (may_be h) in
    let named = names_own h unknown.items ∙ ap tokens_of (told.names h ∙ who_waits rules old h i.state i.up) in
    subst (λ xs. LeadsIn rules history (Halt n) (Stopped names) old new h xs) (sym i.alone)
    (record {
      news = Down i.state.stored ∷ [];
      may_be = is_in_shown rules new h i.state.stored [] told.fails (told.kept h (i.state.stored ∷ []) (shows_it rules old h i.state i.up));
      leads = halted_leads rules h n history (Halt n) names i.state refl named;
    })
failures_lead rules old new other = tt

pub stopped_cleanings_lead : {F : Type 0} (rules : MachineRules) (old new : NodeValue) (why : Fault F) → StoppedCleaningsLead rules old new why
stopped_cleanings_lead rules old new (fault.Stopped why unknown) = λ history olds going may_be stops h.
    let n = old.groups.own in
    let names = names_in unknown.items in
    let i = is_in rules old h (olds h) going (may_be h) in
    let named = names_own h unknown.items ∙ ap tokens_of (stops.names h ∙ who_waits rules old h i.state i.up) in
    subst (λ xs. LeadsIn rules history (Clean n) (Stopped names) old new h xs) (sym i.alone)
    (record {
      news = Down i.state.stored ∷ [];
      may_be = is_in_shown rules new h i.state.stored [] stops.fails (stops.kept h (i.state.stored ∷ []) (shows_it rules old h i.state i.up));
      leads = halted_leads rules h n history (Clean n) names i.state refl named;
    })
stopped_cleanings_lead rules old new other = tt
