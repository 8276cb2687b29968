-- Whatever comes of an event, it leads each group of its node on.
use Rattle.std.specs.Prelude.{◌≡◌, ℕ, Bool, true, false, List, Result, Ok, Err, Contains, refl}
use Rattle.std.proofs.Common.{inl, inr, sym, ap, ◌∙◌, subst, ⊎_elim}
use Rattle.raft_group_step.specs.GroupEvent.{GroupEvent}
use Rattle.raft_group_step.specs.GroupState.{no_group, state_of}
use Rattle.raft_group_step.specs.Refusal.{refusal_of}
use Rattle.raft_group_step.specs.StepResult.{UnknownGroup, tokens_of}
use Rattle.raft_group_step.specs.StoredGroup.{Snapshot}
use Rattle.raft_messages.specs.declared.memberships.SnapshotBytes.{SnapshotBytes}
use Rattle.raft_laws.specs.GroupWorld.{NodeState, Up}
use Rattle.raft_headline.specs.ClusterEvent.{ClusterEvent, Halt, PassedOver, Recorded, Refused, Stopped}
use Rattle.raft_cluster_laws.specs.Acts.{KeepsLawAt}
use Rattle.raft_cluster_laws.proofs.NodesActing.{has_first}
use Rattle.raft_machines.specs.Machine.{MachineRules}
use Rattle.raft_node_faults.specs.declared.fault.Cause.{Cause}
use Rattle.raft_node_faults.specs.declared.fault.Fault.{Fault}
use Rattle.raft_node_faults.specs.declared.fault.Fault.TheVariants as fault
use Rattle.raft_node.specs.Ending.{GoesOn, HasEnded, StaysElse}
use Rattle.raft_node.specs.Standing.{NodeValue}
use Rattle.raft_node.specs.declared.outcome.Outcome.{Outcome}
use Rattle.raft_node_joint.specs.Coming.{ComesTo}
use Rattle.raft_node_joint.specs.Leading.{EventsLead, LeadsIn, LeadsOn, StaysInAll, led_by}
use Rattle.raft_node_joint.specs.Saying.{is_unjudged, stops_unjudged}
use Rattle.raft_headline.specs.Naming.{names_in}
use Rattle.raft_node_joint.specs.Standing.{IsUpIn, MayBe}
use Rattle.raft_node_joint.proofs.Faults.{broken, stop_or_not, unjudged}
use Rattle.raft_node_joint.proofs.Naming.{names_own}
use Rattle.raft_node_joint.proofs.OwnEnds.{GoesOnSo, broken_so, done_so, refused_so}
use Rattle.raft_node_joint.proofs.Others.{law_there}
use Rattle.raft_node_joint.proofs.Whole.{IsIn, failed_passes, goes_on_beside, halts_beside, halts_so, in_each, is_in, is_reached, refused_stays}

module _ {F : Type 0} (rules : MachineRules) (stands : SnapshotBytes → Snapshot → Type 0) (old new : NodeValue) (group : ℕ) (ge : GroupEvent) (history : List Recorded) (happened : ClusterEvent)
    (olds : ℕ → List NodeState) (may_be : (h : ℕ) → MayBe rules old h (olds h)) (comes : ComesTo old.groups.own group history happened ge)
    (going : old.groups.has_failed ≡ false) (i : IsIn rules old group (olds group)) (law : KeepsLawAt rules (Up i.state)) where
  abbrev Leads : ClusterEvent → Result Outcome (Fault F) → Type 0
  Leads happens result = LeadsOn rules stands history happens old new group olds result

  -- the node goes on
  pub goes_so : (result : Result Outcome (Fault F)) → StaysElse old new group result → GoesOn result → new.groups.has_failed ≡ false
      → GoesOnSo rules stands old new group history happened i.state result → Leads happened result
  goes_so result stays goes still so = record {
    outcome = so.outcome;
    says = so.says;
    leads = in_each rules old new group ge history happened olds may_be comes happened so.outcome
        (subst (λ xs. LeadsIn rules history happened so.outcome old new group xs) (sym i.alone) so.leads)
        (goes_on_beside rules old new group ge history happened olds may_be comes going result so.outcome stays goes still so.taken so.quiet);
  }

  -- the node stopped
  pub stops_so : (why : Cause F) (unknown : _) → StaysElse {T = Outcome} old new group (Err (fault.Stopped why unknown)) → HasEnded rules stands new group i.state ge (Err (fault.Stopped why unknown))
      → Leads (led_by (is_unjudged why) old.groups.own happened) (Err (fault.Stopped why unknown))
  stops_so why unknown stays ended = by_judged (is_unjudged why) refl
    where
      by_judged : (b : Bool) → is_unjudged why ≡ b → Leads (led_by b old.groups.own happened) (Err (fault.Stopped why unknown))
      by_judged true is =
          let end = unjudged stands new group i.state ge why unknown.items is ended.1 in
          record {
            outcome = Stopped (names_in unknown.items);
            says = refl;
            leads = in_each rules old new group ge history happened olds may_be comes (Halt old.groups.own) (Stopped (names_in unknown.items))
                (halts_so rules old new group ge history happened olds may_be comes (Halt old.groups.own) (names_in unknown.items) group i refl ended.0
                (names_own group unknown.items ∙ ap tokens_of end.named) end.stored)
                (λ h other. halts_beside rules old new group ge history happened olds may_be comes going (Halt old.groups.own) why unknown stays ended.0 h refl other);
          }
      by_judged false is =
          let end = broken stands new group i.state ge why unknown.items is ended.1 in
          record {
            outcome = Stopped (names_in unknown.items);
            says = refl;
            leads = in_each rules old new group ge history happened olds may_be comes happened (Stopped (names_in unknown.items))
                (subst (λ xs. LeadsIn rules history happened (Stopped (names_in unknown.items)) old new group xs) (sym i.alone)
                (broken_so rules stands old new group history happened i.state ge stays.own comes law why unknown.items ended.0 end))
                (λ h other. halts_beside rules old new group ge history happened olds may_be comes going happened why unknown stays ended.0 h (comes.others h other (Stopped (names_in unknown.items))) other);
          }

  -- however it ended
  pub ends_so : (result : Result Outcome (Fault F)) → StaysElse old new group result → HasEnded rules stands new group i.state ge result
      → Leads (led_by (stops_unjudged result) old.groups.own happened) result
  ends_so (Ok o) stays ended =
      let still = stays.fails ∙ going in
      goes_so (Ok o) stays tt still (done_so rules stands old new group history happened i.state ge stays.own comes law o still ended)
  ends_so (Err why) stays ended =
      ⊎_elim
      (λ stop.
      subst (λ w. StaysElse {T = Outcome} old new group (Err w) → HasEnded rules stands new group i.state ge (Err w) → Leads (led_by (stops_unjudged {T = Outcome} (Err w)) old.groups.own happened) (Err w)) (sym stop.is)
      (stops_so stop.cause stop.unknown) stays ended)
      (λ no.
      let still = no.fails old.groups.has_failed new.groups.has_failed stays.fails ∙ going in
      subst (λ b. Leads (led_by b old.groups.own happened) (Err why)) (sym no.judged)
      (goes_so (Err why) stays no.goes still
      (refused_so rules stands old new group history happened i.state ge stays.own comes law why still (no.refused rules stands new group i.state ge ended))))
      (stop_or_not why)

-- ---- the whole

pub events_lead : {F : Type 0} (rules : MachineRules) (stands : SnapshotBytes → Snapshot → Type 0) (same : Type 0) (old new : NodeValue) (group : ℕ) (ge : GroupEvent) (result : Result Outcome (Fault F))
    → EventsLead rules stands same old new group ge result
events_lead {F} rules stands same old new group ge result ids history happened olds comes refused before keeps e =
    by_failed old.groups.has_failed refl
  where
    n : ℕ
    n = old.groups.own

    Goal : Result Outcome (Fault F) → Type 0
    Goal r = LeadsOn rules stands history (led_by (stops_unjudged r) n happened) old new group olds r

    unknown_so : (i : IsIn rules old group (olds group)) → i.state ≡ state_of no_group → StaysInAll rules old new → Goal (Err fault.UnknownGroup)
    unknown_so i is stays = record {
      outcome = Refused UnknownGroup;
      says = refl;
      leads = refused_stays rules old new group ge history happened olds before.may_be comes i UnknownGroup (law_there rules old group i.state before.law i.up)
          (ap (λ s. refusal_of n s ge) is ∙ refused) stays;
    }

    by_state : old.groups.has_failed ≡ false → (i : IsIn rules old group (olds group)) → IsUpIn rules old group i.state → Goal result
    by_state going i (inl at) =
        let there = subst (λ xs. Contains xs (Up i.state)) (sym i.alone) (has_first (Up i.state)) in
        let reached = is_reached rules ids n group history happened ge i.state comes (before.in_world group (Up i.state) there) in
        ends_so rules stands old new group ge history happened olds before.may_be comes going i (law_there rules old group i.state before.law i.up) result e.elsewhere
        (e.leads i.state going before.of_machine at reached)
    by_state going i (inr (is, without)) =
        let met = e.unknown going without.absent.0 in
        subst Goal (sym met.0) (unknown_so i is (keeps met.1))

    by_failed : (b : Bool) → old.groups.has_failed ≡ b → Goal result
    by_failed true failed =
        let met = e.failed failed in
        subst Goal (sym met.0) (record {
          outcome = PassedOver;
          says = refl;
          leads = failed_passes rules old new group ge history happened olds before.may_be comes failed (keeps met.1);
        })
    by_failed false going =
        let i = is_in rules old group (olds group) going (before.may_be group) in
        by_state going i i.up
