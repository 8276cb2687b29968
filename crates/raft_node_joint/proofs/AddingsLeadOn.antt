-- An adding leads each group of its node on.
use Rattle.std.specs.Prelude.{◌≡◌, ◌++◌, ℕ, Bool, true, false, not, [], ◌∷◌, Result, Ok, Err, is_some, refl}
use Rattle.std.proofs.Common.{inl, inr, sym, ap, ◌∙◌, subst}
use Rattle.raft_group_step.specs.GroupEvent.{AddGroup as Adds}
use Rattle.raft_group_step.specs.GroupState.{GroupState, no_group, state_of}
use Rattle.raft_group_step.specs.Refusal.{first_of_reasons, refusal_of, unless}
use Rattle.raft_group_step.specs.StepResult.{GroupExists, tokens_of}
use Rattle.raft_group_step.specs.StoredGroup.{Snapshot}
use Rattle.raft_messages.specs.declared.memberships.SnapshotBytes.{SnapshotBytes}
use Rattle.raft_headline.specs.ClusterEvent.{AddGroup, PassedOver, Refused, Stopped}
use Rattle.raft_machines.specs.Machine.{MachineRules}
use Rattle.raft_node_faults.specs.declared.fault.Cause.{Cause}
use Rattle.raft_node_faults.specs.declared.fault.Fault.{Fault}
use Rattle.raft_node_faults.specs.declared.fault.Fault.TheVariants as fault
use Rattle.raft_node.specs.Adding.{IsAdded}
use Rattle.raft_node.specs.Ending.{IsDone, IsLeft, StaysElse}
use Rattle.raft_node.specs.Standing.{NodeValue}
use Rattle.raft_node.specs.Waiting.{AreNamed, waiting_of}
use Rattle.raft_node.specs.declared.outcome.Outcome.{Outcome}
use Rattle.raft_node_joint.specs.Leading.{AddingsLead, LeadsIn, LeadsOn, StaysInAll}
use Rattle.raft_headline.specs.Naming.{names_in}
use Rattle.raft_node_joint.specs.Standing.{IsUpIn, IsWithout}
use Rattle.raft_node_joint.proofs.EventsCome.{addings_come}
use Rattle.raft_node_joint.proofs.EventsLeadOn.{goes_so}
use Rattle.raft_node_joint.proofs.Naming.{names_own}
use Rattle.raft_node_joint.proofs.Others.{law_there}
use Rattle.raft_node_joint.proofs.OwnEnds.{done_so, left_so}
use Rattle.raft_node_joint.proofs.Whole.{IsIn, failed_passes, halts_beside, in_each, is_in, refused_stays}

pub addings_lead : {F : Type 0} (rules : MachineRules) (stands : SnapshotBytes → Snapshot → Type 0) (same : Type 0) (old new : NodeValue) (group : ℕ) (result : Result Outcome (Fault F))
    → AddingsLead rules stands same old new group result
addings_lead {F} rules stands same old new group result ids history olds before keeps e =
    by_failed old.groups.has_failed refl
  where
    Goal : Result Outcome (Fault F) → Type 0
    Goal r = LeadsOn rules stands history (AddGroup old.groups.own group) old new group olds r

    -- the group is there
    exists_so : (i : IsIn rules old group (olds group)) → i.state.stored.present ≡ true → StaysInAll rules old new → Goal (Err fault.GroupExists)
    exists_so i present stays = record {
      outcome = Refused GroupExists;
      says = refl;
      leads = refused_stays rules old new group Adds history (AddGroup old.groups.own group) olds before.may_be (addings_come old.groups.own group history) i GroupExists
          (law_there rules old group i.state before.law i.up) (ap (λ b. first_of_reasons (unless (not b) GroupExists ∷ [])) present) stays;
    }

    -- it isn't
    added_so : old.groups.has_failed ≡ false → (i : IsIn rules old group (olds group)) → i.state ≡ state_of no_group → IsWithout old group → (r : Result Outcome (Fault F))
        → StaysElse old new group r → ((w : Cause F) (u : _) → r ≡ Err (fault.Stopped w u) → AreNamed old.running u.items) → IsAdded rules stands new group r → Goal r
    added_so going i is without (Ok o) stays names done =
        goes_so rules stands old new group Adds history (AddGroup old.groups.own group) olds before.may_be (addings_come old.groups.own group history) going i
        (law_there rules old group i.state before.law i.up) (Ok o) stays tt (stays.fails ∙ going)
        (done_so rules stands old new group history (AddGroup old.groups.own group) i.state Adds stays.own (addings_come old.groups.own group history)
        (law_there rules old group i.state before.law i.up) o (stays.fails ∙ going) (subst (λ s. IsDone rules stands new group s Adds o) (sym is) done))
    added_so going i is without (Err (fault.Stopped why unknown)) stays names stopped = record {
      outcome = Stopped (names_in unknown.items);
      says = refl;
      leads = in_each rules old new group Adds history (AddGroup old.groups.own group) olds before.may_be (addings_come old.groups.own group history)
          (AddGroup old.groups.own group) (Stopped (names_in unknown.items))
          (subst (λ xs. LeadsIn rules history (AddGroup old.groups.own group) (Stopped (names_in unknown.items)) old new group xs) (sym i.alone)
          (left_so rules old new group history (AddGroup old.groups.own group) i.state Adds (names_in unknown.items) stays.own (addings_come old.groups.own group history)
          (law_there rules old group i.state before.law i.up) stopped.0 (ap (λ s. refusal_of old.groups.own s Adds) is)
          (subst (λ s. IsLeft new group s Adds) (sym is) stopped.1)
          (names_own group unknown.items ∙ ap tokens_of (names why unknown refl group ∙ ap waiting_of without.idle ∙ ap (λ (s : GroupState). s.untold ++ []) (sym is)))))
          (λ h other. halts_beside rules old new group Adds history (AddGroup old.groups.own group) olds before.may_be (addings_come old.groups.own group history) going
          (AddGroup old.groups.own group) why unknown stays stopped.0 h ((addings_come old.groups.own group history).others h other (Stopped (names_in unknown.items))) other);
    }
    added_so going i is without (Err other) stays names none = absurd none

    by_state : old.groups.has_failed ≡ false → (i : IsIn rules old group (olds group)) → IsUpIn rules old group i.state → Goal result
    by_state going i (inl at) =
        let met = e.exists going (ap is_some at.up.has) in
        subst Goal (sym met.0) (exists_so i at.up.holds.present (keeps met.1))
    by_state going i (inr (is, without)) =
        added_so going i is without result e.elsewhere e.names (e.added going without.absent)

    by_failed : (b : Bool) → old.groups.has_failed ≡ b → Goal result
    by_failed true failed =
        let met = e.failed failed in
        subst Goal (sym met.0) (record {
          outcome = PassedOver;
          says = refl;
          leads = failed_passes rules old new group Adds history (AddGroup old.groups.own group) olds before.may_be (addings_come old.groups.own group history) failed (keeps met.1);
        })
    by_failed false going =
        let i = is_in rules old group (olds group) going (before.may_be group) in
        by_state going i i.up
