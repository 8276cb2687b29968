-- How an event ended in its own group: what is recorded of it, and where it leads.
use Rattle.std.specs.Prelude.{◌≡◌, ◌+◌, ◌++◌, ℕ, true, false, List, [], ◌∷◌, Some, None, Result, Ok, Err, refl}
use Rattle.std.proofs.Common.{inl, ap, ◌∙◌, subst}
use Rattle.raft_conditions.specs.Reason.{reason_of}
use Rattle.raft_group_step.specs.GroupEvent.{GroupEvent}
use Rattle.raft_group_step.specs.GroupState.{GroupState}
use Rattle.raft_group_step.specs.GroupStep.{group_step}
use Rattle.raft_group_step.specs.Refusal.{refusal_of}
use Rattle.raft_group_step.specs.StepResult.{tokens_of}
use Rattle.raft_group_step.specs.StoredGroup.{Snapshot, StoredGroup}
use Rattle.raft_messages.specs.declared.memberships.SnapshotBytes.{SnapshotBytes}
use Rattle.raft_laws.specs.GroupWorld.{Down, Up}
use Rattle.raft_laws.specs.Stop.{stopped_after}
use Rattle.raft_step_laws.specs.Tokens.{brought}
use Rattle.raft_applier.specs.Applied.{HasGone}
use Rattle.raft_headline.specs.ClusterEvent.{ClusterEvent, ClusterOutcome, Done, Recorded, Refused, Said, Stopped, Unknown, is_turned_away}
use Rattle.raft_headline.specs.Seen.{Passed, aside, own_tokens}
use Rattle.raft_cluster_laws.specs.Acts.{KeepsLawAt}
use Rattle.raft_machines.specs.Machine.{MachineRules}
use Rattle.raft_node_faults.specs.declared.fault.Cause.{Cause}
use Rattle.raft_node_faults.specs.declared.fault.Fault.{Fault}
use Rattle.raft_node.specs.Ending.{AreFramed, IsBroken, IsDone, IsLeft, IsRefused}
use Rattle.raft_node.specs.Standing.{IsAt, NodeValue}
use Rattle.raft_node.specs.declared.outcome.Outcome.{Outcome}
use Rattle.raft_node_joint.specs.Coming.{ComesTo}
use Rattle.raft_node_joint.specs.Leading.{LeadsIn}
use Rattle.raft_node_joint.specs.Saying.{SaysCall, outcome_of_fault}
use Rattle.raft_headline.specs.Naming.{names_in}
use Rattle.raft_node_joint.proofs.Faults.{refusal_said}
use Rattle.raft_node_joint.proofs.Naming.{names_own}
use Rattle.raft_node_joint.proofs.OwnGroup.{done_leads, frames_say, is_in_one, is_in_shown, refused_leads, stopped_leads}

-- it stopped, and the next storing command is done or isn't
pub left_so : (rules : MachineRules) (old new : NodeValue) (group : ℕ) (history : List Recorded) (happened : ClusterEvent) (s : GroupState) (ge : GroupEvent) (names : List Unknown)
    → new.groups.own ≡ old.groups.own → ComesTo old.groups.own group history happened ge → KeepsLawAt rules (Up s) → new.groups.has_failed ≡ true → refusal_of old.groups.own s ge ≡ None
    → IsLeft new group s ge → own_tokens group names ≡ tokens_of (s.untold ++ brought s ge) → LeadsIn rules history happened (Stopped names) old new group (Up s ∷ [])
left_so rules old new group history happened s ge names own comes law failed taken is_left named =
    let n = old.groups.own in
    let left = subst (λ i. (number : ℕ) × new.groups.shows group (stopped_after number s.stored (group_step i s ge) ∷ stopped_after (number + 1) s.stored (group_step i s ge) ∷ [])) own is_left.shown in
    let parts : ℕ → StoredGroup = λ k. stopped_after k s.stored (group_step n s ge) in
    record {
      news = Down (parts left.0) ∷ Down (parts (left.0 + 1)) ∷ [];
      may_be = is_in_shown rules new group (parts left.0) (parts (left.0 + 1) ∷ []) failed left.1;
      leads = stopped_leads rules group n history happened ge comes s law names left.0 taken named;
    }

module _ {F : Type 0} (rules : MachineRules) (stands : SnapshotBytes → Snapshot → Type 0) (old new : NodeValue) (group : ℕ) (history : List Recorded) (happened : ClusterEvent) (s : GroupState) where
  -- the event didn't stop, and this is recorded
  pub record GoesOnSo (result : Result Outcome (Fault F)) : Type 0 where
    pub outcome : ClusterOutcome
    pub taken : is_turned_away outcome ≡ false
    pub quiet : (n : ℕ) → aside n outcome ≡ Passed
    pub says : SaysCall stands group result outcome
    pub leads : LeadsIn rules history happened outcome old new group (Up s ∷ [])

  module _ (ge : GroupEvent) (own : new.groups.own ≡ old.groups.own) (comes : ComesTo old.groups.own group history happened ge) (law : KeepsLawAt rules (Up s)) where
    pub done_so : (o : Outcome) → new.groups.has_failed ≡ false → IsDone rules stands new group s ge o → GoesOnSo (Ok o)
    done_so o going d =
        let n = old.groups.own in
        let said : Said = record { sent = (group_step n s ge).messages; told = o.told.items; unknown = o.unknown.items } in
        let taken = subst (λ i. refusal_of i s ge ≡ None) own d.taken in
        let frames = subst (λ i. AreFramed stands group (group_step i s ge).messages o.frames.items) own d.frames in
        let gone = subst (λ i. HasGone rules (group_step i s ge) (record { told = o.told; unknown = o.unknown })) own d.gone in
        let at = subst (λ i. IsAt rules new group (group_step i s ge).state) own d.at in
        record {
          outcome = Done said;
          taken = refl;
          quiet = λ n. refl;
          says = (d.of_group, said, record { sent = frames_say stands group frames.messages o.frames.items said.sent frames.say frames.framed; told = refl; unknown = refl }, refl);
          leads = record {
            news = Up (group_step n s ge).state ∷ [];
            may_be = is_in_one rules new group (group_step n s ge).state going (inl at);
            leads = done_leads rules group n history happened ge comes s law said taken (record { sent = refl; told = gone.told; unknown = gone.unknown });
          };
        }

    pub refused_so : (why : Fault F) → new.groups.has_failed ≡ false → IsRefused rules new group s ge why → GoesOnSo (Err why)
    refused_so why going d =
        let n = old.groups.own in
        let refused = subst (λ i. refusal_of i s ge ≡ Some (reason_of d.refusal)) own d.reason in
        record {
          outcome = Refused (reason_of d.refusal);
          taken = refl;
          quiet = λ n. refl;
          says = ap outcome_of_fault d.named ∙ refusal_said F d.refusal;
          leads = record {
            news = Up s ∷ [];
            may_be = is_in_one rules new group s going (inl d.at);
            leads = refused_leads rules group n history happened ge comes s law (reason_of d.refusal) refused;
          };
        }

    pub broken_so : (why : Cause F) (unknown : _) → new.groups.has_failed ≡ true → IsBroken stands new group s ge why unknown
        → LeadsIn rules history happened (Stopped (names_in unknown)) old new group (Up s ∷ [])
    broken_so why unknown failed d =
        left_so rules old new group history happened s ge (names_in unknown) own comes law failed (subst (λ i. refusal_of i s ge ≡ None) own d.taken) d.left (names_own group unknown ∙ ap tokens_of d.named)
