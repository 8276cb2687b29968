-- What becomes of an event in its own group.
use Rattle.std.specs.Prelude.{◌≡◌, ◌+◌, ◌++◌, ℕ, Bool, true, false, List, [], ◌∷◌, map, Some, None, refl}
use Rattle.std.specs.List.{AllZip}
use Rattle.std.proofs.Common.{sym, ap, ◌∙◌, subst}
use Rattle.raft_group_step.specs.GroupEvent.{GroupEvent}
use Rattle.raft_group_step.specs.GroupState.{GroupState}
use Rattle.raft_group_step.specs.GroupStep.{group_step}
use Rattle.raft_group_step.specs.Message.{Message}
use Rattle.raft_group_step.specs.Refusal.{refusal_of}
use Rattle.raft_group_step.specs.StepResult.{RefusalReason, tokens_of}
use Rattle.raft_group_step.specs.StoredGroup.{Snapshot, StoredGroup}
use Rattle.raft_messages.specs.declared.memberships.SnapshotBytes.{SnapshotBytes}
use Rattle.raft_messages.specs.declared.message.Message.{Message as Sent}
use Rattle.raft_executor.specs.Said.{Says}
use Rattle.raft_laws.specs.GroupWorld.{Down, NodeState, Up}
use Rattle.raft_laws.specs.GroupRun.{Scene}
use Rattle.raft_laws.specs.NodeEvent.{Comes}
use Rattle.raft_laws.specs.Stop.{stopped_after}
use Rattle.raft_step_laws.specs.Tokens.{brought}
use Rattle.raft_framed_groups.proofs.FramedLemmas.{says_what_it_accepts}
use Rattle.raft_framed_groups.specs.Frames.{IsFramed}
use Rattle.raft_framed_groups.specs.declared.frames.GroupFrame.{GroupFrame}
use Rattle.raft_headline.specs.ClusterEvent.{ClusterEvent, ClusterOutcome, Done, PassedOver, Recorded, Refused, Said, Stopped, Unknown, is_turned_away}
use Rattle.raft_headline.specs.Seen.{Own, Seen, own_tokens, seen_by, seen_unless}
use Rattle.raft_cluster_laws.specs.Acts.{ActsAt, ActsIn, EventLeads, KeepsLawAt, MayBecome}
use Rattle.raft_cluster_laws.specs.Acting.{SaysStepOf}
use Rattle.raft_cluster_laws.proofs.NodesActing.{as_asked, names_who_waits, others_as_asked}
use Rattle.raft_machines.specs.Machine.{MachineRules}
use Rattle.raft_node.specs.Standing.{NodeValue}
use Rattle.raft_node_joint.specs.Coming.{ComesTo}
use Rattle.raft_node_joint.specs.Leading.{recorded}
use Rattle.raft_node_joint.specs.Saying.{IsFrameOf}
use Rattle.raft_node_joint.specs.Standing.{IsUpIn, MayBe, MayBeWhen}

-- frames of messages that say these bring these
pub frames_say : (stands : SnapshotBytes → Snapshot → Type 0) (group : ℕ) (ms : List (Sent SnapshotBytes)) (frames : List GroupFrame) (said : List Message)
    → AllZip (Says stands) ms said → AllZip (IsFramed group) ms frames → AllZip (IsFrameOf stands group) frames said
frames_say stands group [] [] [] say framed = tt
frames_say stands group [] [] (x ∷ said) say framed = absurd say
frames_say stands group [] (f ∷ frames) said say framed = absurd framed
frames_say stands group (m ∷ ms) [] said say framed = absurd framed
frames_say stands group (m ∷ ms) (f ∷ frames) [] say framed = absurd say
frames_say stands group (m ∷ ms) (f ∷ frames) (x ∷ said) say framed =
    let one = framed.0 in (
      record {
        of_group = one.group;
        addressee = say.0.1 ∙ sym one.to;
        spelled = record { sent = m; says = say.0; fits = one.fits; spelled = one.bytes };
        accepts = one.accepts ∙ says_what_it_accepts stands m x say.0;
      },
      frames_say stands group ms frames said say.1 framed.1,
    )

-- a node that goes on is in one state, and one that has failed in one of those that its storage shows
pub is_in_one : (rules : MachineRules) (n : NodeValue) (h : ℕ) (s : GroupState) → n.groups.has_failed ≡ false → IsUpIn rules n h s → MayBe rules n h (Up s ∷ [])
is_in_one rules n h s going at = subst (λ b. MayBeWhen rules n h b (Up s ∷ [])) (sym going) (s, refl, at)

pub is_in_shown : (rules : MachineRules) (n : NodeValue) (h : ℕ) (one : StoredGroup) (more : List StoredGroup) → n.groups.has_failed ≡ true → n.groups.shows h (one ∷ more)
    → MayBe rules n h (Down one ∷ map Down more)
is_in_shown rules n h one more failed shown = subst (λ b. MayBeWhen rules n h b (Down one ∷ map Down more)) (sym failed) (one, more, refl, shown)

-- what the event does in its group is what may become of the group's state
pub unless_taken : (b : Bool) (x y : Seen) → b ≡ false → x ≡ y → seen_unless b x ≡ y
unless_taken b x y is same = ap (λ c. seen_unless c x) is ∙ same

module _ (rules : MachineRules) (group n : ℕ) (history : List Recorded) (happened : ClusterEvent) (ge : GroupEvent) (comes : ComesTo n group history happened ge) where
  pub own_becomes : (o : ClusterOutcome) (s t : NodeState) → is_turned_away o ≡ false → ActsAt rules group n (recorded n happened o) comes.event (Comes ge) s t
      → MayBecome rules group n (recorded n happened o) history (seen_by group (recorded n happened o)) s t
  own_becomes o s t taken acts =
      let r = recorded n happened o in
      let seen : seen_by group r ≡ Own comes.event = unless_taken (is_turned_away o) _ (Own comes.event) taken (comes.own o) in
      subst (λ x. MayBecome rules group n r history x s t) (sym seen)
      (subst (λ (scene : Scene). ActsIn rules group n r comes.event scene s t) (sym comes.scene) (refl, refl, acts))

  module _ (s : GroupState) (law : KeepsLawAt rules (Up s)) where
    pub done_leads : (said : Said) → refusal_of n s ge ≡ None → SaysStepOf rules said (group_step n s ge)
        → EventLeads rules group n (recorded n happened (Done said)) history (Up s ∷ []) (Up (group_step n s ge).state ∷ [])
    done_leads said taken says =
        let r = recorded n happened (Done said) in
        (others_as_asked rules group n r).to_one history (Up s) (Up (group_step n s ge).state)
        (own_becomes (Done said) (Up s) (Up (group_step n s ge).state) refl
        ((as_asked rules group n r comes.event).done ge s said comes.closed law taken refl says))

    pub refused_leads : (why : RefusalReason) → refusal_of n s ge ≡ Some why
        → EventLeads rules group n (recorded n happened (Refused why)) history (Up s ∷ []) (Up s ∷ [])
    refused_leads why refused =
        let r = recorded n happened (Refused why) in
        (others_as_asked rules group n r).to_one history (Up s) (Up s)
        (own_becomes (Refused why) (Up s) (Up s) refl ((as_asked rules group n r comes.event).refused ge s why law refused refl))

    -- it stopped after so many storing commands
    pub stopped_becomes : (names : List Unknown) → refusal_of n s ge ≡ None → own_tokens group names ≡ tokens_of (s.untold ++ brought s ge) → (number : ℕ)
        → let r = recorded n happened (Stopped names) in MayBecome rules group n r history (seen_by group r) (Up s) (Down (stopped_after number s.stored (group_step n s ge)))
    stopped_becomes names taken named number =
        let r = recorded n happened (Stopped names) in
        own_becomes (Stopped names) (Up s) (Down (stopped_after number s.stored (group_step n s ge))) refl
        ((as_asked rules group n r comes.event).stopped ge s law taken (named ∙ sym (names_who_waits n s ge taken)) number)

    -- the next one is done or isn't
    pub stopped_leads : (names : List Unknown) (number : ℕ) → refusal_of n s ge ≡ None → own_tokens group names ≡ tokens_of (s.untold ++ brought s ge)
        → let left = λ (k : ℕ). stopped_after k s.stored (group_step n s ge) in
        EventLeads rules group n (recorded n happened (Stopped names)) history (Up s ∷ []) (Down (left number) ∷ Down (left (number + 1)) ∷ [])
    stopped_leads names number taken named =
        (others_as_asked rules group n (recorded n happened (Stopped names))).to_two history (Up s) _ _
        (stopped_becomes names taken named number) (stopped_becomes names taken named (number + 1))

  -- a node that is down passes it over
  pub passed_becomes : (st : StoredGroup) → let r = recorded n happened PassedOver in MayBecome rules group n r history (seen_by group r) (Down st) (Down st)
  passed_becomes st =
      let r = recorded n happened PassedOver in
      own_becomes PassedOver (Down st) (Down st) refl ((as_asked rules group n r comes.event).passed ge st refl)
