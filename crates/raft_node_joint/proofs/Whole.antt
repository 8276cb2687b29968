-- An event leads each group of its node on.
use Rattle.std.specs.Prelude.{◌≡◌, ℕ, true, false, List, [], ◌∷◌, Some, Result, Err, refl}
use Rattle.std.proofs.Common.{sym, ap, ◌∙◌, subst, ⊎_elim}
use Rattle.raft_group_step.specs.GroupEvent.{GroupEvent}
use Rattle.raft_group_step.specs.GroupState.{GroupState}
use Rattle.raft_group_step.specs.Refusal.{refusal_of}
use Rattle.raft_group_step.specs.StepResult.{RefusalReason, tokens_of}
use Rattle.raft_laws.specs.GroupWorld.{Down, NodeState, Up}
use Rattle.raft_headline.specs.ClusterEvent.{ClusterEvent, ClusterOutcome, PassedOver, Recorded, Refused, Stopped, Unknown, is_turned_away}
use Rattle.raft_headline.specs.Seen.{Halted, Passed, aside, own_tokens, seen_by}
use Rattle.raft_applier_laws.proofs.ReadyStates.{up_ready}
use Rattle.raft_cluster_laws.specs.Acts.{EventLeads, KeepsLawAt, MayBecome}
use Rattle.raft_cluster_laws.specs.Keeping.{StandsInWorld}
use Rattle.raft_machines.specs.Machine.{MachineRules}
use Rattle.raft_node_faults.specs.declared.fault.Cause.{Cause}
use Rattle.raft_node_faults.specs.declared.fault.Fault.{Fault}
use Rattle.raft_node_faults.specs.declared.fault.Fault.TheVariants as fault
use Rattle.raft_node.specs.Ending.{GoesOn, IsReached, StaysElse}
use Rattle.raft_node.specs.Standing.{NodeValue}
use Rattle.raft_node.specs.declared.outcome.Outcome.{Outcome}
use Rattle.raft_node_joint.specs.Coming.{ComesTo}
use Rattle.raft_node_joint.specs.Leading.{LeadsIn, StaysInAll, recorded}
use Rattle.raft_headline.specs.Naming.{names_in}
use Rattle.raft_node_joint.specs.Standing.{IsUpIn, MayBe, MayBeWhen}
use Rattle.raft_node_joint.proofs.Naming.{names_own}
use Rattle.raft_node_joint.proofs.OwnGroup.{is_in_one, is_in_shown, passed_becomes, refused_leads, unless_taken}
use Rattle.raft_node_joint.proofs.Others.{halted_leads, is_down, one_of, passed_leads, same_or_other, shows_it, stays_leads, up_stays, who_waits}

-- a state in which a history leaves the node is one that its event may come to
pub is_reached : (rules : MachineRules) (ids : List ℕ) (n group : ℕ) (history : List Recorded) (happened : ClusterEvent) (ge : GroupEvent) (s : GroupState)
    → ComesTo n group history happened ge → StandsInWorld rules ids group history n (Up s) → IsReached n s ge
is_reached rules ids n group history happened ge s comes at =
    let ready = up_ready ids at.group (at.end).world at.is_history n s at.node in
    record { lawful = ready.lawful; membership = ready.membership; step = λ taken. ready.steps comes.event ge (at.scenes comes.event ∙ comes.scene) taken }

-- the state of a node that goes on
pub record IsIn (rules : MachineRules) (n : NodeValue) (h : ℕ) (states : List NodeState) : Type 0 where
  pub state : GroupState
  pub alone : states ≡ Up state ∷ []
  pub up : IsUpIn rules n h state

pub is_in : (rules : MachineRules) (n : NodeValue) (h : ℕ) (states : List NodeState) → n.groups.has_failed ≡ false → MayBe rules n h states → IsIn rules n h states
is_in rules n h states going may =
    let it = subst (λ b. MayBeWhen rules n h b states) going may in
    record { state = it.0; alone = it.1; up = it.2 }

-- all that the bridge knows before the event
module _ (rules : MachineRules) (old new : NodeValue) (group : ℕ) (ge : GroupEvent) (history : List Recorded) (happened : ClusterEvent) (olds : ℕ → List NodeState)
    (may_be : (h : ℕ) → MayBe rules old h (olds h)) (comes : ComesTo old.groups.own group history happened ge) where
  abbrev n : ℕ
  n = old.groups.own

  -- in the group itself, and in each other one
  pub in_each : (happens : ClusterEvent) (o : ClusterOutcome) → LeadsIn rules history happens o old new group (olds group)
      → ((h : ℕ) → (h ≡ group → ⊥) → LeadsIn rules history happens o old new h (olds h)) → (h : ℕ) → LeadsIn rules history happens o old new h (olds h)
  in_each happens o own other h =
      ⊎_elim
      (λ same. subst (λ g. LeadsIn rules history happens o old new g (olds g)) (sym same) own)
      (λ not_own. other h not_own)
      (same_or_other h group)

  -- another group sees nothing of it
  pub passes : (h : ℕ) (o : ClusterOutcome) → (h ≡ group → ⊥) → is_turned_away o ≡ false → ((k : ℕ) → aside k o ≡ Passed) → MayBe rules new h (olds h) → LeadsIn rules history happened o old new h (olds h)
  passes h o other taken quiet may =
      let one = one_of rules old h old.groups.has_failed (olds h) (may_be h) in
      record {
        news = olds h;
        may_be = may;
        leads = passed_leads rules h n (recorded n happened o) history (unless_taken (is_turned_away o) _ Passed taken (comes.others h other o ∙ quiet n)) (olds h) one.0 one.1;
      }

  -- a node that has failed passes it over
  pub failed_passes : old.groups.has_failed ≡ true → StaysInAll rules old new → (h : ℕ) → LeadsIn rules history happened PassedOver old new h (olds h)
  failed_passes failed keeps =
      let own_one = one_of rules old group old.groups.has_failed (olds group) (may_be group) in
      let r = recorded n happened PassedOver in
      let downs = subst (λ b. MayBeWhen rules old group b (olds group)) failed (may_be group) in
      in_each happened PassedOver
      (record {
        news = olds group;
        may_be = keeps group (olds group) (may_be group);
        leads = stays_leads rules group n r history (olds group) own_one.0 own_one.1
            (λ x there.
            let down = is_down rules old group (olds group) downs x there in
            subst (λ y. MayBecome rules group n r history (seen_by group r) y y) (sym down.1) (passed_becomes rules group n history happened ge comes down.0));
      })
      (λ h other. passes h PassedOver other refl (λ k. refl) (keeps h (olds h) (may_be h)))

  -- a node that goes on refuses it, and all is as it was
  pub refused_stays : (i : IsIn rules old group (olds group)) (why : RefusalReason) → KeepsLawAt rules (Up i.state) → refusal_of n i.state ge ≡ Some why → StaysInAll rules old new
      → (h : ℕ) → LeadsIn rules history happened (Refused why) old new h (olds h)
  refused_stays i why law refused keeps =
      in_each happened (Refused why)
      (record {
        news = olds group;
        may_be = keeps group (olds group) (may_be group);
        leads = subst (λ xs. EventLeads rules group n (recorded n happened (Refused why)) history xs xs) (sym i.alone)
            (refused_leads rules group n history happened ge comes i.state law why refused);
      })
      (λ h other. passes h (Refused why) other refl (λ k. refl) (keeps h (olds h) (may_be h)))

  -- the node stopped, and this group's event was none, or wasn't begun
  pub halts_so : (happens : ClusterEvent) (names : List Unknown) (h : ℕ) (i : IsIn rules old h (olds h)) → seen_by h (recorded n happens (Stopped names)) ≡ Halted n
      → new.groups.has_failed ≡ true → own_tokens h names ≡ tokens_of i.state.untold → new.groups.shows h (i.state.stored ∷ [])
      → LeadsIn rules history happens (Stopped names) old new h (olds h)
  halts_so happens names h i seen failed named shown =
      subst (λ xs. LeadsIn rules history happens (Stopped names) old new h xs) (sym i.alone)
      (record {
        news = Down i.state.stored ∷ [];
        may_be = is_in_shown rules new h i.state.stored [] failed shown;
        leads = halted_leads rules h n history happens names i.state seen named;
      })

  module _ {F : Type 0} (going : old.groups.has_failed ≡ false) where
    -- another group where the node goes on
    pub goes_on_beside : (result : Result Outcome (Fault F)) (o : ClusterOutcome) → StaysElse old new group result → GoesOn result → new.groups.has_failed ≡ false
        → is_turned_away o ≡ false → ((k : ℕ) → aside k o ≡ Passed) → (h : ℕ) → (h ≡ group → ⊥) → LeadsIn rules history happened o old new h (olds h)
    goes_on_beside result o stays goes still taken quiet h other =
        let i = is_in rules old h (olds h) going (may_be h) in
        passes h o other taken quiet
        (subst (MayBe rules new h) (sym i.alone) (is_in_one rules new h i.state still (up_stays rules old new group h result i.state stays other goes i.up)))

    -- and where it stopped
    pub halts_beside : (happens : ClusterEvent) (why : Cause F) (unknown : _) → StaysElse {T = Outcome} old new group (Err (fault.Stopped why unknown)) → new.groups.has_failed ≡ true
        → (h : ℕ) → seen_by h (recorded n happens (Stopped (names_in unknown.items))) ≡ Halted n → (h ≡ group → ⊥)
        → LeadsIn rules history happens (Stopped (names_in unknown.items)) old new h (olds h)
    halts_beside happens why unknown stays failed h seen other =
        let i = is_in rules old h (olds h) going (may_be h) in
        halts_so happens (names_in unknown.items) h i seen failed
        (names_own h unknown.items ∙ ap tokens_of (stays.named h other ∙ who_waits rules old h i.state i.up))
        (stays.kept h (i.state.stored ∷ []) other (shows_it rules old h i.state i.up))
