-- The steps by which a node opens a group, and how each of them stops.
use Rattle.std.proofs.Common.{◌≡◌, ◌==◌, ◌+◌, inl, inr, ℕ, Bool, true, false, List, [], ◌∷◌, Option, Some, None, Result, Ok, Err, IfErr, IfOk, OnOk, refl, sym, ap, subst, ◌∙◌}
use Rattle.std.specs.List.{AllZip}
use Rattle.std.proofs.lemmas.Bool.Decides.{Decides-eqb}
use Rattle.raft_conditions.specs.Reason.{reason_of}
use Rattle.raft_group_step.specs.GroupEvent.{Open}
use Rattle.raft_group_step.specs.GroupState.{Untold, state_of}
use Rattle.raft_group_step.specs.GroupStep.{group_step}
use Rattle.raft_group_step.specs.StoredGroup.{Snapshot, StoredGroup}
use Rattle.raft_group_storage.specs.Keeping.{FailsAnyhow, KeepsAll, ShowsMore}
use Rattle.raft_messages.specs.declared.memberships.SnapshotBytes.{SnapshotBytes}
use Rattle.raft_messages.specs.declared.message.Message.{Message as Sent}
use Rattle.raft_executor.proofs.StoringLemmas.{fails_still}
use Rattle.raft_executor.specs.Said.{SaysAll}
use Rattle.raft_executor.specs.Stored.{FailsAt}
use Rattle.raft_laws.specs.GroupWorld.{Up}
use Rattle.raft_laws.specs.Stop.{stopped_after}
use Rattle.raft_laws.proofs.BallotAgreement.{same_some}
use Rattle.raft_member.specs.Member.{HasEnded as EndsAtMember, IsUp}
use Rattle.raft_member.specs.declared.member.Ended.{Ended}
use Rattle.raft_member.specs.declared.member.Ended.TheVariants as ended
use Rattle.raft_member.specs.declared.member.Member.{Member}
use Rattle.raft_groups.specs.Faults.{HasMet}
use Rattle.raft_groups.specs.Opening.{IsLeftByOpening}
use Rattle.raft_groups.specs.Standing.{HasMember, StandsAs}
use Rattle.raft_groups.specs.declared.fault.GroupsFault.{GroupsFault}
use Rattle.raft_groups.specs.declared.fault.GroupsFault.TheVariants as groups_fault
use Rattle.raft_applier.specs.Following.{HasWholeSnapshot}
use Rattle.raft_framed_groups.specs.Answers.{Node, Stands}
use Rattle.raft_framed_groups.specs.Frames.{IsFramed}
use Rattle.raft_machines.specs.Machine.{MachineRules}
use Rattle.raft_node_faults.specs.Fault.{cause_of}
use Rattle.raft_node_faults.specs.declared.fault.Cause.{Cause}
use Rattle.raft_node_faults.specs.declared.fault.Fault.{Fault}
use Rattle.raft_node_faults.specs.declared.fault.Fault.TheVariants as fault
use Rattle.raft_node.specs.Ending.{FailsBy, IsLeft}
use Rattle.raft_node.specs.Opening.{HasNotOpened, IsBegun, IsReopened, OpensGroup, StopsNaming}
use Rattle.raft_node.specs.Running.{Running, RunsAt}
use Rattle.raft_node.specs.Settling.{IsGroupsFault, IsStopFor, IsStoppedBy, IsTold, NamesAll}
use Rattle.raft_node.specs.Standing.{IsAt, NodeValue}
use Rattle.raft_node.specs.Waiting.{waiting_of}
use Rattle.raft_node.specs.declared.outcome.Outcome.{Outcome}
use Rattle.raft_node.proofs.Ends.{waits}
use Rattle.raft_node.proofs.Faults.{left_before, left_behind, shown_before, stands_on}
use Rattle.raft_node.proofs.Openings.{none_waits, opened_group}

-- ---- a member is opened

-- the member that did its step is up, in a node whose groups have this id now
pub opened_up : {X : Type 0} (stands : X → Snapshot → Type 0) (own now : ℕ) → now ≡ own → (members : ℕ → Option Member) (is_well : Type 0) (shows : ℕ → List StoredGroup → Type 0) (group : ℕ) (st : StoredGroup) (end : Ended X) (sent : _) → end ≡ ended.Done sent
    → HasMember own members group (λ m. EndsAtMember stands is_well (shows group) own (state_of st) Open None m end)
    → SaysAll stands sent.items (group_step own (state_of st) Open).messages × StandsAs now members is_well shows group (Up (group_step now (state_of st) Open).state) × shows group ((group_step own (state_of st) Open).state.stored ∷ [])
opened_up stands own now id members is_well shows group st end sent is h =
    let done = subst (λ x. HasMember own members group (λ m. EndsAtMember stands is_well (shows group) own (state_of st) Open None m x)) is h in (
      done.holds.2,
      subst (λ k. HasMember k members group (λ m. IsUp is_well (shows group) m (group_step k (state_of st) Open).state)) (sym id) (record { member = done.member; has = done.has; owned = done.owned; holds = done.holds.3 }),
      done.holds.3.stored,
    )

-- ---- its machine is seated

pub seats : (rules : MachineRules) (old new : NodeValue) (group : ℕ) (st : StoredGroup) (m : Member) → new.groups.own ≡ old.groups.own → new.groups.members group ≡ old.groups.members group → new.groups.is_well
    → ((parts : List StoredGroup) → old.groups.shows group parts → new.groups.shows group parts) → old.groups.members group ≡ Some m → Stands old.groups group (Up (group_step old.groups.own (state_of st) Open).state)
    → (IsUp old.groups.is_well (old.groups.shows group) m (group_step m.id (state_of st) Open).state → HasWholeSnapshot (group_step m.id (state_of st) Open).state → RunsAt rules (new.running group) (group_step m.id (state_of st) Open).state)
    → HasWholeSnapshot (group_step old.groups.own (state_of st) Open).state → IsAt rules new group (group_step old.groups.own (state_of st) Open).state
seats rules old new group st m own members well keeps has up runs whole =
    let same : up.member ≡ m = same_some (sym up.has ∙ has) in
    let id : m.id ≡ old.groups.own = ap (λ (x : Member). x.id) (sym same) ∙ up.owned in
    let here : IsUp old.groups.is_well (old.groups.shows group) m (group_step old.groups.own (state_of st) Open).state =
    subst (λ x. IsUp old.groups.is_well (old.groups.shows group) x (group_step old.groups.own (state_of st) Open).state) same up.holds in
    record {
      up = stands_on old.groups new.groups group (Up (group_step old.groups.own (state_of st) Open).state) own members (λ w. well) keeps up;
      runs =
          subst (λ k. RunsAt rules (new.running group) (group_step k (state_of st) Open).state) id
          (runs (subst (λ k. IsUp old.groups.is_well (old.groups.shows group) m (group_step k (state_of st) Open).state) (sym id) here) (subst (λ k. HasWholeSnapshot (group_step k (state_of st) Open).state) (sym id) whole));
    }

-- ---- stops

module _ {F : Type 0} where
  pub told_stops : (same : Type 0) (running : ℕ → Option Running) (cause : Cause F) (why : Fault F) → IsStoppedBy cause why → NamesAll same running why → StopsNaming running why
  told_stops same running cause (fault.Stopped met unknown) by names = names
  told_stops same running cause other by names = absurd by

  pub stop_fails : (old new : Bool) (cause : Cause F) (why : Fault F) → IsStoppedBy cause why → FailsBy {T = Outcome} old (Err why) new → new ≡ true
  stop_fails old new cause (fault.Stopped met unknown) by fails = fails
  stop_fails old new cause other by fails = absurd by

  pub naming_fails : (old new : Bool) (running : ℕ → Option Running) (why : Fault F) → StopsNaming running why → FailsBy {T = Outcome} old (Err why) new → new ≡ true
  naming_fails old new running (fault.Stopped met unknown) names fails = fails
  naming_fails old new running other names fails = absurd names

  pub stops_for : (running : ℕ → Option Running) (waiting : ℕ → List Untold) (cause : Cause F) (why : Fault F) → ((group : ℕ) → waiting group ≡ waiting_of (running group)) → IsStopFor cause waiting why → StopsNaming running why
  stops_for running waiting cause (fault.Stopped met unknown) same is = λ group. is.1 group ∙ same group
  stops_for running waiting cause other same is = absurd is

  pub stops_same : (a b : ℕ → Option Running) (why : Fault F) → ((group : ℕ) → waiting_of (a group) ≡ waiting_of (b group)) → StopsNaming a why → StopsNaming b why
  stops_same a b (fault.Stopped met unknown) same names = λ group. names group ∙ same group
  stops_same a b other same names = absurd names

  module _ (rules : MachineRules) (stands : SnapshotBytes → Snapshot → Type 0) (old new : NodeValue) (group : ℕ) (st : StoredGroup) (own : new.groups.own ≡ old.groups.own) (more : ShowsMore new.groups.shows) where
    -- the groups met a fault
    pub fault_opens : (mid : Node) (same : Type 0) (met : GroupsFault F) (why : Fault F) → HasMet (λ broken. IsLeftByOpening (mid.shows group) mid.fails old.groups.own st) met → IsGroupsFault met why
        → IsTold same (record { groups = mid; running = old.running; streams = old.streams }) new why → OpensGroup rules stands old new group st (Err why)
    fault_opens mid same groups_fault.Failed why h is told = absurd h
    fault_opens mid same groups_fault.UnknownGroup why h is told = absurd h
    fault_opens mid same groups_fault.GroupExists why h is told = absurd h
    fault_opens mid same (groups_fault.Stopped met) why h is told =
        (stop_fails mid.has_failed new.groups.has_failed (cause_of met) why is told.fails, told_stops same old.running (cause_of met) why is told.names, left h)
      where
        left : IsLeftByOpening (mid.shows group) mid.fails old.groups.own st → IsLeft new group (state_of st) Open
        left (inl shown) = left_before new group (state_of st) Open more (λ c s. told.failed c s (shown.1 c s)) (told.kept group _ shown.0)
        left (inr shown) = record {
          shown = (shown.0, subst (λ k. new.groups.shows group (stopped_after shown.0 st (group_step k (state_of st) Open) ∷ stopped_after (shown.0 + 1) st (group_step k (state_of st) Open) ∷ [])) (sym own) (told.kept group _ shown.1));
          failed = subst (λ k. FailsAt new.groups.fails shown.0 (group_step k (state_of st) Open).commands st) (sym own) (fails_still mid.fails new.groups.fails _ _ told.failed shown.2);
        }

    -- behind the step
    pub behind_opens : (why : Fault F) → new.groups.has_failed ≡ true → StopsNaming old.running why → FailsAnyhow new.groups.fails → new.groups.shows group ((group_step old.groups.own (state_of st) Open).state.stored ∷ []) → OpensGroup rules stands old new group st (Err why)
    behind_opens why failed names anyhow shown = (failed, names, left_behind new group (state_of st) Open more anyhow (subst (λ k. new.groups.shows group ((group_step k (state_of st) Open).state.stored ∷ [])) (sym own) shown))

-- nobody waits for a group that was opened just now
pub same_waiting : (rules : MachineRules) (own : ℕ) (st : StoredGroup) (group : ℕ) (a b : ℕ → Option Running) → RunsAt rules (a group) (group_step own (state_of st) Open).state → b group ≡ None → ((other : ℕ) → (other ≡ group → ⊥) → a other ≡ b other)
    → (other : ℕ) → waiting_of (a other) ≡ waiting_of (b other)
same_waiting rules own st group a b runs none others other = go (other == group) (Decides-eqb other group)
  where
    go : (t : Bool) → ((t ≡ true → other ≡ group) × (other ≡ group → t ≡ true)) → waiting_of (a other) ≡ waiting_of (b other)
    go true d =
        let here : waiting_of (a group) ≡ waiting_of (b group) = waits rules (a group) _ runs ∙ none_waits own st ∙ sym (ap waiting_of none) in
        subst (λ x. waiting_of (a x) ≡ waiting_of (b x)) (sym (d.0 refl)) here
    go false d = ap waiting_of (others other (λ is. let no : false ≡ true = d.1 is in cc))

-- what an opening sends is framed, or that stops it behind its step
module _ {F : Type 0} (rules : MachineRules) (stands : SnapshotBytes → Snapshot → Type 0) (old mid new : NodeValue) (group : ℕ) (st : StoredGroup) (own : new.groups.own ≡ old.groups.own) (more : ShowsMore new.groups.shows) (same : Type 0) where
  pub opening_ends : (messages : List (Sent SnapshotBytes)) (r : Result Outcome (Fault F)) → OnOk r (IsAt rules new group (group_step old.groups.own (state_of st) Open).state) → SaysAll stands messages (group_step old.groups.own (state_of st) Open).messages
      → IfOk r (λ o. o.group ≡ group) → IfOk r (λ o. AllZip (IsFramed group) messages o.frames.items) → IfOk r (λ o. o.told.items ≡ []) → IfOk r (λ o. o.unknown.items ≡ []) → IfErr r (StopsNaming mid.running) → IfErr r (IsTold same mid new)
      → ((other : ℕ) → waiting_of (mid.running other) ≡ waiting_of (old.running other)) → FailsAnyhow mid.groups.fails → mid.groups.shows group ((group_step old.groups.own (state_of st) Open).state.stored ∷ []) → OpensGroup rules stands old new group st r
  opening_ends messages (Ok o) at say is framed told unknown names tells waiting anyhow shown =
      opened_group rules stands new group st o messages (subst (λ k. IsAt rules new group (group_step k (state_of st) Open).state) (sym own) at) (subst (λ k. SaysAll stands messages (group_step k (state_of st) Open).messages) (sym own) say) is framed told unknown
  opening_ends messages (Err why) at say is framed told unknown names tells waiting anyhow shown =
      behind_opens rules stands old new group st own more why (naming_fails mid.groups.has_failed new.groups.has_failed mid.running why names tells.fails) (stops_same mid.running old.running why waiting names) (λ c s. tells.failed c s (anyhow c s)) (tells.kept group _ shown)

-- ---- before the first group

-- the node hasn't opened any group yet, whatever was read of its storage
pub begun_on : (old new : NodeValue) (kept : ℕ → StoredGroup) → IsBegun old kept → new.groups.own ≡ old.groups.own → new.groups.has_failed ≡ old.groups.has_failed → (old.groups.is_well → new.groups.is_well) → KeepsAll old.groups.shows new.groups.shows
    → ((group : ℕ) → new.groups.members group ≡ old.groups.members group) → ((group : ℕ) → new.running group ≡ None) → IsBegun new kept
begun_on old new kept begun own failed well keeps members idle = record {
  going = failed ∙ begun.going;
  keeps = record {
    well = well begun.keeps.well;
    shown = λ group. keeps group _ (begun.keeps.shown group);
    reached = λ group present. subst (λ k. IsReopened k (kept group)) (sym own) (begun.keeps.reached group present);
  };
  no_member = λ group. members group ∙ begun.no_member group;
  idle = idle;
}

pub stopped_first : {F : Type 0} (new : NodeValue) (kept : ℕ → StoredGroup) (running : ℕ → Option Running) (why : Fault F) → ShowsMore new.groups.shows → FailsAnyhow new.groups.fails → ((group : ℕ) → running group ≡ None) → StopsNaming running why
    → ((group : ℕ) → new.groups.shows group (kept group ∷ [])) → HasNotOpened new.groups.own kept new.groups.shows new.groups.fails why
stopped_first new kept running why more anyhow idle names shown = record {
  stops = stops_same running (λ group. None) why (λ group. ap waiting_of (idle group)) names;
  left = λ group present. shown_before new group (state_of (kept group)) Open more (shown group);
  none = λ group absent. shown group;
  failed = inl anyhow;
}
