-- A fault that is told leaves the other groups; and a stop ends its event.
use Rattle.std.proofs.Common.{◌≡◌, ◌+◌, ℕ, List, [], ◌∷◌, Err, sym, ap, subst, ◌∙◌, inl, inr, length, Option}
use Rattle.std.proofs.Math.Seq.{take-length}
use Rattle.raft_group_step.specs.GroupEvent.{GroupEvent}
use Rattle.raft_group_step.specs.GroupState.{GroupState}
use Rattle.raft_group_step.specs.GroupStep.{group_step}
use Rattle.raft_group_step.specs.StoredGroup.{Snapshot, StoredGroup, after_storing_all}
use Rattle.raft_executor.proofs.StoringLemmas.{fails_first}
use Rattle.raft_group_storage.specs.Keeping.{FailsAnyhow, ShowsMore}
use Rattle.raft_messages.specs.declared.memberships.SnapshotBytes.{SnapshotBytes}
use Rattle.raft_laws.specs.GroupWorld.{NodeState, Absent, Up, Down}
use Rattle.raft_laws.specs.Stop.{stopped_after}
use Rattle.raft_laws.proofs.StepOrder.{step-keeps}
use Rattle.raft_framed_groups.specs.Answers.{Node, Stands}
use Rattle.raft_machines.specs.Machine.{MachineRules}
use Rattle.raft_node_faults.specs.declared.fault.Cause.{Cause}
use Rattle.raft_node_faults.specs.declared.fault.Fault.{Fault}
use Rattle.raft_node_faults.specs.declared.fault.Fault.TheVariants as fault
use Rattle.raft_machines.specs.declared.telling.UnknownTokens.{UnknownTokens}
use Rattle.raft_node.specs.Ending.{GoesOn, HasEnded, HasStopped, IsLeft, IsShownLeft, NamesElse, StaysElse}
use Rattle.raft_node.specs.Running.{Running}
use Rattle.raft_node.specs.Settling.{IsStoppedBy, IsTold, NamesAll}
use Rattle.raft_node.specs.Standing.{NodeValue}
use Rattle.raft_node.specs.Waiting.{named_of, waiting_of}
use Rattle.raft_node.specs.declared.outcome.Outcome.{Outcome}

-- where a member and what is shown of its group stay, the node stands as before
pub stands_on : (a b : Node) (group : ℕ) (x : NodeState) → b.own ≡ a.own → b.members group ≡ a.members group → (a.is_well → b.is_well)
    → ((parts : List StoredGroup) → a.shows group parts → b.shows group parts) → Stands a group x → Stands b group x
stands_on a b group Absent own same well keeps h = (same ∙ h.0, well h.1, keeps _ h.2)
stands_on a b group (Up s) own same well keeps h =
    let u = h.holds in
    record {
      member = h.member;
      has = same ∙ h.has;
      owned = h.owned ∙ sym own;
      holds = record {
        engine = u.engine;
        has_engine = u.has_engine;
        idle = u.idle;
        well = well u.well;
        stored = keeps (s.stored ∷ []) u.stored;
        present = u.present;
        moment = u.moment;
      };
    }
stands_on a b group (Down kept) own same well keeps h =
    let d = h.holds in
    record {
      member = h.member;
      has = same ∙ h.has;
      owned = h.owned ∙ sym own;
      holds = record { no_engine = d.no_engine; well = well d.well; stored = keeps (kept ∷ []) d.stored; present = d.present };
    }

module _ {F : Type 0} where
  all_stays : (same : Type 0) (running : ℕ → Option Running) (why : Fault F) → GoesOn {T = Outcome} (Err why) → NamesAll same running why → same
  all_stays same running (fault.Stopped why unknown) goes names = absurd goes
  all_stays same running other goes names = names

  names_else : (same : Type 0) (old : NodeValue) (group : ℕ) (why : Fault F) → NamesAll same old.running why → NamesElse {T = Outcome} old group (Err why)
  names_else same old group (fault.Stopped why unknown) names = λ other apart. names other
  names_else same old group other names = tt

  -- a fault that is told leaves the other groups
  pub told_elsewhere : (same : Type 0) (old new : NodeValue) (group : ℕ) (why : Fault F) → (same → (other : ℕ) → new.running other ≡ old.running other)
      → IsTold same old new why → StaysElse {T = Outcome} old new group (Err why)
  told_elsewhere same old new group why runs told = record {
    own = told.own;
    members = λ other x apart goes stands. stands_on old.groups new.groups other x told.own (told.members other) told.well (told.kept other) stands;
    running = λ other apart goes. runs (all_stays same old.running why goes told.names) other;
    kept = λ other parts apart shown. told.kept other parts shown;
    named = names_else same old group why told.names;
    streams = told.streams;
    fails = told.fails;
  }

  -- a stop ends its event so, if what it names is right
  pub stop_ends : (rules : MachineRules) (stands : SnapshotBytes → Snapshot → Type 0) (same : Type 0) (old new : NodeValue) (group : ℕ) (s : GroupState) (e : GroupEvent) (why : Fault F) (cause : Cause F)
      → IsTold same old new why → IsStoppedBy cause why
      → ((unknown : List UnknownTokens) → named_of unknown group ≡ waiting_of (old.running group) → HasStopped stands new group s e unknown cause)
      → HasEnded rules stands new group s e (Err why)
  stop_ends rules stands same old new group s e (fault.Stopped met unknown) cause told by ends =
      (told.fails, subst (HasStopped stands new group s e unknown.items) (sym by) (ends unknown.items (told.names group)))
  stop_ends rules stands same old new group s e other cause told by ends = absurd by

-- ---- what is left

-- nothing of the event was begun
pub shown_before : (n : NodeValue) (group : ℕ) (s : GroupState) (e : GroupEvent) → ShowsMore n.groups.shows → n.groups.shows group (s.stored ∷ []) → IsShownLeft n.groups.shows n.groups.own group s e
shown_before n group s e more shown =
    let r = group_step n.groups.own s e in
    (0, more group (s.stored ∷ []) (stopped_after 0 s.stored r ∷ stopped_after 1 s.stored r ∷ []) (λ x is. elim is [ inl same ↦ inl same | inr miss ↦ absurd miss ]) shown)

pub left_before : (n : NodeValue) (group : ℕ) (s : GroupState) (e : GroupEvent) → ShowsMore n.groups.shows → FailsAnyhow n.groups.fails → n.groups.shows group (s.stored ∷ []) → IsLeft n group s e
left_before n group s e more anyhow shown = record { shown = shown_before n group s e more shown; failed = fails_first n.groups.fails _ _ anyhow }

-- all of it is stored
pub shown_behind : (n : NodeValue) (group : ℕ) (s : GroupState) (e : GroupEvent) → ShowsMore n.groups.shows → n.groups.shows group ((group_step n.groups.own s e).state.stored ∷ [])
    → IsShownLeft n.groups.shows n.groups.own group s e
shown_behind n group s e more shown =
    let r = group_step n.groups.own s e in
    let all : r.state.stored ≡ stopped_after (length r.commands) s.stored r =
    (step-keeps n.groups.own s e).stored ∙ ap (λ cs. after_storing_all cs s.stored) (sym (take-length r.commands)) in (
      length r.commands,
      more group (r.state.stored ∷ []) (stopped_after (length r.commands) s.stored r ∷ stopped_after (length r.commands + 1) s.stored r ∷ [])
          (λ x is. elim is [ inl same ↦ inl (same ∙ all) | inr miss ↦ absurd miss ]) shown,
    )

pub left_behind : (n : NodeValue) (group : ℕ) (s : GroupState) (e : GroupEvent) → ShowsMore n.groups.shows → FailsAnyhow n.groups.fails → n.groups.shows group ((group_step n.groups.own s e).state.stored ∷ [])
    → IsLeft n group s e
left_behind n group s e more anyhow shown = record { shown = shown_behind n group s e more shown; failed = fails_first n.groups.fails _ _ anyhow }
