-- Which state of a group a member and its storage are in, and how an event that comes to it ends.
use Rattle.std.specs.Prelude.{◌≡◌, ◌+◌, ℕ, true, false, List, [], ◌∷◌, Option, Some, None}
use Rattle.raft_group_step.specs.StoredGroup.{Snapshot, StoredGroup}
use Rattle.raft_group_step.specs.GroupState.{GroupState}
use Rattle.raft_group_step.specs.GroupEvent.{GroupEvent}
use Rattle.raft_group_step.specs.GroupStep.{group_step}
use Rattle.raft_group_step.specs.Refusal.{refusal_of}
use Rattle.raft_conditions.specs.Reason.{reason_of}
use Rattle.raft_engine.specs.Building.{IsSnapshotOfApplied, is_building}
use Rattle.raft_engine.specs.Events.{IsReady}
use Rattle.raft_engine.specs.Standing.{Engine as EngineOf, IsStateOf}
use Rattle.raft_executor.specs.Said.{SaysAll}
use Rattle.raft_executor.specs.Stored.{FailsAt}
use Rattle.raft_group_storage.specs.Keeping.{Fails}
use Rattle.raft_laws.specs.Stop.{stopped_after}
use Rattle.raft_member.specs.declared.member.ByteGroup.{ByteGroup}
use Rattle.raft_member.specs.declared.member.Member.{Member}
use Rattle.raft_member.specs.declared.member.Ended.{Ended}
use Rattle.raft_member.specs.declared.member.Ended.TheVariants as ended
use Rattle.raft_member.specs.declared.member.Broken.{Broken}
use Rattle.raft_member.specs.declared.member.Broken.TheVariants as broken

abbrev pub Engine : Type 0
Engine = EngineOf ByteGroup (List ℕ)

-- the engine stands for the state, and waits for the next event
pub record IsIdle (own : ℕ) (e : Engine) (s : GroupState) : Type 0 where
  pub stands : IsStateOf own e s
  pub empty : e.output.queue ≡ []
  pub not_building : is_building e ≡ false

-- what each state of a run has, beside what its engine knows
pub record IsLawful (own : ℕ) (s : GroupState) : Type 0 where
  pub ready : IsReady own s

-- what is handed in stands for the snapshot of what is applied, where one is to be built; nothing is handed in only where none is
abbrev pub IsBuilt : {X : Type 0} → (X → Snapshot → Type 0) → Option X → GroupState → Type 0
IsBuilt stands None s = (x : Snapshot) → IsSnapshotOfApplied s x → ⊥
IsBuilt stands (Some built) s = (x : Snapshot) → IsSnapshotOfApplied s x → stands built x

-- no call of the storage has failed, and it shows of the group these parts
module _ (is_well : Type 0) (shown : List StoredGroup → Type 0) where
  -- the member is up in this state
  pub record IsUp (m : Member) (s : GroupState) : Type 0 where
    pub engine : Engine
    pub has_engine : m.engine ≡ Some engine
    pub idle : IsIdle m.id engine s
    pub well : is_well
    pub stored : shown (s.stored ∷ [])
    pub present : s.stored.present ≡ true
    pub moment : m.moment ≡ s.now

  -- the member is down, and this is stored
  pub record IsDown (m : Member) (kept : StoredGroup) : Type 0 where
    pub no_engine : m.engine ≡ None
    pub well : is_well
    pub stored : shown (kept ∷ [])
    pub present : kept.present ≡ true

-- the event isn't refused; it stopped at one of its storing commands: those before it are stored, it may be, and the member is down
pub record HasStopped (shown : List StoredGroup → Type 0) (fails : Fails) (own : ℕ) (s : GroupState) (event : GroupEvent) (m : Member) : Type 0 where
  pub taken : refusal_of own s event ≡ None
  pub number : ℕ
  pub no_engine : m.engine ≡ None
  pub stored : shown (stopped_after number s.stored (group_step own s event) ∷ stopped_after (number + 1) s.stored (group_step own s event) ∷ [])
  pub failed : FailsAt fails number (group_step own s event).commands s.stored

-- the event met a fault: before it was known whether it is refused, or once it was begun
abbrev pub HasBrokenOff : {F : Type 0} → Type 0 → (List StoredGroup → Type 0) → Fails → ℕ → GroupState → GroupEvent → Member → Broken F → Type 0
HasBrokenOff is_well shown fails own s event m (broken.Unjudged met) = IsDown is_well shown m s.stored
HasBrokenOff is_well shown fails own s event m (broken.Begun met) = HasStopped shown fails own s event m

module _ {X : Type 0} (stands : X → Snapshot → Type 0) (is_well : Type 0) (shown : List StoredGroup → Type 0) where
  -- the event ended so at a member that was in this state, where it was to stop after so many storing commands, or to run on
  abbrev pub HasEnded : ℕ → GroupState → GroupEvent → Option ℕ → Member → Ended X → Type 0
  HasEnded own s event stop m (ended.Done sent) =
      (stop ≡ None) × (refusal_of own s event ≡ None)
      × SaysAll stands sent.items (group_step own s event).messages × IsUp is_well shown m (group_step own s event).state
  HasEnded own s event stop m (ended.Refused why) =
      (refusal_of own s event ≡ Some (reason_of why)) × IsUp is_well shown m s
  HasEnded own s event stop m ended.Stopped =
      (refusal_of own s event ≡ None)
      × ((number : ℕ) × (stop ≡ Some number) × IsDown is_well shown m (stopped_after number s.stored (group_step own s event)))
  HasEnded own s event stop m ended.Skipped = ⊥
