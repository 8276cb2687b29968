-- How a step runs at a member, while its engine is taken out.
use Rattle.std.specs.Prelude.{◌≡◌, ◌+◌, ℕ, List, [], ◌∷◌, Option, Some, None, Result, Ok, Err}
use Rattle.raft_group_step.specs.StoredGroup.{StoredGroup, Snapshot, after_storing_all}
use Rattle.raft_group_step.specs.GroupState.{GroupState}
use Rattle.raft_group_step.specs.GroupEvent.{GroupEvent}
use Rattle.raft_group_step.specs.StepResult.{StepResult}
use Rattle.raft_engine.specs.Standing.{Given, IsWholeStepOf}
use Rattle.raft_messages.specs.declared.message.MessageBody.{MessageBody as Body}
use Rattle.raft_messages.specs.declared.message.MessageBody.TheVariants.{VoteRequest, VoteReply, AppendRequest, AppendReply, SnapshotRequest, SnapshotReply}
use Rattle.raft_executor.specs.Said.{SaysAll}
use Rattle.raft_executor.specs.Stored.{FailsAt, IsGiven, queue_has_snapshot}
use Rattle.raft_group_storage.specs.Keeping.{Fails}
use Rattle.raft_laws.specs.Stop.{stopped_after}
use Rattle.raft_member.specs.Member.{Engine, HasEnded, IsDown, IsUp}
use Rattle.raft_member.specs.declared.member.Member.{Member}
use Rattle.raft_member.specs.declared.member.Ended.{Ended}
use Rattle.raft_member.specs.declared.member.Ended.TheVariants as ended

-- the engine has done the step, which begins with this stored, and the snapshot that its queue stores is given
pub record IsRun {X : Type 0} (stands : X → Snapshot → Type 0) (own : ℕ) (e : Engine) (old : StoredGroup) (r : StepResult) (given : Option X) (at : ℕ) : Type 0 where
  pub taken : Given
  pub step : IsWholeStepOf taken own e r
  pub is_given : IsGiven stands (queue_has_snapshot e.output.queue) given taken.snapshot
  pub stored : r.state.stored ≡ after_storing_all r.commands old
  pub moment : at ≡ r.state.now

-- the snapshot that a message brings, if it does, stands for this one
abbrev pub Brings : {X : Type 0} → (X → Snapshot → Type 0) → Body X → Snapshot → Type 0
Brings stands (VoteRequest asked) y = Unit {0}
Brings stands (VoteReply answer) y = Unit {0}
Brings stands (AppendRequest m) y = Unit {0}
Brings stands (AppendReply m) y = Unit {0}
Brings stands (SnapshotRequest vote id x) y = stands x y
Brings stands (SnapshotReply m) y = Unit {0}

-- the member that an event leaves: up with this engine, unless the event stopped
abbrev pub left_by : {X : Type 0} → Ended X → Engine → Member → Member
left_by (ended.Done sent) e m = record m { engine = Some e }
left_by (ended.Refused why) e m = record m { engine = Some e }
left_by ended.Stopped e m = m
left_by ended.Skipped e m = m

-- the member that an event leaves which was told so: at a fault the engine is gone
abbrev pub left_at : {X F : Type 0} → Result (Ended X) F → Engine → Member → Member
left_at (Ok end) e m = left_by end e m
left_at (Err met) e m = m

-- the step stopped at one of its storing commands: those before it are stored, it may be, and the member is down
pub record HasHalted (shown : List StoredGroup → Type 0) (fails : Fails) (old : StoredGroup) (r : StepResult) (m : Member) : Type 0 where
  pub number : ℕ
  pub no_engine : m.engine ≡ None
  pub stored : shown (stopped_after number old r ∷ stopped_after (number + 1) old r ∷ [])
  pub failed : FailsAt fails number r.commands old

module _ {X : Type 0} (stands : X → Snapshot → Type 0) (is_well : Type 0) (shown : List StoredGroup → Type 0) where
  -- the step ran to its end, or stopped where it was to stop
  abbrev pub HasRun : StoredGroup → StepResult → Option ℕ → Member → Ended X → Type 0
  HasRun old r stop m (ended.Done sent) = (stop ≡ None) × SaysAll stands sent.items r.messages × IsUp is_well shown m r.state
  HasRun old r stop m (ended.Refused why) = ⊥
  HasRun old r stop m ended.Stopped = (number : ℕ) × (stop ≡ Some number) × IsDown is_well shown m (stopped_after number old r)
  HasRun old r stop m ended.Skipped = ⊥

  module _ {F : Type 0} where
    -- where the call succeeds the step ran so, at the member with this engine put back
    abbrev pub RunsTo : StoredGroup → StepResult → Option ℕ → Engine → Member → Result (Ended X) F → Type 0
    RunsTo old r stop e m (Ok end) = HasRun old r stop (left_by end e m) end
    RunsTo old r stop e m (Err met) = Unit {0}

    -- and the event ended so
    abbrev pub EndsTo : ℕ → GroupState → GroupEvent → Option ℕ → Engine → Member → Result (Ended X) F → Type 0
    EndsTo own s event stop e m (Ok end) = HasEnded stands is_well shown own s event stop (left_by end e m) end
    EndsTo own s event stop e m (Err met) = Unit {0}
