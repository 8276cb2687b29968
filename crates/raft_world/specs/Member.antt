-- Which state a member is in that has what it stores in memory, and how an event that comes to it ends.
use Rattle.std.specs.Prelude.{◌≡◌, ℕ, map, Option, Some, None}
use Rattle.std.specs.declared.alloc.AllocError.{AllocError}
use Rattle.raft_group_step.specs.StoredGroup.{Snapshot, StoredGroup}
use Rattle.raft_group_step.specs.GroupState.{GroupState}
use Rattle.raft_group_step.specs.GroupEvent.{GroupEvent}
use Rattle.raft_group_step.specs.GroupStep.{group_step}
use Rattle.raft_group_step.specs.Refusal.{refusal_of}
use Rattle.raft_conditions.specs.Reason.{reason_of}
use Rattle.raft_group_storage.specs.Plain.{IsOnly}
use Rattle.raft_group_storage.specs.declared.only_group.TheConstants.{ONLY_GROUP}
use Rattle.raft_messages.specs.Messages.{message_of}
use Rattle.raft_laws.specs.GroupWorld.{NodeState, Absent, Up, Down}
use Rattle.raft_laws.specs.Stop.{stopped_after}
use Rattle.raft_member.specs.Member as over
use Rattle.raft_member.specs.declared.member.Ended.{Ended as EndedOf}
use Rattle.raft_member.specs.declared.member.Ended.TheVariants as ended
use Rattle.raft_member.specs.declared.member.Broken.{Broken as BrokenOf}
use Rattle.raft_member.specs.declared.member.Broken.TheVariants as broken
use Rattle.raft_world.specs.declared.member.Member.{Member}

abbrev pub Ended : Type 0
Ended = EndedOf Snapshot

abbrev pub Broken : Type 0
Broken = BrokenOf AllocError

-- the member is up in this state
abbrev pub IsUp : Member → GroupState → Type 0
IsUp m s = over.IsUp (Unit {0}) (IsOnly m.stored ONLY_GROUP) m.replica s

-- the member is down with what it has stored
abbrev pub IsDown : Member → StoredGroup → Type 0
IsDown m kept = over.IsDown (Unit {0}) (IsOnly m.stored ONLY_GROUP) m.replica kept

-- the member is in this state
abbrev pub IsAt : Member → NodeState → Type 0
IsAt m Absent = ⊥
IsAt m (Up s) = IsUp m s
IsAt m (Down stored) = IsDown m stored

-- the event isn't refused; it stopped after some of its storing commands, and the member is down
pub record HasStopped (own : ℕ) (s : GroupState) (event : GroupEvent) (m : Member) : Type 0 where
  pub taken : refusal_of own s event ≡ None
  pub number : ℕ
  pub down : IsDown m (stopped_after number s.stored (group_step own s event))

-- the event met want of memory: before it was known whether it is refused, or once it was begun
abbrev pub HasBrokenOff : ℕ → GroupState → GroupEvent → Member → Broken → Type 0
HasBrokenOff own s event m (broken.Unjudged met) = IsDown m s.stored
HasBrokenOff own s event m (broken.Begun met) = HasStopped own s event m

-- the event ended so at a member that was in this state, where it was to stop after so many storing commands, or to run on
abbrev pub HasEnded : ℕ → GroupState → GroupEvent → Option ℕ → Member → Ended → Type 0
HasEnded own s event stop m (ended.Done sent) =
    (stop ≡ None) × (refusal_of own s event ≡ None)
    × (map message_of sent.items ≡ (group_step own s event).messages) × IsUp m (group_step own s event).state
HasEnded own s event stop m (ended.Refused why) =
    (refusal_of own s event ≡ Some (reason_of why)) × IsUp m s
HasEnded own s event stop m ended.Stopped =
    (refusal_of own s event ≡ None)
    × ((number : ℕ) × (stop ≡ Some number) × IsDown m (stopped_after number s.stored (group_step own s event)))
HasEnded own s event stop m ended.Skipped = ⊥
