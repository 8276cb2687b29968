-- When an engine may be handed an event, and what it has done of the event then.
use Rattle.std.specs.Prelude.{◌≡◌, ℕ, ◌≤◌, ◌<◌, ◌^◌, ◌&&◌, ◌||◌, not, Bool, false, [], Some, None}
use Rattle.raft_values.specs.LogId.{next_place}
use Rattle.raft_group_step.specs.Limits.{number_limit}
use Rattle.raft_group_step.specs.StoredGroup.{Snapshot, end_place, last_id, snapshot_last}
use Rattle.raft_group_step.specs.Values.{last_id_lt, vote_eq}
use Rattle.raft_group_step.specs.GroupState.{GroupState, Lead, Role, Follower, Candidate, Leader, is_candidate}
use Rattle.raft_group_step.specs.GroupEvent.{GroupEvent, AddGroup, Call, Receive, Open}
use Rattle.raft_group_step.specs.Message.{MessageBody, VoteRequest, VoteReply, AppendRequest, AppendReply, SnapshotRequest, SnapshotReply}
use Rattle.raft_group_step.specs.Lead.{peer_of}
use Rattle.raft_group_step.specs.Refusal.{refusal_of}
use Rattle.raft_group_step.specs.GroupStep.{group_step}
use Rattle.raft_engine.specs.Standing.{Engine, Given, IsStateOf, IsWholeStepOf, given}

-- places and numbers of requests fit, and what a leader wishes to purge the snapshot has
pub record HasLeadRoom (own : ℕ) (s : GroupState) (lead : Lead) : Type 0 where
  pub places : end_place s.stored < 2 ^ 63
  pub numbers : (n : ℕ) → (peer_of lead n).next_id ≤ 2 ^ 63
  pub wish : (place : ℕ) → s.wish ≡ Some place → place < next_place (snapshot_last s.stored)

-- a leader has room for what it does at the end of an event
abbrev pub CanFinish : ℕ → GroupState → Role → Type 0
CanFinish own s Follower = Unit {0}
CanFinish own s (Candidate granters) = Unit {0}
CanFinish own s (Leader lead) = HasLeadRoom own s lead

-- what a group's states have beside their order: places are low, and what is wished to be purged the
-- snapshot has
pub record IsReady (own : ℕ) (s : GroupState) : Type 0 where
  pub places : end_place s.stored ≤ number_limit
  pub wish : (place : ℕ) → s.wish ≡ Some place → place < next_place (snapshot_last s.stored)

-- a message of the peer to this node comes
abbrev pub received : ℕ → ℕ → MessageBody → ℕ → GroupEvent
received own peer body at = Receive peer (record { sender = peer; addressee = own; body = body }) at

-- an answer that isn't a grant tells a candidate of a log that is greater than its own
abbrev pub tells_greater_log : GroupState → MessageBody → Bool
tells_greater_log s (VoteRequest vote last) = false
tells_greater_log s (VoteReply vote granted last) =
    is_candidate s.role && not (granted && vote_eq vote s.stored.vote) && last_id_lt (last_id s.stored) last
tells_greater_log s (AppendRequest m) = false
tells_greater_log s (AppendReply m) = false
tells_greater_log s (SnapshotRequest vote id snapshot) = false
tells_greater_log s (SnapshotReply m) = false

-- whether a greater log was told of up to an event's end
abbrev pub seen_after : GroupState → GroupEvent → Bool → Bool
seen_after s AddGroup seen = seen
seen_after s (Call call now) seen = seen
seen_after s (Receive peer m now) seen = tells_greater_log s m.body || seen
seen_after s Open seen = seen

module _ {C R : Type 0} where
  -- the engine stands for the state and has nothing left to do, and the event isn't refused
  pub record MayTake (own : ℕ) (e : Engine C R) (s : GroupState) (event : GroupEvent) : Type 0 where
    pub stands : IsStateOf own e s
    pub empty : e.output.queue ≡ []
    pub ready : IsReady own s
    pub accepted : refusal_of own s event ≡ None

  -- what the engine knew as an event began, and whether a greater log was told of up to its end
  abbrev pub given_after : Snapshot → Engine C R → GroupState → GroupEvent → Given
  given_after x e s event = record (given x e s) { seen_greater_log = seen_after s event e.seen_greater_log }

  -- the engine, which was e, has done what the group step does at the event
  abbrev pub HasTaken : Snapshot → ℕ → Engine C R → Engine C R → GroupState → GroupEvent → Type 0
  HasTaken x own e e' s event = IsWholeStepOf (given_after x e s event) own e' (group_step own s event)
