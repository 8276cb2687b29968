-- The log ids that nodes note as they take commands and changes, and the event that a log id comes from.
use Rattle.std.specs.Prelude.{◌≡◌, ℕ, ◌<◌, Bool, true, false, List, [], ◌∷◌, ◌++◌, slice_get, Option, Some, None, is_some, Contains}
use Rattle.raft_values.specs.declared.log_id.LogId.{LogId}
use Rattle.raft_group_step.specs.Values.{Entry}
use Rattle.raft_group_step.specs.StoredGroup.{StoredGroup, end_place, held}
use Rattle.raft_group_step.specs.Message.{Message, MessageBody, VoteRequest, VoteReply, AppendRequest, AppendReply, SnapshotRequest, SnapshotReply}
use Rattle.raft_group_step.specs.GroupState.{GroupState, Untold}
use Rattle.raft_group_step.specs.declared.group_call.GroupCall.TheVariants.{Initialize, Elect, Propose, ChangeMembership, Heartbeat, Lost, TriggerSnapshot, TriggerPurge}
use Rattle.raft_group_step.specs.GroupEvent.{GroupCall, Call}
use Rattle.raft_group_step.specs.Refusal.{refusal_of}
use Rattle.raft_laws.specs.declared.world_event.WorldEvent.{WorldEvent}
use Rattle.raft_laws.specs.declared.world_event.WorldEvent.TheVariants.{Ask}
use Rattle.raft_laws.specs.GroupWorld.{GroupWorld, Done, Led, Recorded, Up, new_world}
use Rattle.raft_laws.specs.GroupRun.{Replays, group_run, outcome_of}
use Rattle.raft_laws.specs.VotesRise.{stored_of}
use Rattle.raft_laws.specs.OneList.{AreNodeIds, IsGroupHistory}
use Rattle.raft_laws.specs.Origins.{Events, IsAskedAt, IsTold, world_before}

-- a proposal or a change of the membership: a log id is noted for it
abbrev pub is_noted : GroupCall → Bool
is_noted (Initialize membership) = false
is_noted Elect = false
is_noted (Propose command token) = true
is_noted (ChangeMembership change token) = true
is_noted Heartbeat = false
is_noted (Lost peer) = false
is_noted TriggerSnapshot = false
is_noted (TriggerPurge place) = false

-- the node's next log id: its next place, under its vote's leader
abbrev pub next_id : StoredGroup → LogId ℕ
next_id st = record { leader_id = st.vote.leader_id; index = end_place st }

-- ---- no log id that is noted stands anywhere yet

abbrev pub entries_in : MessageBody → List Entry
entries_in (VoteRequest vote last) = []
entries_in (VoteReply vote granted last) = []
entries_in (AppendRequest fields) = fields.entries
entries_in (AppendReply fields) = []
entries_in (SnapshotRequest vote id snapshot) = snapshot.«prefix»
entries_in (SnapshotReply fields) = []

-- a node holds the entry, whether it is up or down, or a message has it, or a leader had it
pub data IsSomewhere (w : GroupWorld) (e : Entry) : Type 0 where
  IsHeld : (n : ℕ) (st : StoredGroup) → stored_of (w.nodes n) ≡ Some st → Contains (held st) e → IsSomewhere w e
  IsSent : (m : Message) → Contains w.messages m → Contains (entries_in m.body) e → IsSomewhere w e
  WasLed : (l : Led) → Contains w.led l → Contains l.list e → IsSomewhere w e

-- as a node takes a command or a change, each entry of its vote's leader that was anywhere so far stands below its next place
abbrev pub NotedIsAbove : Type 0
NotedIsAbove =
    (ids : List ℕ) (rs more : List Recorded) (middle end : GroupWorld) → IsGroupHistory ids rs middle → Replays middle more end
    → (n : ℕ) (s : GroupState) (call : GroupCall) (now : ℕ) → end.nodes n ≡ Up s
    → is_noted call ≡ true → refusal_of n s (Call call now) ≡ None
    → (e : Entry) → IsSomewhere middle e → e.log_id.leader_id ≡ s.stored.vote.leader_id
    → e.log_id.index < end_place s.stored

-- so no entry of the log id that it notes was anywhere so far
abbrev pub NotedIsNew : Type 0
NotedIsNew =
    (ids : List ℕ) (rs more : List Recorded) (middle end : GroupWorld) → IsGroupHistory ids rs middle → Replays middle more end
    → (n : ℕ) (s : GroupState) (call : GroupCall) (now : ℕ) → end.nodes n ≡ Up s
    → is_noted call ≡ true → refusal_of n s (Call call now) ≡ None
    → (e : Entry) → IsSomewhere middle e → e.log_id ≡ next_id s.stored → ⊥

-- ---- the event that a log id comes from

-- the event with this number asked a node for a command or a change, which wasn't refused, where this was its next log id. It
-- may have stopped, also before it stored anything
pub record IsNotedAt (es : Events) (w : GroupWorld) (number : ℕ) (id : LogId ℕ) : Type 0 where
  pub node : ℕ
  pub call : GroupCall
  pub now : ℕ
  pub stop : Option ℕ
  pub state : GroupState
  pub event : slice_get es number ≡ Some (Ask node call now, stop)
  pub is_up : (world_before es number w).nodes node ≡ Up state
  pub noted : is_noted call ≡ true
  pub taken : refusal_of node state (Call call now) ≡ None
  pub next : next_id state.stored ≡ id

-- the last event that noted the log id
pub record IsOrigin (es : Events) (w : GroupWorld) (number : ℕ) (id : LogId ℕ) : Type 0 where
  pub noted : IsNotedAt es w number id
  pub last : (later : ℕ) → number < later → IsNotedAt es w later id → ⊥

-- the event that wrote the entry of a command or change, and stored it, is the origin of its log id: no later one notes it
abbrev pub OriginIsLast : Type 0
OriginIsLast =
    (ids : List ℕ) → AreNodeIds ids → (es : Events) (number : ℕ) (call : GroupCall) (e : Entry)
    → IsAskedAt es (new_world ids) number call e → is_noted call ≡ true
    → IsOrigin es (new_world ids) number e.log_id

-- the event that brought a told token is the origin of the log id of the entry for which it is told
abbrev pub ToldHaveOrigins : Type 0
ToldHaveOrigins =
    (ids : List ℕ) → AreNodeIds ids → (es : Events) (last : WorldEvent × Option ℕ)
    → (sent : List Message) (told : List Untold) (unknown : List ℕ)
    → outcome_of (group_run es (new_world ids)) last.0 (is_some last.1) ≡ Done sent told unknown
    → (x : Untold) → Contains told x
    → (t : IsTold (es ++ last ∷ []) (new_world ids) x) × IsOrigin (es ++ last ∷ []) (new_world ids) t.number t.entry.log_id
