-- What each command of a queue rests on: the commands before it have stored and committed it.
use Rattle.std.specs.Prelude.{◌≡◌, ◌<◌, ◌≤◌, ℕ, false, true, List, [], ◌∷◌, length, Option, Some, None}
use Rattle.raft_values.specs.declared.vote.Vote.{Vote}
use Rattle.raft_values.specs.declared.log_id.LogId.{LogId}
use Rattle.raft_values.specs.LogId.{next_place, place_of}
use Rattle.raft_progress.specs.declared.inflight.Inflight.{Inflight}
use Rattle.raft_progress.specs.declared.inflight.Inflight.TheVariants.{None as Nothing, Logs, Snapshot as SnapshotInFlight}
use Rattle.raft_group_step.specs.declared.append_entries.AppendEntriesResponse.{AppendEntriesResponse}
use Rattle.raft_group_step.specs.declared.append_entries.AppendEntriesResponse.TheVariants.{Success as Accepted, PartialSuccess as AcceptedPart, Conflict as Differs, HigherVote as HasHigherVote}
use Rattle.raft_group_step.specs.Values.{vote_lt}
use Rattle.raft_group_step.specs.StoredGroup.{StoredGroup, Snapshot, after_storing_all, end_place, has_id_in_log, last_id, snapshot_last}
use Rattle.raft_group_step.specs.AppendRequest.{is_held}
use Rattle.raft_known_state.specs.KnownState.{ArePlaced, meta_of}
use Rattle.raft_commands.specs.declared.caller.Caller.{Caller}
use Rattle.raft_commands.specs.declared.command.Command.TheVariants.{BecomeLeader, QuitLeader, AppendInputEntries, ReplicateCommitted, Commit}
use Rattle.raft_commands.specs.declared.command.Command.TheVariants.{Replicate, RebuildReplicationStreams, SaveVote, SendVote, PurgeLog}
use Rattle.raft_commands.specs.declared.command.Command.TheVariants.{DeleteConflictLog, StateMachine, Respond}
use Rattle.raft_commands.specs.declared.respond.Respond.{Respond as RespondOf}
use Rattle.raft_commands.specs.declared.respond.Respond.TheVariants.{Vote as ToVote, AppendEntries as ToAppend, InstallSnapshot as ToChunk}
use Rattle.raft_commands.specs.declared.respond.Respond.TheVariants.{InstallFullSnapshot as ToSnapshot, Initialize as ToInitialize}
use Rattle.raft_commands.specs.declared.sm.CommandPayload.{CommandPayload}
use Rattle.raft_commands.specs.declared.sm.CommandPayload.TheVariants.{BuildSnapshot, GetSnapshot, BeginReceivingSnapshot, InstallFullSnapshot, Apply}
use Rattle.raft_engine.specs.Commands.{Command, storing_of}

-- what is stored and committed at a place of a queue
pub record Basis : Type 0 where
  pub stored : StoredGroup
  pub committed : Option (LogId ℕ)

-- the log goes as far as the request's entries, or its snapshot is the stored one; a request of nothing is never sent
abbrev pub IsStoredRequest : StoredGroup → Inflight ℕ → Type 0
IsStoredRequest s Nothing = ⊥
IsStoredRequest s (Logs id range) = next_place range.last ≤ end_place s
IsStoredRequest s (SnapshotInFlight id last) = last ≡ snapshot_last s

-- the log is cut at this log id
abbrev pub EndsBefore : Option (LogId ℕ) → StoredGroup → Type 0
EndsBefore None s = ⊥
EndsBefore (Some id) s = end_place s ≤ id.index

-- an acceptance rests on the leader's vote, and on the request's last entry: it is committed, or in the log. A conflict rests on
-- the vote and the cut, a refusal on the vote that it tells. A part is never accepted
abbrev pub OutcomeRestsOn : Basis → Caller ℕ → AppendEntriesResponse ℕ → Type 0
OutcomeRestsOn b tx Accepted = (b.stored.vote ≡ tx.vote) × (is_held b.stored (place_of b.committed) tx.last ≡ true)
OutcomeRestsOn b tx (AcceptedPart last) = ⊥
OutcomeRestsOn b tx Differs = (b.stored.vote ≡ tx.vote) × EndsBefore tx.previous b.stored
OutcomeRestsOn b tx (HasHigherVote vote) = b.stored.vote ≡ vote

-- a snapshot's answer rests on the vote that it tells, and unless that is a higher one on all that the snapshot has
abbrev pub InstallRestsOn : Basis → Caller ℕ → Vote ℕ → Type 0
InstallRestsOn b tx vote =
    (b.stored.vote ≡ vote) × (vote_lt tx.vote vote ≡ false → next_place tx.last ≤ next_place b.committed)

module _ {C R : Type 0} where
  -- what an answer to a peer's request rests on
  abbrev pub AnswerRestsOn : Basis → RespondOf C (List ℕ) R ℕ (List ℕ) → Type 0
  AnswerRestsOn b (ToVote s) = (b.stored.vote ≡ s.value.vote) × (last_id b.stored ≡ s.value.last_log_id)
  AnswerRestsOn b (ToAppend s) = OutcomeRestsOn b s.tx s.value
  AnswerRestsOn b (ToChunk s) = ⊥
  AnswerRestsOn b (ToSnapshot s) = InstallRestsOn b s.tx s.value.vote
  AnswerRestsOn b (ToInitialize s) = ⊥

  -- a snapshot that is installed is told as it is, with its members; none is fetched, or taken in parts
  abbrev pub InstallsAs : Snapshot → CommandPayload C (List ℕ) R ℕ (List ℕ) → Type 0
  InstallsAs x BuildSnapshot = Unit {0}
  InstallsAs x (GetSnapshot tx) = ⊥
  InstallsAs x (BeginReceivingSnapshot tx) = ⊥
  InstallsAs x (InstallFullSnapshot meta) = meta ≡ meta_of (Some x)
  InstallsAs x (Apply entries) = Unit {0}

  -- what a command rests on: the vote in force, the log, the snapshot, and what is committed, at its place of the queue. Entries,
  -- at least one, stand behind the log, a cut at an entry behind what is committed, and a lead and its requests behind the vote that is the node's
  -- own and committed
  abbrev pub RestsOn : ℕ → Snapshot → Basis → Command C R → Type 0
  RestsOn own x b BecomeLeader = (b.stored.vote.leader_id.node_id ≡ own) × (b.stored.vote.committed ≡ true)
  RestsOn own x b QuitLeader = Unit {0}
  RestsOn own x b (AppendInputEntries vote entries) = (b.stored.vote ≡ vote) × ArePlaced (end_place b.stored) entries × (0 < length entries)
  RestsOn own x b (ReplicateCommitted target vote matching committed) = (b.stored.vote ≡ vote) × (b.committed ≡ committed)
  RestsOn own x b (Commit seq behind upto) = has_id_in_log b.stored upto ≡ true
  RestsOn own x b (Replicate target request) = (b.stored.vote.leader_id.node_id ≡ own) × (b.stored.vote.committed ≡ true) × IsStoredRequest b.stored request
  RestsOn own x b (RebuildReplicationStreams targets) = Unit {0}
  RestsOn own x b (SaveVote vote) = Unit {0}
  RestsOn own x b (SendVote target request) = (b.stored.vote ≡ request.vote) × (last_id b.stored ≡ request.last_log_id)
  RestsOn own x b (PurgeLog upto) = upto.index < next_place (snapshot_last b.stored)
  RestsOn own x b (DeleteConflictLog since) = (next_place b.committed ≤ since.index) × (has_id_in_log b.stored since ≡ true)
  RestsOn own x b (StateMachine command) = InstallsAs x command.payload
  RestsOn own x b (Respond condition answer) = AnswerRestsOn b answer

  -- what is committed once the state machine has a snapshot, or as before
  abbrev pub committed_by_machine : CommandPayload C (List ℕ) R ℕ (List ℕ) → Option (LogId ℕ) → Option (LogId ℕ)
  committed_by_machine BuildSnapshot committed = committed
  committed_by_machine (GetSnapshot tx) committed = committed
  committed_by_machine (BeginReceivingSnapshot tx) committed = committed
  committed_by_machine (InstallFullSnapshot meta) committed = meta.last_log_id
  committed_by_machine (Apply entries) committed = committed

  -- what is committed behind a command
  abbrev pub committed_by : Command C R → Option (LogId ℕ) → Option (LogId ℕ)
  committed_by BecomeLeader committed = committed
  committed_by QuitLeader committed = committed
  committed_by (AppendInputEntries vote entries) committed = committed
  committed_by (ReplicateCommitted target vote matching told) committed = committed
  committed_by (Commit seq behind upto) committed = Some upto
  committed_by (Replicate target request) committed = committed
  committed_by (RebuildReplicationStreams targets) committed = committed
  committed_by (SaveVote vote) committed = committed
  committed_by (SendVote target request) committed = committed
  committed_by (PurgeLog upto) committed = committed
  committed_by (DeleteConflictLog since) committed = committed
  committed_by (StateMachine command) committed = committed_by_machine command.payload committed
  committed_by (Respond condition answer) committed = committed

  -- what is stored and committed behind a command
  abbrev pub basis_behind : Snapshot → Command C R → Basis → Basis
  basis_behind x c b = record { stored = after_storing_all (storing_of x c) b.stored; committed = committed_by c b.committed }

  -- worked in its order, the queue leads from the first basis to the second, and each command finds there what it rests on
  abbrev pub AllRest : ℕ → Snapshot → Basis → List (Command C R) → Basis → Type 0
  AllRest own x b [] b' = b' ≡ b
  AllRest own x b (c ∷ queue) b' = RestsOn own x b c × AllRest own x (basis_behind x c b) queue b'
