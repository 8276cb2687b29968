-- What the commands of the queue stand for in the group step.
use Rattle.std.specs.Prelude.{ℕ, ◌-◌, if◌then◌else◌, List, [], ◌∷◌, take, drop, Option, Some, None}
use Rattle.std.specs.List.{flat_map}
use Rattle.raft_values.specs.declared.vote.Vote.{Vote}
use Rattle.raft_values.specs.declared.log_id.LogId.{LogId}
use Rattle.raft_values.specs.LogId.{next_place}
use Rattle.raft_progress.specs.declared.inflight.Inflight.{Inflight}
use Rattle.raft_progress.specs.declared.inflight.Inflight.TheVariants.{None as Nothing, Logs, Snapshot as SnapshotInFlight}
use Rattle.raft_group_step.specs.declared.request_id.RequestId.{RequestId as RequestIdOf}
use Rattle.raft_group_step.specs.declared.request_id.RequestId.TheVariants.{HeartBeat as NoNumber, AppendEntries as AppendNumber, Snapshot as SnapshotNumber}
use Rattle.raft_group_step.specs.declared.snapshot_message.SnapshotResponse.{SnapshotResponse}
use Rattle.raft_group_step.specs.Values.{Entry, vote_lt}
use Rattle.raft_group_step.specs.StoredGroup.{StoredGroup, StoringCommand, SetVote, PutEntries, CutFrom, RemoveUpTo, SetSnapshot, Snapshot, first_place}
use Rattle.raft_group_step.specs.Message.{Message, MessageBody, RequestId, HeartBeat, Numbered, ReplyResult, Success, HigherVote}
use Rattle.raft_group_step.specs.Message.{VoteRequest, VoteReply, AppendRequest, AppendReply, SnapshotRequest, SnapshotReply}
use Rattle.raft_messages.specs.Messages.{outcome_of}
use Rattle.raft_commands.specs.declared.caller.Caller.{Caller}
use Rattle.raft_commands.specs.declared.command.Command.{Command as CommandOf}
use Rattle.raft_commands.specs.declared.command.Command.TheVariants.{BecomeLeader, QuitLeader, AppendInputEntries, ReplicateCommitted, Commit}
use Rattle.raft_commands.specs.declared.command.Command.TheVariants.{Replicate, RebuildReplicationStreams, SaveVote, SendVote, PurgeLog}
use Rattle.raft_commands.specs.declared.command.Command.TheVariants.{DeleteConflictLog, StateMachine, Respond}
use Rattle.raft_commands.specs.declared.respond.Respond.{Respond as RespondOf}
use Rattle.raft_commands.specs.declared.respond.Respond.TheVariants.{Vote as ToVote, AppendEntries as ToAppend, InstallSnapshot as ToChunk}
use Rattle.raft_commands.specs.declared.respond.Respond.TheVariants.{InstallFullSnapshot as ToSnapshot, Initialize as ToInitialize}
use Rattle.raft_commands.specs.declared.sm.CommandPayload.{CommandPayload}
use Rattle.raft_commands.specs.declared.sm.CommandPayload.TheVariants.{BuildSnapshot, GetSnapshot, BeginReceivingSnapshot, InstallFullSnapshot, Apply}

-- entries are stored from the place of the first one on
abbrev pub put_all : List Entry → List StoringCommand
put_all [] = []
put_all (e ∷ es) = PutEntries e.log_id.index (e ∷ es) ∷ []

-- the log's entries behind one log id up to another
abbrev pub entries_between : StoredGroup → Option (LogId ℕ) → Option (LogId ℕ) → List Entry
entries_between s prev last =
    take (next_place last - next_place prev) (drop (next_place prev - first_place s) s.log)

-- the number of a request that is waited for
abbrev pub number_of : RequestIdOf → RequestId
number_of NoNumber = HeartBeat
number_of (AppendNumber id) = Numbered id
number_of (SnapshotNumber id) = Numbered id

-- what came of a snapshot under a vote, by the vote in the answer
abbrev pub snapshot_result : Vote ℕ → SnapshotResponse ℕ → ReplyResult
snapshot_result asked answer = if vote_lt asked answer.vote then HigherVote answer.vote else Success

-- what an answer repeats of the request, and what came of it
abbrev pub append_reply_to : Caller ℕ → ReplyResult → MessageBody
append_reply_to tx outcome =
    AppendReply (record { vote = tx.vote; id = number_of tx.id; previous = tx.previous; last = tx.last; outcome = outcome })

abbrev pub snapshot_reply_to : Caller ℕ → ReplyResult → MessageBody
snapshot_reply_to tx outcome =
    SnapshotReply (record { vote = tx.vote; id = number_of tx.id; previous = None; last = tx.last; outcome = outcome })

-- a message of the node to another one
abbrev pub message_to : ℕ → ℕ → MessageBody → List Message
message_to own peer body = record { sender = own; addressee = peer; body = body } ∷ []

-- the stored snapshot, sent under this number
abbrev pub snapshot_to : ℕ → ℕ → ℕ → StoredGroup → Option Snapshot → List Message
snapshot_to own peer id s None = []
snapshot_to own peer id s (Some x) = message_to own peer (SnapshotRequest s.vote id x)

-- a request to a peer, with what is stored and committed as it leaves
abbrev pub request_to : ℕ → StoredGroup → Option (LogId ℕ) → ℕ → Inflight ℕ → List Message
request_to own s committed peer Nothing = []
request_to own s committed peer (Logs id range) =
    message_to own peer
    (AppendRequest
    (record {
      vote = s.vote;
      id = Numbered id;
      previous = range.prev;
      committed = committed;
      entries = entries_between s range.prev range.last;
    }))
request_to own s committed peer (SnapshotInFlight id last) = snapshot_to own peer id s s.snapshot

-- a command of a group with numbered nodes, whose addresses and data are bytes
abbrev pub Command : Type 0 → Type 0 → Type 0
Command C R = CommandOf C (List ℕ) R ℕ (List ℕ)

module _ {C R : Type 0} where
  -- what the state machine's commands store: the snapshot that is built, or that came
  abbrev pub storing_of_machine : Snapshot → CommandPayload C (List ℕ) R ℕ (List ℕ) → List StoringCommand
  storing_of_machine x BuildSnapshot = SetSnapshot x ∷ []
  storing_of_machine x (GetSnapshot tx) = []
  storing_of_machine x (BeginReceivingSnapshot tx) = []
  storing_of_machine x (InstallFullSnapshot meta) = SetSnapshot x ∷ []
  storing_of_machine x (Apply entries) = []

  -- what a command stores
  abbrev pub storing_of : Snapshot → Command C R → List StoringCommand
  storing_of x BecomeLeader = []
  storing_of x QuitLeader = []
  storing_of x (AppendInputEntries vote entries) = put_all entries
  storing_of x (ReplicateCommitted target vote matching committed) = []
  storing_of x (Commit seq before upto) = []
  storing_of x (Replicate target request) = []
  storing_of x (RebuildReplicationStreams targets) = []
  storing_of x (SaveVote vote) = SetVote vote ∷ []
  storing_of x (SendVote target request) = []
  storing_of x (PurgeLog upto) = RemoveUpTo upto ∷ []
  storing_of x (DeleteConflictLog since) = CutFrom since.index ∷ []
  storing_of x (StateMachine command) = storing_of_machine x command.payload
  storing_of x (Respond condition answer) = []

  -- the answer to a peer's request
  abbrev pub answer_of : ℕ → RespondOf C (List ℕ) R ℕ (List ℕ) → List Message
  answer_of own (ToVote s) = message_to own s.tx.peer (VoteReply s.value.vote s.value.vote_granted s.value.last_log_id)
  answer_of own (ToAppend s) = message_to own s.tx.peer (append_reply_to s.tx (outcome_of s.value))
  answer_of own (ToChunk s) = []
  answer_of own (ToSnapshot s) = message_to own s.tx.peer (snapshot_reply_to s.tx (snapshot_result s.tx.vote s.value))
  answer_of own (ToInitialize s) = []

  -- what a command sends, with what is stored and committed as it leaves
  abbrev pub sending_of : ℕ → StoredGroup → Option (LogId ℕ) → Command C R → List Message
  sending_of own s upto BecomeLeader = []
  sending_of own s upto QuitLeader = []
  sending_of own s upto (AppendInputEntries vote entries) = []
  sending_of own s upto (ReplicateCommitted target vote matching committed) =
      message_to own target
      (AppendRequest (record { vote = vote; id = HeartBeat; previous = matching; committed = committed; entries = [] }))
  sending_of own s upto (Commit seq before place) = []
  sending_of own s upto (Replicate target request) = request_to own s upto target request
  sending_of own s upto (RebuildReplicationStreams targets) = []
  sending_of own s upto (SaveVote vote) = []
  sending_of own s upto (SendVote target request) = message_to own target (VoteRequest request.vote request.last_log_id)
  sending_of own s upto (PurgeLog place) = []
  sending_of own s upto (DeleteConflictLog since) = []
  sending_of own s upto (StateMachine command) = []
  sending_of own s upto (Respond condition answer) = answer_of own answer

  -- what the queue stores, in its order
  abbrev pub stored_by : Snapshot → List (Command C R) → List StoringCommand
  stored_by x queue = flat_map (storing_of x) queue

  -- what the queue sends, in its order
  abbrev pub sent_by : ℕ → StoredGroup → Option (LogId ℕ) → List (Command C R) → List Message
  sent_by own s upto queue = flat_map (sending_of own s upto) queue
