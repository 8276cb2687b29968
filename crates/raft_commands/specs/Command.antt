-- Which part of the runtime does a command, and what it waits for.
use Rattle.std.specs.Prelude.{Option, None}
use Rattle.raft_commands.specs.declared.command.Condition.{Condition}
use Rattle.raft_commands.specs.declared.command.CommandKind.{CommandKind}
use Rattle.raft_commands.specs.declared.command.CommandKind.TheVariants.{Log, Network, StateMachine as Machine, Main}
use Rattle.raft_commands.specs.declared.command.Command.{Command}
use Rattle.raft_commands.specs.declared.command.Command.TheVariants.{BecomeLeader, QuitLeader, AppendInputEntries, ReplicateCommitted, Commit}
use Rattle.raft_commands.specs.declared.command.Command.TheVariants.{Replicate, RebuildReplicationStreams, SaveVote, SendVote, PurgeLog}
use Rattle.raft_commands.specs.declared.command.Command.TheVariants.{DeleteConflictLog, StateMachine, Respond}

module _ {C D R K N : Type 0} where
  -- the part of the runtime that does the command
  abbrev pub kind_of : Command C D R K N → CommandKind
  kind_of BecomeLeader = Main
  kind_of QuitLeader = Main
  kind_of (AppendInputEntries vote entries) = Log
  kind_of (ReplicateCommitted target vote matching committed) = Network
  kind_of (Commit seq before upto) = Main
  kind_of (Replicate target request) = Network
  kind_of (RebuildReplicationStreams targets) = Main
  kind_of (SaveVote vote) = Log
  kind_of (SendVote target request) = Network
  kind_of (PurgeLog upto) = Log
  kind_of (DeleteConflictLog since) = Log
  kind_of (StateMachine command) = Machine
  kind_of (Respond condition answer) = Main

  -- what has to be done before an answer leaves; nothing before another command
  abbrev pub condition_of : Command C D R K N → Option (Condition K)
  condition_of BecomeLeader = None
  condition_of QuitLeader = None
  condition_of (AppendInputEntries vote entries) = None
  condition_of (ReplicateCommitted target vote matching committed) = None
  condition_of (Commit seq before upto) = None
  condition_of (Replicate target request) = None
  condition_of (RebuildReplicationStreams targets) = None
  condition_of (SaveVote vote) = None
  condition_of (SendVote target request) = None
  condition_of (PurgeLog upto) = None
  condition_of (DeleteConflictLog since) = None
  condition_of (StateMachine command) = None
  condition_of (Respond condition answer) = condition
