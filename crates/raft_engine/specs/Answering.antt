-- What the runtime may do with a command as soon as it has done those before it.
use Rattle.std.specs.Prelude.{◌≡◌, None}
use Rattle.raft_commands.specs.declared.command.Command.TheVariants.{BecomeLeader, QuitLeader, AppendInputEntries, ReplicateCommitted, Commit}
use Rattle.raft_commands.specs.declared.command.Command.TheVariants.{Replicate, RebuildReplicationStreams, SaveVote, SendVote, PurgeLog}
use Rattle.raft_commands.specs.declared.command.Command.TheVariants.{DeleteConflictLog, StateMachine, Respond}
use Rattle.raft_engine.specs.Commands.{Command}

module _ {C R : Type 0} where
  -- an answer waits for nothing but the commands before it; and no command is on streams to peers, since each request names its peer
  abbrev pub NeedsNoOther : Command C R → Type 0
  NeedsNoOther BecomeLeader = Unit {0}
  NeedsNoOther QuitLeader = Unit {0}
  NeedsNoOther (AppendInputEntries vote entries) = Unit {0}
  NeedsNoOther (ReplicateCommitted target vote matching committed) = Unit {0}
  NeedsNoOther (Commit seq behind upto) = Unit {0}
  NeedsNoOther (Replicate target request) = Unit {0}
  NeedsNoOther (RebuildReplicationStreams targets) = ⊥
  NeedsNoOther (SaveVote vote) = Unit {0}
  NeedsNoOther (SendVote target request) = Unit {0}
  NeedsNoOther (PurgeLog upto) = Unit {0}
  NeedsNoOther (DeleteConflictLog since) = Unit {0}
  NeedsNoOther (StateMachine command) = Unit {0}
  NeedsNoOther (Respond condition answer) = condition ≡ None
