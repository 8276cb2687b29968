-- Which commands store a snapshot, how many commands are stored, and what is left where a call fails.
use Rattle.std.specs.Prelude.{ℕ, ◌+◌, ◌-◌, ◌≡◌, Bool, true, false, ◌||◌, List, [], ◌∷◌, take, drop, Option, Some, None}
use Rattle.raft_commands.specs.declared.command.Command.TheVariants.{BecomeLeader, QuitLeader, AppendInputEntries, ReplicateCommitted, Commit}
use Rattle.raft_commands.specs.declared.command.Command.TheVariants.{Replicate, RebuildReplicationStreams, SaveVote, SendVote, PurgeLog}
use Rattle.raft_commands.specs.declared.command.Command.TheVariants.{DeleteConflictLog, StateMachine, Respond}
use Rattle.raft_commands.specs.declared.sm.CommandPayload.{CommandPayload}
use Rattle.raft_commands.specs.declared.sm.CommandPayload.TheVariants.{BuildSnapshot, GetSnapshot, BeginReceivingSnapshot, InstallFullSnapshot, Apply}
use Rattle.raft_group_step.specs.StoredGroup.{Snapshot, StoredGroup, StoringCommand, after_storing_all}
use Rattle.raft_engine.specs.Commands.{Command}
use Rattle.raft_group_storage.specs.Keeping.{Fails, FailsAnyhow, MayStore, Shows, StandsOrNone}

-- so many commands from the first on, or all of them
abbrev pub first_of : Option ℕ → List StoringCommand → List StoringCommand
first_of None commands = commands
first_of (Some count) commands = take count commands

-- how many more can be stored after so many
abbrev pub room_after : Option ℕ → ℕ → Option ℕ
room_after None stored = None
room_after (Some count) stored = Some (count - stored)

module _ {C R : Type 0} where
  -- the state machine builds a snapshot, or installs one
  abbrev pub machine_has_snapshot : CommandPayload C (List ℕ) R ℕ (List ℕ) → Bool
  machine_has_snapshot BuildSnapshot = true
  machine_has_snapshot (GetSnapshot tx) = false
  machine_has_snapshot (BeginReceivingSnapshot tx) = false
  machine_has_snapshot (InstallFullSnapshot meta) = true
  machine_has_snapshot (Apply entries) = false

  -- the command stores a snapshot
  abbrev pub has_snapshot : Command C R → Bool
  has_snapshot BecomeLeader = false
  has_snapshot QuitLeader = false
  has_snapshot (AppendInputEntries vote entries) = false
  has_snapshot (ReplicateCommitted target vote matching committed) = false
  has_snapshot (Commit seq before upto) = false
  has_snapshot (Replicate target request) = false
  has_snapshot (RebuildReplicationStreams targets) = false
  has_snapshot (SaveVote vote) = false
  has_snapshot (SendVote target request) = false
  has_snapshot (PurgeLog upto) = false
  has_snapshot (DeleteConflictLog since) = false
  has_snapshot (StateMachine command) = machine_has_snapshot command.payload
  has_snapshot (Respond condition answer) = false

  -- a command of the queue stores a snapshot
  abbrev pub queue_has_snapshot : List (Command C R) → Bool
  queue_has_snapshot [] = false
  queue_has_snapshot (c ∷ cs) = has_snapshot c || queue_has_snapshot cs

-- where a snapshot is stored, what is given stands for it
abbrev pub IsGiven : {X : Type 0} → (X → Snapshot → Type 0) → Bool → Option X → Snapshot → Type 0
IsGiven stands is_stored given x = is_stored ≡ true → StandsOrNone stands given (Some x)

-- a call that succeeded stored these commands in the group
abbrev pub StoresAll : Shows → Shows → ℕ → List StoringCommand → Type 0
StoresAll old new group commands = (s : StoredGroup) → old group (s ∷ []) → new group (after_storing_all commands s ∷ [])

-- the first of these commands may have failed where this was stored; where none is left, whatever was asked for
abbrev pub FailsFirst : Fails → List StoringCommand → StoredGroup → Type 0
FailsFirst fails [] s = FailsAnyhow fails
FailsFirst fails (c ∷ cs) s = fails c s

-- the one may have failed that has so many before it, where those are stored
abbrev pub FailsAt : Fails → ℕ → List StoringCommand → StoredGroup → Type 0
FailsAt fails number commands s = FailsFirst fails (drop number commands) (after_storing_all (take number commands) s)

-- one that failed stored them or not, and may have failed at the first
abbrev pub MayStoreAll : Shows → Shows → Fails → ℕ → List StoringCommand → Type 0
MayStoreAll old new fails group commands =
    (s : StoredGroup) → old group (s ∷ []) → new group (s ∷ after_storing_all commands s ∷ []) × FailsFirst fails commands s

-- they are one command, and a call that failed stored it or not
pub record FailsAtOne (old new : Shows) (fails : Fails) (group : ℕ) (commands : List StoringCommand) : Type 0 where
  pub command : StoringCommand
  pub is : commands ≡ command ∷ []
  pub may_store : MayStore old new fails group command

-- one that failed did so at one of the commands: those before it are stored, it may be, and the others aren't
abbrev pub FailsAmong : Shows → Shows → Fails → ℕ → List StoringCommand → Type 0
FailsAmong old new fails group commands =
    (s : StoredGroup) → old group (s ∷ [])
    → (number : ℕ) × new group (after_storing_all (take number commands) s ∷ after_storing_all (take (number + 1) commands) s ∷ [])
    × FailsAt fails number commands s
