-- What moves the state machine: entries that are committed, and snapshots that are installed.
use Rattle.std.specs.Prelude.{◌≡◌, ◌<◌, ◌≤◌, ℕ, List, [], ◌∷◌, Option, Some}
use Rattle.std.specs.List.{flat_map}
use Rattle.raft_values.specs.declared.log_id.LogId.{LogId}
use Rattle.raft_values.specs.LogId.{next_place}
use Rattle.raft_commands.specs.declared.command.Command.TheVariants.{BecomeLeader, QuitLeader, AppendInputEntries, ReplicateCommitted, Commit}
use Rattle.raft_commands.specs.declared.command.Command.TheVariants.{Replicate, RebuildReplicationStreams, SaveVote, SendVote, PurgeLog}
use Rattle.raft_commands.specs.declared.command.Command.TheVariants.{DeleteConflictLog, StateMachine, Respond}
use Rattle.raft_commands.specs.declared.sm.CommandPayload.{CommandPayload}
use Rattle.raft_commands.specs.declared.sm.CommandPayload.TheVariants.{BuildSnapshot, GetSnapshot, BeginReceivingSnapshot, InstallFullSnapshot, Apply}
use Rattle.raft_engine.specs.Commands.{Command}

-- the log's entries behind one log id up to another are applied, or a snapshot up to its last log id takes the place of
-- what is applied, or entries come that need not be the log's
pub data MachineMove : Type 0 where
  Applies : (behind : Option (LogId ℕ)) (upto : LogId ℕ) → MachineMove
  Installs : (last : Option (LogId ℕ)) → MachineMove
  TakesEntries : MachineMove

-- each move goes on where the one before ended, and further; the last one ends here, and none brings entries of its own
abbrev pub Moves : Option (LogId ℕ) → List MachineMove → Option (LogId ℕ) → Type 0
Moves from [] to = to ≡ from
Moves from (Applies behind upto ∷ moves) to =
    (behind ≡ from) × (next_place from ≤ upto.index) × Moves (Some upto) moves to
Moves from (Installs last ∷ moves) to = (next_place from < next_place last) × Moves last moves to
Moves from (TakesEntries ∷ moves) to = ⊥

module _ {C R : Type 0} where
  -- what a command of the state machine moves
  abbrev pub moves_of_machine : CommandPayload C (List ℕ) R ℕ (List ℕ) → List MachineMove
  moves_of_machine BuildSnapshot = []
  moves_of_machine (GetSnapshot tx) = []
  moves_of_machine (BeginReceivingSnapshot tx) = []
  moves_of_machine (InstallFullSnapshot meta) = Installs meta.last_log_id ∷ []
  moves_of_machine (Apply entries) = TakesEntries ∷ []

  -- how a command moves the state machine
  abbrev pub moves_of : Command C R → List MachineMove
  moves_of BecomeLeader = []
  moves_of QuitLeader = []
  moves_of (AppendInputEntries vote entries) = []
  moves_of (ReplicateCommitted target vote matching committed) = []
  moves_of (Commit seq behind upto) = Applies behind upto ∷ []
  moves_of (Replicate target request) = []
  moves_of (RebuildReplicationStreams targets) = []
  moves_of (SaveVote vote) = []
  moves_of (SendVote target request) = []
  moves_of (PurgeLog upto) = []
  moves_of (DeleteConflictLog since) = []
  moves_of (StateMachine command) = moves_of_machine command.payload
  moves_of (Respond condition answer) = []

  -- how a queue moves the state machine, in its order
  abbrev pub moves_in : List (Command C R) → List MachineMove
  moves_in queue = flat_map moves_of queue
