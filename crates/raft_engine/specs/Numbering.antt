-- The numbers of the commands that the state machine gets.
use Rattle.std.specs.Prelude.{◌≡◌, ℕ, ◌++◌, List, [], ◌∷◌, ◌⊎◌}
use Rattle.std.specs.List.{flat_map}
use Rattle.raft_commands.specs.declared.command.Command.TheVariants.{BecomeLeader, QuitLeader, AppendInputEntries, ReplicateCommitted, Commit}
use Rattle.raft_commands.specs.declared.command.Command.TheVariants.{Replicate, RebuildReplicationStreams, SaveVote, SendVote, PurgeLog}
use Rattle.raft_commands.specs.declared.command.Command.TheVariants.{DeleteConflictLog, StateMachine, Respond}
use Rattle.raft_commands.specs.Output.{Output as OutputOf, following_seq}
use Rattle.raft_engine.specs.Commands.{Command}

-- the output of a group with numbered nodes, whose addresses and data are bytes
abbrev pub Output : Type 0 → Type 0 → Type 0
Output C R = OutputOf C (List ℕ) R ℕ (List ℕ)

-- numbers that follow one another, from behind the first one to the last
abbrev pub Follow : ℕ → List ℕ → ℕ → Type 0
Follow before [] last = last ≡ before
Follow before (n ∷ ns) last = (n ≡ following_seq before) × Follow n ns last

module _ {C R : Type 0} where
  -- the number of a command, if the state machine gets it
  abbrev pub number_in : Command C R → List ℕ
  number_in BecomeLeader = []
  number_in QuitLeader = []
  number_in (AppendInputEntries vote entries) = []
  number_in (ReplicateCommitted target vote matching committed) = []
  number_in (Commit seq before upto) = seq ∷ []
  number_in (Replicate target request) = []
  number_in (RebuildReplicationStreams targets) = []
  number_in (SaveVote vote) = []
  number_in (SendVote target request) = []
  number_in (PurgeLog upto) = []
  number_in (DeleteConflictLog since) = []
  number_in (StateMachine command) = command.seq ∷ []
  number_in (Respond condition answer) = []

  -- the numbers of a queue, in its order
  abbrev pub numbers_in : List (Command C R) → List ℕ
  numbers_in queue = flat_map number_in queue

  -- the numbers of the queue follow this one, and the last of them was given last
  abbrev pub NumbersFollow : ℕ → Output C R → Type 0
  NumbersFollow before output = Follow before (numbers_in output.queue) output.last_sm_seq

  -- the state machine gets no further command
  abbrev pub KeepsNumbers : Output C R → Output C R → Type 0
  KeepsNumbers old new = (numbers_in new.queue ≡ numbers_in old.queue) × (new.last_sm_seq ≡ old.last_sm_seq)

  -- it gets one more, under the number that follows the last one
  abbrev pub GainsNumber : Output C R → Output C R → Type 0
  GainsNumber old new =
      let seq = following_seq old.last_sm_seq
      in (numbers_in new.queue ≡ numbers_in old.queue ++ seq ∷ []) × (new.last_sm_seq ≡ seq)

  -- the numbers rise by one with each command
  abbrev pub NumbersRise : Output C R → Output C R → Type 0
  NumbersRise old new = KeepsNumbers old new ⊎ GainsNumber old new
