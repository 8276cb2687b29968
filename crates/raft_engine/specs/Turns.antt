-- Leads that begin and end, as the runtime is told of them.
use Rattle.std.specs.Prelude.{◌≡◌, ◌≢◌, Bool, true, false, if◌then◌else◌, List, [], ◌∷◌}
use Rattle.std.specs.List.{flat_map}
use Rattle.raft_commands.specs.declared.command.Command.TheVariants.{BecomeLeader, QuitLeader, AppendInputEntries, ReplicateCommitted, Commit}
use Rattle.raft_commands.specs.declared.command.Command.TheVariants.{Replicate, RebuildReplicationStreams, SaveVote, SendVote, PurgeLog}
use Rattle.raft_commands.specs.declared.command.Command.TheVariants.{DeleteConflictLog, StateMachine, Respond}
use Rattle.raft_engine.specs.Commands.{Command}

-- whether a lead is told of, may be told of, or may not before another vote is stored
pub data Turn : Type 0 where
  Leads : Turn
  MayLead : Turn
  Waits : Turn

-- what a command has to do with leads: a lead begins or ends, or a vote is stored
pub data TurnStep : Type 0 where
  BeginsLead : TurnStep
  EndsLead : TurnStep
  StoresVote : TurnStep

-- a lead is told of, or none is
abbrev pub FitsTurn : Turn → Bool → Type 0
FitsTurn Leads leads = leads ≡ true
FitsTurn MayLead leads = leads ≡ false
FitsTurn Waits leads = leads ≡ false

-- as an event begins: no lead may begin before a vote is stored
abbrev pub turn_of : Bool → Turn
turn_of leads = if leads then Leads else Waits

-- a lead begins once under a vote, behind the storing of it; it ends once, before another vote is stored; and at the end one is
-- told of where the node leads
abbrev pub Turns : Turn → List TurnStep → Bool → Type 0
Turns turn [] leads = FitsTurn turn leads
Turns turn (BeginsLead ∷ steps) leads = (turn ≡ MayLead) × Turns Leads steps leads
Turns turn (EndsLead ∷ steps) leads = (turn ≡ Leads) × Turns Waits steps leads
Turns turn (StoresVote ∷ steps) leads = (turn ≢ Leads) × Turns MayLead steps leads

module _ {C R : Type 0} where
  -- what a command has to do with leads
  abbrev pub turns_of : Command C R → List TurnStep
  turns_of BecomeLeader = BeginsLead ∷ []
  turns_of QuitLeader = EndsLead ∷ []
  turns_of (AppendInputEntries vote entries) = []
  turns_of (ReplicateCommitted target vote matching committed) = []
  turns_of (Commit seq behind upto) = []
  turns_of (Replicate target request) = []
  turns_of (RebuildReplicationStreams targets) = []
  turns_of (SaveVote vote) = StoresVote ∷ []
  turns_of (SendVote target request) = []
  turns_of (PurgeLog upto) = []
  turns_of (DeleteConflictLog since) = []
  turns_of (StateMachine command) = []
  turns_of (Respond condition answer) = []

  -- what a queue has to do with leads, in its order
  abbrev pub turns_in : List (Command C R) → List TurnStep
  turns_in queue = flat_map turns_of queue
