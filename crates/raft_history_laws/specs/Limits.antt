-- What nodes have stored and what was sent is within the limits, in every world of a group.
use Rattle.std.specs.Prelude.{◌≡◌, ℕ, List, Some, Contains}
use Rattle.raft_group_step.specs.StoredGroup.{StoredGroup}
use Rattle.raft_group_step.specs.Message.{Message}
use Rattle.raft_group_step.specs.GroupState.{GroupState, state_of}
use Rattle.raft_group_step.specs.GroupEvent.{GroupEvent, AddGroup, Call, Receive, Open}
use Rattle.raft_group_step.specs.GroupStep.{group_step}
use Rattle.raft_laws.specs.GroupWorld.{GroupWorld, Recorded, Down, Up}
use Rattle.raft_laws.specs.VotesRise.{stored_of}
use Rattle.raft_laws.specs.OneList.{IsGroupHistory}
use Rattle.raft_step_laws.specs.Fitting.{AllFit, IsBodyBounded, FitsStored, IsCommittedWithin}

-- what each node has stored fits, whether it is up or down
abbrev pub StoredPartsFit : Type 0
StoredPartsFit =
    (ids : List ℕ) (rs : List Recorded) (end : GroupWorld) → IsGroupHistory ids rs end
    → (n : ℕ) (st : StoredGroup) → stored_of (end.nodes n) ≡ Some st → FitsStored st

-- what a node that is up has committed reaches its log's front, and not past its end
abbrev pub CommittedIsWithin : Type 0
CommittedIsWithin =
    (ids : List ℕ) (rs : List Recorded) (end : GroupWorld) → IsGroupHistory ids rs end
    → (n : ℕ) (s : GroupState) → end.nodes n ≡ Up s → IsCommittedWithin s

-- each message that was sent fits
abbrev pub MessagesFit : Type 0
MessagesFit =
    (ids : List ℕ) (rs : List Recorded) (end : GroupWorld) → IsGroupHistory ids rs end
    → (m : Message) → Contains end.messages m → IsBodyBounded m.body

-- a message that comes was sent
abbrev pub WasSent : List Message → GroupEvent → Type 0
WasSent sent AddGroup = Unit {0}
WasSent sent (Call call now) = Unit {0}
WasSent sent (Receive peer m now) = Contains sent m
WasSent sent Open = Unit {0}

-- whatever comes to a node, each storing command fits what is stored when its turn comes: so entries are put right
-- behind the log, and no put shortens it
abbrev pub CommandsFit : Type 0
CommandsFit =
    (ids : List ℕ) (rs : List Recorded) (end : GroupWorld) → IsGroupHistory ids rs end
    → (n : ℕ) (s : GroupState) (e : GroupEvent) → end.nodes n ≡ Up s → WasSent end.messages e
    → AllFit s.stored (group_step n s e).commands

-- the same of a node that opens, and what it goes on with fits
abbrev pub OpeningsFit : Type 0
OpeningsFit =
    (ids : List ℕ) (rs : List Recorded) (end : GroupWorld) → IsGroupHistory ids rs end
    → (n : ℕ) (stored : StoredGroup) → end.nodes n ≡ Down stored
    → AllFit stored (group_step n (state_of stored) Open).commands
    × FitsStored (group_step n (state_of stored) Open).state.stored
