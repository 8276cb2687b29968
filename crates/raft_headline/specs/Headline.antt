-- What a cluster's history promises of each group.
use Rattle.std.specs.Prelude.{◌≡◌, ℕ, ◌+◌, ◌<◌, ◌≤◌, List, ◌++◌, length, take, Some, Contains}
use Rattle.raft_group_step.specs.Values.{Entry}
use Rattle.raft_group_step.specs.StoredGroup.{Snapshot, StoredGroup}
use Rattle.raft_group_step.specs.GroupState.{GroupState}
use Rattle.raft_group_step.specs.SnapshotRequest.{place_above}
use Rattle.raft_laws.specs.BallotLists.{AgreeBelow}
use Rattle.raft_laws.specs.GroupWorld.{Up}
use Rattle.raft_laws.specs.OneList.{AreNodeIds, LeadersHold}
use Rattle.raft_laws.specs.Settled.{IsGroupList, group_list}
use Rattle.raft_laws.specs.VotesRise.{stored_of}
use Rattle.raft_machines.specs.Machine.{MachineRules}
use Rattle.raft_headline.specs.ClusterEvent.{Recorded}
use Rattle.raft_machines.specs.Fold.{fold_of}
use Rattle.raft_headline.specs.Machines.{Built, HasBytes, Replicas, new_replicas}
use Rattle.raft_headline.specs.Replaying.{ReplaysFor}
use Rattle.raft_headline.specs.Told.{EntriesHaveOrigins, ToldStand}
use Rattle.raft_headline.specs.Leaders.{LeadersHoldAnswers}
use Rattle.raft_headline.specs.Serves.{PeersAreSent, PeersAreServed}
use Rattle.raft_headline.specs.Answers.{LeadersTell, NoneWaitsAnswered}
use Rattle.raft_headline.specs.Takes.{CommandsAreTaken, GrantedLead, NoneWaitsGranted, RequestsAreReplied}
use Rattle.raft_headline.specs.OwnEvents.{RunsAsGroup}
use Rattle.raft_headline.specs.Tokens.{TokensEnd}
use Rattle.raft_headline.specs.Stops.{StopsStay}

-- ---- one list

-- it only grows: what it was after fewer events is its front
abbrev pub ListGrows : MachineRules → List ℕ → ℕ → List Recorded → Replicas → Type 0
ListGrows rules ids h history end =
    (earlier later : List Recorded) (middle : Replicas) → history ≡ earlier ++ later
    → ReplaysFor rules h (new_replicas rules ids) earlier middle → ReplaysFor rules h middle later end
    → AgreeBelow (length (group_list middle.world)) (group_list middle.world) (group_list end.world)

-- ---- always applied a prefix

-- what a node has applied ends in the list, and its machine's state is the fold up to there
pub record IsAppliedFront (rules : MachineRules) (list : List Entry) (s : GroupState) (machine : List ℕ) : Type 0 where
  pub within : place_above s.applied ≤ length list
  pub folded : machine ≡ fold_of rules (take (place_above s.applied) list)

abbrev pub AppliedAreFronts : MachineRules → Replicas → Type 0
AppliedAreFronts rules end =
    (n : ℕ) (s : GroupState) → end.world.nodes n ≡ Up s
    → IsAppliedFront rules (group_list end.world) s (end.machines n)

-- a snapshot is the list up to its last place, and its bytes restore the fold of that
pub record IsSnapshotFront (rules : MachineRules) (list : List Entry) (built : List Built) (x : Snapshot) : Type 0 where
  pub within : x.last.index < length list
  pub front : x.«prefix» ≡ take (x.last.index + 1) list
  pub has : HasBytes built x
  pub restores : (bytes : List ℕ) → Contains built (record { snapshot = x; bytes = bytes }) → rules.restored bytes ≡ fold_of rules (take (x.last.index + 1) list)

abbrev pub SnapshotsAreFronts : MachineRules → Replicas → Type 0
SnapshotsAreFronts rules end =
    (n : ℕ) (st : StoredGroup) (x : Snapshot) → stored_of (end.world.nodes n) ≡ Some st → st.snapshot ≡ Some x
    → IsSnapshotFront rules (group_list end.world) end.built x

-- ---- all of it

-- what a history that leads there promises of the group
pub record KeepsHeadline (rules : MachineRules) (ids : List ℕ) (h : ℕ) (history : List Recorded) (end : Replicas) : Type 0 where
  -- the list has just the settled entries, one at each place from 0 on
  pub one_list : IsGroupList end.world (group_list end.world)
  pub grows : ListGrows rules ids h history end
  pub applied : AppliedAreFronts rules end
  pub snapshots : SnapshotsAreFronts rules end
  pub told : ToldStand rules ids h history end
  -- the events that the group sees of the history are a run of its own; each token of the run is told once, or unknown once, or
  -- lost once in a crash, or waits while its node leads on
  pub runs : RunsAsGroup rules ids h history end
  pub tokens : TokensEnd rules ids h history end
  -- the event that asked for an entry is the last one that noted its log id, for what is told too
  pub origins : EntriesHaveOrigins rules ids h history end
  -- a node that leads under a vote that isn't below the one under which an entry was settled holds the list up to it
  pub leaders : LeadersHold end.world
  -- and up to each place told under such a vote
  pub answers_held : LeadersHoldAnswers rules ids h history end
  -- unless an event stops: a leader takes each command within the limits, its peers that lack entries are sent requests, a
  -- request is replied to, and a candidate that a quorum granted leads
  pub taken : CommandsAreTaken rules ids h history end
  pub peers_sent : PeersAreSent rules ids h history end
  pub peers_served : PeersAreServed end
  pub requests : RequestsAreReplied rules ids h history end
  pub granted : GrantedLead rules ids h history end
  pub candidates : NoneWaitsGranted end
  -- answers once: no token waits where a quorum has answered
  pub answers : NoneWaitsAnswered rules ids h history end
  pub tells : LeadersTell rules ids h history end
  pub stops : StopsStay h history

-- each history that replays keeps the headline
abbrev pub HeadlineOfHistories : Type 0
HeadlineOfHistories =
    (rules : MachineRules) (ids : List ℕ) → AreNodeIds ids → (h : ℕ) (history : List Recorded) (end : Replicas)
    → ReplaysFor rules h (new_replicas rules ids) history end → KeepsHeadline rules ids h history end
