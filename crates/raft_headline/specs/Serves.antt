-- A leader serves its peers.
use Rattle.std.specs.Prelude.{◌≡◌, ◌⊎◌, ℕ, Bool, true, false, List, Some}
use Rattle.raft_group_step.specs.Peer.{Outstanding}
use Rattle.raft_group_step.specs.GroupState.{GroupState}
use Rattle.raft_laws.specs.declared.world_event.WorldEvent.{WorldEvent}
use Rattle.raft_laws.specs.GroupWorld.{Up}
use Rattle.raft_laws.specs.NodeEvent.{NodeEvent}
use Rattle.raft_laws.specs.GroupRun.{At, scene_of}
use Rattle.raft_step_laws.specs.Serving.{IsSent, waited_for}
use Rattle.raft_history_laws.specs.ServedPeers.{LacksEntries, ServesPeers, waited_in}
use Rattle.raft_machines.specs.Machine.{MachineRules}
use Rattle.raft_headline.specs.ClusterEvent.{ClusterOutcome, Done, Opened, Refused, Stopped, Fused, PassedOver, TurnedAway, Recorded, Said}
use Rattle.raft_headline.specs.Seen.{Own, seen_by}
use Rattle.raft_headline.specs.Machines.{Replicas}
use Rattle.raft_headline.specs.Happened.{Happened}
use Rattle.raft_headline.specs.Told.{said_in}

-- it ran to its end
abbrev pub is_ended : ClusterOutcome → Bool
is_ended (Done said) = true
is_ended (Opened parts) = true
is_ended (Refused why) = false
is_ended (Stopped unknown) = false
is_ended Fused = false
is_ended PassedOver = false
is_ended TurnedAway = false

-- a request is outstanding to the peer, which was so before, or is sent to it in the event
pub record IsServedThen (n : ℕ) (s : GroupState) (peer : ℕ) (old : Replicas) (said : Said) : Type 0 where
  pub request : Outstanding
  pub outstanding : waited_for s.role peer ≡ Some request
  pub since : (waited_in (old.world.nodes n) peer ≡ Some request) ⊎ IsSent said.sent peer request.id

-- behind an event of the group that ran to its end at a node that leads then, each other member that lacks entries is served
abbrev pub PeersAreSent : MachineRules → List ℕ → ℕ → List Recorded → Replicas → Type 0
PeersAreSent rules ids h history end =
    (r : Recorded) (old new : Replicas) → Happened rules ids h history end r old new
    → (event : WorldEvent) (n : ℕ) (e : NodeEvent) → seen_by h r ≡ Own event → scene_of old.world event ≡ At n e
    → is_ended r.outcome ≡ true
    → (s : GroupState) → new.world.nodes n ≡ Up s → (peer : ℕ) → LacksEntries n s peer
    → IsServedThen n s peer old (said_in h r.outcome)

-- at the history's end each such member of each leader has a request outstanding
abbrev pub PeersAreServed : Replicas → Type 0
PeersAreServed end =
    (n : ℕ) (s : GroupState) → end.world.nodes n ≡ Up s → ServesPeers n s
