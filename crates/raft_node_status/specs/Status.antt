-- What a node knows of a group, at once.
use Rattle.std.specs.Prelude.{◌≡◌, ℕ, Bool, true, false, List, [], map, Option, Some, None, is_some}
use Rattle.raft_group_step.specs.StoredGroup.{last_id, membership_in_force, snapshot_last}
use Rattle.raft_group_step.specs.GroupState.{GroupState, is_leader}
use Rattle.raft_group_step.specs.Lead.{other_ids}
use Rattle.raft_group_step.specs.Frames.{committed_id}
use Rattle.raft_group_step.specs.Refusal.{is_voter_in, known_leader}
use Rattle.raft_engine.specs.ServerStates.{part_in}
use Rattle.raft_node.specs.Reading.{matched_by, outstanding_to}
use Rattle.raft_node_status.specs.declared.status.GroupStatus.{GroupStatus}
use Rattle.raft_node_status.specs.declared.status.PeerStatus.{PeerStatus}

-- what a leader knows of a peer
abbrev pub peer_status : GroupState → ℕ → PeerStatus
peer_status s peer = record { id = peer; matched = matched_by peer s.role; is_waiting = is_some (outstanding_to peer s.role) }

abbrev pub peers_if : Bool → ℕ → GroupState → List PeerStatus
peers_if true own s = map (peer_status s) (other_ids own s.stored)
peers_if false own s = []

-- what it knows of all others, and a node that doesn't lead of none
abbrev pub peers_in : ℕ → GroupState → List PeerStatus
peers_in own s = peers_if (is_leader s.role) own s

-- each part is that of the group's state; the last place that the machine has run is told beside it
pub record IsStatusOf (own : ℕ) (place : Option ℕ) (s : GroupState) (told : GroupStatus) : Type 0 where
  pub role : told.role ≡ part_in s.role (is_voter_in (membership_in_force s.stored) own)
  pub vote : told.vote ≡ s.stored.vote
  pub leader : told.leader ≡ known_leader s.stored.vote
  pub last : told.last ≡ last_id s.stored
  pub committed : told.committed ≡ committed_id s
  pub applied : told.applied ≡ place
  pub purged : told.purged ≡ s.stored.purged
  pub snapshot : told.snapshot ≡ snapshot_last s.stored
  pub peers : told.peers.items ≡ peers_in own s

-- a group that is there is told of
abbrev pub IsToldOf : ℕ → Option ℕ → GroupState → Option GroupStatus → Type 0
IsToldOf own place s None = ⊥
IsToldOf own place s (Some told) = IsStatusOf own place s told
