-- What a node's readers tell of a group.
use Rattle.std.specs.Prelude.{◌≡◌, ◌+◌, ◌^◌, ℕ, nat_lt, true, false, if◌then◌else◌, List, Option, Some, None, option_map}
use Rattle.raft_values.specs.declared.log_id.LogId.{LogId}
use Rattle.raft_group_step.specs.StoredGroup.{end_place}
use Rattle.raft_group_step.specs.GroupState.{GroupState, Role, Follower, Candidate, Leader, is_leader}
use Rattle.raft_group_step.specs.VoteRequest.{lease}
use Rattle.raft_group_step.specs.Lead.{peer_of}
use Rattle.raft_group_step.specs.Peer.{Outstanding}
use Rattle.raft_laws.specs.GroupWorld.{Up}
use Rattle.raft_framed_groups.specs.Answers.{Stands}
use Rattle.raft_node.specs.Running.{Running}
use Rattle.raft_node.specs.Standing.{NodeValue}

-- the state of the machine that runs for it
abbrev pub machine_in : Option Running → Option (List ℕ)
machine_in r = option_map (λ (x : Running). x.machine) r

-- the last place that it has run
abbrev pub place_in : Option Running → Option ℕ
place_in None = None
place_in (Some r) = option_map (λ (id : LogId ℕ). id.index) r.applied.last

-- a reader tells this of the group's state, where the node is up in it and hasn't failed; and nothing where it has failed or
-- hasn't the group
pub record TellsOf {X : Type 0} (n : NodeValue) (group : ℕ) (told : Option X) (of_state : GroupState → Option X) : Type 0 where
  pub failed : n.groups.has_failed ≡ true → told ≡ None
  pub absent : n.groups.members group ≡ None → told ≡ None
  pub up : (s : GroupState) → n.groups.has_failed ≡ false → Stands n.groups group (Up s) → told ≡ of_state s

-- the log id that a leader's next entry gets
abbrev pub next_entry_id : GroupState → Option (LogId ℕ)
next_entry_id s =
    if is_leader s.role then Some (record { leader_id = s.stored.vote.leader_id; index = end_place s.stored }) else None

-- the first moment behind the lease of a committed vote that was renewed then, if it was
abbrev pub behind_lease : Option ℕ → ℕ
behind_lease None = 0
behind_lease (Some renewed) = renewed + lease + 1

-- the first moment at which the node is under no lease
abbrev pub free_from : GroupState → ℕ
free_from s = if s.stored.vote.committed then behind_lease s.renewed else 0

-- the moment, where 64 bits have it
abbrev pub moment_of : ℕ → Option ℕ
moment_of n = if nat_lt n (2 ^ 64) then Some n else None

-- the request to the peer that a leader waits for
abbrev pub outstanding_to : ℕ → Role → Option Outstanding
outstanding_to peer Follower = None
outstanding_to peer (Candidate granters) = None
outstanding_to peer (Leader lead) = (peer_of lead peer).outstanding

-- what a leader knows the peer to have
abbrev pub matched_by : ℕ → Role → Option (LogId ℕ)
matched_by peer Follower = None
matched_by peer (Candidate granters) = None
matched_by peer (Leader lead) = (peer_of lead peer).matched
