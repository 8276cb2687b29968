-- Who is known to lead.
use Rattle.std.specs.Prelude.{Bool, if◌then◌else◌, Option, Some, None, option_and_then}
use Rattle.raft_values.specs.declared.vote.Vote.{Vote}
use Rattle.raft_membership.specs.declared.error.ForwardToLeader.{ForwardToLeader}
use Rattle.raft_quorums.specs.Nodes.{node_at}
use Rattle.raft_known_state.specs.declared.known_state.KnownState.{KnownState}

module _ {K : Type 0} where
  -- the node of a vote that a quorum has granted
  abbrev pub leader_of : Vote K → Option K
  leader_of vote = if vote.committed then Some vote.leader_id.node_id else None

module _ {K N : Type 0} where
  -- that node leads, and its address is the one in the membership in force
  abbrev pub forward_of : (K → K → Bool) → KnownState K N → ForwardToLeader K N
  forward_of eq k =
      let leader = leader_of k.state.vote.value in
      record {
        leader_id = leader;
        leader_node = option_and_then (node_at eq k.state.membership_state.effective.membership.nodes) leader;
      }
