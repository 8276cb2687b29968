-- The text that tells a group's status.
use Rattle.std.specs.Prelude.{ℕ, Bool, true, false, List, [], ◌++◌, Option, Some, option_map, codes}
use Rattle.std.specs.List.{flat_map}
use Rattle.std.specs.Fmt.{decimal}
use Rattle.raft_values.specs.declared.log_id.LogId.{LogId}
use Rattle.raft_values.specs.declared.server_state.ServerState.{ServerState}
use Rattle.raft_values.specs.declared.server_state.ServerState.TheVariants.{Candidate, Follower, Leader, Learner, Shutdown}
use Rattle.raft_script_answers.specs.Answer.{number_or_dash}
use Rattle.raft_node_status.specs.declared.status.GroupStatus.{GroupStatus}
use Rattle.raft_node_status.specs.declared.status.PeerStatus.{PeerStatus}

abbrev pub role_name : ServerState → List ℕ
role_name Learner = codes "learner"
role_name Follower = codes "follower"
role_name Candidate = codes "candidate"
role_name Leader = codes "leader"
role_name Shutdown = codes "shutdown"

-- the place of a log id
abbrev pub place_of : Option (LogId ℕ) → Option ℕ
place_of id = option_map (λ (x : LogId ℕ). x.index) id

-- a number with its name before it
abbrev pub named_text : List ℕ → Option ℕ → List ℕ
named_text name number = codes " " ++ (name ++ (codes " " ++ number_or_dash number))

-- a request waits
abbrev pub wait_text : Bool → List ℕ
wait_text true = codes "+"
wait_text false = []

-- a peer, the last place that it is known to have, and whether a request to it waits
abbrev pub peer_text : PeerStatus → List ℕ
peer_text peer = codes " " ++ (decimal peer.id ++ (codes ":" ++ (number_or_dash (place_of peer.matched) ++ wait_text peer.is_waiting)))

-- whose vote is stored, and who leads
abbrev pub votes_text : GroupStatus → List ℕ
votes_text told =
    named_text (codes "term") (Some told.vote.leader_id.term) ++ named_text (codes "vote") (Some told.vote.leader_id.node_id)
    ++ named_text (codes "leader") told.leader

-- the places of the log, from its end to what is purged
abbrev pub places_text : GroupStatus → List ℕ
places_text told =
    named_text (codes "last") (place_of told.last) ++ named_text (codes "committed") (place_of told.committed)
    ++ named_text (codes "applied") told.applied ++ named_text (codes "snapshot") (place_of told.snapshot)
    ++ named_text (codes "purged") (place_of told.purged)

-- the part that the node plays, the votes, the places, the peers
abbrev pub status_text : GroupStatus → List ℕ
status_text told =
    codes "status " ++ role_name told.role ++ votes_text told ++ places_text told ++ flat_map peer_text told.peers.items
