use Rattle.std.proofs.Common.{◌≡◌, ◌++◌, string_bytes, take}
use Rattle.std.specs.List.{flat_map}
use Rattle.raft_node_status.specs.Text.{peer_text}
use Rattle.raft_node_status.proofs.text.push_peers.Given as goal

abbrev pub invariant-loop-peer : goal.invariant-loop-peer
invariant-loop-peer l = string_bytes l.text ≡ string_bytes l.initial.text ++ flat_map peer_text (take l.peer-index l.peers)
