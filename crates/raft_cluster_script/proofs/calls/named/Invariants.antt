-- Those so far are named.
use Rattle.std.proofs.Common.{◌≡◌, ℕ, List, map, take, string_bytes}
use Rattle.raft_cluster_script.specs.Calls.{with_addresses}
use Rattle.raft_cluster_script.proofs.calls.named.Given as goal

abbrev pub invariant-loop-id : goal.invariant-loop-id
invariant-loop-id l = map {B = ℕ × List ℕ} (λ x. (x.0, string_bytes x.1)) l.nodes.items ≡ with_addresses (take l.id-index l.ids)
