-- Those so far are lent.
use Rattle.std.proofs.Common.{◌≡◌, ℕ, List, map, take, string_bytes}
use Rattle.raft_cluster_script.proofs.calls.lent.Given as goal

abbrev pub invariant-loop-one : goal.invariant-loop-one
invariant-loop-one l = map {B = ℕ × List ℕ} (λ x. (x.0, x.1.now)) l.nodes.items ≡ map {B = ℕ × List ℕ} (λ x. (x.0, string_bytes x.1)) (take l.one-index l.named)
