use Rattle.std.proofs.Common.{ℕ, List, ap, get_or, string_bytes}
use Rattle.raft_cluster_script.specs.Calls.{with_address}
use Rattle.raft_cluster_script.proofs.ScriptLemmas.{more_named}
use Rattle.raft_cluster_script.proofs.calls.named.Goals as goal

pub loop-id-preserved : goal.loop-id-preserved
loop-id-preserved c =
    let at = c.loop-id in
    let id = get_or c.args.ids.now at.id-index 0 in
    let pair : List ℕ → ℕ × List ℕ = λ t. (id, t) in
    more_named (λ x. (x.0, string_bytes x.1)) with_address at.nodes.items c.push.new.self.items (id, c.in_ok-address.address) c.args.ids.now at.id-index c.loop-id-test.true at.invariant c.in_ok-push.ensures.items (ap pair c.in_ok-address.ensures)
