-- The ids of nodes are counted as their nodes are.
use Rattle.std.proofs.Common.{ap, ◌∙◌, ℕ, List}
use Rattle.std.specs.Prelude.{count_by, nat_eq, not}
use Rattle.raft_quorums.specs.Nodes.{has_id}
use Rattle.raft_conditions.proofs.SizeLemmas.{count_of_ids}
use Rattle.raft_conditions.proofs.goal.Newcomers.count_new.Goals as goal

pub returns-in-Nodes : goal.returns-in-Nodes
returns-in-Nodes c =
    rw c.in-Nodes.is
    (c.count_new_nodes.ensures
    ∙ ap (λ (nodes : List (ℕ × List ℕ)). count_by (λ (x : ℕ × List ℕ). not (has_id nat_eq c.args.group.now x.0)) nodes) c.as_slice-in-Nodes.ensures.nodes
    ∙ count_of_ids c.args.group.now c.in-Nodes.nodes.now)
