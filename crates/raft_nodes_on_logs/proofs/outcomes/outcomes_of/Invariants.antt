-- Those so far are taken.
use Rattle.std.proofs.Common.{◌≡◌, ◌++◌, map, length}
use Rattle.std.specs.Vec.Iter.{into_iter_items, into_iter_len}
use Rattle.raft_nodes_on_logs.specs.Answering.{node_outcome}
use Rattle.raft_nodes_on_logs.proofs.outcomes.outcomes_of.Given as goal

abbrev pub invariant-loop-outcome : goal.invariant-loop-outcome
invariant-loop-outcome l =
    (l.yielded ++ into_iter_items l.outcome-iterator ≡ into_iter_items l.initial.outcome-iterator)
    × (into_iter_len l.outcome-iterator ≡ length (into_iter_items l.outcome-iterator))
    × (l.taken ≡ map node_outcome l.yielded)
