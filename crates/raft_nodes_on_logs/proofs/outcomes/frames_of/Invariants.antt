-- Those so far are taken.
use Rattle.std.proofs.Common.{◌≡◌, ◌++◌, map, length}
use Rattle.std.specs.Vec.Iter.{into_iter_items, into_iter_len}
use Rattle.raft_nodes_on_logs.specs.Answering.{node_frame}
use Rattle.raft_nodes_on_logs.proofs.outcomes.frames_of.Given as goal

abbrev pub invariant-loop-frame : goal.invariant-loop-frame
invariant-loop-frame l =
    (l.yielded ++ into_iter_items l.frame-iterator ≡ into_iter_items l.initial.frame-iterator)
    × (into_iter_len l.frame-iterator ≡ length (into_iter_items l.frame-iterator))
    × (l.taken ≡ map node_frame l.yielded)
