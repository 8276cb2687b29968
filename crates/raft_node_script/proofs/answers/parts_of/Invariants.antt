-- Those so far are taken.
use Rattle.std.proofs.Common.{◌≡◌, ◌++◌, map, length}
use Rattle.std.specs.Vec.Iter.{into_iter_items, into_iter_len}
use Rattle.raft_node_script.specs.Answers.{without_frames}
use Rattle.raft_node_script.proofs.answers.parts_of.Given as goal

abbrev pub invariant-loop-outcome : goal.invariant-loop-outcome
invariant-loop-outcome l =
    (l.yielded ++ into_iter_items l.outcome-iterator ≡ into_iter_items l.initial.outcome-iterator)
    × (into_iter_len l.outcome-iterator ≡ length (into_iter_items l.outcome-iterator))
    × (l.parts ≡ map without_frames l.yielded)
