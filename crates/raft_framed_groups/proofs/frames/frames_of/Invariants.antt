use Rattle.std.proofs.Common.{◌≡◌, ◌++◌, length}
use Rattle.std.specs.List.{AllZip}
use Rattle.std.specs.Vec.Iter.{into_iter_items, into_iter_len}
use Rattle.raft_framed_groups.specs.Frames.{IsFramed}
use Rattle.raft_framed_groups.proofs.frames.frames_of.Given as goal

abbrev pub invariant-loop-message : goal.invariant-loop-message
invariant-loop-message l =
    (l.yielded ++ into_iter_items l.message-iterator ≡ into_iter_items l.initial.message-iterator)
    × (into_iter_len l.message-iterator ≡ length (into_iter_items l.message-iterator))
    × AllZip (IsFramed l.group) l.yielded l.sent.items
