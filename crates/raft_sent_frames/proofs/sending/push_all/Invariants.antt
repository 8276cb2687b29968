use Rattle.std.proofs.Common.{◌≡◌, ◌++◌, length}
use Rattle.std.specs.Vec.Iter.{into_iter_items, into_iter_len}
use Rattle.raft_sent_frames.specs.Frames.{numbers_from, sent_by}
use Rattle.raft_sent_frames.proofs.sending.push_all.Given as goal

abbrev pub invariant-loop-peer : goal.invariant-loop-peer
invariant-loop-peer l =
    (l.yielded ++ into_iter_items l.peer-iterator ≡ into_iter_items l.initial.peer-iterator)
    × (into_iter_len l.peer-iterator ≡ length (into_iter_items l.peer-iterator))
    × (l.list ≡ l.fn.list ++ sent_by l.sender l.yielded)
    × (l.numbers ≡ l.fn.numbers ++ numbers_from (length l.fn.list) l.yielded)
