-- The batches so far are replayed.
use Rattle.std.proofs.Common.{◌≡◌, ◌++◌, List, length, map}
use Rattle.std.specs.Vec.Iter.{into_iter_items, into_iter_len}
use Rattle.raft_log_recovery.specs.Replay.{Placed}
use Rattle.raft_log_workers.specs.Batches.{placed_of}
use Rattle.raft_log_workers.proofs.batches.ReplayedBatches.replay_into.Given as goal

abbrev pub invariant-loop-next : goal.invariant-loop-next
invariant-loop-next g l =
    (l.yielded ++ into_iter_items l.next-iterator ≡ into_iter_items l.initial.next-iterator)
    × (into_iter_len l.next-iterator ≡ length (into_iter_items l.next-iterator))
    × ((placed : List Placed) → g.M.ReplayMachine.has_replayed l.initial.machine placed → g.M.ReplayMachine.has_replayed l.machine (placed ++ map placed_of l.yielded))
