use Rattle.std.proofs.Common.{length, take}
use Rattle.raft_progress.specs.Counted.{IsCounted}
use Rattle.raft_progress.specs.Replay.{Replays}
use Rattle.raft_progress.proofs.replaying.replay.Given as goal

abbrev pub invariant-loop-item : goal.invariant-loop-item
invariant-loop-item g l = record {
  replayed : Replays g.ID.PartialEq.eq g.P.Ord.cmp g.V.Borrow.borrowed g.QS.QuorumSet.members l.initial.progress (take (length l.yielded) l.fn.items.items) l.progress;
  counted : IsCounted g.ID.PartialEq.eq g.P.Ord.cmp g.V.Borrow.borrowed g.QS.QuorumSet.accepts l.initial.progress → IsCounted g.ID.PartialEq.eq g.P.Ord.cmp g.V.Borrow.borrowed g.QS.QuorumSet.accepts l.progress;
}
