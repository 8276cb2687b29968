use Rattle.std.proofs.Common.{◌≡◌, ◌+◌, ◌≤◌, length}
use Rattle.raft_log_disk.specs.Cause.{RefusesNoMore}
use Rattle.raft_log_pipe.specs.Kept.{with_reserved}
use Rattle.raft_log_pipe.specs.Pipe.{IsPipe}
use Rattle.raft_log_pipe.specs.Prepared.{IsFrontOf}
use Rattle.raft_log_pipe.specs.Unreserved.{KeepsUnreserved}
use Rattle.raft_log_pipe.proofs.pipe.SinglePipe.make_up.Given as goal

abbrev pub invariant-loop-made : goal.invariant-loop-made
invariant-loop-made g l = record {
  pipe : IsPipe l.self (g.F.FileSystem.disk l.files);
  same : l.self ≡ with_reserved l.initial.self l.self.reserved l.initial.self.capacity;
  count : length l.self.reserved.items ≡ length l.initial.self.reserved.items + l._made;
  front : IsFrontOf l.initial.self.reserved.items l.self.reserved.items;
  unreserved : KeepsUnreserved (g.F.FileSystem.disk l.initial.files) (g.F.FileSystem.disk l.files);
  next : (g.F.FileSystem.disk l.files).next ≤ (g.F.FileSystem.disk l.initial.files).next + l._made;
  later : RefusesNoMore (g.F.FileSystem.is_bounded l.initial.files) (g.F.FileSystem.is_bounded l.files) (g.F.FileSystem.meter l.initial.files) (g.F.FileSystem.meter l.files);
}
