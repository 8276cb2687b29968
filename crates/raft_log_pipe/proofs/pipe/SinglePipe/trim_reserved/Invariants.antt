use Rattle.std.proofs.Common.{◌≡◌, ◌-◌, length}
use Rattle.raft_log_disk.specs.Cause.{RefusesNoMore}
use Rattle.raft_log_pipe.specs.Kept.{with_reserved}
use Rattle.raft_log_pipe.specs.Pipe.{IsPipe}
use Rattle.raft_log_pipe.specs.Prepared.{AreTrimmed, IsFrontOf}
use Rattle.raft_log_pipe.specs.Unreserved.{KeepsUnreserved}
use Rattle.raft_log_pipe.proofs.pipe.SinglePipe.trim_reserved.Given as goal

abbrev pub invariant-loop-gone : goal.invariant-loop-gone
invariant-loop-gone g l = record {
  pipe : IsPipe l.self (g.F.FileSystem.disk l.files);
  same : l.self ≡ with_reserved l.initial.self l.self.reserved l.initial.self.capacity;
  count : length l.self.reserved.items ≡ length l.initial.self.reserved.items - l._gone;
  front : IsFrontOf l.self.reserved.items l.initial.self.reserved.items;
  gone : AreTrimmed l.initial.self l.self (g.F.FileSystem.disk l.files);
  unreserved : KeepsUnreserved (g.F.FileSystem.disk l.initial.files) (g.F.FileSystem.disk l.files);
  later : RefusesNoMore (g.F.FileSystem.is_bounded l.initial.files) (g.F.FileSystem.is_bounded l.files) (g.F.FileSystem.meter l.initial.files) (g.F.FileSystem.meter l.files);
}
