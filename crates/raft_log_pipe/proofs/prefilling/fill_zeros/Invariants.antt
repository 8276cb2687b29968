use Rattle.std.proofs.Common.{◌≡◌, ◌≤◌, ◌-◌, replicate}
use Rattle.raft_log_disk.specs.Cause.{RefusesNoMore}
use Rattle.raft_log_pipe.specs.Begun.{Changes}
use Rattle.raft_log_pipe.proofs.prefilling.fill_zeros.Given as goal

abbrev pub invariant-pieces : goal.invariant-pieces
invariant-pieces g l = record {
  within : l.at ≤ l.size;
  bytes : ((g.F.FileSystem.disk l.files).file l.handle.0).bytes ≡ replicate l.at 0;
  change : Changes (g.F.FileSystem.disk l.initial.files) (g.F.FileSystem.disk l.files) l.handle.0;
  later : RefusesNoMore (g.F.FileSystem.is_bounded l.initial.files) (g.F.FileSystem.is_bounded l.files) (g.F.FileSystem.meter l.initial.files) (g.F.FileSystem.meter l.files);
}

abbrev pub decreases-pieces : goal.decreases-pieces
decreases-pieces g l = l.size - l.at
