use Rattle.std.proofs.Common.{◌≡◌, ◌≤◌, ◌-◌, take}
use Rattle.raft_log_tools.specs.Forking.{WritesOnly}
use Rattle.raft_log_tools.proofs.copying.copy_bytes.Given as goal

abbrev pub invariant-pieces : goal.invariant-pieces
invariant-pieces g l = record {
  within : l.at ≤ l.size;
  only : WritesOnly (g.F.FileSystem.disk l.initial.files) (g.F.FileSystem.disk l.files) l.to.0;
  bytes : ((g.F.FileSystem.disk l.files).file l.to.0).bytes ≡ take l.at ((g.F.FileSystem.disk l.initial.files).file l.from.0).bytes;
}

abbrev pub decreases-pieces : goal.decreases-pieces
decreases-pieces g l = l.size - l.at
