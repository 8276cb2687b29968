use Rattle.std.proofs.Common.{◌≡◌}
use Rattle.raft_log_disk.specs.Cause.{RefusesNoMore}
use Rattle.raft_log_recovery.proofs.stale.drop_beside.Given as goal

abbrev pub invariant-loop-directory : goal.invariant-loop-directory
invariant-loop-directory g l = record {
  kept : g.F.FileSystem.disk l.files ≡ g.F.FileSystem.disk l.initial.files;
  counted : (g.F.FileSystem.meter l.files).refusals ≡ (g.F.FileSystem.meter l.initial.files).refusals;
  later : RefusesNoMore (g.F.FileSystem.is_bounded l.initial.files) (g.F.FileSystem.is_bounded l.files) (g.F.FileSystem.meter l.initial.files) (g.F.FileSystem.meter l.files);
}
