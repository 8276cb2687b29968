use Rattle.std.proofs.Common.{◌≡◌}
use Rattle.raft_log_tools.specs.Forking.{OnlyAdds}
use Rattle.raft_log_tools.proofs.forking.make_with_parents.Given as goal

abbrev pub invariant-loop-name : goal.invariant-loop-name
invariant-loop-name g l = record {
  adds : OnlyAdds (g.F.FileSystem.disk l.initial.files) (g.F.FileSystem.disk l.files);
  names : (g.F.FileSystem.disk l.files).names ≡ (g.F.FileSystem.disk l.initial.files).names;
}
