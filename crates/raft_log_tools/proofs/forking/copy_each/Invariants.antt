use Rattle.std.proofs.Common.{◌≡◌, ◌++◌, map, string_bytes, take}
use Rattle.raft_log_tools.specs.Forking.{AreCopied, OnlyAdds, copy_paths}
use Rattle.raft_log_tools.proofs.forking.copy_each.Given as goal

abbrev pub invariant-loop-name : goal.invariant-loop-name
invariant-loop-name g l = record {
  adds : OnlyAdds (g.F.FileSystem.disk l.initial.files) (g.F.FileSystem.disk l.files);
  copied : AreCopied (g.F.FileSystem.disk l.initial.files) (g.F.FileSystem.disk l.files) (map string_bytes l.directories) l.queue l.target (take l.name-index l.names);
  paths : map string_bytes l.copied.items ≡ map string_bytes l.initial.copied.items ++ copy_paths l.target l.queue (take l.name-index l.names);
}
