use Rattle.std.proofs.Common.{◌≡◌, map, take}
use Rattle.raft_log_contents.specs.Content.{found_of}
use Rattle.raft_log_tool.specs.Span.{size_of}
use Rattle.raft_log_contents.specs.declared.log_files.LogFile.{LogFile}
use Rattle.raft_log_tool.proofs.span.sizes_of.Given as goal

abbrev pub invariant-loop-file : goal.invariant-loop-file
invariant-loop-file g l = record {
  kept : g.F.FileSystem.disk l.files ≡ g.F.FileSystem.disk l.initial.files;
  sizes : l.sizes.items ≡ map (λ (f : LogFile). size_of (g.F.FileSystem.disk l.initial.files) (found_of f)) (take l.file-index l.found);
}
