use Rattle.std.proofs.Common.{◌≡◌, map, string_bytes, take}
use Rattle.raft_log_recovery.proofs.opening.paths_of.Given as goal

abbrev pub invariant-loop-directory : goal.invariant-loop-directory
invariant-loop-directory l = map string_bytes l.paths.items ≡ map string_bytes (take l.directory-index l.directories)
