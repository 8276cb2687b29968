use Rattle.std.proofs.Common.{◌≡◌, map, string_bytes, take}
use Rattle.raft_log_items.specs.Found.{found_of, log_files}
use Rattle.raft_log_items.proofs.found.files_named.Given as goal

abbrev pub invariant-loop-name : goal.invariant-loop-name
invariant-loop-name l = map found_of l.found.items ≡ log_files l.queue l.directory (map string_bytes (take l.name-index l.names))
