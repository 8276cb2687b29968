use Rattle.std.proofs.Common.{◌≡◌, map, string_bytes, take}
use Rattle.raft_log_items.specs.Found.{log_files}
use Rattle.raft_log_contents.specs.Content.{found_of}
use Rattle.raft_log_contents.proofs.log_files.files_named.Given as goal

abbrev pub invariant-loop-name : goal.invariant-loop-name
invariant-loop-name l = map found_of l.found.items ≡ log_files l.queue l.directory (map string_bytes (take l.name-index l.names))
