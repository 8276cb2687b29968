use Rattle.std.proofs.Common.{◌≡◌, drop}
use Rattle.raft_log_disk.specs.Memory.{place_of_path}
use Rattle.raft_log_disk.proofs.lookup.find_path.Given as goal

abbrev pub invariant-loop-i : goal.invariant-loop-i
invariant-loop-i l = place_of_path (drop l.i l.files) l.path l.i ≡ place_of_path l.files l.path 0
