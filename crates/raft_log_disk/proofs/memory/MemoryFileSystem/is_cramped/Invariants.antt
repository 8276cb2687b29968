use Rattle.std.proofs.Common.{◌≡◌, drop}
use Rattle.std.specs.List.{list_any}
use Rattle.raft_log_disk.proofs.RoomLemmas.{is_short}
use Rattle.raft_log_disk.proofs.memory.MemoryFileSystem.is_cramped.Given as goal

abbrev pub invariant-loop-space : goal.invariant-loop-space
invariant-loop-space l = list_any (is_short l.self.spaces.items l.self.files.items l.path l.bytes) (drop l.space-index l.space-items) ≡ list_any (is_short l.self.spaces.items l.self.files.items l.path l.bytes) l.space-items
